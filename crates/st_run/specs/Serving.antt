-- The effect of serving a device on an overlapped machine and on the reader's cards.
--
-- Proved: by their `ensures` clauses these calls do what definitions here say: `serve`
-- (serving.rt).
-- Laws: none names a definition of this file itself.
-- Change: no page fixes these definitions, since no contract of a program unfolds to them; they
-- change together with the clauses, definitions and laws that name them. docs/machine.md describes
-- the subject.
use Rattle.std.specs.Prelude.{ℕ, ◌≡◌, List, [], ◌∷◌, Some, None, IfSome}
use Rattle.st_state.specs.declared.devices.Device.{Device}
use Rattle.st_state.specs.declared.devices.Device.TheVariants as devices
use Rattle.st_exec.specs.Transfer.{words_from}
use Rattle.st_exch.specs.Printer.{line_of_words}
use Rattle.st_ahead.specs.Overlap.{Overlap}
use Rattle.st_ahead.specs.Calls.{drop_count, read_in_by, printed_by}
use Rattle.st_run.specs.declared.serving.Served.{Served}
use Rattle.st_run.specs.declared.serving.Served.TheVariants.{Card, NoCard, Printed}

-- the next card is read into storage, and this number of levels is flushed
pub record HasCome (dropped : ℕ) (m : Overlap) (cards : List (List ℕ)) (n : Overlap)
    (left : List (List ℕ)) : Type 0 where
  pub card : List ℕ
  pub next : cards ≡ card ∷ left
  pub dropped_is : dropped ≡ drop_count m
  pub machine : IfSome m.state.reader (λ order. n ≡ read_in_by order.word (Some card) m)

-- the effect of serving a device, by its result
abbrev pub IsServed : Device → Served → Overlap → List (List ℕ) → Overlap → List (List ℕ) → Type 0
IsServed devices.Reader (Card dropped) m cards n left = HasCome dropped m cards n left
IsServed devices.Reader NoCard m cards n left =
    (cards ≡ []) × (left ≡ []) × IfSome m.state.reader (λ order. n ≡ read_in_by order.word None m)
IsServed devices.Printer (Printed text) m cards n left =
    (left ≡ cards) × (n ≡ printed_by m)
    × IfSome m.state.printer (λ order. text.bytes ≡ line_of_words (words_from m.state order.word 8))
IsServed _ _ m cards n left = ⊥
