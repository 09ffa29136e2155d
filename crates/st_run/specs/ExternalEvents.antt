-- External events of a machine between two steps, for any machine that has a plain state.
--
-- Proved: by their `ensures` clauses these calls do what definitions here say: `print_line`
-- (between.rt), `between` (between.rt), `end_wait` (between.rt), `read_card` (between.rt), and
-- others.
-- Read by: definitions in Standing of st_account, Rounds of st_account.
-- Laws: none names a definition of this file itself.
-- Change: no page fixes these definitions, since no contract of a program unfolds to them; they
-- change together with the clauses, definitions and laws that name them. docs/machine.md describes
-- the subject.
use Rattle.std.specs.Prelude.{ℕ, ◌≡◌, ◌≤◌, ◌||◌, Bool, false, nat_lt, nat_le, List, [], ◌∷◌, length, Option, None, Some}
use Rattle.std.specs.Option.{option_or}
use Rattle.st_card.specs.declared.control_cards.Signal.{Signal}
use Rattle.st_state.specs.Machine.{Machine}
use Rattle.st_run.specs.Run.{Scene, PlainEvent, Prints, Transition}
use Rattle.st_run.specs.declared.between.Interlude.{Interlude}

-- the signals and the reader's cards that are still to come
pub record PendingEvents : Type 0 where
  pub signals : List Signal
  pub cards : List (List ℕ)

-- the scene of a state with these external events
abbrev pub scene_at : Machine → PendingEvents → Scene
scene_at s x = record { machine = s; signals = x.signals; cards = x.cards }

-- whether the first signal is due at the given count of completed instructions
abbrev pub signal_due : ℕ → List Signal → Bool
signal_due done [] = false
signal_due done (x ∷ xs) = nat_le x.count done

-- ---- summaries of external events

-- the summary of two successive interludes
abbrev pub joined_of : Interlude → Interlude → Interlude
joined_of i j = record {
  card = i.card || j.card;
  waited = i.waited || j.waited;
  words = option_or i.words j.words;
}

-- whether an interlude ends the segment, by a card or a wait
abbrev pub ends_by : Interlude → Bool
ends_by i = i.waited || i.card

-- the events are exactly the print of these words, or none
abbrev pub ArePrinted : Option (List ℕ) → List PlainEvent → Type 0
ArePrinted None happened = happened ≡ []
ArePrinted (Some words) happened = (s : Machine) × (happened ≡ Prints s words ∷ [])

-- the effect of external events on a machine: its scene is the one of the transition; the words are
-- those that were printed, if at most one area was; whether a card came and whether the machine
-- waited; and the rest of the machine satisfies leaves
pub record HasHappened {A : Type 0} (state : A → Machine) (leaves : Bool → A → A → Type 0)
    (r : Transition) (waited : Bool) (i : Interlude)
    (old : A) (o : PendingEvents) (new : A) (n : PendingEvents) : Type 0 where
  pub scene : scene_at (state new) n ≡ r.scene
  pub told : length r.happened ≤ 1 → ArePrinted i.words r.happened
  pub card : i.card ≡ nat_lt (length n.cards) (length o.cards)
  pub fewer : length n.cards ≤ length o.cards
  pub wait : i.waited ≡ waited
  pub rest : leaves (ends_by i) old new
