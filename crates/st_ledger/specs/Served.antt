-- Reads with their ticks, as the bus serves them and as the words of entries list them.
--
-- Proved: no `ensures` clause names a definition of this file.
-- Laws: ReadsToldAreThoseOfTheBus (specs/WaitLaws.antt), BanksAreHeldByTheReadBefore
-- (specs/WaitLaws.antt), ForwardedWordsAreWritten (specs/WaitLaws.antt), HeldWordsAreBrought
-- (specs/WaitLaws.antt), and others.
-- Change: no page fixes these definitions, since no contract of a program unfolds to them; they
-- change together with the clauses, definitions and laws that name them. docs/ledger.md describes
-- the subject.
use Rattle.std.specs.Prelude.{ℕ, ◌-◌, get_or, Some, ◌≡◌, ◌≤◌, Bool, true, false, ◌&&◌, nat_eq, if◌then◌else◌, List, [], ◌∷◌, ◌++◌}
use Rattle.std.specs.List.{list_any}
use Rattle.st_banks.specs.Bank.{bank_of, last_of}
use Rattle.st_banks.specs.declared.answers.LastAnswers.{LastAnswers}
use Rattle.st_rows.specs.BusTimes.{Read, after_one}
use Rattle.st_rows.specs.Entries.{is_among, no_runs}
use Rattle.st_rows.specs.Rows.{done_before}
use Rattle.st_rows.specs.declared.bus.Bus.{Bus}
use Rattle.st_rows.specs.declared.past.Past.{Past}
use Rattle.st_rows.specs.Supplies.{read_ticks}
use Rattle.st_rows.specs.declared.uses.ReadTicks.{ReadTicks}
use Rattle.st_rows.specs.declared.uses.Supply.{Supply}
use Rattle.st_rows.specs.declared.uses.Supply.TheVariants.{Read as ByRead, Held, Forwarded, Register}
use Rattle.st_rows.specs.declared.uses.Use.{Use}
use Rattle.st_rows.specs.declared.uses.Writer.{Writer}
use Rattle.st_ledger.specs.Reasons.{writer_of_supply}
use Rattle.st_ledger.specs.Words.{is_read, read_of}

-- a read: the address of its word, and its ticks
pub record Served : Type 0 where
  pub w : ℕ
  pub ticks : ReadTicks

-- the reads of a list with their ticks, made in order from the state b of the bus on
unfoldable pub served : List ℕ → List Read → Bus → List Served
served ds [] b = []
served ds (r ∷ reads) b =
    record { w = r.w; ticks = read_ticks ds b r.w r.want } ∷ served ds reads (after_one ds b r)

-- the reads among the words that an entry uses
unfoldable pub reads_told : List Use → List Served
reads_told [] = []
reads_told (u ∷ us) =
    (if is_read u.supply then record { w = u.word; ticks = read_of u.supply } ∷ [] else [])
    ++ reads_told us

-- the tick until which the bank of the word w is busy after the uses in a list, youngest first: up
-- to the answer of the last read in that bank, or as long as it was before all of them
unfoldable pub busy_until : LastAnswers → List Use → ℕ → ℕ
busy_until banks [] w = last_of banks.ticks w
busy_until banks (u ∷ older) w =
    if is_read u.supply
    then if nat_eq (bank_of u.word) (bank_of w) then (read_of u.supply).answer
    else busy_until banks older w
    else busy_until banks older w

-- each read finds its bank busy until the tick that the uses before it determine
unfoldable pub AreBankedBehind : LastAnswers → List Use → Type 0
AreBankedBehind banks [] = Unit {0}
AreBankedBehind banks (u ∷ older) =
    (is_read u.supply ≡ true → (read_of u.supply).free ≡ busy_until banks older u.word)
    × AreBankedBehind banks older

-- a word that is forwarded comes from the row at the listed distance, which writes the word and
-- completes at the listed tick
abbrev pub IsWrittenBy : List Past → Use → Type 0
IsWrittenBy past u = (w : Writer) → writer_of_supply u.supply ≡ Some w →
    (done_before w.back past ≡ w.done)
    × (is_among u.word (get_or past (w.back - 1) (record { c = 0; writes = no_runs })).writes ≡ true)

-- whether a use is a read of the word w that is answered at tick t
abbrev pub brings : ℕ → ℕ → Use → Bool
brings w t u = is_read u.supply && (nat_eq u.word w && nat_eq (read_of u.supply).answer t)

-- whether a word is held and answered at tick t
unfoldable pub is_held_until : ℕ → Supply → Bool
is_held_until t (ByRead r) = false
is_held_until t (Held answer) = nat_eq answer t
is_held_until t (Forwarded writer) = false
is_held_until t Register = false

-- each word of storage that is held was brought by a read before it; uses are listed youngest first
unfoldable pub AreBrought : List Use → Type 0
AreBrought [] = Unit {0}
AreBrought (u ∷ older) =
    ((t : ℕ) → 32 ≤ u.word → is_held_until t u.supply ≡ true → list_any (brings u.word t) older
    ≡ true)
    × AreBrought older
