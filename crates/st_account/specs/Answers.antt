-- The output of the program for a job, and the meaning of each status.
--
-- Proved: by their `ensures` clauses these calls do what definitions here say: `run_job`
-- (program.rt), `ledger` (program.rt), `part_of_rows` (program.rt), `run_program` (program.rt), and
-- others.
-- Laws: none names a definition of this file itself.
-- Change: the meaning is fixed by docs/ledger.md, since the contract of `st_account::ledger`
-- unfolds to a definition here. The form is free, with the proofs that unfold it.
use Rattle.std.specs.Prelude.{◌≡◌, ℕ, ◌+◌, ◌-◌, ◌&&◌, Bool, nat_eq, nat_le, min, if◌then◌else◌, List, [], ◌∷◌, length, Option, None, Some, Result, Ok, Err, codes}
use Rattle.st_text.specs.Number.{number_up_to}
use Rattle.st_text.specs.Tables.{is_same}
use Rattle.st_bits.specs.declared.limits.TheConstants.{LONGEST_JOB, MOST_INSTRUCTIONS}
use Rattle.st_io.specs.Count.{HasRisen}
use Rattle.st_io.specs.Input.{InputState, CameWhole, CameWithin, CamePast}
use Rattle.st_io.specs.Output.{OutputState, Wrote}
use Rattle.st_io.specs.Lines.{text, StoppedIn}
use Rattle.st_card.specs.Cards.{cards_of}
use Rattle.st_card.specs.Faults.{name_of}
use Rattle.st_asm.specs.Pass.{Refusal}
use Rattle.st_asm.specs.Assembly.{Assembly, assembly}
use Rattle.st_state.specs.Machine.{Machine, opening_state}
use Rattle.st_lines.specs.declared.origins.Origin.{Origin}
use Rattle.st_exch.specs.Reader.{reader_cards}
use Rattle.st_run.specs.Run.{Scene}
use Rattle.st_report.specs.Line.{fault_line}
use Rattle.st_account.specs.Settling.{at_hand}
use Rattle.st_account.specs.FirstCards.{origin_of}
use Rattle.st_account.specs.LedgerRows.{ledger_rows}
use Rattle.st_account.specs.LedgerSums.{ledger_sums}
use Rattle.st_account.specs.Text.{ledger}
use Rattle.st_account.specs.declared.program.Asked.{Asked}
use Rattle.st_account.specs.declared.program.Part.{Part}
use Rattle.st_account.specs.declared.program.Part.TheVariants.{All, Sums, Rows}
use Rattle.st_account.specs.declared.status.Status.{Status}
use Rattle.st_account.specs.declared.status.Status.TheVariants.{Done, Refused, Usage, JobTooLong, ReadFault, WriteFault, NoMemory}

-- ---- words of the command line

-- the number of levels of a digit, 1 to 8
abbrev pub levels_by : ℕ → Option ℕ
levels_by c = if nat_le 49 c && nat_le c 56 then Some (c - 48) else None

-- the number of levels that a word requests
abbrev pub levels_of_word : List ℕ → Option ℕ
levels_of_word [] = None
levels_of_word (c ∷ []) = levels_by c
levels_of_word (c ∷ b ∷ bs) = None

-- whether a word is `sums`, and whether it is `rows`
abbrev pub is_sums : List ℕ → Bool
is_sums word = is_same word (codes "sums")

abbrev pub is_rows : List ℕ → Bool
is_rows word = is_same word (codes "rows")

-- the number of a row that a word spells in decimal digits, from 1 to 10,000,000; the first digit
-- is not 0
abbrev pub row_of_word : List ℕ → Option ℕ
row_of_word [] = None
row_of_word (c ∷ cs) = if nat_eq c 48 then None else number_up_to MOST_INSTRUCTIONS (c ∷ cs)

-- the part of a ledger from one row on, in a run of at most so many rows
abbrev pub rows_between : Option ℕ → Option ℕ → Option Part
rows_between None to = None
rows_between (Some from) None = None
rows_between (Some from) (Some to) = if nat_le from to then Some (Rows (from - 1) to) else None

-- a part of a ledger on a machine with so many levels
abbrev pub asked_of : Option Part → Option ℕ → Option Asked
asked_of None levels = None
asked_of (Some part) None = None
asked_of (Some part) (Some n) = Some (record { levels = n; part = part })

-- what a command line requests: four levels if no word says how many
abbrev pub asked_by : List (List ℕ) → Option Asked
asked_by [] = asked_of (Some All) (Some 4)
asked_by (word ∷ []) =
    if is_sums word then asked_of (Some Sums) (Some 4)
    else asked_of (Some All) (levels_of_word word)
asked_by (first ∷ second ∷ []) =
    if is_sums second then asked_of (Some Sums) (levels_of_word first) else None
asked_by (first ∷ second ∷ third ∷ []) =
    if is_rows first
    then asked_of (rows_between (row_of_word second) (row_of_word third)) (Some 4) else None
asked_by (first ∷ second ∷ third ∷ fourth ∷ []) =
    if is_rows second
    then asked_of (rows_between (row_of_word third) (row_of_word fourth)) (levels_of_word first)
    else None
asked_by (first ∷ second ∷ third ∷ fourth ∷ fifth ∷ words) = None

-- ---- jobs

-- the start of the run of an assembled job: the machine, the requested signals, and the cards of
-- the job's reader
abbrev pub start_of : List ℕ → Assembly → Scene
start_of job a = at_hand (opening_state a.image a.start) a.asked.signals (reader_cards job)

-- the lines of a part of a ledger: all of them, or the totals with tables for so many cards, or
-- those from one row on in a run of at most `most` rows; `left` is the budget
abbrev pub lines_of_part : Part → (Machine → ℕ → Option Origin) → List ℕ → ℕ → ℕ → ℕ → Scene →
    List (List ℕ)
lines_of_part All o ds n left cards c = ledger o ds n left c
lines_of_part Sums o ds n left cards c = ledger_sums o ds n left (cards + 1) c
lines_of_part (Rows skipped most) o ds n left cards c = ledger_rows o ds n (min most left) skipped c

-- the lines that are requested of an assembled job
abbrev pub run_lines : Asked → List ℕ → Assembly → List (List ℕ)
run_lines asked job a = lines_of_part asked.part (origin_of a) a.asked.delays asked.levels
    a.asked.budget (length (cards_of job)) (start_of job a)

-- the lines of a job: those of its run, or the line of the first refused card
abbrev pub lines_by : Asked → List ℕ → Result Assembly Refusal → List (List ℕ)
lines_by asked job (Ok a) = run_lines asked job a
lines_by asked job (Err r) = fault_line r.card (name_of r.fault) ∷ []

unfoldable pub ledger_lines_of : Asked → List ℕ → List (List ℕ)
ledger_lines_of asked job = lines_by asked job (assembly job)

-- the status after all lines of a job are written
abbrev pub status_by : Result Assembly Refusal → Status
status_by (Ok a) = Done
status_by (Err r) = Refused

unfoldable pub status_of : List ℕ → Status
status_of job = status_by (assembly job)

-- ---- statuses

-- how lines were written, by the status: all of them; or up to a write that failed; or none,
-- because memory ran out
abbrev pub Writes : Status → OutputState → OutputState → List (List ℕ) → Status → Type 0
Writes Done before after lines status = Wrote before after (text lines) × (status ≡ Done)
Writes Refused before after lines status = Wrote before after (text lines) × (status ≡ Refused)
Writes WriteFault before after lines status = StoppedIn before after lines
Writes NoMemory before after lines status = after ≡ before
Writes Usage before after lines status = ⊥
Writes JobTooLong before after lines status = ⊥
Writes ReadFault before after lines status = ⊥

-- a job was read completely, and its lines were written
pub record WroteLines (asked : Asked) (status : Status) (input input' : InputState)
    (before after : OutputState) : Type 0 where
  pub job : List ℕ
  pub read : CameWhole input input' LONGEST_JOB job
  pub written : Writes status before after (ledger_lines_of asked job) (status_of job)

-- the effect of a call on its source and its sink given what is requested, by the status
abbrev pub Did : Asked → Status → InputState → InputState → OutputState → OutputState → Type 0
Did asked Done input input' before after = WroteLines asked Done input input' before after
Did asked Refused input input' before after = WroteLines asked Refused input input' before after
Did asked WriteFault input input' before after = WroteLines asked WriteFault input input' before after
Did asked JobTooLong input input' before after =
    CamePast input input' LONGEST_JOB × (input'.faults ≡ input.faults) × (after ≡ before)
Did asked ReadFault input input' before after =
    CameWithin input input' LONGEST_JOB × HasRisen input.faults input'.faults × (after ≡ before)
Did asked NoMemory input input' before after =
    CameWithin input input' LONGEST_JOB × (input'.faults ≡ input.faults) × (after ≡ before)
Did asked Usage input input' before after = ⊥

-- the effect of a call, given the meaning of its words: invalid words touch neither source nor sink
abbrev pub IsAnswer : Option Asked → Status → InputState → InputState → OutputState → OutputState →
    Type 0
IsAnswer None status input input' before after = (status ≡ Usage) × (input' ≡ input)
    × (after ≡ before)
IsAnswer (Some asked) status input input' before after = Did asked status input input' before after
