-- The banks of storage: which words are in each, and until when each is busy.
--
-- Proved: by their `ensures` clauses these calls do what definitions here say: `accept` (banks.rt),
-- `accept_tick` (answers.rt), `after` (answers.rt), `answer` (answers.rt), and others.
-- Read by: definitions in BusTimes of st_rows, Notes of st_rows, Served of st_ledger, Supplies of
-- st_rows, and others.
-- Laws: ReadsKeepTheirBankBusy (specs/Laws.antt), ReadsAreAcceptedAtTheirTick (specs/Laws.antt),
-- WordsLieInBanks (specs/Laws.antt).
-- Change: the meaning is fixed by docs/timetable.md, since the contracts of `st_top::stretch` and
-- `st_account::ledger` unfold to a definition here. The form is free, with the proofs that unfold
-- it.
use Rattle.std.specs.Prelude.{ℕ, ◌+◌, ◌%◌, max, nat_lt, nat_le, if◌then◌else◌, List, replicate, slice_index, slice_set, Option, None, Some}
use Rattle.st_banks.specs.Delay.{answer_tick}
use Rattle.st_banks.specs.declared.answers.LastAnswers.{LastAnswers}
use Rattle.st_banks.specs.declared.answers.TheConstants.{BANKS, LOW_WORDS}

-- the bank of a word: the first words are interleaved over four banks, the others over two
unfoldable pub bank_of : ℕ → ℕ
bank_of w = if nat_lt w LOW_WORDS then w % 4 else 4 + w % 2

-- the last answer of the bank of word w, given those of all banks by number
abbrev pub last_of : List ℕ → ℕ → ℕ
last_of answers w = slice_index answers (bank_of w)

-- the tick at which a read of the word is accepted that is possible from the tick and wanted from
-- the want
abbrev pub accept_tick : List ℕ → ℕ → ℕ → ℕ → ℕ
accept_tick answers w tick want = max (max tick want) (last_of answers w)

-- the last answers of banks before the first read
abbrev pub idle_banks : LastAnswers
idle_banks = record { ticks = replicate BANKS 0 }

-- the last answers after a read of the word that is answered at the tick
abbrev pub answered_at : List ℕ → ℕ → ℕ → List ℕ
answered_at answers w tick = slice_set answers (bank_of w) tick

-- the state of the banks: the delay list, and the tick of the last answer of each bank, 0 before
-- its first read
pub record BankTimes : Type 0 where
  pub delays : List ℕ
  pub answers : List ℕ

-- the state of the banks before the first read
abbrev pub banks_at_start : List ℕ → BankTimes
banks_at_start list = record { delays = list; answers = replicate BANKS 0 }

-- the tick of the last answer of the bank of word w
abbrev pub last_answer : BankTimes → ℕ → ℕ
last_answer m w = last_of m.answers w

-- the tick at which a read of the word is answered if its bank accepts it at the tick, that is, if
-- the bank is no longer busy; None otherwise
abbrev pub answer_if_accepted : BankTimes → ℕ → ℕ → Option ℕ
answer_if_accepted m w tick = if nat_le (last_answer m w) tick then Some (answer_tick m.delays tick)
    else None

-- the state of the banks after an attempt to read: an answer becomes the last one of the bank;
-- without an answer nothing changes
abbrev pub after_read : BankTimes → ℕ → Option ℕ → BankTimes
after_read m w (Some answer) = record m { answers = answered_at m.answers w answer }
after_read m w None = m
