-- Laws of the waits in the ledger, for each segment on each machine. The machine has the delays ds
-- and n levels, and the segment starts at a tick with these banks; the entry x comes after the
-- others, which are listed youngest first, and the run's last entry completed at tick t.
--
-- Proved: each law has its lemma in proofs/WaitLaws.antt, with its name in small letters.
-- Claimed: docs/CLAIMS.md names BanksAreHeldByTheReadBefore, ForwardedWordsAreWritten,
-- HeldWordsAreBrought, IndexWordsWaitForNoTurn, and others.
-- Change: docs/promises.txt lists each law, and the gate compares the list with the laws.
use Rattle.std.specs.Prelude.{ℕ, ◌≡◌, ◌+◌, ◌<◌, true, false, List, ◌∷◌, All, drop, length, Option}
use Rattle.st_banks.specs.declared.answers.LastAnswers.{LastAnswers}
use Rattle.st_banks.specs.declared.answers.TheConstants.{BANKS}
use Rattle.st_prep.specs.declared.entries.Words.{Words}
use Rattle.st_rows.specs.Ranges.{AreDelaysUpTo, IsTight, IsEntryInTime}
use Rattle.st_rows.specs.Rows.{opening_issue, row_of_entry, reads_of_entry}
use Rattle.st_rows.specs.declared.entry.Entry.{Entry}
use Rattle.st_rows.specs.declared.issue.IssueState.{IssueState}
use Rattle.st_segment.specs.Entries.{side_to_read}
use Rattle.st_ledger.specs.Charges.{ticks_for}
use Rattle.st_ledger.specs.declared.charges.Charge.{Charge}
use Rattle.st_ledger.specs.declared.charges.Stage.{Stage}
use Rattle.st_ledger.specs.declared.charges.Stage.TheVariants.{Index}
use Rattle.st_plain.specs.Uses.{uses_of_entry}
use Rattle.st_rows.specs.declared.uses.Use.{Use}
use Rattle.st_ledger.specs.Causes.{IsTrueOf, FallTo}
use Rattle.st_ledger.specs.Segments.{Told, IsTold, issue_of, uses_behind, last_uses, all_uses, charges_behind_all, waits_behind}
use Rattle.st_ledger.specs.Served.{served, reads_told, AreBankedBehind, AreBrought, IsWrittenBy}
use Rattle.st_ledger.specs.Sums.{is_parted, stalled_for, row_stalled}
use Rattle.st_ledger.specs.Words.{is_instruction}
use Rattle.st_ledger.specs.declared.waits.Stall.{Stall}
use Rattle.st_ledger.specs.declared.waits.Stall.TheVariants.{Turn, Bank, Storage}
use Rattle.st_ledger.specs.declared.waits.Wait.{Wait}

-- ---- the words from which waits are found

-- The reads among the words of an entry are its reads in the timetable, in their order, each with
-- the ticks at which the bus and its bank become free.
abbrev pub ReadsToldAreThoseOfTheBus : Type 0
ReadsToldAreThoseOfTheBus = (ds : List ℕ) (n : ℕ) (f : IssueState) (e : Entry) (side : Option ℕ)
    (reads : Words) → e.side ≡ side_to_read side →
    reads_told (uses_of_entry ds n f e side reads) ≡ served ds (reads_of_entry ds n f e) f.bus

-- Each read of a segment finds its bank busy up to the answer of the previous read in it, in the
-- order of the timetable; if there is none, as long as it was busy at the start of the segment.
abbrev pub BanksAreHeldByTheReadBefore : Type 0
BanksAreHeldByTheReadBefore = (ds : List ℕ) (n : ℕ) (banks : LastAnswers) (start : ℕ)
    (rows : List Told) → length banks.ticks ≡ BANKS → All IsTold rows →
    AreBankedBehind banks (all_uses ds n banks start rows)

-- For each word that is held, a read of that word precedes it in its segment, and the word has the
-- answer of that read.
abbrev pub HeldWordsAreBrought : Type 0
HeldWordsAreBrought = (ds : List ℕ) (n : ℕ) (banks : LastAnswers) (start : ℕ) (rows : List Told) →
    All IsTold rows → AreBrought (all_uses ds n banks start rows)

-- Each word that is forwarded comes from the row that the ledger names, which writes the word and
-- completes at that tick.
abbrev pub ForwardedWordsAreWritten : Type 0
ForwardedWordsAreWritten = (ds : List ℕ) (n : ℕ) (f : IssueState) (e : Entry) (side : Option ℕ)
    (reads : Words) → All (IsWrittenBy f.past) (uses_of_entry ds n f e side reads)

-- The first four words that an entry uses include all its instruction words.
abbrev pub InstructionWordsAreFirst : Type 0
InstructionWordsAreFirst = (ds : List ℕ) (n : ℕ) (f : IssueState) (e : Entry) (side : Option ℕ)
    (reads : Words) → IsEntryInTime e →
    All (λ (u : Use). is_instruction u.role ≡ false)
    (drop 4 (uses_of_entry ds n f e side reads))

-- ---- the waits of a row

-- Each wait is true at each of its ticks. In a TURN the named read is accepted; in a BANK that read
-- is wanted and first in turn, its bank is busy, and it is accepted at the end; in a STORAGE the
-- read is in progress. The reads are among those of the segment.
abbrev pub WaitsAreTrue : Type 0
WaitsAreTrue = (ds : List ℕ) (n t : ℕ) (banks : LastAnswers) (start : ℕ) (older : List Told)
    (x : Told) → All IsTold (x ∷ older) →
    All (λ (c : Charge). All (IsTrueOf (all_uses ds n banks start (x ∷ older)))
    (waits_behind ds n banks start older x c)) (charges_behind_all ds n banks start t older x)

-- The waits of a charge cover its ticks without a gap and without an overlap.
abbrev pub WaitsCoverTheirCharge : Type 0
WaitsCoverTheirCharge = (ds : List ℕ) (n t : ℕ) (banks : LastAnswers) (start : ℕ)
    (older : List Told) (x : Told) → All IsTold (x ∷ older) →
    All (λ (c : Charge). is_parted c.stage ≡ true →
    FallTo c.from c.to (waits_behind ds n banks start older x c))
    (charges_behind_all ds n banks start t older x)

-- The waits of a row end before the row completes, so each read that they name was accepted before
-- the segment ends.
abbrev pub WaitsEndBeforeTheirRow : Type 0
WaitsEndBeforeTheirRow = (ds : List ℕ) (n t : ℕ) (banks : LastAnswers) (start : ℕ)
    (older : List Told) (x : Told) → All IsTold (x ∷ older) →
    All (λ (c : Charge). All (λ (w : Wait).
    w.to < (row_of_entry ds n (issue_of ds n banks start older) x.entry).c)
    (waits_behind ds n banks start older x c)) (charges_behind_all ds n banks start t older x)

-- For each stage with waits, its turns, banks and storage waits add up to its ticks.
abbrev pub WaitsAddUpToTheirStage : Type 0
WaitsAddUpToTheirStage = (ds : List ℕ) (n t : ℕ) (banks : LastAnswers) (start : ℕ)
    (older : List Told) (x : Told) (s : Stage) → All IsTold (x ∷ older) → is_parted s ≡ true →
    let row = charges_behind_all ds n banks start t older x in
    let stalled = λ (r : Stall). row_stalled s r (uses_behind ds n banks start older x)
    (last_uses ds n banks start older) row in
    stalled Turn + stalled Bank + stalled Storage ≡ ticks_for s row

-- An index-side word never waits for a turn.
abbrev pub IndexWordsWaitForNoTurn : Type 0
IndexWordsWaitForNoTurn = (most : ℕ) (ds : List ℕ) (n t : ℕ) (banks : LastAnswers) (start : ℕ)
    (older : List Told) (x : Told) → AreDelaysUpTo most ds → IsTight most (opening_issue banks start)
    → All IsTold (x ∷ older) →
    All (λ (c : Charge). c.stage ≡ Index →
    stalled_for Turn (waits_behind ds n banks start older x c) ≡ 0)
    (charges_behind_all ds n banks start t older x)
