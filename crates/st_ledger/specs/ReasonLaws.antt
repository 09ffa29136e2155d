-- Laws of the causes in the ledger, for each segment on each machine. The machine has the delays ds
-- and n levels, and the segment starts at a tick with these banks; the entry x comes after the
-- others, which are listed youngest first.
--
-- Proved: each law has its lemma in proofs/ReasonLaws.antt, with its name in small letters.
-- Claimed: docs/CLAIMS.md names NoTwoRowsAreDoneAtOnce, ReasonsAreTrue.
-- Change: docs/promises.txt lists each law, and the gate compares the list with the laws.
use Rattle.std.specs.Prelude.{ℕ, ◌≤◌, ◌<◌, List, ◌∷◌, All}
use Rattle.st_banks.specs.declared.answers.LastAnswers.{LastAnswers}
use Rattle.st_rows.specs.Rows.{tick_a, tick_p, completion_of}
use Rattle.st_plain.specs.Looking.{level_wait}
use Rattle.st_plain.specs.Uses.{formed_uses}
use Rattle.st_ledger.specs.Paths.{IsReason}
use Rattle.st_ledger.specs.Reasons.{because}
use Rattle.st_ledger.specs.Segments.{Told, IsTold, issue_of, last_uses}

-- No two rows of a segment complete at the same tick, so a distance in rows identifies the row that
-- completed at a tick.
abbrev pub NoTwoRowsAreDoneAtOnce : Type 0
NoTwoRowsAreDoneAtOnce = (ds : List ℕ) (n : ℕ) (banks : LastAnswers) (start : ℕ)
    (rows : List Told) (i j : ℕ) → All IsTold rows → i < j →
    let past = (issue_of ds n banks start rows).past in
    1 ≤ completion_of past j → completion_of past j < completion_of past i

-- The cause that the ledger names did delay the row: a level, a row that wrote its index-side word,
-- or the end of the path that leads back from its address, with its row, its tick, and the number
-- of ticks that the row was later for it. If several causes came at that tick, it is the first in
-- the order of the page.
abbrev pub ReasonsAreTrue : Type 0
ReasonsAreTrue = (ds : List ℕ) (n : ℕ) (banks : LastAnswers) (start : ℕ) (older : List Told)
    (x : Told) → 1 ≤ n → n ≤ 8 → All IsTold (x ∷ older) →
    let f = issue_of ds n banks start older in
    let words = formed_uses ds f x.entry x.side in
    let before = last_uses ds n banks start older in
    IsReason ds n f x.entry words before (because f x.entry (tick_a ds f x.entry)
    (tick_p ds n f x.entry) (level_wait ds n f x.entry) words before)
