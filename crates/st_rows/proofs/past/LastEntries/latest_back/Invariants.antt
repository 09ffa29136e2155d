use Rattle.st_rows.proofs.Common.{window, entries_in}
use Rattle.st_rows.proofs.Writers.{IsLeft}
use Rattle.st_rows.proofs.past.LastEntries.latest_back.Given as goal

-- no entry whose bit was cleared writes the word
abbrev pub invariant-writers : goal.invariant-writers
invariant-writers l = IsLeft (window l.self-inside.head 8 (entries_in l.self-inside.done)) l.w l.left

abbrev pub decreases-writers : goal.decreases-writers
decreases-writers l = l.left
