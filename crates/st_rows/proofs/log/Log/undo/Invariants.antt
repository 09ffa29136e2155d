use Rattle.st_rows.proofs.Common.{◌≡◌, length, answers_left}
use Rattle.st_rows.proofs.log.Log.undo.Given as goal

-- undoing the remaining reads gives the effect of undoing all
abbrev pub invariant-reads : goal.invariant-reads
invariant-reads l = answers_left l.now l.self l.banks.ticks ≡ answers_left l.now l.initial.self l.initial.banks.ticks

abbrev pub decreases-reads : goal.decreases-reads
decreases-reads l = length l.self
