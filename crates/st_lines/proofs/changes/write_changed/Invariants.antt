use Rattle.st_lines.proofs.Common.{◌-◌, WORDS}
use Rattle.st_lines.proofs.ChangeLemmas.{IsChanging}
use Rattle.st_lines.proofs.changes.write_changed.Given as goal

abbrev pub invariant-words : goal.invariant-words
invariant-words g l =
    IsChanging (g.K.Sink.output l.fn.out) (g.K.Sink.output l.out) l.fn.old.items l.old.items l.state l.w

abbrev pub decreases-words : goal.decreases-words
decreases-words g l = WORDS - l.w
