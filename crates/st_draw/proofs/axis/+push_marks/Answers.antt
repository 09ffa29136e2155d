use Rattle.std.proofs.Common.{arith, append_assoc}
use Rattle.std.proofs.lemmas.List.{append-nil}
use Rattle.st_draw.proofs.Axes.{marks_from-none, marks_from-past, marks_from-more}
use Rattle.st_draw.proofs.axis.+push_marks.Goals.{then-fuel-eq0-via-then-fuel-eq0, then-fuel-eq0-via-else-fuel-eq0+then-from-tick}
use Rattle.st_draw.proofs.axis.+push_marks.Goals as goal

pub returns-then-fuel-eq0 : goal.returns-then-fuel-eq0
returns-then-fuel-eq0 t c = grind (arith, append-nil, marks_from-none, marks_from-past)

pub returns : goal.returns
returns t c =
    let next = marks_from-more c.args.fuel c.args.tick c.args.axis.step c.args.axis.last (omega arith) (omega arith) in
    rw next (grind (arith, append_assoc))
