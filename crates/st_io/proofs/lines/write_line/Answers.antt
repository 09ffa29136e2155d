use Rattle.st_io.proofs.Writing.{writes_line}
use Rattle.st_io.proofs.lines.write_line.Goals as goal

pub returns : goal.returns
returns g c = writes_line _ _ c.args.line.now c.write_all.result c.write_all.ensures.outcome
