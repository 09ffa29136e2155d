use Rattle.st_report.proofs.Common.{arith, drop_all}
use Rattle.st_report.proofs.from_end.LineFromEnd.clear.Goals as goal

pub returns : goal.returns
returns c = drop_all 192 c.self.inside.bytes (omega (arith, c.self.told))
