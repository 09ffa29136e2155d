use Rattle.st_dis.proofs.Common.{arith, few-asked}
use Rattle.st_dis.proofs.counting.count_asked.Goals as goal

pub returns-clause-few : goal.returns-clause-few
returns-clause-few c = omega (arith, few-asked c.args.controls.now c.requires c.args.keyword, c.count.ensures)

pub returns-clause-count : goal.returns-clause-count
returns-clause-count c = omega (arith, few-asked c.args.controls.now c.requires c.args.keyword, c.count.ensures)
