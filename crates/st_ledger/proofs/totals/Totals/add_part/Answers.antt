use Rattle.st_ledger.proofs.Common.{arith}
use Rattle.st_ledger.proofs.Added.{part-none}
use Rattle.st_ledger.proofs.totals.Totals.add_part.Goals as goal

pub returns-then-part-from-clause-sums : goal.returns-then-part-from-clause-sums
returns-then-part-from-clause-sums c s = part-none s c.args.from c.args.part _ (omega (arith, c.if-part-from.true))
