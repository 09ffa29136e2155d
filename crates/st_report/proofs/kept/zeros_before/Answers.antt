use Rattle.st_report.proofs.KeptLemmas.{one-digit, two-digit}
use Rattle.st_report.proofs.kept.zeros_before.Goals as goal

pub returns-then-n-lt10-clause-rest : goal.returns-then-n-lt10-clause-rest
returns-then-n-lt10-clause-rest c = one-digit c.args.n c.if-n-lt10.true

pub returns-else-n-lt10-clause-rest : goal.returns-else-n-lt10-clause-rest
returns-else-n-lt10-clause-rest c = two-digit c.args.n c.if-n-lt10.false c.requires
