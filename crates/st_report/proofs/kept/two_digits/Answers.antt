use Rattle.st_report.proofs.KeptLemmas.{pair-text}
use Rattle.st_report.proofs.kept.two_digits.Goals as goal

pub returns : goal.returns
returns c = pair-text c.args.n c.requires
