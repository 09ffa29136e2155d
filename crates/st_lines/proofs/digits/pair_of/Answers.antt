use Rattle.st_lines.proofs.DigitLemmas.{pair-text}
use Rattle.st_lines.proofs.digits.pair_of.Goals as goal

pub returns : goal.returns
returns c = pair-text c.args.n
