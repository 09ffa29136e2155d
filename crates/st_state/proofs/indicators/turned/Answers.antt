use Rattle.st_state.proofs.TurnedLemmas.{turned-masks}
use Rattle.st_state.proofs.indicators.turned.Goals as goal

pub returns : goal.returns
returns c = turned-masks c.args.on c.args.off c.args.indicators c.ranges.on.fits c.ranges.off.fits c.ranges.indicators.fits
