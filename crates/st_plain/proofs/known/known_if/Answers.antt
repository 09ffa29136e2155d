use Rattle.st_plain.proofs.Common.{ap, Needs, side_at, Known}
use Rattle.st_plain.proofs.known.known_if.Goals as goal

pub returns-then-wanted-clause-side : goal.returns-then-wanted-clause-side
returns-then-wanted-clause-side c = ap (λ (k : Known). k.side) c.known_of.ensures

pub returns-clause-side : goal.returns-clause-side
unfolding side_at
returns-clause-side c = ap (λ (n : Needs). n.index_read) c.requires.needs
