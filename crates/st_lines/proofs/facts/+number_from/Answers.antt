use Rattle.st_lines.proofs.FactLemmas.{number-none, number-here, number-later}
use Rattle.st_lines.proofs.facts.+number_from.Goals as goal

pub returns-then-i-eq64 : goal.returns-then-i-eq64
returns-then-i-eq64 t c = number-none c.args.on c.args.i c.if-i-eq64.true

pub returns-then-indicator-on : goal.returns-then-indicator-on
returns-then-indicator-on t c =
    number-here c.args.on c.args.i c.requires c.if-i-eq64.false _ c.indicator.ensures c.if-indicator-on.true

pub returns : goal.returns
returns t c =
    number-later c.args.on c.args.i c.requires c.if-i-eq64.false _ _ c.indicator.ensures c.if-indicator-on.false c.number_from.ensures
