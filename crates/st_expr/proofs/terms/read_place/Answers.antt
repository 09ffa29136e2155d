use Rattle.st_expr.proofs.TermLemmas.{three_parts}
use Rattle.st_expr.proofs.terms.read_place.Goals as goal

pub returns-in-Some-cut : goal.returns-in-Some-cut
returns-in-Some-cut c =
    three_parts c.args.word.now _ c.in-Some.b.now _ c.in-Some-cut.field-0.1.now c.in-Some.ensures.pieces
    c.in-Some-cut.ensures.pieces
