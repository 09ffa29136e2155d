use Rattle.st_text.proofs.Common.{ℕ, List, ◌∷◌, length, drop, refl, sym, ap, subst, ◌∙◌, IsTrue, arith, pieces_of, lacks}
use Rattle.st_text.proofs.PieceLemmas.{parted_at, parted_nowhere, lacks_before, lacks_all}
use Rattle.st_text.proofs.pieces.cut.Goals as goal

pub returns-in_default-clause-pieces : goal.returns-in_default-clause-pieces
returns-in_default-clause-pieces c = parted_nowhere c.args.at c.args.text.now c.in_default.ensures

pub returns-in_default-clause-first : goal.returns-in_default-clause-first
returns-in_default-clause-first c =
    let text = c.args.text.now in
    lacks_all c.args.at (length text) text refl (lacks_before c.args.at (length text) text (omega arith) c.in_default.ensures)

pub returns-clause-pieces : goal.returns-clause-pieces
returns-clause-pieces c =
    let found = c.in-Some.ensures in
    parted_at c.args.at c.in-Some.place c.args.text.now found.0.high found.1 found.0.before
    ∙ (ap (λ (front : List ℕ). front ∷ pieces_of c.args.at (drop 1 (drop c.in-Some.place c.args.text.now))) (sym c.split_at.ensures.front)
    ∙ ap (λ (behind : List ℕ). c.split_at.result.0.now ∷ pieces_of c.args.at behind)
    (ap (λ (rest : List ℕ). drop 1 rest) (sym c.split_at.ensures.back) ∙ sym c.split_at-2.ensures.back))

pub returns-clause-first : goal.returns-clause-first
returns-clause-first c =
    let found = c.in-Some.ensures in
    subst (λ (front : List ℕ). IsTrue (lacks c.args.at front)) (sym c.split_at.ensures.front)
    (lacks_before c.args.at c.in-Some.place c.args.text.now (omega (arith, found.0.high)) found.0.before)
