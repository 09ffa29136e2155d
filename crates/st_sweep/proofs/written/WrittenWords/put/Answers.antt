use Rattle.st_sweep.proofs.Common.{◌≡◌, sym, ◌∙◌, ap, subst, arith, AreMarks, marks_with}
use Rattle.st_sweep.proofs.MarkLemmas.{marks-put}
use Rattle.st_sweep.proofs.written.WrittenWords.put.Goals as goal

pub returns : goal.returns
returns c = λ earlier are.
    let words = c.args.words in
    let marks = c.self.inside.marks.items in
    let twice : marks_with (marks_with marks words.first words.len) words.first2 words.len2 ≡ c.mark-2.new.marks.items =
    sym (c.mark-2.ensures.marked ∙ ap (λ xs. marks_with xs words.first2 words.len2) c.mark.ensures.marked) in
    subst (AreMarks _) twice
    (marks-put earlier marks words (subst (AreMarks earlier) (sym c.self.view_is) are)
    (λ some. omega (arith, c.requires.inside.inside some, c.self.invariant))
    (λ some. omega (arith, c.requires.inside.inside2 some, c.self.invariant)))
