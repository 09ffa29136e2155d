use Rattle.st_sweep.proofs.Common.{◌≡◌, sym, ◌∙◌, arith}
use Rattle.st_sweep.proofs.MarkLemmas.{found-mark, passed-mark, none-left}
use Rattle.st_sweep.proofs.written.has_mark.Goals as goal

pub returns-then-is_marked : goal.returns-then-is_marked
returns-then-is_marked c = λ earlier are.
    found-mark earlier _ c.words.w c.words.left c.words-test.true are (sym c.is_marked.ensures ∙ c.if-is_marked.true)
    ∙ c.words.invariant.same earlier are

pub words-preserved : goal.words-preserved
words-preserved c = record {
  place = omega (arith, c.words.invariant.place, c.words-test.true);
  same = λ earlier are.
      passed-mark earlier _ c.words.w c.words.left c.words-test.true are (sym c.is_marked.ensures ∙ c.if-is_marked.false)
      ∙ c.words.invariant.same earlier are;
}

pub returns : goal.returns
returns c = λ earlier are.
    let none : c.words.left ≡ 0 = omega (arith, c.words-test.false) in
    none-left earlier c.words.w c.words.left none ∙ c.words.invariant.same earlier are
