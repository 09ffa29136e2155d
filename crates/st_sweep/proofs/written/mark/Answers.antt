use Rattle.st_sweep.proofs.Common.{◌≡◌, ◌+◌, ◌≤◌, true, length, sym, ◌∙◌, arith, length-set}
use Rattle.st_sweep.proofs.MarkLemmas.{marked-next, none-marked-left}
use Rattle.st_sweep.proofs.written.mark.Goals as goal

pub index_mut-requires : goal.index_mut-requires
index_mut-requires c =
    let all : c.args.first + c.args.len ≤ length c.args.marks.now.items =
    c.requires (omega (arith, c.words.invariant.few, c.words-test.true)) in
    omega (arith, all, c.words.invariant.place, c.words.invariant.long, c.words-test.true)

pub words-preserved : goal.words-preserved
words-preserved c = record {
  place = omega (arith, c.words.invariant.place, c.words-test.true);
  few = omega (arith, c.words.invariant.few);
  long = length-set c.words.marks.items c.words.w true ∙ c.words.invariant.long;
  same = sym (marked-next c.words.marks.items c.words.w c.words.left c.words-test.true) ∙ c.words.invariant.same;
}

pub returns-clause-marked : goal.returns-clause-marked
returns-clause-marked c =
    let none : c.words.left ≡ 0 = omega (arith, c.words-test.false) in
    none-marked-left c.words.marks.items c.words.w c.words.left none ∙ c.words.invariant.same
