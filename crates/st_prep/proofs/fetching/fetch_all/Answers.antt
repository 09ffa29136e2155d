use Rattle.st_prep.proofs.Common.{◌+◌, [], ◌∷◌, ◌++◌, take, refl, sym, ◌∙◌, ap, arith, take-set_at, length-set, word}
use Rattle.st_prep.proofs.ReadingLemmas.{whole-left, next-left, more-left, found-left}
use Rattle.st_prep.proofs.fetching.fetch_all.Goals as goal

pub loop-word-init : goal.loop-word-init
loop-word-init c = record {
  size = refl;
  few = omega arith;
  left = whole-left c.args.x.now (word c.args.state.now 3) c.args.state.now.enabled c.args.place.now _;
}

pub bounds-contents-n : goal.bounds-contents-n
bounds-contents-n c =
    let i = c.loop-word.invariant in
    let some = (next-left _ _ _ _ _ _ (sym c.in-Next.ensures.value) i.left).0 in omega arith

pub loop-word-smaller : goal.loop-word-smaller
loop-word-smaller c =
    let i = c.loop-word.invariant in
    let some = (next-left _ _ _ _ _ _ (sym c.in-Next.ensures.value) i.left).0 in omega arith

pub loop-word-preserved : goal.loop-word-preserved
loop-word-preserved c =
    let i = c.loop-word.invariant in
    let next = next-left _ _ _ _ _ _ (sym c.in-Next.ensures.value) i.left in
    record {
      size = length-set _ _ _ ∙ i.size;
      few = omega (arith, next.0);
      left =
          more-left _ _ _ _ _ _ _ _
          (take-set_at c.loop-word.contents c.loop-word.n (c.loop-word.n + 1) c.word.result refl (omega (arith, i.size, next.0))
          ∙ ap (λ x. take c.loop-word.n c.loop-word.contents ++ x ∷ []) c.word.ensures.value)
          (omega arith) next.1;
    }

pub returns-in-Found-clause-value : goal.returns-in-Found-clause-value
returns-in-Found-clause-value c = found-left _ _ _ _ _ (sym c.in-Found.ensures.value) c.loop-word.invariant.left
