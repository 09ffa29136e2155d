use Rattle.st_prep.proofs.Common.{◌+◌, ◌/◌, sym, ◌∙◌, ap, drop, arith, length-drop, word, forbidden_by, Fetch}
use Rattle.st_prep.proofs.GivenLemmas.{differs, same_test, second-same, second-has, found-second}
use Rattle.st_prep.proofs.fetching.second_known.Goals as goal

pub returns-then-h : goal.returns-then-h
returns-then-h c = λ first k f found.
    let cs = c.args.contents.now in
    let s = c.args.state.now in
    found-second _ first _ _ k f (drop 1 cs)
    (second-same _ _ first _ _ _ k cs (ap (λ w. forbidden_by (word s 3) s.enabled Fetch w) c.if-h.true ∙ c.requires.allowed)
    (same_test ((c.args.h + 1) / 2) (c.args.h / 2) c.if-h.true))
    c.half_of.ensures found

pub returns-in-None : goal.returns-in-None
returns-in-None c = λ first k f found.
    let cs = c.args.contents.now in
    found-second _ first _ _ k f (drop 2 cs)
    (second-has _ _ first _ _ _ k cs (sym c.may.ensures.value ∙ c.in-None.is)
    (differs ((c.args.h + 1) / 2) (c.args.h / 2) c.if-h.false)
    (omega (arith, c.if-contents-lt2.false, length-drop 1 cs)))
    c.half_of-in-None.ensures found
