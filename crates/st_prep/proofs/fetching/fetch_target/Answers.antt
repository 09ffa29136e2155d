use Rattle.st_prep.proofs.Common.{◌/◌, true, sym, ◌∙◌, ap, word, Found, Continuation, instruction_at, own_use, with_target, Finds}
use Rattle.st_prep.proofs.GivenLemmas.{of, target-given, target-found}
use Rattle.st_prep.proofs.fetching.fetch_target.Goals as goal

pub returns-in-Has-clause-value : goal.returns-in-Has-clause-value
unfolding own_use
returns-in-Has-clause-value c =
    let s = c.args.state.now in
    let k : Continuation = λ target. Finds (with_target c.args.own.decoded target) in
    sym (target-given _ _ _ _ c.requires.execute
    ∙ ap (λ e. of (instruction_at true (word s 3) s.enabled (e / 32) k) c.args.contents.now) (sym c.effective_address-e.ensures.value)
    ∙ c.in-Has.ensures.value true k
    ∙ target-found c.args.own.decoded c.in-Has.found c.in-Has.used c.args.contents.now
    ∙ ap Found (sym c.with_target.ensures.value))

pub returns-in-Wants-clause-value : goal.returns-in-Wants-clause-value
unfolding own_use
returns-in-Wants-clause-value c =
    let s = c.args.state.now in
    let k : Continuation = λ target. Finds (with_target c.args.own.decoded target) in
    sym (target-given _ _ _ _ c.requires.execute
    ∙ ap (λ e. of (instruction_at true (word s 3) s.enabled (e / 32) k) c.args.contents.now) (sym c.effective_address-e.ensures.value)
    ∙ c.in-Wants.ensures.value true k)
