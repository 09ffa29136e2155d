use Rattle.st_sweep.proofs.Common.{ℕ, Option, ◌∷◌, ◌∙◌, ap, subst, Prepared, plan, words_to_write, AreMarks, rules}
use Rattle.st_sweep.proofs.PlainRun.{entry-step, entry-hazard_free}
use Rattle.st_sweep.proofs.hazards.step.Goals as goal

pub returns-clause-state : goal.returns-clause-state
returns-clause-state c =
    entry-step _ _ _ c.interrupt-taken.ensures.value (c.complete_in.ensures.step _ c.plan_in-side.ensures.value)

pub returns-clause-entry : goal.returns-clause-entry
returns-clause-entry c = λ earlier are.
    let wanted =
    entry-hazard_free earlier _ _ _ _ _ _ _ c.interrupt-taken.ensures.value c.plan_in-side.ensures.value c.plan_in-side.ensures.side
    c.is_mispredicted-mispredicted.ensures (c.has_side-side.ensures earlier are) (c.has_words-words.ensures earlier are) in (
      subst (λ w. AreMarks (words_to_write w ∷ earlier) c.put.new.self)
          (ap (λ (p : Prepared). p.writes) (c.plan_in-side.ensures.value ∙ ap (λ (t : Option ℕ). plan c.args.state.now t) c.interrupt-taken.ensures.value)) (c.put.ensures earlier are),
      search (rules, wanted),
    )
