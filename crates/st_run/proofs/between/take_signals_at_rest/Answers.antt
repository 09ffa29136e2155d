use Rattle.st_run.proofs.Common.{ap, sym, ◌∙◌, false, refl, rests, PendingEvents}
use Rattle.st_run.proofs.SignalLemmas.{rest-came, rest-over}
use Rattle.st_run.proofs.between.take_signals_at_rest.Goals as goal

pub signals-preserved : goal.signals-preserved
signals-preserved g c = record {
  came = rest-came _ _ _ _ _ (sym (ap rests c.state.ensures) ∙ sym c.is_at_rest.ensures ∙ c.signals-test.true)
      (sym c.next_signal.ensures.signal ∙ c.in-Some.is) c.signal.ensures.state c.next_signal.ensures.left
      ∙ c.signals.invariant.came;
  cards = ap (λ (x : PendingEvents). x.cards) c.next_signal.ensures.left ∙ c.signals.invariant.cards;
  rest = g.met.M.ExternalEvents.leaves_both false false _ _ _ _ c.signals.invariant.rest c.signal.ensures.rest refl;
}

pub returns-clause-came : goal.returns-clause-came
returns-clause-came g c =
    sym (rest-over _ _ (sym (ap rests c.state.ensures) ∙ sym c.is_at_rest.ensures ∙ c.signals-test.false))
    ∙ c.signals.invariant.came
