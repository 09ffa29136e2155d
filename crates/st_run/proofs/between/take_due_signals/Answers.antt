use Rattle.st_run.proofs.Common.{ap, sym, ◌∙◌, false, refl, Machine, PendingEvents}
use Rattle.st_run.proofs.SignalLemmas.{due-came, due-over}
use Rattle.st_run.proofs.between.take_due_signals.Goals as goal

pub signals-preserved : goal.signals-preserved
signals-preserved g c = record {
  came = due-came _ _ _ _ _ _ (sym c.is_due.ensures ∙ c.signals-test.true) (c.done_in.ensures ∙ ap (λ (s : Machine). s.done) c.state.ensures)
      (sym c.next_signal.ensures.signal ∙ c.in-Some.is) c.signal.ensures.state c.next_signal.ensures.left ∙ c.signals.invariant.came;
  cards = ap (λ (x : PendingEvents). x.cards) c.next_signal.ensures.left ∙ c.signals.invariant.cards;
  rest = g.met.M.ExternalEvents.leaves_both false false _ _ _ _ c.signals.invariant.rest c.signal.ensures.rest refl;
}

pub returns-clause-came : goal.returns-clause-came
returns-clause-came g c =
    sym (due-over _ _ _ (c.done_in.ensures ∙ ap (λ (s : Machine). s.done) c.state.ensures) (sym c.is_due.ensures ∙ c.signals-test.false))
    ∙ c.signals.invariant.came
