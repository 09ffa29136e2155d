use Rattle.st_run.proofs.Common.{ap, sym, ◌∙◌, false, rests, interlude, with_due_orders}
use Rattle.st_run.proofs.EventLemmas.{came-behind, came-awake, came-waiting}
use Rattle.st_run.proofs.between.between.Goals as goal

pub returns-then-not-is_at_rest : goal.returns-then-not-is_at_rest
unfolding interlude
returns-then-not-is_at_rest g c =
    let s = g.M.ExternalEvents.state in
    let l = g.M.ExternalEvents.leaves in
    let both = g.met.M.ExternalEvents.leaves_both in
    let due = came-behind s l both with_due_orders _ false _ _ _ _ c.args.pending.now _ _ c.take_due_signals.ensures.came
    c.take_due_signals.ensures.cards c.take_due_signals.ensures.rest c.serve_due-due.ensures in
    came-awake s l both g.met.M.ExternalEvents.leaves_same _ _ _ _ _ _
    (sym (ap rests c.state.ensures) ∙ sym c.is_at_rest.ensures ∙ c.if-not-is_at_rest.true) due

pub returns : goal.returns
unfolding interlude
returns g c =
    let s = g.M.ExternalEvents.state in
    let l = g.M.ExternalEvents.leaves in
    let both = g.met.M.ExternalEvents.leaves_both in
    let due = came-behind s l both with_due_orders _ false _ _ _ _ c.args.pending.now _ _ c.take_due_signals.ensures.came
    c.take_due_signals.ensures.cards c.take_due_signals.ensures.rest c.serve_due-due.ensures in
    rw (c.joined-2.ensures, c.joined.ensures) (came-waiting s l both _ _ _ _ _ _ _ _ _ _
    (sym (ap rests c.state.ensures) ∙ sym c.is_at_rest.ensures ∙ c.if-not-is_at_rest.false) due
    c.rest.ensures.state c.rest.ensures.rest c.end_wait-later.ensures)
