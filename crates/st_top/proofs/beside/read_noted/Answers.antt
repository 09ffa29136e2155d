use Rattle.st_top.proofs.Common.{◌≡◌, ◌∙◌, ap, subst, Machine, IsMachine, states_before}
use Rattle.std.specs.Prelude.{None}
use Rattle.st_state.specs.Interrupts.{state_with_signal}
use Rattle.st_top.proofs.Besides.{states_beside, states_unread}
use Rattle.st_top.proofs.beside.read_noted.Goals as goal

pub returns-in_default-card-clause-states : goal.returns-in_default-card-clause-states
returns-in_default-card-clause-states c =
    let m = c.args.machine.now in
    let kept = c.args.steps.now.kept in
    let taken : c.signal.new.self ≡ state_with_signal (record m { reader = None }) 11 =
    c.signal.ensures.value ∙ ap (λ (k : Machine). state_with_signal (record k { reader = None }) 11) c.machine.view_is in
    ap (states_before kept) taken ∙ states_beside kept m None m.printer _ (subst IsMachine c.machine.view_is c.machine.invariant)

pub returns-clause-states : goal.returns-clause-states
returns-clause-states c =
    let m = c.args.machine.now in
    let kept = c.args.steps.now.kept in
    let last = c.put_card.new.machine in
    ap (states_before c.put_card.new.steps.kept) c.signal-2.ensures.value
    ∙ (states_beside c.put_card.new.steps.kept last last.reader last.printer _ c.signal-2.ensures.before
    ∙ (c.put_card.ensures.states
    ∙ (ap (λ (k : Machine). states_before kept (record k { reader = None })) c.machine.view_is ∙ states_unread kept m None (subst IsMachine c.machine.view_is c.machine.invariant))))
