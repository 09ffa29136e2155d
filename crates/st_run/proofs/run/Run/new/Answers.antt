use Rattle.st_run.proofs.Common.{◌-◌, sym, ◌∙◌, ap, subst, refl, [], inl, Scene, with_due_signals, Overlap, machine_at_start, MaySignal, IsScene, Together, Queue, OutputQueue, IsRun, rest_of, rows_then, CanStart, IsLed}
use Rattle.st_rows.proofs.Within.{delays-are}
use Rattle.st_run.proofs.LedLemmas.{start-led, due-led}
use Rattle.st_run.proofs.StartLemmas.{IsIdle, started, start-run, start-told, none, with_scene}
use Rattle.st_run.proofs.InterludeLemmas.{with_pending}
use Rattle.st_run.specs.declared.run_phase.RunPhase.TheVariants as turns
use Rattle.st_run.proofs.run.Run.new.Goals as goal

pub invariant_of-result : goal.invariant_of-result
invariant_of-result g c =
    let r = c.requires in
    let scene : Scene = record { machine = c.args.state; signals = c.args.controls.now.signals.now; cards = c.args.cards } in
    let idle : IsIdle c.args.state = record { enabled = r.enabled; waiting = r.waiting; reader = r.reader; printer = r.printer } in
    let is : IsScene scene = record { machine = c.new-machine.ensures.machine; cards = r.cards } in
    let same = started c.new-machine.result c.due_signals-rest.new.machine c.args.controls.now.signals.now c.due_signals-rest.result.now c.args.cards _
    c.due_signals-rest.ensures.came c.due_signals-rest.ensures.machine c.new-pending.ensures
    ∙ ap {A = Overlap} (λ m. with_scene (record { machine = m; signals = scene.signals; cards = scene.cards })
    (with_due_signals (record scene { machine = m.state }))) c.new-machine.ensures.value in
    let stands = subst {A = OutputQueue} (λ w. IsRun turns.Before (c.args.controls.now.budget - 1) 0 c.args.controls.now.snaps.now w (with_pending c.due_signals-rest.new.machine c.new-pending.result)) (sym c.new-queue.ensures)
    (subst {A = Together} (λ t. IsRun turns.Before (c.args.controls.now.budget - 1) 0 c.args.controls.now.snaps.now none t) (sym same)
    (start-run c.args.delays.list g.row.N scene idle is c.args.controls.now.budget c.args.controls.now.snaps.now r.some r.few (delays-are c.args.delays)
    r.some_done r.few_done r.done r.snaps)) in
    (stands, ap (λ (q : Queue). q.room) c.new-2.ensures)

pub returns-clause-rest : goal.returns-clause-rest
returns-clause-rest g c =
    let r = c.requires in
    let scene : Scene = record { machine = c.args.state; signals = c.args.controls.now.signals.now; cards = c.args.cards } in
    let idle : IsIdle c.args.state = record { enabled = r.enabled; waiting = r.waiting; reader = r.reader; printer = r.printer } in
    let is : IsScene scene = record { machine = c.new-machine.ensures.machine; cards = r.cards } in
    let same = started c.new-machine.result c.due_signals-rest.new.machine c.args.controls.now.signals.now c.due_signals-rest.result.now c.args.cards _
    c.due_signals-rest.ensures.came c.due_signals-rest.ensures.machine c.new-pending.ensures
    ∙ ap {A = Overlap} (λ m. with_scene (record { machine = m; signals = scene.signals; cards = scene.cards })
    (with_due_signals (record scene { machine = m.state }))) c.new-machine.ensures.value in
    ap {A = Queue} (λ q. rows_then q.rows (rest_of turns.Before (c.args.controls.now.budget - 1) 0 c.args.controls.now.snaps.now c.new-queue.result (with_pending c.due_signals-rest.new.machine c.new-pending.result))) c.new-2.ensures
    ∙ ap {A = OutputQueue} (λ w. rest_of turns.Before (c.args.controls.now.budget - 1) 0 c.args.controls.now.snaps.now w (with_pending c.due_signals-rest.new.machine c.new-pending.result)) c.new-queue.ensures
    ∙ ap {A = Together} (λ t. rest_of turns.Before (c.args.controls.now.budget - 1) 0 c.args.controls.now.snaps.now none t) same
    ∙ start-told c.args.delays.list g.row.N scene idle is c.args.controls.now.budget c.args.controls.now.snaps.now r.some_done

pub returns-clause-led : goal.returns-clause-led
returns-clause-led g c =
    let r = c.requires in
    let can : CanStart c.args.delays.list g.row.N c.args.state = record {
      some = r.some;
      few = r.few;
      delays = delays-are c.args.delays;
      machine = c.new-machine.ensures.machine;
      enabled = r.enabled;
      waiting = r.waiting;
    } in
    let m = c.new-machine.result in
    let start = machine_at_start c.args.delays.list g.row.N c.args.state in
    subst {A = Overlap} (IsLed start) (sym (c.due_signals-rest.ensures.machine ∙ sym (ap (λ (d : Scene). record m { state = d.machine }) (c.due_signals-rest.ensures.came []))))
    (due-led c.args.controls.now.signals.now m [] r.signals
    (subst {A = Overlap} MaySignal (sym c.new-machine.ensures.value) (inl (refl, refl))) (start-led c.args.delays.list g.row.N c.args.state m can c.new-machine.ensures.value))
