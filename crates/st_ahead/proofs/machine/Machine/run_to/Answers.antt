use Rattle.st_ahead.proofs.Common.{◌≡◌, ◌+◌, ◌-◌, ◌<◌, ◌^◌, sym, subst, arith, oldest_issue, Overlap, ArePassed, queue_with, rows_in_ticks}
use Rattle.st_ahead.proofs.Idling.{passed-none}
use Rattle.st_ahead.proofs.NotedRows.{rows-zero}
use Rattle.st_ahead.proofs.Stopping.{run-starts, run-rows, run-passed, run-stopped}
use Rattle.st_ahead.proofs.machine.Machine.run_to.Goals as goal

pub returns-then-now-last-clause-runs : goal.returns-then-now-last-clause-runs
returns-then-now-last-clause-runs g c =
    let now : c.args.last < c.args.self.now.now = subst (λ (m : Overlap). c.args.last < m.now) c.self.view_is (omega (arith, c.if-now-last.true)) in
    let none : 0 ≡ c.args.last + 1 - c.args.self.now.now = omega (arith, now) in
    subst (λ k. ArePassed c.args.count k c.args.self.now c.args.self.now) none (passed-none c.args.count c.args.self.now)

pub returns-then-now-last-clause-rows : goal.returns-then-now-last-clause-rows
returns-then-now-last-clause-rows g c =
    let now : c.args.last < c.args.self.now.now = subst (λ (m : Overlap). c.args.last < m.now) c.self.view_is (omega (arith, c.if-now-last.true)) in
    let none : 0 ≡ c.args.last + 1 - c.args.self.now.now = omega (arith, now) in
    subst (λ k. c.args.rows.now ≡ queue_with (rows_in_ticks k c.args.self.now) c.args.rows.now) none (rows-zero c.args.self.now c.args.rows.now)

pub run_to-stop-requires : goal.run_to-stop-requires
run_to-stop-requires g c =
    let v = c.self.inside.lookahead in
    let few = subst (λ (m : Overlap). m.state.done < 2 ^ 63) (sym c.self.view_is) c.requires.done in
    let start = run-starts _ _ _ _ _ _ _ _ _ c.self.invariant c.self.view_is c.requires.settled c.args.count c.args.last (omega (arith, c.if-now-last.false)) in
    (omega arith, (c.self.invariant.some, (c.self.invariant.few, (few, (oldest_issue v.levels.plans v.issue, c.self.inside.now, start)))))

pub invariant_of-self : goal.invariant_of-self
invariant_of-self g c =
    (run-passed _ _ _ _ _ _ _ _ _ c.self.invariant c.self.view_is c.requires.settled c.args.count c.args.last (omega (arith, c.if-now-last.false))
    _ _ _ _ c.requires.last _ _ c.run_to-stop.ensures c.in_default.is).0

pub returns-in_default-clause-runs : goal.returns-in_default-clause-runs
returns-in_default-clause-runs g c =
    (run-passed _ _ _ _ _ _ _ _ _ c.self.invariant c.self.view_is c.requires.settled c.args.count c.args.last (omega (arith, c.if-now-last.false))
    _ _ _ _ c.requires.last _ _ c.run_to-stop.ensures c.in_default.is).1

pub returns-in_default-clause-rows : goal.returns-in_default-clause-rows
returns-in_default-clause-rows g c =
    run-rows _ _ _ _ _ _ _ _ _ c.self.invariant c.self.view_is c.requires.settled c.args.count c.args.last (omega (arith, c.if-now-last.false))
    _ _ _ _ c.requires.last _ _ c.run_to-stop.ensures _ c.in_default.is

pub invariant_of-self-2 : goal.invariant_of-self-2
invariant_of-self-2 g c =
    (run-stopped _ _ _ _ _ _ _ _ _ c.self.invariant c.self.view_is c.requires.settled c.args.count c.args.last (omega (arith, c.if-now-last.false))
    _ _ _ _ c.requires.last _ _ c.run_to-stop.ensures _ _ c.in-Some.is c.done_in-number.ensures).0

pub returns-clause-runs : goal.returns-clause-runs
returns-clause-runs g c =
    (run-stopped _ _ _ _ _ _ _ _ _ c.self.invariant c.self.view_is c.requires.settled c.args.count c.args.last (omega (arith, c.if-now-last.false))
    _ _ _ _ c.requires.last _ _ c.run_to-stop.ensures _ _ c.in-Some.is c.done_in-number.ensures).1

pub returns-clause-quiet : goal.returns-clause-quiet
returns-clause-quiet g c =
    (run-stopped _ _ _ _ _ _ _ _ _ c.self.invariant c.self.view_is c.requires.settled c.args.count c.args.last (omega (arith, c.if-now-last.false))
    _ _ _ _ c.requires.last _ _ c.run_to-stop.ensures _ _ c.in-Some.is c.done_in-number.ensures).2

pub returns-clause-rows : goal.returns-clause-rows
returns-clause-rows g c =
    run-rows _ _ _ _ _ _ _ _ _ c.self.invariant c.self.view_is c.requires.settled c.args.count c.args.last (omega (arith, c.if-now-last.false))
    _ _ _ _ c.requires.last _ _ c.run_to-stop.ensures _ c.in-Some.is
