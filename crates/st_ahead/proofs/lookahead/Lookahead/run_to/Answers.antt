use Rattle.st_ahead.proofs.Common.{inl, inr, ◌≡◌, ◌+◌, ◌-◌, ◌<◌, ◌≤◌, List, None, refl, sym, subst, ◌∙◌, ap, arith, nat_le, or_parts, Machine, word, LastAnswers, plan, prediction, row_of_entry, issue_after_entry, delays-are, entry, prediction-machine, FetchUnit, answers_before, queue_with, Row, steps_are_predictions, entries_count_as_one, after-c}
use Rattle.std.proofs.Common.{All}
use Rattle.st_ahead.proofs.Gone.{oldest-late}
use Rattle.st_ahead.proofs.Idling.{less-than}
use Rattle.st_ahead.proofs.LevelTicks.{done-after, done-later}
use Rattle.st_ahead.proofs.Runs.{noting-starts, noting-on, running-idle, rows-idle, running-ends, banks-between, quiet-parts, quiet-after, stopped-comes}
use Rattle.st_ahead.proofs.Standing.{answers-same}
use Rattle.st_ahead.proofs.TickCases.{prediction-words}
use Rattle.st_ahead.proofs.Laws.{lookaheads_are_levels, the_banks_are_left}
use Rattle.st_ahead.proofs.lookahead.Lookahead.run_to.Goals.{then-not-quiet-via-then-not-quiet, then-not-quiet-via-else-not-quiet+then-count-done_in}
use Rattle.st_ahead.proofs.lookahead.Lookahead.run_to.Goals as goal

pub entries-init : goal.entries-init
entries-init g c = record {
  each = λ f now start.
      noting-starts c.args.delays.now.list g.row.N c.args.limits.count c.args.limits.last now c.args.committed.now.taken c.args.committed.now.state f c.args.self.now c.args.rows.now start;
  done = c.requires.done;
}

pub go_to-requires : goal.go_to-requires
go_to-requires g c =
    let starts = c.requires.starts in
    let run = (c.entries.invariant.each starts.0 starts.1 starts.2).run in (
      omega arith,
      (
        c.requires.some,
        (
          c.requires.few,
          (
            c.args.limits.early,
            record {
              tick = run.tick;
              goes = record { table = c.entries.committed.taken; issue = run.issue; going = run.going };
              soon = run.soon;
            },
          ),
        ),
      ),
    )

pub complete-done-requires : goal.complete-done-requires
complete-done-requires g c =
    let starts = c.requires.starts in
    let run = (c.entries.invariant.each starts.0 starts.1 starts.2).run in
    let at = c.in-Some.ensures.goes c.entries.committed.taken run.issue run.tick (record { tick = run.tick; going = run.going; behind = omega arith; soon = run.soon }) in
    (omega arith, (at.some, c.entries.invariant.done))

pub returns-in_default : goal.returns-in_default
returns-in_default g c = λ f now start.
    let ds = c.args.delays.now.list in
    let n = g.row.N in
    let k = c.entries.committed.taken in
    let u = c.entries.committed.state in
    let are = delays-are c.args.delays.now in
    let last = c.args.limits.last in
    let noting = c.entries.invariant.each f now start in
    let run = noting.run in
    let out = c.in_default.ensures.goes k run.issue run.tick (record { tick = run.tick; going = run.going; behind = omega arith; soon = run.soon }) in
    let filled = (c.fill.ensures.filled ds last (last + 1) k u run.issue are out (omega arith) (omega arith) out.not_done (λ w. refl)).0 in
    let w = c.fill.new.self in
    let late = oldest-late ds n last (last + 1) k u run.issue w c.requires.some are (omega arith) filled
    (lookaheads_are_levels ds n last (last + 1) k u run.issue w c.requires.some c.requires.few are (omega arith) c.fill.ensures.few filled) in (
      running-ends ds n c.args.limits.count last now c.args.committed.now.taken k c.args.committed.now.state u f c.entries.self w run late filled,
      noting.noted ∙ ap {A = List Row} (λ xs. queue_with xs c.args.rows.now)
          (rows-idle ds n c.args.limits.count last now (last + 1) c.args.committed.now.taken k c.args.committed.now.state u f c.entries.self run (omega (arith, run.soon)) (omega (arith, late))),
    )

pub entries-preserved : goal.entries-preserved
entries-preserved g c =
    let ds = c.args.delays.now.list in
    let n = g.row.N in
    let k = c.entries.committed.taken in
    let u = c.entries.committed.state in
    let are = delays-are c.args.delays.now in
    let starts = c.requires.starts in
    let run = (c.entries.invariant.each starts.0 starts.1 starts.2).run in
    let goes = quiet-parts c.complete-done.new.state c.args.limits.count c.complete-done.result.mispredicted
    (sym c.is_quiet-quiet.ensures ∙ c.if-not-quiet.false) (omega (arith, c.if-count-done_in.false, c.done_in.ensures)) in
    record {
      each = λ f now start.
          let noting = c.entries.invariant.each f now start in
          let run = noting.run in
          let at = c.in-Some.ensures.goes k run.issue run.tick (record { tick = run.tick; going = run.going; behind = omega arith; soon = run.soon }) in
          let due = c.in-Some.tick in
          let all = c.complete-done.ensures ds (due - 1) due k run.issue are at.lookahead at.row_is in
          let counted = ap (λ (m : Machine). m.done) all.0 ∙ entries_count_as_one (plan u k) u in
          noting-on ds n c.args.limits.count c.args.limits.last now due c.args.committed.now.taken k c.args.committed.now.state u c.complete-done.new.state f c.entries.self c.go_to.new.self
          c.complete-done.new.self c.complete-done.result c.args.rows.now c.entries.rows noting at all.0 all.1 all.2 goes.0 goes.1 goes.2 goes.3
          (steps_are_predictions.right k u at.lookahead.machine at.lookahead.indicator) counted _ c.put.ensures c.row_of.ensures;
      done =
          omega (
            arith,
            c.args.limits.most,
            less-than c.args.limits.count c.complete-done.new.state.done (or_parts (nat_le c.args.limits.count c.complete-done.new.state.done) _ goes.0).0,
          );
    }

pub entries-smaller : goal.entries-smaller
entries-smaller g c =
    let ds = c.args.delays.now.list in
    let n = g.row.N in
    let k = c.entries.committed.taken in
    let u = c.entries.committed.state in
    let are = delays-are c.args.delays.now in
    let starts = c.requires.starts in
    let run = (c.entries.invariant.each starts.0 starts.1 starts.2).run in
    let at = c.in-Some.ensures.goes k run.issue run.tick (record { tick = run.tick; going = run.going; behind = omega arith; soon = run.soon }) in
    let due = c.in-Some.tick in
    let all = c.complete-done.ensures ds (due - 1) due k run.issue are at.lookahead at.row_is in
    let goes = quiet-parts c.complete-done.new.state c.args.limits.count c.complete-done.result.mispredicted
    (sym c.is_quiet-quiet.ensures ∙ c.if-not-quiet.false) (omega (arith, c.if-count-done_in.false, c.done_in.ensures)) in
    let counted : c.complete-done.new.state.done ≡ u.done + 1 = ap (λ (m : Machine). m.done) all.0 ∙ entries_count_as_one (plan u k) u in
    omega (
      arith,
      counted,
      less-than c.args.limits.count c.complete-done.new.state.done (or_parts (nat_le c.args.limits.count c.complete-done.new.state.done) _ goes.0).0,
    )

pub returns-then-not-quiet : goal.returns-then-not-quiet
returns-then-not-quiet g c = λ f now start.
    let ds = c.args.delays.now.list in
    let n = g.row.N in
    let k = c.entries.committed.taken in
    let u = c.entries.committed.state in
    let are = delays-are c.args.delays.now in
    let noting = c.entries.invariant.each f now start in
    let run = noting.run in
    let at = c.in-Some.ensures.goes k run.issue run.tick (record { tick = run.tick; going = run.going; behind = omega arith; soon = run.soon }) in
    let due = c.in-Some.tick in
    let w = c.go_to.new.self in
    let all = c.complete-done.ensures ds (due - 1) due k run.issue are at.lookahead at.row_is in
    let e = entry k u in
    let issue = issue_after_entry ds n run.issue e in
    let comp = c.complete-done.new.self in
    let machine = prediction-machine k u at.lookahead.machine at.lookahead.indicator in
    let late : due < (row_of_entry ds n issue (entry None (prediction k u))).c = omega (arith, after-c ds n run.issue e, at.row_is, done-later ds n None (prediction k u) issue machine tt) in
    let waits = done-after ds n (due - 1) due None (prediction k u) issue comp.issue comp.levels.ring comp.levels.plans machine tt all.2.ahead.levels late in
    let filled = c.fill-then-not-quiet.ensures.filled ds (due - 1) due None (prediction k u) issue are all.2 (omega arith) (omega arith) waits
    (λ x. ap (λ (m : Machine). word m x) all.0 ∙ prediction-words k u x) in
    let final = c.fill-then-not-quiet.new.self in
    let same : answers_before due final ≡ answers_before due w =
    answers-same due w final (filled.1 ∙ all.3) (ap (λ (x : FetchUnit). x.words) filled.2 ∙ all.4) in
    let is_quiet =
    c.is_quiet-quiet.ensures ∙ quiet-after ds n due k u c.complete-done.new.state run.issue c.complete-done.result.mispredicted at.row_is all.0 all.1.mispredicted in
    let left = the_banks_are_left ds n (due - 1) due k u run.issue w c.requires.some c.requires.few are
    (omega (arith, at.later)) c.in-Some.ensures.few at.some at.lookahead at.row_is in (
      record {
        table = k;
        state = u;
        issue = run.issue;
        ahead = w;
        passed = running-idle ds n c.args.limits.count c.args.limits.last now due c.args.committed.now.taken k c.args.committed.now.state u f c.entries.self run at.later (omega (arith, at.row_is));
        soon = at.soon;
        none_taken = refl;
        machine = at.lookahead.machine;
        indicator = at.lookahead.indicator;
        done_at = record {
          due = at.row_is;
          told = all.1;
          state = all.0;
          lookahead = filled.0;
          log = filled.1 ∙ all.3;
          bus = ap (λ (x : FetchUnit). x.words) filled.2 ∙ all.4;
        };
        banks = banks-between ds n due k u run.issue w left.0 ∙ sym same;
        near = subst (λ (x : LastAnswers). All (λ b. b ≤ due + 255) x.ticks) (sym same) left.1;
        quiet_is = is_quiet;
        stops =
            stopped-comes ds n c.args.limits.count due k u c.complete-done.new.state run.issue c.is_quiet-quiet.result at.row_is all.0 is_quiet
            (elim c.then-not-quiet.branch [
              | then-not-quiet-via-then-not-quiet w ↦ inl w.if-not-quiet.true
              | then-not-quiet-via-else-not-quiet+then-count-done_in w ↦ inr (omega (arith, w.if-count-done_in.true, w.done_in.ensures))
            ]);
      },
      noting.noted ∙ ap {A = List Row} (λ xs. queue_with xs c.args.rows.now)
          (rows-idle ds n c.args.limits.count c.args.limits.last now due c.args.committed.now.taken k c.args.committed.now.state u f c.entries.self run at.later (omega (arith, at.row_is))),
    )
