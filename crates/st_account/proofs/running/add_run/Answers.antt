use Rattle.st_account.proofs.Common.{◌≡◌, length, refl, sym, ◌∙◌, ap, subst, arith, WritesLines, same_lines, origin_at, words_of_storage_is, delays-are, at_hand, end_from, position, Account}
use Rattle.st_run.specs.Moments.{moment_at_start as start_of}
use Rattle.st_account.proofs.TallyLoop.{tally-taken, tally-starts, tallies, ready-then, few-dropped, places-kept, tally-ends, tables-small, tally-on, dropped-ends}
use Rattle.st_account.proofs.TurnLemmas.{turning, counts-at-start, over-is, ends-with, some, on, counts}
use Rattle.st_account.proofs.running.add_run.Goals as goal

pub entries-init : goal.entries-init
entries-init g c =
    let start = c.new-account.ensures.start in
    tally-taken _ _ _ _ _ _ _ _ _ _ _ _ _ _ _ _ _ c.new-pending.ensures c.signals.ensures c.budget-left.ensures
    (record {
      summing = record {
        m = start_of (at_hand c.args.ready.state c.args.controls.now.signals c.args.ready.cards);
        b = c.args.ready.state;
        counted = counts-at-start c.args.ready.delays.list c.args.ready.levels c.args.controls.now.budget c.args.ready.state
            (record { signals = c.args.controls.now.signals; cards = c.args.ready.cards }) c.new-account.result (delays-are c.args.ready.delays)
            c.requires.ready.levels.1 c.requires.ready.cards c.requires.ready.fresh c.requires.ready.limit start;
        ends = refl;
        unwritten = refl;
        bare = ap length (c.new-account.ensures.words ∙ c.clear.ensures.items);
      };
      tallied = tally-starts (origin_at c.args.ready.origins) c.args.ready.delays.list c.args.ready.levels c.args.controls.now.budget c.args.ready.state c.new-account.result
          c.args.tally.now (start_of (at_hand c.args.ready.state c.args.controls.now.signals c.args.ready.cards)) c.requires.empty
          (ap origin_at c.new-account.ensures.origins) start;
    })

-- ---- the calls of a round

pub take_events-requires : goal.take_events-requires
take_events-requires g c =
    let h = c.entries.invariant.summing in
    record { before = h.b; moment = h.m; at = h.counted.at }

pub finish_tally-requires-clause-behind : goal.finish_tally-requires-clause-behind
finish_tally-requires-clause-behind g c =
    let h = c.entries.invariant.summing in (
      position c.args.ready.delays.list c.args.ready.levels c.entries.left h.b h.m,
      (c.take_events.ensures.came h.b h.m h.counted.at).behind,
    )

pub finish_tally-requires-clause-ready : goal.finish_tally-requires-clause-ready
finish_tally-requires-clause-ready g c =
    let h = c.entries.invariant.summing in
    ready-then (turning h.counted c.take_events.ensures.rest (c.take_events.ensures.came h.b h.m h.counted.at)) c.entries.invariant.tallied

pub finish_tally-requires-clause-few : goal.finish_tally-requires-clause-few
finish_tally-requires-clause-few g c =
    let h = c.entries.invariant.summing in
    few-dropped (turning h.counted c.take_events.ensures.rest (c.take_events.ensures.came h.b h.m h.counted.at)) c.entries.invariant.tallied

pub tally_to_next-requires-clause-behind : goal.tally_to_next-requires-clause-behind
tally_to_next-requires-clause-behind g c =
    let h = c.entries.invariant.summing in (
      position c.args.ready.delays.list c.args.ready.levels c.entries.left h.b h.m,
      (c.take_events.ensures.came h.b h.m h.counted.at).behind,
    )

pub tally_to_next-requires-clause-ready : goal.tally_to_next-requires-clause-ready
tally_to_next-requires-clause-ready g c =
    let h = c.entries.invariant.summing in
    ready-then (turning h.counted c.take_events.ensures.rest (c.take_events.ensures.came h.b h.m h.counted.at)) c.entries.invariant.tallied

pub tally_to_next-requires-clause-few : goal.tally_to_next-requires-clause-few
tally_to_next-requires-clause-few g c =
    let h = c.entries.invariant.summing in
    few-dropped (turning h.counted c.take_events.ensures.rest (c.take_events.ensures.came h.b h.m h.counted.at)) c.entries.invariant.tallied

pub step-requires : goal.step-requires
step-requires g c =
    let h = c.entries.invariant.summing in
    let turn = turning h.counted c.take_events.ensures.rest (c.take_events.ensures.came h.b h.m h.counted.at) in
    let going = over-is turn _ c.is_over.ensures ∙ c.if-is_over.false in
    (c.tally_to_next.ensures.next _ turn.came.behind going).ready

-- ---- the end

pub returns-then-is_over-clause-lines : goal.returns-then-is_over-clause-lines
returns-then-is_over-clause-lines g c =
    let h = c.entries.invariant.summing in
    let turn = turning h.counted c.take_events.ensures.rest (c.take_events.ensures.came h.b h.m h.counted.at) in
    let end = over-is turn _ c.is_over.ensures ∙ c.if-is_over.true in
    subst (λ t. WritesLines t (g.K.Sink.output c.finish_tally.new.out)
    (end_from c.args.ready.delays.list c.args.ready.levels c.args.controls.now.budget (start_of (at_hand c.args.ready.state c.args.controls.now.signals c.args.ready.cards)))
    c.finish_tally.result) h.unwritten
    (same_lines _ _ _ _ _ (sym (ends-with turn end _ h.ends)) c.finish_tally.ensures.lines)

pub returns-then-is_over-clause-tables : goal.returns-then-is_over-clause-tables
returns-then-is_over-clause-tables g c =
    let h = c.entries.invariant.summing in
    let turn = turning h.counted c.take_events.ensures.rest (c.take_events.ensures.came h.b h.m h.counted.at) in
    let end = over-is turn _ c.is_over.ensures ∙ c.if-is_over.true in
    tally-ends turn c.entries.invariant.tallied _ (c.finish_tally.ensures.tallies _ turn.came.behind end).row end

pub returns-then-is_over-clause-within : goal.returns-then-is_over-clause-within
returns-then-is_over-clause-within g c =
    let h = c.entries.invariant.summing in
    let turn = turning h.counted c.take_events.ensures.rest (c.take_events.ensures.came h.b h.m h.counted.at) in
    let end = over-is turn _ c.is_over.ensures ∙ c.if-is_over.true in
    tables-small turn c.entries.invariant.tallied _ (c.finish_tally.ensures.tallies _ turn.came.behind end).row

pub returns-then-is_over-clause-places : goal.returns-then-is_over-clause-places
returns-then-is_over-clause-places g c =
    let h = c.entries.invariant.summing in
    let turn = turning h.counted c.take_events.ensures.rest (c.take_events.ensures.came h.b h.m h.counted.at) in
    let end = over-is turn _ c.is_over.ensures ∙ c.if-is_over.true in
    places-kept turn c.entries.invariant.tallied _ (c.finish_tally.ensures.tallies _ turn.came.behind end).row

pub returns-then-is_over-clause-dropped : goal.returns-then-is_over-clause-dropped
returns-then-is_over-clause-dropped g c =
    let h = c.entries.invariant.summing in
    let turn = turning h.counted c.take_events.ensures.rest (c.take_events.ensures.came h.b h.m h.counted.at) in
    let end = over-is turn _ c.is_over.ensures ∙ c.if-is_over.true in
    dropped-ends turn c.entries.invariant.tallied _ end (c.finish_tally.ensures.tallies _ turn.came.behind end).dropped

-- ---- the run continues

pub entries-preserved : goal.entries-preserved
entries-preserved g c =
    let h = c.entries.invariant.summing in
    let turn = turning h.counted c.take_events.ensures.rest (c.take_events.ensures.came h.b h.m h.counted.at) in
    let going = over-is turn _ c.is_over.ensures ∙ c.if-is_over.false in
    let moved = c.tally_to_next.ensures.next _ turn.came.behind going in
    let none-left : length c.tally_to_next.new.account.words.items ≡ 0 =
    ap length c.tally_to_next.ensures.words ∙ ap (λ (x : Account). length x.words.items) c.take_events.ensures.rest ∙ h.bare in
    tallies (position c.args.ready.delays.list c.args.ready.levels c.entries.left h.b h.m) _ _ _ _ _ _ _ c.step.new.self c.tally_to_next.new.tally _
    (some turn going)
    (on turn going) h.ends h.unwritten
    (ap (λ (x : Account). length x.words.items) c.step.ensures.stepped.rest ∙ none-left)
    (counts turn going c.tally_to_next.new.account moved c.step.new.self
    (λ long. absurd (omega (arith, long, none-left, words_of_storage_is))) (delays-are c.args.ready.delays) c.requires.ready.levels.1 c.step.ensures.stepped
    c.step.ensures.completes)
    (tally-on turn c.entries.invariant.tallied going c.tally_to_next.new.account moved c.step.new.self c.tally_to_next.new.tally (c.tally_to_next.ensures.tallies _ turn.came.behind going) c.step.ensures.stepped
    c.step.ensures.completes)
