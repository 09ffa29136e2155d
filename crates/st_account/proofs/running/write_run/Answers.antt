use Rattle.st_account.proofs.Common.{length, refl, ◌∙◌, ap, sum_at, delays-are, Account, position}
use Rattle.st_account.proofs.TurnLemmas.{turning, counts-at-start, adds-at-start, over-is, sums-are, waits-are, within-next, counts, adds, stepped-with, completes-with}
use Rattle.st_account.proofs.RoundLemmas.{run-starts, run-taken, finishes, crossing-fails, goes}
use Rattle.st_account.proofs.running.write_run.Goals as goal

pub entries-init : goal.entries-init
entries-init g c =
    run-taken _ _ _ _ _ _ _ _ _ _ _ _ _ _ _ c.new-pending.ensures c.signals.ensures
    (run-starts _ _ _ _ _ _ _ _ _
    (counts-at-start c.args.ready.delays.list c.args.ready.levels c.args.budget c.args.ready.state
    (record { signals = c.args.controls.now.signals; cards = c.args.ready.cards }) c.new-account.result (delays-are c.args.ready.delays)
    c.requires.levels.1 c.requires.cards c.requires.fresh c.requires.limit c.new-account.ensures.start)
    (adds-at-start c.args.ready.delays.list c.args.ready.levels c.args.budget c.args.ready.state
    (record { signals = c.args.controls.now.signals; cards = c.args.ready.cards }) c.new-account.result (delays-are c.args.ready.delays)
    c.requires.levels.1 c.requires.cards c.requires.fresh c.requires.limit c.new-account.ensures.start)
    _ c.args.ready.origins c.args.until c.no_border-start.result c.new-account.ensures.origins c.new-account.ensures.start.number c.new-account.ensures.start.unused
    c.no_border-start.ensures (ap length c.new-account.ensures.words ∙ c.requires.size))

-- ---- the calls of a round

pub take_events-requires : goal.take_events-requires
take_events-requires g c = record { before = c.entries.invariant.b; moment = c.entries.invariant.m; at = c.entries.invariant.counted.at }

pub finish_run-written-requires-clause-behind : goal.finish_run-written-requires-clause-behind
finish_run-written-requires-clause-behind g c = (
  position c.args.ready.delays.list c.args.ready.levels c.entries.left c.entries.invariant.b c.entries.invariant.m,
  (c.take_events.ensures.came c.entries.invariant.b c.entries.invariant.m c.entries.invariant.counted.at).behind,
)

pub finish_run-written-requires-clause-size : goal.finish_run-written-requires-clause-size
finish_run-written-requires-clause-size g c = ap (λ (x : Account). length x.words.items) c.take_events.ensures.rest ∙ c.entries.invariant.size

pub pass_to_next-requires-clause-behind : goal.pass_to_next-requires-clause-behind
pass_to_next-requires-clause-behind g c = (
  position c.args.ready.delays.list c.args.ready.levels c.entries.left c.entries.invariant.b c.entries.invariant.m,
  (c.take_events.ensures.came c.entries.invariant.b c.entries.invariant.m c.entries.invariant.counted.at).behind,
)

pub pass_to_next-requires-clause-size : goal.pass_to_next-requires-clause-size
pass_to_next-requires-clause-size g c = ap (λ (x : Account). length x.words.items) c.take_events.ensures.rest ∙ c.entries.invariant.size

pub step-requires : goal.step-requires
step-requires g c =
    let h = c.entries.invariant in
    let turn = turning h.counted c.take_events.ensures.rest (c.take_events.ensures.came h.b h.m h.counted.at) in
    let going = over-is turn _ c.is_over.ensures ∙ c.if-is_over.false in
    (c.in_ok-pass_to_next.ensures.next _ turn.came.behind going refl).ready

pub add_charges-requires : goal.add_charges-requires
add_charges-requires g c =
    let h = c.entries.invariant in
    let turn = turning h.counted c.take_events.ensures.rest (c.take_events.ensures.came h.b h.m h.counted.at) in
    let going = over-is turn _ c.is_over.ensures ∙ c.if-is_over.false in
    within-next turn going c.pass_to_next.new.account
    (c.in_ok-pass_to_next.ensures.next _ turn.came.behind going refl) _ _ h.adding c.step.new.self c.step.ensures.stepped c.step.ensures.sums c.step.ensures.completes

-- ---- the end

pub returns-then-is_over-clause-lines : goal.returns-then-is_over-clause-lines
returns-then-is_over-clause-lines g c =
    let h = c.entries.invariant in
    let turn = turning h.counted c.take_events.ensures.rest (c.take_events.ensures.came h.b h.m h.counted.at) in
    let end = over-is turn _ c.is_over.ensures ∙ c.if-is_over.true in
    finishes turn _ _ _ c.entries.until c.entries.start h.so_far
    _ c.finish_run-written.result end (c.finish_run-written.ensures.lines _ turn.came.behind end)

pub returns-then-is_over-clause-totals : goal.returns-then-is_over-clause-totals
returns-then-is_over-clause-totals g c good =
    let h = c.entries.invariant in
    let turn = turning h.counted c.take_events.ensures.rest (c.take_events.ensures.came h.b h.m h.counted.at) in
    let end = over-is turn _ c.is_over.ensures ∙ c.if-is_over.true in
    record {
      charged = λ s. ap (sum_at s) c.finish_run-written.ensures.sums ∙ sums-are turn end _ _ h.adding s;
      waited = waits-are turn end _ _ h.adding _ (c.finish_run-written.ensures.waits good);
    }

-- ---- the run continues

pub returns-in_err-pass_to_next-clause-lines : goal.returns-in_err-pass_to_next-clause-lines
returns-in_err-pass_to_next-clause-lines g c =
    let h = c.entries.invariant in
    let turn = turning h.counted c.take_events.ensures.rest (c.take_events.ensures.came h.b h.m h.counted.at) in
    let going = over-is turn _ c.is_over.ensures ∙ c.if-is_over.false in
    crossing-fails turn _ _ _ c.entries.until c.entries.start h.so_far
    going _ _ c.from_residual.result c.from_residual.ensures.0 (c.in_err-pass_to_next.ensures.lines _ turn.came.behind going)

pub entries-preserved : goal.entries-preserved
entries-preserved g c =
    let h = c.entries.invariant in
    let turn = turning h.counted c.take_events.ensures.rest (c.take_events.ensures.came h.b h.m h.counted.at) in
    let going = over-is turn _ c.is_over.ensures ∙ c.if-is_over.false in
    let moved = c.in_ok-pass_to_next.ensures.next _ turn.came.behind going refl in
    let sums = c.add_charges.new.sums in
    let stepped = stepped-with c.pass_to_next.new.account c.step.new.self sums c.step.ensures.stepped in
    goes turn _ _ _ c.entries.until c.entries.start h.so_far
    going c.pass_to_next.new.account moved _ _ (record c.step.new.self { sums = sums }) c.pass_to_next.new.start c.saturating_sub-until.result
    c.saturating_sub-until.ensures (c.in_ok-pass_to_next.ensures.lines _ turn.came.behind going) (c.in_ok-pass_to_next.ensures.start _ turn.came.behind going)
    (c.step.ensures.lines refl) stepped (λ q is. completes-with _ _ q _ _ sums (c.step.ensures.completes q is)) (c.in_ok-pass_to_next.ensures.size refl) _ _
    (counts turn going c.pass_to_next.new.account moved (record c.step.new.self { sums = sums })
    (λ long. c.in_ok-pass_to_next.ensures.words refl) (delays-are c.args.ready.delays) c.requires.levels.1 stepped
    (λ q is. completes-with _ _ q _ _ sums (c.step.ensures.completes q is)))
    (adds turn going c.pass_to_next.new.account moved _ _ h.adding c.step.new.self
    c.step.ensures.stepped c.step.ensures.sums c.step.ensures.completes (c.in_ok-pass_to_next.ensures.waits refl) sums c.add_charges.ensures.within c.add_charges.ensures.sums)
