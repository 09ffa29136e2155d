use Rattle.st_account.proofs.Common.{moment_at_start, origin_at, at_hand, end_from, tallied_of, dropped_of}
use Rattle.std.specs.Prelude.{length}
use Rattle.st_account.proofs.TallyLoop.{IsTallying}
use Rattle.st_account.proofs.running.add_run.Given as goal

abbrev pub invariant-entries : goal.invariant-entries
invariant-entries g l =
    let scene = at_hand l.fn.ready.state l.controls.signals l.fn.ready.cards in
    let c = moment_at_start scene in
    IsTallying (g.K.Sink.output l.fn.out) (g.K.Sink.output l.out) (end_from l.fn.ready.delays.list l.fn.ready.levels l.controls.budget c)
    (origin_at l.fn.ready.origins) l.fn.ready.delays.list l.fn.ready.levels
    (tallied_of (origin_at l.fn.ready.origins) l.fn.ready.delays.list l.fn.ready.levels l.controls.budget scene)
    (dropped_of l.fn.ready.delays.list l.fn.ready.levels l.controls.budget scene)
    (length l.fn.tally.tables.cards.items) l.account l.tally l.pending l.left

abbrev pub decreases-entries : goal.decreases-entries
decreases-entries g l = l.left
