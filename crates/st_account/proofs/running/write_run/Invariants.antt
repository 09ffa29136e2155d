use Rattle.st_account.proofs.Common.{moment_at_start, ticks_for, entries_from, all_charges, origin_at, at_hand, stalled_from, lines_until}
use Rattle.std.specs.Prelude.{[]}
use Rattle.st_account.proofs.RoundLemmas.{IsRunning}
use Rattle.st_account.proofs.running.write_run.Given as goal

abbrev pub invariant-entries : goal.invariant-entries
invariant-entries g l =
    let c = moment_at_start (at_hand l.fn.ready.state l.controls.signals l.fn.ready.cards) in
    IsRunning (g.K.Sink.output l.fn.out) (g.K.Sink.output l.out) (lines_until l.fn.until (origin_at l.fn.ready.origins) l.fn.ready.delays.list l.fn.ready.levels l.budget 0 l.fn.ready.state [] [] c)
    l.fn.ready.delays.list l.fn.ready.levels
    (λ x. ticks_for x (all_charges l.fn.ready.delays.list l.fn.ready.levels (entries_from l.fn.ready.delays.list l.fn.ready.levels l.budget c)))
    (λ r s. stalled_from r s l.fn.ready.delays.list l.fn.ready.levels l.budget [] c)
    l.account l.pending l.left l.until l.start

abbrev pub decreases-entries : goal.decreases-entries
decreases-entries g l = l.left
