use Rattle.st_sweep.proofs.Common.{[], AllPass, state_next, scenes, is_hazard_free_behind, without_cards}
use Rattle.st_card.specs.Limits.{is_signal}
use Rattle.st_sweep.proofs.PlainRun.{IsSoFar}
use Rattle.st_sweep.proofs.hazards.run_plain.Given as goal

abbrev pub invariant-entries : goal.invariant-entries
invariant-entries l =
    let c = without_cards l.fn.state l.signals in
    record {
      passes : AllPass is_signal l.rest;
      so_far : IsSoFar (is_hazard_free_behind [] l.budget c) (state_next (scenes l.budget c).last).done l.hazard_free l.left l.state l.rest l.written;
    }

abbrev pub decreases-entries : goal.decreases-entries
decreases-entries l = l.left
