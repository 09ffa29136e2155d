-- The recursion of hazard-freedom along a run.
use Rattle.st_sweep.proofs.Common.{◌&&◌, ◌||◌, ◌≡◌, ℕ, zero, suc, List, ◌∷◌, arith, rests, WordRuns, Scene, interlude, scene_after_step, is_hazard_free_entry, is_hazard_free_interlude, are_hazard_free_entries, next_writes, is_hazard_free_behind}
use Rattle.st_run.specs.Course.{course}

pub hazard_free-none : (earlier : List WordRuns) (c : Scene) → is_hazard_free_behind earlier zero c ≡ is_hazard_free_interlude c
unfolding is_hazard_free_behind course are_hazard_free_entries
hazard_free-none earlier c = grind arith

pub hazard_free-step : (earlier : List WordRuns) (left : ℕ) (c : Scene)
    → let s = (interlude c).scene.machine in
    is_hazard_free_behind earlier (suc left) c
    ≡ (is_hazard_free_interlude c
    && (rests s || is_hazard_free_entry earlier s && is_hazard_free_behind (next_writes s ∷ earlier) left (scene_after_step (interlude c).scene)))
unfolding is_hazard_free_behind course are_hazard_free_entries
hazard_free-step earlier left c = grind arith
