-- The result of a sweep.
--
-- Proved: by their `ensures` clauses these calls do what definitions here say: `sweep`
-- (sweeping.rt), `new` (start.rt).
-- Read by: definitions in Sweep of st_top.
-- Laws: none names a definition of this file itself.
-- Change: the meaning is fixed by docs/timetable.md, since the contract of `st_top::stretch`
-- unfolds to a definition here. The form is free, with the proofs that unfold it.
use Rattle.std.specs.Prelude.{ℕ, ◌≤◌, ◌<◌, List, [], ◌∷◌, map, length, slice_index}
use Rattle.st_run.specs.Run.{Scene, state_next, scenes}
use Rattle.st_sweep.specs.HazardFree.{is_hazard_free}
use Rattle.st_sweep.specs.Sweep.{ticks}
use Rattle.st_sweep.specs.Starts.{Start}
use Rattle.st_sweep.specs.declared.start.Four.{Four}
use Rattle.st_sweep.specs.declared.sweeping.Swept.{Swept}

-- the ticks on one to eight levels, the completed instructions, and whether the run is hazard-free
abbrev pub side_by_side : List ℕ → ℕ → Scene → Swept
side_by_side ds left c = record {
  ticks = map (λ n. ticks ds n left c) (1 ∷ 2 ∷ 3 ∷ 4 ∷ 5 ∷ 6 ∷ 7 ∷ 8 ∷ []);
  done = (state_next (scenes left c).last).done;
  hazard_free = is_hazard_free ds left c;
}

-- four copies of a machine
abbrev pub four_of : Start → Four
four_of s = record { first = s; second = s; third = s; fourth = s }

-- the list is non-increasing
abbrev pub AreNotRising : List ℕ → Type 0
AreNotRising xs = (i j : ℕ) → i ≤ j → j < length xs → slice_index xs j ≤ slice_index xs i
