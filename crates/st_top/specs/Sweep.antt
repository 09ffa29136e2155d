-- The output of a sweep for a job: its ticks on machines of one to eight levels, and whether its
-- run is hazard-free.
--
-- Proved: by their `ensures` clauses these calls do what definitions here say: `sweep_image`
-- (sweeping.rt), `write_levels` (sweeping.rt), `write_sweep` (sweeping.rt).
-- Read by: definitions in Output.
-- Laws: none names a definition of this file itself.
-- Change: the meaning is fixed by docs/running.md, since the contract of `st_top::stretch` unfolds
-- to a definition here. The form is free, with the proofs that unfold it.
use Rattle.std.specs.Prelude.{ℕ, ◌+◌, List, [], ◌∷◌, ◌++◌}
use Rattle.st_card.specs.Controls.{Asked}
use Rattle.st_state.specs.Machine.{opening_state}
use Rattle.st_run.specs.Run.{Scene}
use Rattle.st_report.specs.Line.{levels_line, calm_line}
use Rattle.st_sweep.specs.Sweep.{without_cards}
use Rattle.st_sweep.specs.SideBySide.{side_by_side}
use Rattle.st_sweep.specs.declared.sweeping.Swept.{Swept}

-- the lines of machines with n levels, n + 1 levels and so on, given their ticks
unfoldable pub levels_lines : ℕ → List ℕ → List (List ℕ)
levels_lines n [] = []
levels_lines n (t ∷ ts) = levels_line n t ∷ levels_lines (n + 1) ts

-- the lines of a sweep
abbrev pub sweep_lines : Swept → List (List ℕ)
sweep_lines s = levels_lines 1 s.ticks ++ calm_line s.hazard_free ∷ []

-- the start of the runs of a sweep: the reader is empty
abbrev pub sweep_start : List ℕ → ℕ → Asked → Scene
sweep_start image start asked = without_cards (opening_state image start) asked.signals

-- the result of a sweep of an image from a start, with the requests of control cards
unfoldable pub sweep_of : List ℕ → ℕ → Asked → Swept
sweep_of image start asked = side_by_side asked.delays asked.budget (sweep_start image start asked)
