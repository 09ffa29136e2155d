-- The law of hazard-free runs.
--
-- Proved: each law has its lemma in proofs/Laws.antt, with its name in small letters.
-- Claimed: docs/CLAIMS.md names MoreLevelsAreNoSlower.
-- Change: docs/promises.txt lists each law, and the gate compares the list with the laws.
use Rattle.std.specs.Prelude.{◌≡◌, ℕ, ◌≤◌, true, List, length}
use Rattle.st_run.specs.Run.{Scene}
use Rattle.st_sweep.specs.HazardFree.{is_hazard_free}
use Rattle.st_sweep.specs.Sweep.{ticks}

-- A hazard-free run with more levels takes at most as many ticks.
abbrev pub MoreLevelsAreNoSlower : Type 0
MoreLevelsAreNoSlower = (ds : List ℕ) (m n left : ℕ) (c : Scene) → 1 ≤ length ds → n ≤ m →
    is_hazard_free ds left c ≡ true → ticks ds m left c ≤ ticks ds n left c
