-- Laws of the number of instructions of a run, and of the distance between completions.
--
-- Proved: each law has its lemma in proofs/RunLaws.antt, with its name in small letters.
-- Claimed: docs/CLAIMS.md names CompletionsAreNear, RunsKeepTheirBudget.
-- Change: docs/promises.txt lists each law, and the gate compares the list with the laws.
use Rattle.std.specs.Prelude.{ℕ, ◌+◌, ◌*◌, ◌≤◌, List, [], ◌∷◌, All, ⊤}
use Rattle.st_rows.specs.Ranges.{AreDelaysUpTo}
use Rattle.st_run.specs.Run.{Scene, run}
use Rattle.st_run.specs.Events.{Timed}
use Rattle.st_run.specs.Moments.{Moment}
use Rattle.st_run.specs.Scenes.{IsScene}
use Rattle.st_run.specs.TimedRun.{timed_from, timed_run}

-- A run completes at most as many instructions as its budget allows. This holds for the plain run
-- and the timed run, from the start and from each moment.
pub record RunsKeepTheirBudget : Type 0 where
  pub plain : (left : ℕ) (c : Scene) → (run left c).scene.machine.done ≤ c.machine.done + left
  pub whole : (ds snaps : List ℕ) (n left : ℕ) (c : Scene) →
      All (λ (x : Timed). x.done ≤ c.machine.done + left) (timed_run ds n left c snaps)
  pub from : (ds snaps : List ℕ) (n left : ℕ) (m : Moment) →
      All (λ (x : Timed). x.done ≤ m.scene.machine.done + left) (timed_from ds n left m snaps)

-- from the tick t, the last completion at each event is at most b ticks later than that at the
-- previous event
unfoldable pub AreNear : ℕ → ℕ → List Timed → Type 0
AreNear b t [] = ⊤
AreNear b t (x ∷ xs) = (x.tick ≤ t + b) × AreNear b x.tick xs

-- A completion is at most 64 times (the longest delay plus four) ticks after the previous one, and
-- the first one at most as many ticks after the start.
abbrev pub CompletionsAreNear : Type 0
CompletionsAreNear = (ds snaps : List ℕ) (most n left : ℕ) (c : Scene) → AreDelaysUpTo most ds → n
    ≤ 8 → IsScene c →
    AreNear (64 * (most + 4)) 0 (timed_run ds n left c snaps)
