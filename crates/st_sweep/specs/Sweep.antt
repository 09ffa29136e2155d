-- A job on machines with one to eight levels.
--
-- Proved: by their `ensures` clauses these calls do what definitions here say: `run_plain`
-- (hazards.rt), `pass_interlude` (interlude.rt), `sweep` (sweeping.rt).
-- Read by: definitions in Starts, SideBySide, Output of st_top, Sweep of st_top.
-- Laws: MoreLevelsAreNoSlower (specs/Laws.antt).
-- Change: the meaning is fixed by docs/timetable.md, since the contract of `st_top::stretch`
-- unfolds to a definition here. The form is free, with the proofs that unfold it.
use Rattle.std.specs.Prelude.{ℕ, List, []}
use Rattle.st_state.specs.Machine.{Machine}
use Rattle.st_card.specs.declared.control_cards.Signal.{Signal}
use Rattle.st_run.specs.Run.{Scene}
use Rattle.st_run.specs.Moments.{moment_at_start, moments}

-- the scene of a state with these signals and without cards
abbrev pub without_cards : Machine → List Signal → Scene
without_cards s xs = record { machine = s; signals = xs; cards = [] }

-- the tick of the last completion of a run with the delays ds and n levels; 0 if there is none
unfoldable pub ticks : List ℕ → ℕ → ℕ → Scene → ℕ
ticks ds n left c = (moments ds n left (moment_at_start c)).last.tick
