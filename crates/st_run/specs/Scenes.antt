-- The invariant of scenes. A scene is a point of a run: a machine, with the signals and cards that
-- remain (`Scene` in Run.antt).
--
-- Proved: by their `ensures` clauses these calls do what definitions here say: `prepare`
-- (execution.rt of st_top), `sweep_image` (sweeping.rt of st_top).
-- Read by: definitions in Together.
-- Laws: DroppedEntriesFollowThePrediction (specs/Laws.antt), RunsAreInTime (specs/Laws.antt),
-- ScenesAreKept (specs/Laws.antt), CompletionsAreNear (specs/RunLaws.antt), and others.
-- Change: no page fixes these definitions, since no contract of a program unfolds to them; they
-- change together with the clauses, definitions and laws that name them. docs/machine.md describes
-- the subject.
use Rattle.std.specs.Prelude.{All}
use Rattle.st_state.specs.Machine.{IsMachine}
use Rattle.st_refine.specs.Reached.{IsCard}
use Rattle.st_run.specs.Run.{Scene}

-- a scene whose state and cards are valid
pub record IsScene (c : Scene) : Type 0 where
  pub machine : IsMachine c.machine
  pub cards : All IsCard c.cards
