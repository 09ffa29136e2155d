-- The sequence of states of a run.
--
-- Proved: no `ensures` clause names a definition of this file.
-- Read by: definitions in Beside.
-- Laws: none names a definition of this file itself.
-- Change: no page fixes these definitions, since no contract of a program unfolds to them; they
-- change together with the clauses, definitions and laws that name them. docs/running.md describes
-- the subject.
use Rattle.std.specs.Prelude.{ℕ, List, [], ◌∷◌, ◌++◌, map}
use Rattle.st_state.specs.Machine.{Machine}
use Rattle.st_run.specs.Run.{Scene, state_next, scenes}

-- the states of a run from a scene, each before its step and after the transition that precedes it,
-- up to the last state
unfoldable pub states : ℕ → Scene → List Machine
states left c = map state_next (scenes left c).before ++ state_next (scenes left c).last ∷ []
