-- The decision between two entries in terms of the moment.
--
-- Proved: by their `ensures` clauses these calls do what definitions here say: `pass_on`
-- (leaving.rt), `leave` (leaving.rt).
-- Laws: none names a definition of this file itself.
-- Change: no page fixes these definitions, since no contract of a program unfolds to them; they
-- change together with the clauses, definitions and laws that name them. docs/machine.md describes
-- the subject.
use Rattle.std.specs.Prelude.{ℕ, ◌≡◌, ◌+◌, false, [], None, option_map}
use Rattle.st_exec.specs.Step.{interrupt}
use Rattle.st_ahead.specs.Overlap.{levels_of}
use Rattle.st_run.specs.Run.{interlude}
use Rattle.st_run.specs.Moments.{Moment, next_scene, next_state, ends_segment, standing_at}
use Rattle.st_run.specs.Together.{Together, AreTexts, IsBeforeEntry, scene_of, standing_of}
use Rattle.st_run.specs.Between.{IsDecidedBy}
use Rattle.st_run.specs.declared.run_phase.RunPhase.TheVariants.{Before}
use Rattle.st_run.specs.declared.leaving.Decided.{Decided}

-- the run continues with the next entry
pub record RunGoesOn (m : Moment) (d : Decided) (t : Together) : Type 0 where
  pub before : IsBeforeEntry t
  pub standing : standing_of m.tick t ≡ standing_at m
  pub ends : d.ends ≡ ends_segment m
  pub taken : d.taken ≡ interrupt (next_state m)
  pub now : t.machine.now ≡ m.tick + 1

-- the decision agrees with the moment: the printed text, and whether and how the run continues
pub record IsDecided (left : ℕ) (m : Moment) (d : Decided) (t : Together) : Type 0 where
  pub text : AreTexts (option_map (λ x. x.bytes) d.text) (interlude m.scene).happened
  pub way : IsDecidedBy d.turn left (next_state m) d (RunGoesOn m d t)
      ((scene_of t ≡ next_scene m) × (levels_of t.machine ≡ []))

-- the decision if nothing occurs and the segment continues
abbrev pub nothing_decided : Decided
nothing_decided = record { ends = false; text = None; taken = None; turn = Before }
