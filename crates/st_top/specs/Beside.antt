-- A second machine that repeats the run of the first by itself, and records its last steps.
--
-- Proved: by their `ensures` clauses these calls do what definitions here say: `run_beside`
-- (beside.rt), `run_to_end` (beside.rt), `beside` (execution.rt), `prepare` (execution.rt), and
-- others.
-- Read by: definitions in BesideLaws.
-- Laws: none names a definition of this file itself.
-- Change: no page fixes these definitions, since no contract of a program unfolds to them; they
-- change together with the clauses, definitions and laws that name them. docs/running.md describes
-- the subject.
use Rattle.std.specs.Prelude.{◌≡◌, ◌≤◌, ℕ, Bool, List, [], ◌∷◌, ◌++◌, length, Option, None, Some, MatchOption}
use Rattle.circular_buffer.specs.Buffer.{keep_last}
use Rattle.st_state.specs.Machine.{Machine}
use Rattle.st_state.specs.declared.devices.Order.{Order}
use Rattle.st_run.specs.Run.{Scene, scene_after_step, run}
use Rattle.st_back.specs.declared.kept.KeptStep.{KeptStep}
use Rattle.st_back.specs.Steps.{Steps, newest_step, states_before}
use Rattle.st_top.specs.States.{states}
use Rattle.st_top.specs.declared.beside.Noted.{Noted}

-- the second machine: its scene, and the recorded steps that can be undone
abbrev pub Beside : Type 0
Beside = Scene × Steps

-- no word was put since the newest step
abbrev pub IsFreshStep : List KeptStep → Type 0
IsFreshStep kept = MatchOption (newest_step kept) ⊥ (λ k. k.puts ≡ 0)

-- a card can be put: if the reader has an order, no word was put since the newest step
abbrev pub HasRoomForCard : Option Order → List KeptStep → Type 0
HasRoomForCard None kept = Unit {0}
HasRoomForCard (Some order) kept = IsFreshStep kept

-- an external event can occur on a machine whose last steps are recorded
pub record IsOpen (n : Noted) : Type 0 where
  pub some : 1 ≤ n.steps.depth
  pub few : n.steps.depth ≤ 64
  pub room : HasRoomForCard n.state.reader n.steps.kept

-- an external event does not change the states that steps back restore
abbrev pub IsKept : Bool → Noted → Noted → Type 0
IsKept over m n =
    (n.steps.depth ≡ m.steps.depth) × (states_before n.steps.kept n.state
    ≡ states_before m.steps.kept m.state)
    × (IsOpen m → IsOpen n)

-- the invariant of the second machine
abbrev pub IsBesideReady : Beside → Type 0
IsBesideReady b = IsOpen (record { state = b.0.machine; steps = b.1 })

-- the second machine at the start, with no instruction completed
pub record IsBesideAtStart (b : Beside) : Type 0 where
  pub fresh : b.0.machine.done ≡ 0
  pub ready : IsBesideReady b

-- the second machine moves to a scene without a step, which does not change the states that steps
-- back restore
pub record IsMoved (old new : Beside) (c : Scene) : Type 0 where
  pub ready : IsBesideReady new
  pub scene : new.0 ≡ c
  pub depth : new.1.depth ≡ old.1.depth
  pub states : states_before new.1.kept new.0.machine ≡ states_before old.1.kept old.0.machine

-- the second machine makes a step, and steps back also restore the state before it, up to the depth
pub record IsStepped (old new : Beside) : Type 0 where
  pub ready : IsBesideReady new
  pub scene : new.0 ≡ scene_after_step old.0
  pub depth : new.1.depth ≡ old.1.depth
  pub states : states_before new.1.kept new.0.machine
      ≡ keep_last old.1.depth (states_before old.1.kept old.0.machine ++ old.0.machine ∷ [])

-- steps back restore the last of the previous states, as many as the depth allows
pub record IsBeside (depth : ℕ) (b : Beside) (before : List Machine) : Type 0 where
  pub some : 1 ≤ depth
  pub ready : IsBesideReady b
  pub deep : b.1.depth ≡ depth
  pub states : states_before b.1.kept b.0.machine ≡ keep_last depth before

-- the second machine has made the whole run
pub record HasMadeRun (depth budget : ℕ) (start : Scene) (b : Beside) : Type 0 where
  pub before : List Machine
  pub all : states budget start ≡ before ++ b.0.machine ∷ []
  pub last : b.0.machine ≡ (run budget start).scene.machine
  pub counted : length before ≡ b.0.machine.done
  pub beside : IsBeside depth b before

-- at the start of a run there is a second machine if and only if steps back are requested
abbrev pub StandsAtStart : ℕ → Scene → Option Beside → Type 0
StandsAtStart back start None = back ≡ 0
StandsAtStart back start (Some b) = IsBeside back b [] × (b.0 ≡ start)

-- at the end of a run there is a second machine if and only if steps back are requested, and it has
-- made the whole run
abbrev pub StandsAtEnd : ℕ → ℕ → Scene → Option Beside → Type 0
StandsAtEnd back budget start None = back ≡ 0
StandsAtEnd back budget start (Some b) = HasMadeRun back budget start b
