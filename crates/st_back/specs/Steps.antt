-- The recorded steps that can be undone, and how calls change them.
--
-- Proved: by their `ensures` clauses these calls do what definitions here say: `back` (back.rt),
-- `forth` (back.rt), `keep` (back.rt), `new` (back.rt), and others.
-- Read by: definitions in Beside of st_top.
-- Laws: BacksGiveTheStatesBefore (specs/Laws.antt), BackUndoesForth (specs/Laws.antt).
-- Change: no page fixes these definitions, since no contract of a program unfolds to them; they
-- change together with the clauses, definitions and laws that name them. docs/machine.md describes
-- the subject.
use Rattle.std.specs.Prelude.{ℕ, ◌≡◌, ◌-◌, ◌<◌, ◌≤◌, Bool, true, false, nat_le, List, [], ◌∷◌, ◌++◌, length, slice_get, slice_index, All, Option, None, Some, replicate}
use Rattle.circular_buffer.specs.Buffer.{Buffer, keep_last}
use Rattle.st_bits.specs.Storage.{words_of_storage}
use Rattle.st_state.specs.Machine.{Machine, word, state_with_store}
use Rattle.st_exec.specs.Trails.{IsTrail, CanBePutBack}
use Rattle.st_exec.specs.declared.kept.Trail.{Trail}
use Rattle.st_exec.specs.declared.step.Step.{Step}
use Rattle.st_exec.specs.declared.step.Step.TheVariants.{Plain, Interrupt, Waits}
use Rattle.st_back.specs.declared.kept.KeptStep.{KeptStep}
use Rattle.st_back.specs.Undone.{state_undone, step_with_word}

-- the recorded steps, the oldest first, and the depth, which is their greatest number
pub record Steps : Type 0 where
  pub kept : List KeptStep
  pub depth : ℕ

-- no recorded steps, with the given depth
abbrev pub none_of : ℕ → Steps
none_of depth = record { kept = []; depth = depth }

-- the view of the ring buffer
abbrev pub steps : Buffer KeptStep → Steps
steps b = record { kept = b.items; depth = b.capacity }

-- the newest recorded step, None if there is none
abbrev pub newest_step : List KeptStep → Option KeptStep
newest_step ks = slice_get ks (length ks - 1)

-- a valid recorded step: at most eight words were put since, all of them in storage above the
-- registers
pub record IsStepSound (k : KeptStep) : Type 0 where
  pub trail : CanBePutBack k.trail
  pub few : k.puts ≤ 8
  pub eight : length k.places ≡ 8
  pub eight_contents : length k.contents ≡ 8
  pub above : (n : ℕ) → n < k.puts → 32 ≤ slice_index k.places n
  pub inside : (n : ℕ) → n < k.puts → slice_index k.places n < words_of_storage

-- valid recorded steps: the depth is at least one, and each step can be undone
pub record AreStepsSound (b : Steps) : Type 0 where
  pub some : 1 ≤ b.depth
  pub fits : length b.kept ≤ b.depth
  pub each : All IsStepSound b.kept

-- a step from s to t is recorded, and undoing it restores s; a full ring buffer drops the oldest
-- step
pub record IsStepKept (old new : Steps) (s t : Machine) : Type 0 where
  pub last : KeptStep
  pub kept : new.kept ≡ keep_last old.depth (old.kept ++ last ∷ [])
  pub depth : new.depth ≡ old.depth
  pub trail : IsTrail s last.trail
  pub puts : last.puts ≡ 0
  pub before : state_undone last t ≡ s

-- the effect of a call of `forth` on the recorded steps, by its result
abbrev pub IsForth : Steps → Steps → Machine → Machine → Step → Type 0
IsForth old new s t Waits = new ≡ old
IsForth old new s t Plain = IsStepKept old new s t
IsForth old new s t (Interrupt i) = IsStepKept old new s t

-- a recorded step since which no word was put
abbrev pub step_at : Trail → KeptStep
step_at t = record {
  trail = t;
  places = replicate 8 0;
  contents = replicate 8 0;
  puts = 0;
}

-- the recorded steps with one more; the oldest is dropped if there is no room
abbrev pub steps_with : Trail → Steps → Steps
steps_with t b = record b { kept = keep_last b.depth (b.kept ++ step_at t ∷ []) }

-- whether one more word can be put: there is a newest step, and at most seven words were put since
abbrev pub has_room : Option KeptStep → Bool
has_room None = false
has_room (Some k) = nat_le k.puts 7

-- a word is put, and the undoing of the newest step also undoes the put; the other steps are
-- unchanged
pub record IsPut (old new : Steps) (s t : Machine) (w x : ℕ) : Type 0 where
  pub others : List KeptStep
  pub last : KeptStep
  pub was : old.kept ≡ others ++ last ∷ []
  pub is : new.kept ≡ others ++ step_with_word last w (word s w) ∷ []
  pub depth : new.depth ≡ old.depth
  pub state : t ≡ state_with_store s w x
  pub before : state_undone (step_with_word last w (word s w)) t ≡ state_undone last s

-- the newest step is undone and removed
pub record IsUndone (old new : Steps) (s t : Machine) : Type 0 where
  pub last : KeptStep
  pub kept : old.kept ≡ new.kept ++ last ∷ []
  pub depth : new.depth ≡ old.depth
  pub state : t ≡ state_undone last s

-- the effect of a call of `back`, by its result
abbrev pub IsBack : Steps → Steps → Machine → Machine → Bool → Type 0
IsBack old new s t true = IsUndone old new s t
IsBack old new s t false = (old.kept ≡ []) × (new ≡ old) × (t ≡ s)

-- ---- several steps

-- the state after all recorded steps are undone, the last one first
unfoldable pub all_undone : List KeptStep → Machine → Machine
all_undone [] s = s
all_undone (k ∷ ks) s = state_undone k (all_undone ks s)

-- the states that successive calls of `back` restore, in reverse order: the state before the oldest
-- step first
unfoldable pub states_before : List KeptStep → Machine → List Machine
states_before [] s = []
states_before (k ∷ ks) s = all_undone (k ∷ ks) s ∷ states_before ks s
