-- Sources and sinks in memory.
--
-- Proved: by their `ensures` clauses these calls do what definitions here say: `read` (mem.rt),
-- `write` (mem.rt), `next_fails` (mem.rt), `new` (sure.rt), and others.
-- Laws: none names a definition of this file itself.
-- Change: no page fixes these definitions, since no contract of a program unfolds to them; they
-- change together with the clauses, definitions and laws that name them. docs/report.md describes
-- the subject.
use Rattle.std.specs.Prelude.{◌≡◌, ℕ, ◌<◌, ◌⊎◌, List, length, Option, Some, Contains}
use Rattle.st_io.specs.Count.{count_after}
use Rattle.st_io.specs.Input.{InputState}
use Rattle.st_io.specs.Output.{OutputState}

-- a source that never fails: the remaining bytes, and the number of bytes read so far
pub record SureInput : Type 0 where
  pub left : List ℕ
  pub taken : ℕ

-- the view of a source that never fails: its count of faults is 0
abbrev pub sure_input : SureInput → InputState
sure_input s = record { left = Some s.left; taken = s.taken; faults = 0 }

-- bytes in memory, and the number of further bytes for which there is room
pub record Reserved : Type 0 where
  pub bytes : List ℕ
  pub room : ℕ

-- a sink that never fails: the written bytes, if they are known, and the number of further bytes
-- for which there is room
pub record SureOutput : Type 0 where
  pub written : Option (List ℕ)
  pub room : ℕ

-- the view of a sink that never fails: its count of faults is 0
abbrev pub sure_output : SureOutput → OutputState
sure_output s = record { written = s.written; faults = 0 }

-- planned failures: the number of calls made so far, and the numbers, from 1, of the calls that
-- fail
pub record CallPlan : Type 0 where
  pub made : ℕ
  pub fails : List ℕ

-- the number of the next call
abbrev pub next_call : CallPlan → ℕ
next_call calls = count_after calls.made 1

-- the next call is planned to fail
abbrev pub IsToFail : CallPlan → Type 0
IsToFail calls = Contains calls.fails (next_call calls)

-- the plan after one more call
abbrev pub after_call : CallPlan → CallPlan
after_call calls = record calls { made = next_call calls }

-- a source with planned failures
pub record MemoryInput : Type 0 where
  pub left : List ℕ
  pub taken : ℕ
  pub faults : ℕ
  pub calls : CallPlan

-- the view of a source with planned failures, whose bytes are known
abbrev pub memory_input : MemoryInput → InputState
memory_input s = record { left = Some s.left; taken = s.taken; faults = s.faults }

-- a sink with planned failures: the written bytes, and the number of further bytes for which there
-- is room
pub record MemoryOutput : Type 0 where
  pub written : List ℕ
  pub room : ℕ
  pub faults : ℕ
  pub calls : CallPlan

-- the view of a sink with planned failures, whose bytes are known
abbrev pub memory_output : MemoryOutput → OutputState
memory_output s = record { written = Some s.written; faults = s.faults }

-- a write fails: its failure is planned, or its piece is nonempty and there is no room
abbrev pub Refuses : MemoryOutput → List ℕ → Type 0
Refuses s piece = IsToFail s.calls ⊎ ((s.room ≡ 0) × (0 < length piece))
