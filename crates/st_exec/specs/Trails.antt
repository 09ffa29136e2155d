-- The record of a state before a step, from which the step can be undone.
--
-- Proved: by their `ensures` clauses these calls do what definitions here say: `trail_of`
-- (kept.rt), `one_kept` (kept.rt).
-- Read by: definitions in Steps of st_back.
-- Laws: none names a definition of this file itself.
-- Change: no page fixes these definitions, since no contract of a program unfolds to them; they
-- change together with the clauses, definitions and laws that name them. docs/machine.md describes
-- the subject.
use Rattle.std.specs.Prelude.{ℕ, ◌≡◌, ◌<◌, ◌^◌, slice_index}
use Rattle.st_state.specs.Machine.{Machine, IsMachine, HasArea, word}
use Rattle.st_prep.specs.Fetch.{place_of}
use Rattle.st_prep.specs.Plan.{needs, decode_context, plan}
use Rattle.st_prep.specs.Ranges.{IsRuns, AreInside}
use Rattle.st_exec.specs.Operand.{AreOperands}
use Rattle.st_exec.specs.Step.{interrupt}
use Rattle.st_exec.specs.declared.kept.Trail.{Trail}
use Rattle.st_exec.specs.declared.step.Step.{Step}
use Rattle.st_exec.specs.declared.step.Step.TheVariants.{Plain, Interrupt, Waits}

-- trail t records state s: the contents of the words that it names, the registers, and everything
-- outside storage
pub record TrailKeeps (s : Machine) (t : Trail) : Type 0 where
  pub machine : IsMachine s
  pub before : AreOperands t.writes t.before s
  pub registers : (w : ℕ) → w < 32 → slice_index t.registers w ≡ word s w
  pub done : t.done ≡ s.done
  pub ic : t.ic ≡ s.ic
  pub enabled : t.enabled ≡ s.enabled
  pub waiting : t.waiting ≡ s.waiting
  pub reader : t.reader ≡ s.reader
  pub printer : t.printer ≡ s.printer

-- trail t records state s and the words that the next step of s reads and writes
pub record IsTrail (s : Machine) (t : Trail) : Type 0 where
  pub keeps : TrailKeeps s t
  pub index_read : t.index_read ≡ (needs (decode_context s (place_of s (interrupt s)))).index_read
  pub reads : t.reads ≡ (plan s (interrupt s)).reads
  pub writes : t.writes ≡ (plan s (interrupt s)).writes

-- a trail that can be restored: its words lie in storage, its counter is in range, and the areas of
-- its orders lie in storage
pub record CanBePutBack (t : Trail) : Type 0 where
  pub runs : IsRuns t.writes
  pub inside : AreInside t.writes
  pub counter : t.ic < 2 ^ 19
  pub reader_area : HasArea t.reader
  pub printer_area : HasArea t.printer

-- the meaning of each result of a call of `one_kept` for the trail
abbrev pub IsKeptStep : Machine → Trail → Trail → Step → Type 0
IsKeptStep s old new Waits = new ≡ old
IsKeptStep s old new Plain = IsTrail s new × CanBePutBack new
IsKeptStep s old new (Interrupt i) = IsTrail s new × CanBePutBack new
