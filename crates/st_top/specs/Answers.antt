-- The answers of the program: when each is returned, and what was read and written.
--
-- Proved: by their `ensures` clauses these calls do what definitions here say: `execute`
-- (execution.rt), `execute_loaded` (execution.rt), `answer_made` (program.rt), `execute_sweep`
-- (sweeping.rt), and others.
-- Read by: definitions in Layers.
-- Laws: none names a definition of this file itself.
-- Change: the meaning is fixed by docs/running.md, since the contract of `st_top::stretch` unfolds
-- to a definition here. The form is free, with the proofs that unfold it.
use Rattle.std.specs.Prelude.{◌≡◌, ℕ, ◌+◌, ◌*◌, ◌≤◌, List, All, Option, None, Some, Result}
use Rattle.st_bits.specs.declared.limits.TheConstants.{LONGEST_JOB}
use Rattle.st_io.specs.Count.{HasRisen}
use Rattle.st_io.specs.Input.{InputState, CameWhole, CameWithin, CamePast}
use Rattle.st_io.specs.Output.{OutputState, Wrote}
use Rattle.st_io.specs.Lines.{text}
use Rattle.st_io.specs.Event.{lines_of, StoppedAt}
use Rattle.st_object.specs.Object.{Program, IsReading}
use Rattle.st_top.specs.Output.{Output, output_of, soak_output}
use Rattle.st_top.specs.declared.answer.Answer.{Answer}
use Rattle.st_top.specs.declared.answer.Status.{Status}
use Rattle.st_top.specs.declared.answer.Status.TheVariants.{Done, Refused, Usage, JobTooLong, ReadFault, WriteFault, NoMemory}
use Rattle.st_top.specs.declared.command.Command.{Command}
use Rattle.st_top.specs.declared.command.Command.TheVariants.{Soak}

-- the answer of a call without a run
pub record NothingRan (answer : Answer) : Type 0 where
  pub none_done : answer.done ≡ 0
  pub no_ticks : answer.ticks ≡ 0

-- the whole output was written
pub record WroteAll (before after : OutputState) (output : Output) (answer : Answer) : Type 0 where
  pub status : answer.status ≡ output.status
  pub wrote : Wrote before after (text (lines_of output.events))
  pub done : answer.done ≡ output.done
  pub ticks : answer.ticks ≡ output.ticks

-- what is written of an output, by the status: all, the part up to a failed write, or nothing
abbrev pub Writes : Status → OutputState → OutputState → Output → Answer → Type 0
Writes Done before after output answer = WroteAll before after output answer
Writes Refused before after output answer = WroteAll before after output answer
Writes WriteFault before after o answer = StoppedAt before after o.events answer.done answer.ticks
Writes NoMemory before after output answer = (after ≡ before) × NothingRan answer
Writes _ before after output answer = ⊥

-- if no delay exceeds most, at most 64 · (most + 4) ticks for each completion and for one more
abbrev pub KeepsTime : List ℕ → Answer → Type 0
KeepsTime delays answer = (most : ℕ) → All (λ delay. delay ≤ most) delays
    → answer.ticks ≤ 64 * (most + 4) * (answer.done + 1)

-- a job was read whole, and its output, by its reading as an object text, written in bounded ticks
pub record WroteOutput (command : Command) (status : Status) (input input' : InputState)
    (before after : OutputState) (answer : Answer) : Type 0 where
  pub job : List ℕ
  pub came : CameWhole input input' LONGEST_JOB job
  pub read : Result Program ℕ
  pub reading : IsReading job read
  pub written : Writes status before after (output_of command job read) answer
  pub in_time : KeepsTime (output_of command job read).delays answer

-- the effect of a command that reads a job on its source i and its sink o, by the status
abbrev pub Did : Command → Status → InputState → InputState → OutputState → OutputState → Answer →
    Type 0
Did command JobTooLong i i' o o' answer =
    CamePast i i' LONGEST_JOB × (i'.faults ≡ i.faults) × (o' ≡ o) × NothingRan answer
Did command ReadFault i i' o o' answer =
    CameWithin i i' LONGEST_JOB × HasRisen i.faults i'.faults × (o' ≡ o) × NothingRan answer
Did command NoMemory i i' o o' answer =
    CameWithin i i' LONGEST_JOB × (i'.faults ≡ i.faults) × (o' ≡ o) × NothingRan answer
Did command Usage i i' o o' answer = ⊥
Did command status i i' o o' answer = WroteOutput command status i i' o o' answer

-- the statuses of a call whose words are no valid command: a bad command line, or out of memory
abbrev pub IsWordRefusal : Status → Type 0
IsWordRefusal Usage = Unit {0}
IsWordRefusal NoMemory = Unit {0}
IsWordRefusal _ = ⊥

-- the effect of a command, by the status: `soak` reads no job, and every other command reads one
abbrev pub Acted : Command → Status → InputState → InputState → OutputState → OutputState → Answer →
    Type 0
Acted (Soak number cards) status i i' o o' answer = let output = soak_output number cards in
    (i' ≡ i) × Writes status o o' output answer × KeepsTime output.delays answer
Acted command status i i' o o' answer = Did command status i i' o o' answer

-- the effect of a call on its source i and its sink o: without a valid command, none
abbrev pub IsAnswer : Option Command → InputState → InputState → OutputState → OutputState →
    Answer → Type 0
IsAnswer None i i' o o' answer =
    IsWordRefusal answer.status × (i' ≡ i) × (o' ≡ o) × NothingRan answer
IsAnswer (Some command) i i' o o' answer = Acted command answer.status i i' o o' answer
