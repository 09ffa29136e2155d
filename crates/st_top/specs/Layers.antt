-- The errors of the layers below, for a command that reads a job.
--
-- Proved: by their `ensures` clauses these calls do what definitions here say: `answer_deck`
-- (objects.rt), `assemble_job` (program.rt), `disassemble_text` (program.rt), `load_job`
-- (program.rt), and others.
-- Laws: none names a definition of this file itself.
-- Change: no page fixes these definitions, since no contract of a program unfolds to them; they
-- change together with the clauses, definitions and laws that name them. docs/running.md describes
-- the subject.
use Rattle.std.specs.Prelude.{◌≡◌, ℕ, ◌+◌, List, Result, Ok, Err}
use Rattle.st_bits.specs.declared.limits.TheConstants.{LONGEST_JOB, MOST_CARDS}
use Rattle.st_asm.specs.declared.stop.AsmError.{AsmError}
use Rattle.st_asm.specs.declared.stop.AsmError.TheVariants.{Refused as AsmRefused, NoMemory as AsmNoMemory}
use Rattle.st_object.specs.declared.reading.ObjectError.{ObjectError}
use Rattle.st_object.specs.declared.reading.ObjectError.TheVariants.{Refused as ObjectRefused, NoMemory as ObjectNoMemory}
use Rattle.st_dis.specs.declared.disassembling.DisError.{DisError}
use Rattle.st_dis.specs.declared.disassembling.DisError.TheVariants.{TooManyCards as DeckTooLong, NoMemory as DisNoMemory}
use Rattle.st_card.specs.declared.faults.Fault.TheVariants.{TooManyCards}
use Rattle.st_io.specs.Count.{HasRisen}
use Rattle.st_io.specs.Input.{InputState, CameWhole, CameWithin, CamePast}
use Rattle.st_io.specs.Output.{OutputState}
use Rattle.st_io.specs.declared.source.ReadError.{ReadError}
use Rattle.st_io.specs.declared.source.ReadError.TheVariants.{TooLong as ReadTooLong, Failed, NoMemory as ReadNoMemory}
use Rattle.st_top.specs.Answers.{Writes, KeepsTime}
use Rattle.st_object.specs.Object.{Program, IsReading}
use Rattle.st_top.specs.Output.{Output, output_of, refusal_output}
use Rattle.st_top.specs.declared.answer.Answer.{Answer}
use Rattle.st_top.specs.declared.command.Command.{Command}
use Rattle.st_top.specs.declared.layer_error.LayerError.{LayerError}
use Rattle.st_top.specs.declared.layer_error.LayerError.TheVariants.{Refused, TooLong, Unread, NoMemory}

-- the error of reading a job
abbrev pub of_reading : ReadError → LayerError
of_reading ReadTooLong = TooLong
of_reading Failed = Unread
of_reading ReadNoMemory = NoMemory

-- the assembler's error
abbrev pub of_assembly : AsmError → LayerError
of_assembly (AsmRefused card fault) = Refused card fault
of_assembly AsmNoMemory = NoMemory

-- the error of reading an object text
abbrev pub of_object : ObjectError → LayerError
of_object (ObjectRefused card fault) = Refused card fault
of_object ObjectNoMemory = NoMemory

-- the disassembler's error: the first card that is too many is refused
abbrev pub of_disassembly : DisError → LayerError
of_disassembly (DeckTooLong cards) = Refused (MOST_CARDS + 1) TooManyCards
of_disassembly DisNoMemory = NoMemory

-- the output that an error allows: the line of the refused card, or any output if memory ran
-- out
abbrev pub Halts : Output → LayerError → Type 0
Halts output (Refused card fault) = output ≡ refusal_output (record { card = card; fault = fault })
Halts output NoMemory = Unit {0}
Halts output TooLong = ⊥
Halts output Unread = ⊥

-- the effect of a command on a job that was read: an answer, or an error and nothing written
abbrev pub Ends : OutputState → OutputState → Output → Result Answer LayerError → Type 0
Ends before after output (Ok answer) = Writes answer.status before after output answer
    × KeepsTime output.delays answer
Ends before after output (Err e) = (after ≡ before) × Halts output e

-- a job was read whole, and the command had this effect on it
pub record EndsOnJob (command : Command) (input input' : InputState) (before after : OutputState)
    (result : Result Answer LayerError) : Type 0 where
  pub job : List ℕ
  pub came : CameWhole input input' LONGEST_JOB job
  pub read : Result Program ℕ
  pub reading : IsReading job read
  pub ends : Ends before after (output_of command job read) result

-- the effect of a command that reads a job, by its result
abbrev pub Tries : Command → InputState → InputState → OutputState → OutputState →
    Result Answer LayerError → Type 0
Tries command input input' before after (Ok answer) = EndsOnJob command input input' before after
    (Ok answer)
Tries command input input' before after (Err (Refused card fault)) =
    EndsOnJob command input input' before after (Err (Refused card fault))
Tries command input input' before after (Err TooLong) =
    CamePast input input' LONGEST_JOB × (input'.faults ≡ input.faults) × (after ≡ before)
Tries command input input' before after (Err Unread) =
    CameWithin input input' LONGEST_JOB × HasRisen input.faults input'.faults × (after ≡ before)
Tries command input input' before after (Err NoMemory) =
    CameWithin input input' LONGEST_JOB × (input'.faults ≡ input.faults) × (after ≡ before)
