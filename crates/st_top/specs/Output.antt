-- The output of the program for a command and a job.
--
-- Proved: by their `ensures` clauses these calls do what definitions here say: `answer_loaded`
-- (execution.rt), `answer_run` (execution.rt), `beside` (execution.rt), `execute` (execution.rt),
-- and others.
-- Read by: definitions in Marks, Answers, Layers, Delays.
-- Laws: none names a definition of this file itself.
-- Change: the meaning is fixed by docs/running.md, since the contract of `st_top::stretch` unfolds
-- to a definition here. The form is free, with the proofs that unfold it.
use Rattle.std.specs.Prelude.{ℕ, ◌+◌, slice_index, List, [], ◌∷◌, ◌++◌, nat_le, if◌then◌else◌, Result, Ok, Err}
use Rattle.st_bits.specs.declared.limits.TheConstants.{MOST_CARDS}
use Rattle.st_card.specs.Controls.{Asked}
use Rattle.st_card.specs.Faults.{name_of}
use Rattle.st_asm.specs.Pass.{Refusal}
use Rattle.st_asm.specs.Assembly.{Assembly, assembly}
use Rattle.st_state.specs.Machine.{opening_state}
use Rattle.st_exch.specs.Reader.{reader_cards}
use Rattle.st_run.specs.Run.{Scene}
use Rattle.st_io.specs.Event.{Event, at_moment}
use Rattle.st_report.specs.Line.{fault_line, soak_line}
use Rattle.st_top.specs.Listing.{listing}
use Rattle.st_top.specs.StepsBack.{moment_at_end, run_report}
use Rattle.st_top.specs.Sweep.{sweep_lines, sweep_of}
use Rattle.st_top.specs.ObjectText.{program_in, object_text_lines, deck_lines}
use Rattle.st_object.specs.Object.{Program}
use Rattle.st_dis.specs.Deck.{card_count}
use Rattle.st_gen.specs.Deck.{made_deck}
use Rattle.st_sweep.specs.Sweep.{without_cards}
use Rattle.st_sweep.specs.declared.sweeping.Swept.{Swept}
use Rattle.st_card.specs.declared.faults.Fault.TheVariants.{TooManyCards, BadObjectCard}
use Rattle.st_top.specs.declared.answer.Status.{Status}
use Rattle.st_top.specs.declared.answer.Status.TheVariants.{Done, Refused}
use Rattle.st_top.specs.declared.command.Command.{Command}
use Rattle.st_top.specs.declared.command.Command.TheVariants.{Run, Assemble, Load, Disassemble, Sweep, Soak}

-- the status, the lines, and of the run, if any, the completed instructions, last tick and delays
pub record Output : Type 0 where
  pub status : Status
  pub events : List Event
  pub done : ℕ
  pub ticks : ℕ
  pub delays : List ℕ

-- an output without a run
abbrev pub lines_alone : Status → List (List ℕ) → Output
lines_alone status lines =
    record { status = status; events = at_moment 0 0 lines; done = 0; ticks = 0; delays = [] }

-- the output of a job that is refused at a card
abbrev pub refusal_output : Refusal → Output
refusal_output r = lines_alone Refused (fault_line r.card (name_of r.fault) ∷ [])

-- the start of a run: the machine, the requested signals, and the cards in the reader of the job
abbrev pub scene_at_start : List ℕ → ℕ → Asked → List ℕ → Scene
scene_at_start image start a job =
    record { machine = opening_state image start; signals = a.signals; cards = reader_cards job }

-- the start of the run of an assembled job
abbrev pub scene_of_assembly : List ℕ → Assembly → Scene
scene_of_assembly job a = scene_at_start a.image a.start a.asked job

-- the output of a run from its start: the listing, followed by the report
abbrev pub output_of_run : List (List ℕ) → Asked → Scene → Output
output_of_run listed asked start = record {
  status = Done;
  events = at_moment 0 0 listed ++ run_report asked start;
  done = (moment_at_end asked start).done;
  ticks = (moment_at_end asked start).tick;
  delays = asked.delays;
}

-- the output of the run of a job, given its assembly or refusal: some lines, the listing, and the report
abbrev pub ran_by : List (List ℕ) → List ℕ → Result Assembly Refusal → Output
ran_by first job (Ok a) = output_of_run (first ++ listing job a) a.asked (scene_of_assembly job a)
ran_by first job (Err r) = refusal_output r

-- the output of `soak`: a line with seed and number of cards, then the output of the generated deck
abbrev pub soak_output : ℕ → ℕ → Output
soak_output number cards = let deck = made_deck number cards in
    ran_by (soak_line number cards ∷ []) deck (assembly deck)

-- the output of a sweep, with the completed instructions and the ticks of the run on eight levels
abbrev pub output_of_sweep : List ℕ → Swept → Output
output_of_sweep delays s = let o = lines_alone Done (sweep_lines s) in
    record o { done = s.done; ticks = slice_index s.ticks 7; delays = delays }

-- the output of `sweep`, given the assembly of a job or its refusal
abbrev pub swept_by : Result Assembly Refusal → Output
swept_by (Ok a) = output_of_sweep a.asked.delays (sweep_of a.image a.start a.asked)
swept_by (Err r) = refusal_output r

-- the output of `assemble`, given the assembly of a job or its refusal: its object text, line by line
abbrev pub assembled_by : Result Assembly Refusal → Output
assembled_by (Ok a) = lines_alone Done (object_text_lines (program_in a))
assembled_by (Err r) = refusal_output r

-- the start of the run of a loaded program; the reader is empty
abbrev pub loaded_start : Program → Scene
loaded_start p = without_cards (opening_state p.words p.start) p.controls.signals

-- the output of `load`, given the program of an object text or the number of its bad line
abbrev pub loaded_by : Result Program ℕ → Output
loaded_by (Ok p) = output_of_run [] p.controls (loaded_start p)
loaded_by (Err n) = refusal_output (record { card = n; fault = BadObjectCard })

-- the deck of a program, line by line, or the refusal of the first card over the limit
abbrev pub deck_by : Program → Output
deck_by p = if nat_le (card_count p) MOST_CARDS then lines_alone Done (deck_lines p)
    else refusal_output (record { card = MOST_CARDS + 1; fault = TooManyCards })

-- the output of `disassemble`, given the program of an object text or the number of its bad line
abbrev pub disassembled_by : Result Program ℕ → Output
disassembled_by (Ok p) = deck_by p
disassembled_by (Err n) = refusal_output (record { card = n; fault = BadObjectCard })

-- the output of a command for a job; `load` and `disassemble` alone use its reading as object text
unfoldable pub output_of : Command → List ℕ → Result Program ℕ → Output
output_of Run job read = ran_by [] job (assembly job)
output_of Assemble job read = assembled_by (assembly job)
output_of Load text read = loaded_by read
output_of Disassemble text read = disassembled_by read
output_of Sweep job read = swept_by (assembly job)
output_of (Soak number cards) job read = soak_output number cards
