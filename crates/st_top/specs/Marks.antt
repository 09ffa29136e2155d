-- The lines that the delays of storage can change: in a report those of the timetable, in a listing
-- those of the cards after END, in an object text and a deck those of the delays. No other line
-- depends on the delays.
--
-- Proved: no `ensures` clause names a definition of this file.
-- Read by: definitions in Delays.
-- Laws: DelaysChangeNothingButTheTimetable (specs/DelayLaws.antt), JobsThatDifferInDelaysAlone
-- (specs/DelayLaws.antt), MarksAreTheReport (specs/DelayLaws.antt).
-- Change: the meaning is fixed by docs/running.md, since the contract of `st_top::stretch` unfolds
-- to a definition here. The form is free, with the proofs that unfold it.
use Rattle.std.specs.Prelude.{ℕ, Bool, true, false, if◌then◌else◌, nat_le, List, [], ◌∷◌, ◌++◌, length, map, filter, not, drop, Result, Ok, Err}
use Rattle.std.specs.List.{flat_map}
use Rattle.st_bits.specs.declared.limits.TheConstants.{MOST_CARDS}
use Rattle.st_text.specs.Bytes.{lf}
use Rattle.st_card.specs.Cards.{cards_of, text_in}
use Rattle.st_card.specs.Controls.{Asked}
use Rattle.st_card.specs.Written.{control_line, requests}
use Rattle.st_card.specs.declared.keywords.Number.TheVariants.{Delays}
use Rattle.st_card.specs.declared.keywords.Control.{Control}
use Rattle.st_card.specs.declared.keywords.Control.TheVariants.{Number}
use Rattle.st_card.specs.declared.keywords.ControlForm.TheVariants as forms
use Rattle.st_card.specs.declared.cards.Card.{Card}
use Rattle.st_asm.specs.Pass.{Refusal}
use Rattle.st_asm.specs.Assembly.{Assembly, assembly}
use Rattle.st_exch.specs.Reader.{has_statement, behind_statements}
use Rattle.st_run.specs.Run.{Scene}
use Rattle.st_io.specs.Event.{lines_of}
use Rattle.st_object.specs.DelayLines.{is_delay_line}
use Rattle.st_object.specs.Lines.{line_text}
use Rattle.st_object.specs.Object.{Program, object_lines}
use Rattle.st_dis.specs.Deck.{word_cards, statement_card, end_text, card_count}
use Rattle.st_run.specs.ReportedEvents.{TimedReportedEvent, reported_events}
use Rattle.st_top.specs.Listing.{rows_lines, symbols_lines}
use Rattle.st_top.specs.ObjectText.{program_in}
use Rattle.st_top.specs.Output.{output_of, refusal_output, scene_of_assembly, loaded_by, loaded_start, deck_by}
use Rattle.st_telling.specs.Report.{Part, fixed, varying, joined, parts_at}
use Rattle.st_top.specs.StepsBack.{events_of_run, states_of_run, last_state, lines_of_steps_back}
use Rattle.st_top.specs.declared.command.Command.{Command}
use Rattle.st_top.specs.declared.command.Command.TheVariants.{Run, Assemble, Load, Disassemble}

-- the lines that do not depend on the delays
unfoldable pub lines_unmarked : List Part → List (List ℕ)
lines_unmarked parts = joined (filter (λ p. not p.varies) parts)

-- ---- a run

-- the report of a list of events
unfoldable pub marked_report : Asked → List TimedReportedEvent → List Part
marked_report asked ts = flat_map (λ t. parts_at asked t.done t.tick t.event) ts

-- the report of a run, with the requested state before its end
unfoldable pub marked_run : Asked → Scene → List Part
marked_run asked start = marked_report asked (reported_events (events_of_run asked start))
    ++ fixed (lines_of_steps_back asked (states_of_run asked start) (last_state asked start))

-- ---- a listing

-- the cards up to END, which is the last statement card
unfoldable pub up_to_end : List Card → List Card
up_to_end [] = []
up_to_end (card ∷ cards) = if has_statement (card ∷ cards) then card ∷ up_to_end cards else []

-- the texts of the cards of a job up to END
abbrev pub texts_up_to_end : List ℕ → List (List ℕ)
texts_up_to_end job = map (text_in job) (up_to_end (cards_of job))

-- the number of cards of a job up to END
abbrev pub end_card : List ℕ → ℕ
end_card job = length (up_to_end (cards_of job))

-- the lines of a listing: those of the cards after END can change, since delay cards are among them
abbrev pub listed_lines : List ℕ → Assembly → List Part
listed_lines job a = fixed (rows_lines job a.rows (up_to_end (cards_of job)))
    ++ varying (rows_lines job (drop (end_card job) a.rows) (behind_statements (cards_of job)))
    ++ fixed (symbols_lines a.symbols)

-- the listing of a job, if it is requested
unfoldable pub marked_listing : List ℕ → Assembly → List Part
marked_listing job a = if a.asked.list then listed_lines job a else []

-- ---- an object text, and a deck

-- the object text of a program: its delay lines can change
abbrev pub marked_object : Program → List Part
marked_object p = map (λ text. record { lines = (text ++ lf) ∷ []; varies = is_delay_line text })
    (map line_text (object_lines p))

-- whether a request is a delay
abbrev pub is_delay : Control → Bool
is_delay (Number Delays n) = true
is_delay _ = false

-- the control cards of a deck: the delay cards can change
abbrev pub marked_cards : Asked → List Part
marked_cards a =
    map (λ c. record { lines = (control_line forms.Card c ++ lf) ∷ []; varies = is_delay c })
    (requests a)

-- the deck of a program
abbrev pub marked_deck : Program → List Part
marked_deck p = fixed (map (λ card. card ++ lf)
    (word_cards 0 0 p.words ++ statement_card (end_text p.start) ∷ [])) ++ marked_cards p.controls

-- ---- a job

-- the output of `run`, given the assembly of a job or its refusal
abbrev pub marked_by : List ℕ → Result Assembly Refusal → List Part
marked_by job (Ok a) = marked_listing job a ++ marked_run a.asked (scene_of_assembly job a)
marked_by job (Err r) = fixed (lines_of (refusal_output r).events)

-- the output of `load`, given the reading of an object text
abbrev pub marked_load : Result Program ℕ → List Part
marked_load (Ok p) = marked_run p.controls (loaded_start p)
marked_load (Err n) = fixed (lines_of (loaded_by (Err n)).events)

-- the output of `assemble`, given the assembly of a job or its refusal
abbrev pub marked_assembled : Result Assembly Refusal → List Part
marked_assembled (Ok a) = marked_object (program_in a)
marked_assembled (Err r) = fixed (lines_of (refusal_output r).events)

-- the output of `disassemble`; a deck of too many cards may have fewer with other delays
abbrev pub marked_disassembled : Result Program ℕ → List Part
marked_disassembled (Ok p) = if nat_le (card_count p) MOST_CARDS then marked_deck p
    else varying (lines_of (deck_by p).events)
marked_disassembled (Err n) = fixed (lines_of (loaded_by (Err n)).events)

-- the output of a command for a job and its reading; all lines of `sweep` and `soak` can change
unfoldable pub marked_output : Command → List ℕ → Result Program ℕ → List Part
marked_output Run job read = marked_by job (assembly job)
marked_output Load text read = marked_load read
marked_output Assemble job read = marked_assembled (assembly job)
marked_output Disassemble text read = marked_disassembled read
marked_output command job read = varying (lines_of (output_of command job read).events)
