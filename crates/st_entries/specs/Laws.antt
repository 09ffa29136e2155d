-- Laws of the entries of every report, and of every log of entries.
--
-- Proved: each law has its lemma in proofs/Laws.antt, with its name in small letters.
-- Claimed: docs/CLAIMS.md names LabelsStayInTheirLines, LogsGoForward, OneExecutesAtATick.
-- Change: docs/promises.txt lists each law, and the gate compares the list with the laws.
use Rattle.std.specs.Prelude.{◌≡◌, ◌≤◌, ℕ, List, true}
use Rattle.st_text.specs.Bytes.{is_printable}
use Rattle.st_text.specs.Pieces.{pieces_of}
use Rattle.st_entries.specs.Completions.{CompletionsRise}
use Rattle.st_entries.specs.Moments.{GoForward, happenings}
use Rattle.st_entries.specs.Phases.{executing_at}
use Rattle.st_entries.specs.Plain.{plain_text}
use Rattle.st_entries.specs.Timetable.{timetable}
use Rattle.st_entries.specs.declared.timetable.DrawnEntry.{DrawnEntry}
use Rattle.st_entries.specs.declared.timetable.RowRange.{RowRange}

-- if the completions of the rows rise, as in every report, then in each part that is drawn at most
-- one row executes at a tick
abbrev pub OneExecutesAtATick : Type 0
OneExecutesAtATick = (part : RowRange) (report : List ℕ) (tick : ℕ) →
    CompletionsRise 0 (pieces_of 10 report)
    → executing_at tick (timetable part report).entries ≤ 1

-- the events in a log are in the order of ticks
abbrev pub LogsGoForward : Type 0
LogsGoForward = (es : List DrawnEntry) → GoForward 0 (happenings es)

-- the label of an entry in a log is printable, and therefore stays in its line
abbrev pub LabelsStayInTheirLines : Type 0
LabelsStayInTheirLines = (text : List ℕ) → is_printable (plain_text text) ≡ true
