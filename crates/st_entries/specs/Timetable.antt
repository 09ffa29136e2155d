-- The requested part of the timetable that the lines of a report describe.
--
-- Proved: by their `ensures` clauses these calls do what definitions here say: `push_entry`
-- (timetable.rt), `read_timetable` (timetable.rt), `take_item` (timetable.rt), `take_line`
-- (timetable.rt), and others.
-- Read by: definitions in Answers of st_draw.
-- Laws: OneExecutesAtATick (specs/Laws.antt).
-- Change: the meaning is fixed by docs/chart.md, since the contract of `st_draw::draw` unfolds to a
-- definition here. The form is free, with the proofs that unfold it.
use Rattle.std.specs.Prelude.{ℕ, nat_le, nat_lt, ◌&&◌, Bool, if◌then◌else◌, List, [], ◌∷◌, ◌++◌, reverse, Option, None, Some}
use Rattle.st_text.specs.Pieces.{pieces_of}
use Rattle.st_io.specs.Count.{count_after}
use Rattle.st_entries.specs.Phases.{turn_of}
use Rattle.st_entries.specs.Report.{item}
use Rattle.st_entries.specs.declared.report.TimetableLine.{TimetableLine}
use Rattle.st_entries.specs.declared.report.TimetableLine.TheVariants.{Row, Drop, Interrupt, Snapshot}
use Rattle.st_entries.specs.declared.timetable.DrawnEntry.{DrawnEntry}
use Rattle.st_entries.specs.declared.timetable.DrawnEntry.TheVariants.{Done, Dropped, Taken, Shown}
use Rattle.st_entries.specs.declared.timetable.RowRange.{RowRange}
use Rattle.st_entries.specs.declared.timetable.ReadTimetable.{ReadTimetable}

-- the timetable of the lines read so far: the entries of the part; the dropped entries of its last
-- segment, youngest first; the number and the last tick of the last row; and the number of rows
-- after the part
pub record Timetable : Type 0 where
  pub entries : List DrawnEntry
  pub dropped : List DrawnEntry
  pub row : ℕ
  pub end : ℕ
  pub later : ℕ

-- the timetable before the first line; events before any row belong to the first one
abbrev pub timetable_at_start : Timetable
timetable_at_start = record { entries = []; dropped = []; row = 1; end = 0; later = 0 }

-- whether a row is in a part
abbrev pub is_in_part : RowRange → ℕ → Bool
is_in_part part n = nat_le part.from n && nat_le n part.to

-- the entries with one more entry that belongs to a row, if the row is in the part
abbrev pub entries_with : RowRange → ℕ → DrawnEntry → List DrawnEntry → List DrawnEntry
entries_with part n entry entries = if is_in_part part n then entries ++ entry ∷ [] else entries

-- the timetable with the dropped entries after the others, oldest first
abbrev pub with_dropped : Timetable → Timetable
with_dropped t = record t { entries = t.entries ++ reverse t.dropped; dropped = [] }

-- the timetable with one more entry after the dropped ones
abbrev pub timetable_with : RowRange → ℕ → DrawnEntry → Timetable → Timetable
timetable_with part n entry t =
    let all = with_dropped t in
    record all { entries = entries_with part n entry all.entries }

-- the number of rows after a part, with row n counted if it is after the part
abbrev pub later_rows : RowRange → ℕ → ℕ → ℕ
later_rows part n later = if nat_lt part.to n then count_after later 1 else later

-- the timetable after the contents of one more line
abbrev pub after_item : RowRange → Timetable → TimetableLine → Timetable
after_item part t (Row n a p r c) =
    record (timetable_with part n (Done n a p r (turn_of t.end r c) c) t) {
      row = n;
      end = c;
      later = later_rows part n t.later;
    }
after_item part t (Drop a p) =
    record t { dropped = entries_with part t.row (Dropped a p t.end) t.dropped }
after_item part t (Interrupt i) = timetable_with part t.row (Taken i t.end) t
after_item part t (Snapshot tick) = timetable_with part t.row (Shown tick) t

-- the timetable after the optional contents of one more line
abbrev pub after_said : RowRange → Timetable → Option TimetableLine → Timetable
after_said part t None = t
after_said part t (Some said) = after_item part t said

-- the timetable after one more line
abbrev pub after_line : RowRange → Timetable → List ℕ → Timetable
after_line part t line = after_said part t (item line)

-- the timetable after several lines
abbrev pub after_lines : RowRange → Timetable → List (List ℕ) → Timetable
after_lines part t [] = t
after_lines part t (line ∷ lines) = after_lines part (after_line part t line) lines

-- the timetable that a report describes, for the requested rows
unfoldable pub timetable : RowRange → List ℕ → Timetable
timetable part report = with_dropped (after_lines part timetable_at_start (pieces_of 10 report))

-- the timetable that the code's value represents
abbrev pub timetable_of : ReadTimetable → Timetable
timetable_of t = record {
  entries = t.entries.items;
  dropped = t.dropped.items;
  row = t.row;
  end = t.end;
  later = t.later;
}
