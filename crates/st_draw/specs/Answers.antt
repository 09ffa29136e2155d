-- The statuses of the program: when each is returned, and the input and output in that case.
--
-- Proved: by their `ensures` clauses these calls do what definitions here say: `picture`
-- (program.rt), `draw` (program.rt), `draw_choice` (program.rt), `draw_report` (program.rt), and
-- others.
-- Laws: none names a definition of this file itself.
-- Change: the meaning is fixed by docs/chart.md, since the contract of `st_draw::draw` unfolds to a
-- definition here. The form is free, with the proofs that unfold it.
use Rattle.std.specs.Prelude.{◌≡◌, ℕ, ◌+◌, nat_eq, if◌then◌else◌, List, [], ◌∷◌, Option, None, Some}
use Rattle.st_io.specs.Count.{HasRisen}
use Rattle.st_io.specs.Input.{InputState, CameWhole, CameWithin, CamePast}
use Rattle.st_io.specs.Output.{OutputState, Wrote, WroteFront}
use Rattle.st_draw.specs.Drawing.{svg}
use Rattle.st_draw.specs.Terminal.{page_text}
use Rattle.st_entries.specs.Log.{log}
use Rattle.st_entries.specs.Timetable.{timetable}
use Rattle.st_draw.specs.declared.status.Status.{Status}
use Rattle.st_draw.specs.declared.status.Status.TheVariants.{Done, NoRows, Usage, ReportTooLong, ReadFault, WriteFault, NoMemory}
use Rattle.st_entries.specs.declared.timetable.DrawnEntry.{DrawnEntry}
use Rattle.st_entries.specs.declared.timetable.DrawnEntry.TheVariants.{Done as DoneEntry, Dropped, Taken, Shown}
use Rattle.st_draw.specs.declared.words.Choice.{Choice}
use Rattle.st_draw.specs.declared.words.PictureKind.{PictureKind}
use Rattle.st_draw.specs.declared.words.PictureKind.TheVariants.{Svg, Text, Kanata}

-- the most bytes of a report
abbrev pub report_limit : ℕ
report_limit = 16000000

-- the number of entries that are rows
abbrev pub rows_in : List DrawnEntry → ℕ
rows_in [] = 0
rows_in (DoneEntry n a p r t c ∷ es) = 1 + rows_in es
rows_in (Dropped a p end ∷ es) = rows_in es
rows_in (Taken i t ∷ es) = rows_in es
rows_in (Shown t ∷ es) = rows_in es

-- the entries to draw: none if none of them is a row
abbrev pub visible_entries : ℕ → List DrawnEntry → List DrawnEntry
visible_entries shown entries = if nat_eq shown 0 then [] else entries

-- the bytes of a chart of some kind
abbrev pub picture_of : PictureKind → List ℕ → List DrawnEntry → ℕ → ℕ → List ℕ
picture_of Svg report entries shown later = svg report entries shown later
picture_of Text report entries shown later = page_text report entries shown later
picture_of Kanata report entries shown later = log report entries

-- the entries of a report in the requested rows
abbrev pub entries_asked : Choice → List ℕ → List DrawnEntry
entries_asked choice report = (timetable choice.part report).entries

-- the requested chart of a report
unfoldable pub picture : Choice → List ℕ → List ℕ
picture choice report =
    let entries = entries_asked choice report in
    let shown = rows_in entries in
    picture_of choice.kind report (visible_entries shown entries) shown
    (timetable choice.part report).later

-- the status of a chart that was written: it says whether the chart has rows
unfoldable pub picture_status : Choice → List ℕ → Status
picture_status choice report = if nat_eq (rows_in (entries_asked choice report)) 0 then NoRows
    else Done

-- how a chart was written, by the status: all of it; or up to a write that failed; or nothing,
-- because memory ran out
abbrev pub Writes : Choice → Status → OutputState → OutputState → List ℕ → Type 0
Writes choice Done before after report = Wrote before after (picture choice report)
    × (picture_status choice report ≡ Done)
Writes choice NoRows before after report = Wrote before after (picture choice report)
    × (picture_status choice report ≡ NoRows)
Writes choice WriteFault before after report = WroteFront before after (picture choice report)
Writes choice NoMemory before after report = after ≡ before
Writes choice Usage before after report = ⊥
Writes choice ReportTooLong before after report = ⊥
Writes choice ReadFault before after report = ⊥

-- a report was read completely, and its chart written
pub record Drew (choice : Choice) (status : Status) (input input' : InputState)
    (before after : OutputState) : Type 0 where
  pub report : List ℕ
  pub read : CameWhole input input' report_limit report
  pub written : Writes choice status before after report

-- the effect of a call on its source and its sink, by the status
abbrev pub Did : Choice → Status → InputState → InputState → OutputState → OutputState → Type 0
Did choice Done input input' before after = Drew choice Done input input' before after
Did choice NoRows input input' before after = Drew choice NoRows input input' before after
Did choice WriteFault input input' before after = Drew choice WriteFault input input' before after
Did choice ReportTooLong input input' before after =
    CamePast input input' report_limit × (input'.faults ≡ input.faults) × (after ≡ before)
Did choice ReadFault input input' before after =
    CameWithin input input' report_limit × HasRisen input.faults input'.faults × (after ≡ before)
Did choice NoMemory input input' before after =
    CameWithin input input' report_limit × (input'.faults ≡ input.faults) × (after ≡ before)
Did choice Usage input input' before after = ⊥

-- the effect of a call, given the meaning of its words: invalid words touch neither source nor sink
abbrev pub IsAnswer : Option Choice → Status → InputState → InputState → OutputState → OutputState →
    Type 0
IsAnswer None status input input' before after = (status ≡ Usage) × (input' ≡ input)
    × (after ≡ before)
IsAnswer (Some choice) status input input' before after =
    Did choice status input input' before after
