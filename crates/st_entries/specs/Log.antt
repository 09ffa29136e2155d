-- A log of the events of a timetable's entries, for a pipeline viewer.
--
-- Proved: by their `ensures` clauses these calls do what definitions here say: `first_stage`
-- (log.rt), `last_stage` (log.rt), `push_begin` (log.rt), `push_change` (log.rt), and others.
-- Read by: definitions in Answers of st_draw.
-- Laws: none names a definition of this file itself.
-- Change: the meaning is fixed by docs/chart.md, since the contract of `st_draw::draw` unfolds to a
-- definition here. The form is free, with the proofs that unfold it.
use Rattle.std.specs.Prelude.{ℕ, ◌-◌, nat_eq, if◌then◌else◌, List, [], ◌∷◌, ◌++◌, codes, decimal}
use Rattle.st_entries.specs.Caption.{first_text, second_text, third_text, with_dots}
use Rattle.st_entries.specs.Moments.{happenings}
use Rattle.st_entries.specs.Plain.{plain_text}
use Rattle.st_entries.specs.declared.moments.LogMoment.{LogMoment}
use Rattle.st_entries.specs.declared.moments.LogStep.{LogStep}
use Rattle.st_entries.specs.declared.moments.LogStep.TheVariants.{Begin, Ready, Turn, End}
use Rattle.st_entries.specs.declared.timetable.DrawnEntry.{DrawnEntry}
use Rattle.st_entries.specs.declared.timetable.DrawnEntry.TheVariants.{Done, Dropped, Taken, Shown}

-- the header of the log's format, and the text before the tick at which the log starts
unfoldable pub heading : List ℕ
heading = codes "Kanata\t0004\nC=\t"

-- the header of the log's format, and the tick at which the log starts
unfoldable pub log_front : ℕ → List ℕ
log_front tick = heading ++ decimal tick ++ codes "\n"

-- the number of ticks that pass, unless it is 0; the viewer calls them cycles
unfoldable pub cycles_line : ℕ → ℕ → List ℕ
cycles_line from to =
    if nat_eq from to then [] else codes "C\t" ++ decimal (to - from) ++ codes "\n"

-- the line with which the entry with a number appears
unfoldable pub log_entry_line : ℕ → List ℕ
log_entry_line k = codes "I\t" ++ decimal k ++ codes "\t" ++ decimal k ++ codes "\t0\n"

-- the label of the entry with a number, which the viewer shows beside it
unfoldable pub label_line : ℕ → List ℕ → List ℕ
label_line k text = codes "L\t" ++ decimal k ++ codes "\t0\t" ++ plain_text text ++ codes "\n"

-- the line with which a stage of the entry with a number begins, `S`, or ends, `E`
unfoldable pub stage_line : List ℕ → ℕ → List ℕ → List ℕ
stage_line sign k stage = sign ++ codes "\t" ++ decimal k ++ codes "\t0\t" ++ stage ++ codes "\n"

-- the line with which the entry with a number leaves the pipeline, with its row's number: retired,
-- `0`, or flushed, `1`
unfoldable pub log_end_line : ℕ → ℕ → List ℕ → List ℕ
log_end_line k n how = codes "R\t" ++ decimal k ++ codes "\t" ++ decimal n ++ codes "\t" ++ how
    ++ codes "\n"

-- the label of an entry: its three texts; the last one ends in dots if it is too long
unfoldable pub log_label : List ℕ → DrawnEntry → List ℕ
log_label report e = first_text e ++ codes " " ++ second_text e ++ codes " "
    ++ with_dots (third_text report e)

-- the stage in which an entry begins: waiting for its operands, dropped, an interrupt, a snapshot
abbrev pub first_stage : DrawnEntry → List ℕ
first_stage (Done n a p r t c) = codes "W"
first_stage (Dropped a p end) = codes "D"
first_stage (Taken i t) = codes "I"
first_stage (Shown t) = codes "S"

-- the stage in which an entry ends: executing, or the stage in which it began
abbrev pub last_stage : DrawnEntry → List ℕ
last_stage (Done n a p r t c) = codes "X"
last_stage (Dropped a p end) = codes "D"
last_stage (Taken i t) = codes "I"
last_stage (Shown t) = codes "S"

-- the number of an entry's row; 0 if it has none
abbrev pub row_number : DrawnEntry → ℕ
row_number (Done n a p r t c) = n
row_number (Dropped a p end) = 0
row_number (Taken i t) = 0
row_number (Shown t) = 0

-- whether an entry was retired, `0`, or flushed, `1`
abbrev pub retire_type : DrawnEntry → List ℕ
retire_type (Done n a p r t c) = codes "0"
retire_type (Dropped a p end) = codes "1"
retire_type (Taken i t) = codes "0"
retire_type (Shown t) = codes "0"

-- the lines of an entry that begins
unfoldable pub begin_lines : List ℕ → ℕ → DrawnEntry → List ℕ
begin_lines report k e = log_entry_line k ++ label_line k (log_label report e)
    ++ stage_line (codes "S") k (first_stage e)

-- the lines of an entry that changes from one stage to another
unfoldable pub change_lines : ℕ → List ℕ → List ℕ → List ℕ
change_lines k from to = stage_line (codes "E") k from ++ stage_line (codes "S") k to

-- the lines of an entry that ends
unfoldable pub log_end_lines : ℕ → DrawnEntry → List ℕ
log_end_lines k e = stage_line (codes "E") k (last_stage e)
    ++ log_end_line k (row_number e) (retire_type e)

-- the lines of a step of an entry
abbrev pub step_lines : List ℕ → ℕ → LogStep → DrawnEntry → List ℕ
step_lines report k Begin e = begin_lines report k e
step_lines report k Ready e = change_lines k (codes "W") (codes "T")
step_lines report k Turn e = change_lines k (codes "T") (codes "X")
step_lines report k End e = log_end_lines k e

-- the lines of a moment, given the tick of the moment before it
unfoldable pub moment_lines : List ℕ → ℕ → LogMoment → List ℕ
moment_lines report tick m = cycles_line tick m.tick ++ step_lines report m.number m.step m.entry

-- the lines of moments in order, given the tick of the moment before them
abbrev pub moments_lines : List ℕ → ℕ → List LogMoment → List ℕ
moments_lines report tick [] = []
moments_lines report tick (m ∷ ms) = moment_lines report tick m ++ moments_lines report m.tick ms

-- the tick of the first moment; 0 if there is none
abbrev pub first_moment_tick : List LogMoment → ℕ
first_moment_tick [] = 0
first_moment_tick (m ∷ ms) = m.tick

-- the bytes of a log of entries
unfoldable pub log : List ℕ → List DrawnEntry → List ℕ
log report entries =
    let ms = happenings entries in
    let start = first_moment_tick ms in
    log_front start ++ moments_lines report start ms
