-- The chart of a timetable as lines of text.
--
-- Proved: by their `ensures` clauses these calls do what definitions here say: `column`
-- (terminal.rt), `draw_text` (terminal.rt), `head` (terminal.rt), `push_columns` (terminal.rt), and
-- others.
-- Read by: definitions in Answers.
-- Laws: none names a definition of this file itself.
-- Change: the meaning is fixed by docs/chart.md, since the contract of `st_draw::draw` unfolds to a
-- definition here. The form is free, with the proofs that unfold it.
use Rattle.std.specs.Prelude.{ℕ, ◌+◌, ◌-◌, nat_lt, max, if◌then◌else◌, List, [], ◌∷◌, ◌++◌, length, replicate, codes, decimal}
use Rattle.st_draw.specs.Axis.{axis, x_of_tick, marks}
use Rattle.st_entries.specs.Caption.{first_text, second_text, third_text, widest, with_dots}
use Rattle.st_entries.specs.Plain.{plain_text}
use Rattle.st_draw.specs.Drawing.{remark}
use Rattle.st_entries.specs.Phases.{first_tick, Phase, WaitsForOperands, WaitsForTurn, Executes, IsDropped, Span, spans, least_width}
use Rattle.st_draw.specs.declared.axis.Axis.{Axis}
use Rattle.st_draw.specs.declared.terminal.Page.{Page}
use Rattle.st_entries.specs.declared.timetable.DrawnEntry.{DrawnEntry}
use Rattle.st_entries.specs.declared.timetable.DrawnEntry.TheVariants.{Done, Dropped, Taken, Shown}

-- a text, right-aligned in n characters
unfoldable pub text_at_right : ℕ → List ℕ → List ℕ
text_at_right n text = replicate (n - length text) 32 ++ text

-- a text, left-aligned in n characters
unfoldable pub text_at_left : ℕ → List ℕ → List ℕ
text_at_left n text = plain_text text ++ replicate (n - length text) 32

-- three texts in columns; the last one is left-aligned in n characters
unfoldable pub text_columns : ℕ → List ℕ → List ℕ → List ℕ → List ℕ
text_columns places first second third =
    text_at_right 7 first ++ text_at_right 10 second ++ codes " " ++ text_at_left places third
    ++ codes " "

-- the column of a tick
abbrev pub column : Axis → ℕ → ℕ
column axis tick = x_of_tick (record { left = 0; width = 60 }) axis tick

-- the character of which a phase's bars consist
abbrev pub phase_byte : Phase → ℕ
phase_byte WaitsForOperands = 46
phase_byte WaitsForTurn = 45
phase_byte Executes = 35
phase_byte IsDropped = 120

-- the bar of a phase
abbrev pub stroke : Axis → Span → List ℕ
stroke axis s = replicate (max (least_width s.phase) (column axis s.to - column axis s.from))
    (phase_byte s.phase)

-- the bars of consecutive phases
abbrev pub strokes_of : Axis → List Span → List ℕ
strokes_of axis [] = []
strokes_of axis (s ∷ ss) = stroke axis s ++ strokes_of axis ss

-- the sign of an interrupt or a snapshot
abbrev pub sign : DrawnEntry → List ℕ
sign (Done n a p r t c) = []
sign (Dropped a p end) = []
sign (Taken i t) = codes "!"
sign (Shown t) = codes "|"

-- the bars of an entry, after blanks up to its first tick, or its sign
unfoldable pub strokes : Axis → DrawnEntry → List ℕ
strokes axis entry = replicate (column axis (first_tick entry)) 32 ++ strokes_of axis (spans entry)
    ++ sign entry

-- the line of an entry
unfoldable pub entry_line : Page → List ℕ → DrawnEntry → List ℕ
entry_line page report entry =
    text_columns page.places (first_text entry) (second_text entry)
    (with_dots (third_text report entry))
    ++ strokes page.axis entry ++ codes "\n"

-- the lines of entries
abbrev pub entry_lines : Page → List ℕ → List DrawnEntry → List ℕ
entry_lines page report [] = []
entry_lines page report (e ∷ es) = entry_line page report e ++ entry_lines page report es

-- a line with a text appended at a column; the line is unchanged if the text would touch it
abbrev pub put_at : ℕ → List ℕ → List ℕ → List ℕ
put_at place line text = if nat_lt (length line) place then line
    ++ replicate (place - length line) 32 ++ text else line

-- a line with the number of a marked tick appended, in the tick's column
abbrev pub line_with_tick : Page → List ℕ → ℕ → List ℕ
line_with_tick page line tick = put_at (19 + page.places + column page.axis tick) line
    (decimal tick)

-- a line with the numbers of marked ticks appended, each in its column, except those that would
-- touch the previous text
abbrev pub scale : Page → List ℕ → List ℕ → List ℕ
scale page line [] = line
scale page line (tick ∷ ticks) = scale page (line_with_tick page line tick) ticks

-- the line above the rows: the meaning of its numbers, and marked ticks; or that there is no entry
unfoldable pub head : Page → List DrawnEntry → List ℕ
head page [] = codes "no rows\n"
head page (e ∷ es) = scale page (text_at_right (18 + page.places) (codes "ticks")) (marks page.axis)
    ++ codes "\n"

-- the key of the characters in the bars
unfoldable pub key : List ℕ
key =
    codes ". waiting for operands  - waiting for its turn  # executing  x dropped\n"
    ++ codes "! interrupt  | snapshot\n"

-- the page of entries: its axis, and the width of their third texts
abbrev pub page_of : List ℕ → List DrawnEntry → Page
page_of report entries = record { axis = axis entries 60; places = widest report entries }

-- the bytes of a chart as text
unfoldable pub page_text : List ℕ → List DrawnEntry → ℕ → ℕ → List ℕ
page_text report entries shown later =
    let page = page_of report entries in
    head page entries ++ entry_lines page report entries ++ key ++ remark shown later ++ codes "\n"
