-- The chart of a timetable as SVG: its elements in order, and its bytes.
--
-- Proved: by their `ensures` clauses these calls do what definitions here say: `sheet_of`
-- (sheet.rt), `draw_svg` (drawing.rt), `push_bars` (drawing.rt), `push_caption` (drawing.rt), and
-- others.
-- Read by: definitions in Answers, Terminal.
-- Laws: none names a definition of this file itself.
-- Change: the meaning is fixed by docs/chart.md, since the contract of `st_draw::draw` unfolds to a
-- definition here. The form is free, with the proofs that unfold it.
use Rattle.std.specs.Prelude.{ℕ, ◌+◌, ◌-◌, ◌*◌, ◌^◌, ◌≤◌, ◌<◌, max, List, [], ◌∷◌, ◌++◌, length, map, codes, decimal}
use Rattle.st_draw.specs.Axis.{axis, x_of_tick, marks}
use Rattle.st_entries.specs.Caption.{first_text, second_text, third_text, title, widest}
use Rattle.st_draw.specs.Element.{Element, Box, Bar, Line, Text, Card, elements_text}
use Rattle.st_entries.specs.Phases.{Phase, WaitsForOperands, WaitsForTurn, Executes, IsDropped, Span, spans, least_width}
use Rattle.st_draw.specs.declared.axis.Room.{Room}
use Rattle.st_draw.specs.declared.sheet.Sheet.{Sheet}
use Rattle.st_entries.specs.declared.timetable.DrawnEntry.{DrawnEntry}
use Rattle.st_entries.specs.declared.timetable.DrawnEntry.TheVariants.{Done, Dropped, Taken, Shown}

-- the extent of the axis to the right of cards with this number of characters
abbrev pub room_behind : ℕ → Room
room_behind characters = record { left = 124 + 7 * characters; width = 504 - 7 * characters }

-- the sheet of entries: its axis, the extent of the axis, and the y of the lower end of the rows
unfoldable pub sheet : List ℕ → List DrawnEntry → Sheet
sheet report entries = record {
  room = room_behind (widest report entries);
  axis = axis entries 1;
  bottom = 36 + 16 * length entries;
}

-- a sheet has at least one tick, and its height is bounded
pub record IsSheet (sheet : Sheet) : Type 0 where
  pub some : 1 ≤ sheet.axis.span
  pub ends : sheet.bottom < 2 ^ 70

-- the x of a tick on a sheet
abbrev pub x_of : Sheet → ℕ → ℕ
x_of sheet tick = x_of_tick sheet.room sheet.axis tick

-- a marked tick: a vertical line across the sheet with its number above
unfoldable pub mark : Sheet → ℕ → List Element
mark sheet tick =
    Line (codes "g") (x_of sheet tick) 28 (x_of sheet tick) sheet.bottom
    ∷ Text (codes "m") (x_of sheet tick) 22 (decimal tick) ∷ []

-- the elements of marked ticks
abbrev pub grid : Sheet → List ℕ → List Element
grid sheet [] = []
grid sheet (tick ∷ ticks) = mark sheet tick ++ grid sheet ticks

-- an interrupt or a snapshot: a horizontal line in its row and a vertical one across the sheet
abbrev pub upright : List ℕ → Sheet → ℕ → ℕ → List Element
upright class sheet y tick =
    Line class sheet.room.left (y + 8) (sheet.room.left + sheet.room.width) (y + 8)
    ∷ Line class (x_of sheet tick) 28 (x_of sheet tick) sheet.bottom ∷ []

-- the class of the bars of a phase
abbrev pub class_of : Phase → List ℕ
class_of WaitsForOperands = codes "w"
class_of WaitsForTurn = codes "t"
class_of Executes = codes "e"
class_of IsDropped = codes "d"

-- the bar of a phase in the row at y
abbrev pub bar : Sheet → ℕ → List ℕ → Span → Element
bar sheet y text s =
    Bar (class_of s.phase) (x_of sheet s.from) (y + 3)
    (max (least_width s.phase) (x_of sheet s.to - x_of sheet s.from)) 10 text

-- the lines of an interrupt or a snapshot; none for other entries
abbrev pub uprights : Sheet → ℕ → DrawnEntry → List Element
uprights sheet y (Done n a p r t c) = []
uprights sheet y (Dropped a p end) = []
uprights sheet y (Taken i t) = upright (codes "i") sheet y t
uprights sheet y (Shown t) = upright (codes "s") sheet y t

-- the contents of an entry's row at y: a bar for each of its phases, or its lines
unfoldable pub bars : Sheet → ℕ → DrawnEntry → List Element
bars sheet y entry = map (λ s. bar sheet y (title entry) s) (spans entry) ++ uprights sheet y entry

-- the texts in front of an entry's bars
unfoldable pub caption : List ℕ → ℕ → DrawnEntry → List Element
caption report y entry =
    Text (codes "n") 48 (y + 12) (first_text entry)
    ∷ Text (codes "n") 110 (y + 12) (second_text entry)
    ∷ Card 120 (y + 12) (third_text report entry) ∷ []

-- the row of an entry at y
unfoldable pub row_elements : Sheet → List ℕ → ℕ → DrawnEntry → List Element
row_elements sheet report y entry = caption report y entry ++ bars sheet y entry

-- the rows of entries, from y downwards
abbrev pub rows_elements : Sheet → List ℕ → ℕ → List DrawnEntry → List Element
rows_elements sheet report y [] = []
rows_elements sheet report y (e ∷ es) = row_elements sheet report y e
    ++ rows_elements sheet report (y + 16) es

-- a box of the legend with its meaning
unfoldable pub box_key : List ℕ → ℕ → ℕ → List ℕ → List Element
box_key class x y meaning = Box class x y 20 10 ∷ Text (codes "c") (x + 26) (y + 9) meaning ∷ []

-- a line of the legend with its meaning
unfoldable pub line_key : List ℕ → ℕ → ℕ → List ℕ → List Element
line_key class x y meaning = Line class x (y + 5) (x + 20) (y + 5)
    ∷ Text (codes "c") (x + 26) (y + 9) meaning ∷ []

-- the keys of the boxes of entries that wait
unfoldable pub waiting_keys : ℕ → List Element
waiting_keys y =
    box_key (codes "w") 12 y (codes "waiting for operands")
    ++ box_key (codes "t") 186 y (codes "waiting for its turn")

-- the keys of the boxes of entries that execute or are dropped
unfoldable pub ending_keys : ℕ → List Element
ending_keys y = box_key (codes "e") 360 y (codes "executing")
    ++ box_key (codes "d") 466 y (codes "dropped")

-- the keys of the lines
unfoldable pub line_keys : ℕ → List Element
line_keys y = line_key (codes "i") 12 y (codes "interrupt")
    ++ line_key (codes "s") 186 y (codes "snapshot")

-- the legend
unfoldable pub legend : ℕ → List Element
legend y = waiting_keys y ++ ending_keys y ++ line_keys (y + 16)

-- the remark on the numbers of rows that are shown and that follow
unfoldable pub remark : ℕ → ℕ → List ℕ
remark shown later = decimal shown ++ codes " rows, " ++ decimal later ++ codes " follow"

-- the note above the rows beside the axis, which begins at this x: the meaning of its numbers, or
-- that there is no entry
unfoldable pub notice : ℕ → List DrawnEntry → List Element
notice left [] = Text (codes "c") 12 20 (codes "no rows") ∷ []
notice left (e ∷ es) = Text (codes "m") (left - 48) 22 (codes "ticks") ∷ []

-- the elements below the rows
unfoldable pub foot : ℕ → List ℕ → List Element
foot bottom text = legend (bottom + 8) ++ Text (codes "c") 12 (bottom + 54) text ∷ []

-- the background of the chart, and the note beside the axis
unfoldable pub ground : Sheet → List DrawnEntry → List Element
ground sheet entries = Box (codes "p") 0 0 640 (sheet.bottom + 60) ∷ notice sheet.room.left entries

-- the axis and the rows
unfoldable pub chart : Sheet → List ℕ → List DrawnEntry → List Element
chart sheet report entries = grid sheet (marks sheet.axis) ++ rows_elements sheet report 36 entries

-- the elements of a chart, in order
unfoldable pub drawing : List ℕ → List DrawnEntry → ℕ → ℕ → List Element
drawing report entries shown later =
    let on = sheet report entries in
    ground on entries ++ chart on report entries ++ foot on.bottom (remark shown later)

-- the styles of the elements' classes, and the hatching of dropped entries
unfoldable pub styles : List ℕ
styles =
    codes "\">\n<defs><pattern id=\"h\" width=\"5\" height=\"5\" patternUnits=\"userSpaceOnUse\" patternTransform=\"rotate(45)\">"
    ++ codes "<rect width=\"5\" height=\"5\" fill=\"#fff\"/><rect width=\"2\" height=\"5\" fill=\"#8a3b12\"/></pattern></defs>\n"
    ++ codes "<style>text{font:11px monospace;fill:#111;white-space:pre}.n{text-anchor:end}.m{text-anchor:middle;fill:#555}"
    ++ codes ".p{fill:#fff}.g{stroke:#ddd}.w{fill:#b5d0eb}.t{fill:#6f9ccb}.e{fill:#17365a}"
    ++ codes ".d{fill:url(#h);stroke:#8a3b12}"
    ++ codes ".i{stroke:#b3261e}.s{stroke:#2e7d32;stroke-dasharray:2 3}</style>\n"

-- the text before the height of a chart
unfoldable pub preamble : List ℕ
preamble = codes "<svg xmlns=\"http://www.w3.org/2000/svg\" xml:space=\"preserve\" viewBox=\"0 0 640 "

-- the beginning of a chart with this height
unfoldable pub picture_front : ℕ → List ℕ
picture_front height = preamble ++ decimal height ++ styles

-- the end of a chart
abbrev pub closing : List ℕ
closing = codes "</svg>\n"

-- the bytes of a chart
unfoldable pub svg : List ℕ → List DrawnEntry → ℕ → ℕ → List ℕ
svg report entries shown later =
    picture_front ((sheet report entries).bottom + 60) ++ elements_text
    (drawing report entries shown later) ++ closing
