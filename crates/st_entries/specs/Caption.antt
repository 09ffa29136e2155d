-- The texts of an entry: the three in front of its bars, and the title of its bars.
--
-- Proved: by their `ensures` clauses these calls do what definitions here say: `first_text`
-- (caption.rt), `indicator` (caption.rt), `place_text` (caption.rt), `push_numbered` (caption.rt),
-- and others.
-- Read by: definitions in Log, Drawing of st_draw, Terminal of st_draw, Element of st_draw.
-- Laws: SymbolsAgree (specs/Laws.antt of st_laws).
-- Change: the meaning is fixed by docs/chart.md, since the contract of `st_draw::draw` unfolds to a
-- definition here. The form is free, with the proofs that unfold it.
use Rattle.std.specs.Prelude.{ℕ, ◌*◌, nat_le, nat_lt, min, max, if◌then◌else◌, List, [], ◌∷◌, ◌++◌, length, take, drop, codes, decimal}
use Rattle.st_entries.specs.Label.{label}
use Rattle.st_entries.specs.declared.report.ReportAddress.{ReportAddress}
use Rattle.st_entries.specs.declared.timetable.DrawnEntry.{DrawnEntry}
use Rattle.st_entries.specs.declared.timetable.DrawnEntry.TheVariants.{Done, Dropped, Taken, Shown}

-- the names of the indicators 0 to 63, each in four characters
unfoldable pub indicator_names : List ℕ
indicator_names =
    codes "MK  IK  IJ  EK  TS  CPUSEKJ UNRJCBJ EPGKUK  EE  EOP CS      OP  "
    ++ codes "AD  USA EXE DS  DF  IF  LC  PF  ZD                                          "
    ++ codes "TF  UF  VF  XF  BTR DTR PG0 PG1 PG2 PG3 PG4 PG5 PG6 XCZ XVLZXVZ "
    ++ codes "XVGZXL  XE  XH  MOP RLZ RZ  RGZ RN  AL  AE  AH      "

-- the name of an indicator in four characters: blanks if it has none, an empty text for a number
-- above 63
unfoldable pub indicator_text : ℕ → List ℕ
indicator_text i = if nat_lt i 64 then take 4 (drop (4 * i) indicator_names) else []

-- the text of an address as word.bit
abbrev pub place_text : ReportAddress → List ℕ
place_text place = decimal place.word ++ codes "." ++ decimal place.bit

-- the first text of an entry: its number if it is completed, else its kind
unfoldable pub first_text : DrawnEntry → List ℕ
first_text (Done n a p r t c) = decimal n
first_text (Dropped a p end) = codes "drop"
first_text (Taken i t) = codes "INT"
first_text (Shown t) = codes "SNAP"

-- the second text of an entry: its address, the number of an interrupt's indicator, or the tick of
-- a snapshot
unfoldable pub second_text : DrawnEntry → List ℕ
second_text (Done n a p r t c) = place_text a
second_text (Dropped a p end) = place_text a
second_text (Taken i t) = decimal i
second_text (Shown t) = decimal t

-- the third text of an entry: its card's text, or the name of an interrupt's indicator
unfoldable pub third_text : List ℕ → DrawnEntry → List ℕ
third_text report (Done n a p r t c) = label report a
third_text report (Dropped a p end) = label report a
third_text report (Taken i t) = indicator_text i
third_text report (Shown t) = []

-- the most characters of a card that are shown
abbrev pub card_limit : ℕ
card_limit = 40

-- the third text of an entry with only ASCII characters: a text that is too long ends in three dots
unfoldable pub with_dots : List ℕ → List ℕ
with_dots text = if nat_le (length text) card_limit then text else take 37 text ++ codes "..."

-- the number of characters that are shown of the longest third text
abbrev pub widest : List ℕ → List DrawnEntry → ℕ
widest report [] = 0
widest report (e ∷ es) = max (min card_limit (length (third_text report e))) (widest report es)

-- a text and a number
unfoldable pub words_with_number : List ℕ → ℕ → List ℕ
words_with_number words n = words ++ decimal n

-- the title of an entry's bars: the ticks of its phases
unfoldable pub title : DrawnEntry → List ℕ
title (Done n a p r t c) =
    words_with_number (codes "row ") n ++ words_with_number (codes ": waits for operands from P ") p
    ++ words_with_number (codes " to R ") r
    ++ words_with_number (codes ", for its turn to ") t
    ++ words_with_number (codes ", executes to C ") c
title (Dropped a p end) = words_with_number (codes "prepared at P ") p
    ++ words_with_number (codes ", dropped at ") end
title (Taken i t) = []
title (Shown t) = []
