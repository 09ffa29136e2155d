-- The contents of a report's lines about its timetable, read leniently: a line is words between
-- blanks.
--
-- Proved: by their `ensures` clauses these calls do what definitions here say: `is_place`
-- (label.rt), `has` (report.rt), `item_of` (report.rt), `number` (report.rt), and others.
-- Read by: definitions in Label, Completions, Timetable.
-- Laws: none names a definition of this file itself.
-- Change: the meaning is fixed by docs/chart.md, since the contract of `st_draw::draw` unfolds to a
-- definition here. The form is free, with the proofs that unfold it.
use Rattle.std.specs.Prelude.{ℕ, ◌-◌, ◌^◌, nat_eq, ◌&&◌, Bool, if◌then◌else◌, List, [], get_or, codes, Option, None}
use Rattle.std.specs.Option.{option_map, option_and_then}
use Rattle.std.specs.Cmp.Lexicographic.{pointwise}
use Rattle.st_text.specs.Number.{number_up_to}
use Rattle.st_text.specs.Pieces.{pieces_of}
use Rattle.st_entries.specs.declared.report.TimetableLine.{TimetableLine}
use Rattle.st_entries.specs.declared.report.TimetableLine.TheVariants.{Row, Drop, Interrupt, Snapshot}
use Rattle.st_entries.specs.declared.report.ReportAddress.{ReportAddress}

-- the k-th piece, counted from 0, of a text that is cut at a byte; empty if there are fewer
abbrev pub piece : ℕ → List ℕ → ℕ → List ℕ
piece at text k = get_or (pieces_of at text) k []

-- the k-th word of a line, counted from 0
unfoldable pub word_in_line : List ℕ → ℕ → List ℕ
word_in_line line k = piece 32 line k

-- the number that a word spells, if it is a number below 2^64
unfoldable pub number_in_report : List ℕ → Option ℕ
number_in_report text = number_up_to (2 ^ 64 - 1) text

-- the address that a word spells as word.bit
unfoldable pub place_in_report : List ℕ → Option ReportAddress
place_in_report text =
    option_and_then (λ w. option_map (λ b. record { word = w; bit = b })
    (number_in_report (piece 46 text 1)))
    (number_in_report (piece 46 text 0))

-- whether the k-th word of a line is this text
abbrev pub has : List ℕ → ℕ → List ℕ → Bool
has line k text = pointwise nat_eq (word_in_line line k) text

-- the contents of the line of a completed entry
unfoldable pub row_item : List ℕ → Option TimetableLine
row_item line =
    option_and_then (λ n. option_and_then (λ a. option_and_then
    (λ p. option_and_then (λ r. option_map (λ c. Row n a p r c)
    (number_in_report (word_in_line line 8))) (number_in_report (word_in_line line 6)))
    (number_in_report (word_in_line line 4))) (place_in_report (word_in_line line 2)))
    (number_in_report (word_in_line line 1))

-- the contents of the line of a dropped entry
unfoldable pub dropped_item : List ℕ → Option TimetableLine
dropped_item line = option_and_then (λ a. option_map (λ p. Drop a p)
    (number_in_report (word_in_line line 3))) (place_in_report (word_in_line line 1))

-- whether a line has the keywords of a completed entry
abbrev pub is_row : List ℕ → Bool
is_row line = has line 0 (codes "ROW") && has line 3 (codes "P") && has line 5 (codes "R")
    && has line 7 (codes "C")

-- the contents of a line, if it describes the timetable
unfoldable pub item : List ℕ → Option TimetableLine
item line =
    if is_row line then row_item line
    else if has line 0 (codes "DROP") && has line 2 (codes "P") then dropped_item line
    else if has line 0 (codes "INT") && has line 2 (codes "AFTER")
    then option_map (λ i. Interrupt i) (number_in_report (word_in_line line 1))
    else if has line 0 (codes "SNAP") then option_map (λ t. Snapshot t)
    (number_in_report (word_in_line line 1))
    else None
