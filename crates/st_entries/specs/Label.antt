-- The text of a card, from the listing at the beginning of a report.
--
-- Proved: by their `ensures` clauses these calls do what definitions here say: `card_text`
-- (label.rt), `emits` (label.rt), `is_filled` (label.rt), `is_listed` (label.rt), and others.
-- Read by: definitions in Caption.
-- Laws: none names a definition of this file itself.
-- Change: the meaning is fixed by docs/chart.md, since the contract of `st_draw::draw` unfolds to a
-- definition here. The form is free, with the proofs that unfold it.
use Rattle.std.specs.Prelude.{ℕ, ◌==◌, ◌&&◌, not, Bool, false, if◌then◌else◌, List, [], ◌∷◌, take, drop, Option, None, Some}
use Rattle.std.specs.Option.{is_some}
use Rattle.st_text.specs.Blanks.{without_front_blanks, without_end_blanks}
use Rattle.st_text.specs.Pieces.{pieces_of}
use Rattle.st_entries.specs.Report.{number_in_report, place_in_report}
use Rattle.st_entries.specs.declared.report.ReportAddress.{ReportAddress}

-- whether a line is one of the listing: it begins with a number, right-aligned in five characters
unfoldable pub is_listed : List ℕ → Bool
is_listed line = is_some (number_in_report (without_front_blanks (take 5 line)))

-- whether an address is present and equal to this one
abbrev pub is_place : Option ReportAddress → ReportAddress → Bool
is_place None here = false
is_place (Some p) here = (p.word == here.word) && (p.bit == here.bit)

-- whether a text begins with a character other than a blank
abbrev pub has_filled_front : List ℕ → Bool
has_filled_front [] = false
has_filled_front (c ∷ cs) = not (c == 32)

-- whether a listed card was assembled to bits at an address
unfoldable pub emits : List ℕ → ReportAddress → Bool
emits line here = is_place (place_in_report (without_front_blanks (take 9 (drop 6 line)))) here
    && has_filled_front (drop 16 line)

-- the text of a listed card, without leading and trailing blanks
unfoldable pub card_text : List ℕ → List ℕ
card_text line = without_end_blanks (without_front_blanks (drop 33 line))

-- the text of the first card in a listing that was assembled to bits at an address
abbrev pub label_card : ReportAddress → List (List ℕ) → List ℕ
label_card here [] = []
label_card here (line ∷ lines) =
    if not (is_listed line) then [] else if emits line here then card_text line
    else label_card here lines

-- the text of the card that was assembled to the bits at an address; empty if the report does not
-- list such a card
unfoldable pub label : List ℕ → ReportAddress → List ℕ
label report here = label_card here (pieces_of 10 report)
