-- The meaning of the words of the command line.
--
-- Proved: by their `ensures` clauses these calls do what definitions here say: `draw` (program.rt),
-- `kind_named` (words.rt), `part_between` (words.rt), `part_named` (words.rt), and others.
-- Laws: none names a definition of this file itself.
-- Change: the meaning is fixed by docs/chart.md, since the contract of `st_draw::draw` unfolds to a
-- definition here. The form is free, with the proofs that unfold it.
use Rattle.std.specs.Prelude.{ℕ, ◌+◌, ◌-◌, ◌^◌, nat_eq, nat_le, min, ◌&&◌, codes, if◌then◌else◌, List, [], ◌∷◌, Option, None, Some}
use Rattle.std.specs.Option.{option_map, option_and_then}
use Rattle.std.specs.Cmp.Lexicographic.{pointwise}
use Rattle.st_text.specs.Number.{number_up_to}
use Rattle.st_entries.specs.declared.timetable.RowRange.{RowRange}
use Rattle.st_draw.specs.declared.words.Choice.{Choice}
use Rattle.st_draw.specs.declared.words.PictureKind.{PictureKind}
use Rattle.st_draw.specs.declared.words.PictureKind.TheVariants.{Svg, Text, Kanata}

-- the most rows that are drawn
abbrev pub row_limit : ℕ
row_limit = 200

-- the rows that are drawn by default
abbrev pub first_part : RowRange
first_part = record { from = 1; to = row_limit }

-- the kind of chart that a word names
abbrev pub kind_named : List ℕ → Option PictureKind
kind_named word =
    if pointwise nat_eq word (codes "svg") then Some Svg
    else if pointwise nat_eq word (codes "text") then Some Text
    else if pointwise nat_eq word (codes "kanata") then Some Kanata
    else None

-- the rows from one number to another: at least one row, and at most 200
abbrev pub part_between : ℕ → ℕ → Option RowRange
part_between from to =
    if nat_le 1 from && nat_le from to
    then Some (record { from = from; to = min to (from + (row_limit - 1)) })
    else None

-- the rows that two words name
unfoldable pub part_named : List ℕ → List ℕ → Option RowRange
part_named from to = option_and_then (λ f. option_and_then (λ t. part_between f t)
    (number_up_to (2 ^ 64 - 1) to)) (number_up_to (2 ^ 64 - 1) from)

-- the chart that a word and two numbers request
abbrev pub choice_of_words : List ℕ → List ℕ → List ℕ → Option Choice
choice_of_words word from to =
    option_and_then (λ k. option_map (λ p. record { kind = k; part = p }) (part_named from to))
    (kind_named word)

-- the chart that the words request, if they are valid
unfoldable pub picture_choice : List (List ℕ) → Option Choice
picture_choice [] = Some (record { kind = Svg; part = first_part })
picture_choice (word ∷ []) = option_map (λ k. record { kind = k; part = first_part })
    (kind_named word)
picture_choice (from ∷ to ∷ []) = option_map (λ p. record { kind = Svg; part = p })
    (part_named from to)
picture_choice (word ∷ from ∷ to ∷ []) = choice_of_words word from to
picture_choice (word ∷ from ∷ to ∷ more ∷ words) = None
