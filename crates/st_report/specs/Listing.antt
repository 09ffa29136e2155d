-- The bytes of the lines of the listing, including their line ends.
--
-- Proved: by their `ensures` clauses these calls do what definitions here say: `line_listed`
-- (cards.rt), `line_symbol` (cards.rt), `push_blanks` (cards.rt), `push_filling` (cards.rt), and
-- others.
-- Read by: definitions in Listing of st_top.
-- Laws: none names a definition of this file itself.
-- Change: the meaning is fixed by docs/report.md, since the contract of `st_top::stretch` unfolds
-- to a definition here. The form is free, with the proofs that unfold it.
use Rattle.std.specs.Prelude.{ℕ, ◌-◌, ◌*◌, ◌^◌, ◌≤◌, if◌then◌else◌, nat_lt, List, [], ◌++◌, length, replicate, IsAscii, codes, decimal, Option, Some, None}
use Rattle.std.specs.Int.{div_ceil}
use Rattle.st_text.specs.Bytes.{blank, lf}
use Rattle.st_text.specs.Blanks.{without_end_blanks}
use Rattle.st_text.specs.Numerals.{hex_text, bit_address}

-- n blanks
abbrev pub blanks : ℕ → List ℕ
blanks n = replicate n blank

-- the blanks that extend a text to n columns, none if it has at least n
abbrev pub filling : ℕ → List ℕ → List ℕ
filling n text = if nat_lt (length text) n then blanks (n - length text) else []

-- the text right-aligned in n columns
abbrev pub right_in : ℕ → List ℕ → List ℕ
right_in n text = filling n text ++ text

-- the text left-aligned in n columns
abbrev pub left_in : ℕ → List ℕ → List ℕ
left_in n text = text ++ filling n text

-- n bits in hexadecimal, padded with zeros on the right to whole digits
abbrev pub emitted_text : ℕ → ℕ → List ℕ
emitted_text bits n = let digits = div_ceil n 4 in hex_text digits (bits * 2 ^ (4 * digits - n))

-- the location of a card as text, empty if it has none
abbrev pub location_text : Option ℕ → List ℕ
location_text None = []
location_text (Some location) = bit_address location

-- the text of a card: at most 80 bytes of ASCII
pub record IsCardText (text : List ℕ) : Type 0 where
  pub short : length text ≤ 80
  pub ascii : IsAscii text

-- the line of a card: its number, its location, the n bits that it assembles to, and its text
abbrev pub listed_line : ℕ → Option ℕ → ℕ → ℕ → List ℕ → List ℕ
listed_line card location bits n text = without_end_blanks
    (right_in 5 (decimal card) ++ codes " " ++ right_in 9 (location_text location)
    ++ codes " " ++ left_in 16 (emitted_text bits n) ++ codes " " ++ text) ++ lf

-- the line of a symbol: its name, without trailing blanks, and its value
abbrev pub symbol_line : List ℕ → ℕ → List ℕ
symbol_line name value = codes "SYM " ++ without_end_blanks name ++ codes " " ++ bit_address value
    ++ lf
