-- Names for the bytes at which texts are split and of which they consist.
--
-- Proved: by their `ensures` clauses these calls do what definitions here say: `filled_len`
-- (blanks.rt), `is_printable_byte` (bytes.rt), `close_line` (lines.rt), `is_printable` (cards.rt of
-- st_card), and others.
-- Read by: definitions in Numerals, Blanks, Number, Pieces, and others.
-- Laws: CardsAreLines (specs/Laws.antt of st_dis), LabelsStayInTheirLines (specs/Laws.antt of
-- st_entries).
-- Change: the meaning is fixed by docs/strap.md, since the contracts of `st_top::stretch` and
-- `st_account::ledger` and `st_draw::draw` unfold to a definition here. The form is free, with the
-- proofs that unfold it.
use Rattle.std.specs.Prelude.{ℕ, ◌&&◌, Bool, nat_le, List, [], ◌∷◌}
use Rattle.std.specs.List.{list_all}

abbrev pub line_end : ℕ
line_end = 10

abbrev pub blank : ℕ
blank = 32

abbrev pub dollar : ℕ
dollar = 36

abbrev pub open_parenthesis : ℕ
open_parenthesis = 40

abbrev pub close_parenthesis : ℕ
close_parenthesis = 41

abbrev pub asterisk : ℕ
asterisk = 42

abbrev pub plus_sign : ℕ
plus_sign = 43

abbrev pub comma : ℕ
comma = 44

abbrev pub minus_sign : ℕ
minus_sign = 45

abbrev pub period : ℕ
period = 46

abbrev pub slash : ℕ
slash = 47

abbrev pub digit_zero : ℕ
digit_zero = 48

abbrev pub semicolon : ℕ
semicolon = 59

abbrev pub letter_a : ℕ
letter_a = 65

abbrev pub letter_n : ℕ
letter_n = 78

-- the line end as a text
abbrev pub lf : List ℕ
lf = line_end ∷ []

-- whether a byte is a blank or a printable character of ASCII, which ends with the tilde, 126
abbrev pub is_printable_byte : ℕ → Bool
is_printable_byte c = nat_le blank c && nat_le c 126

-- whether a text consists of blanks and printable characters of ASCII
abbrev pub is_printable : List ℕ → Bool
is_printable text = list_all is_printable_byte text
