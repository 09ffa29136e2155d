-- The text that the printer prints of a list of words; an order prints eight.
--
-- Proved: by their `ensures` clauses these calls do what definitions here say: `print_text`
-- (printer.rt), `push_word` (printer.rt), `text_of` (leaving.rt of st_run).
-- Read by: definitions in ReportedEvents of st_run, Serving of st_run, BorderLines of st_lines.
-- Laws: none names a definition of this file itself.
-- Change: the meaning is fixed by docs/machine.md, since the contracts of `st_top::stretch` and
-- `st_account::ledger` unfold to a definition here. The form is free, with the proofs that unfold
-- it.
use Rattle.std.specs.Prelude.{ℕ, if◌then◌else◌, List, [], ◌∷◌, map}
use Rattle.std.specs.List.{flat_map}
use Rattle.st_text.specs.Bytes.{blank, is_printable_byte}
use Rattle.st_bits.specs.Bits.{part}
use Rattle.st_text.specs.Blanks.{without_end_blanks}

-- the bytes of a word, the leftmost first
abbrev pub bytes_of : ℕ → List ℕ
bytes_of x = map (λ first. part x first 8) (0 ∷ 8 ∷ 16 ∷ 24 ∷ 32 ∷ 40 ∷ 48 ∷ 56 ∷ [])

-- the character of a byte, a blank if the byte is not printable
abbrev pub character : ℕ → ℕ
character b = if is_printable_byte b then b else blank

-- the characters of a word
unfoldable pub characters_of : ℕ → List ℕ
characters_of x = map character (bytes_of x)

-- the text of a list of words, without trailing blanks
unfoldable pub line_of_words : List ℕ → List ℕ
line_of_words words = without_end_blanks (flat_map characters_of words)
