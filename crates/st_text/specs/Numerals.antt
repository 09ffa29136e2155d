-- The formats of numbers, addresses and Boolean marks.
--
-- Proved: by their `ensures` clauses these calls do what definitions here say: `hex_char`
-- (lines.rt), `push_bit_address` (lines.rt), `push_flag` (lines.rt), `push_half_address`
-- (lines.rt), and others.
-- Read by: definitions in Lines of st_lines, Line of st_report, Texts of st_dis, Listing of
-- st_report, and others.
-- Laws: none names a definition of this file itself.
-- Change: the meaning is fixed by docs/strap.md, since the contracts of `st_top::stretch` and
-- `st_account::ledger` unfold to a definition here. The form is free, with the proofs that unfold
-- it.
use Rattle.std.specs.Prelude.{ℕ, suc, zero, ◌+◌, ◌-◌, ◌*◌, ◌/◌, ◌%◌, Bool, true, false, if◌then◌else◌, nat_lt, List, [], ◌∷◌, ◌++◌, codes, decimal}
use Rattle.st_text.specs.Bytes.{digit_zero, letter_a}

-- the upper-case hexadecimal digit of a number below 16
abbrev pub hex_digit : ℕ → ℕ
hex_digit d = if nat_lt d 10 then digit_zero + d else letter_a - 10 + d

-- the last n hexadecimal digits of x, the highest first
unfoldable pub hex_text : ℕ → ℕ → List ℕ
hex_text zero x = []
hex_text (suc n) x = hex_text n (x / 16) ++ hex_digit (x % 16) ∷ []

-- a word of 64 bits as sixteen hexadecimal digits
abbrev pub hex_word : ℕ → List ℕ
hex_word word = hex_text 16 word

-- a bit of a word as word.bit
abbrev pub place : ℕ → ℕ → List ℕ
place word bit = decimal word ++ codes "." ++ decimal bit

-- a bit address as word.bit
abbrev pub bit_address : ℕ → List ℕ
bit_address b = place (b / 64) (b % 64)

-- a half-word address as word.bit: the halves of a word begin at its bits 0 and 32
abbrev pub half_address : ℕ → List ℕ
half_address h = place (h / 2) (32 * (h % 2))

-- a Boolean as 1 or 0
abbrev pub flag : Bool → List ℕ
flag true = codes "1"
flag false = codes "0"
