-- A number as a list of its bits, zeros and ones, the highest bit first; and fields of such lists.
--
-- Proved: by their `ensures` clauses these calls do what definitions here say: `part` (parts.rt),
-- `get_field` (fields.rt), `put_field` (fields.rt), `with_part` (parts.rt), and others.
-- Read by: definitions in IndexWord, Indicators, Registers, Operand of st_exec, and others.
-- Laws: CountsAgree (specs/Laws.antt of st_laws).
-- Change: the meaning is fixed by docs/machine.md, since the contracts of `st_top::stretch` and
-- `st_account::ledger` unfold to a definition here. The form is free, with the proofs that unfold
-- it.
use Rattle.std.specs.Prelude.{ℕ, zero, suc, ◌+◌, ◌-◌, ◌*◌, ◌/◌, ◌%◌, ◌^◌, List, [], ◌∷◌, ◌++◌, length, take, drop}
use Rattle.std.specs.Int.{bit_at}

-- the n lowest bits of a number, the highest of them first
unfoldable pub bits : ℕ → ℕ → List ℕ
bits zero x = []
bits (suc n) x = bit_at x n ∷ bits n x

-- the number whose binary digits are the list, the highest digit first
unfoldable pub num : List ℕ → ℕ
num [] = 0
num (b ∷ bs) = b * 2 ^ length bs + num bs

-- the bits of a list of words in order, 64 bits per word
unfoldable pub all_bits : List ℕ → List ℕ
all_bits [] = []
all_bits (w ∷ ws) = bits 64 w ++ all_bits ws

-- the n bits of a list from bit address a
unfoldable pub field : List ℕ → ℕ → ℕ → List ℕ
field s a n = take n (drop a s)

-- the list of bits s with the list b in place of its bits from bit address a
unfoldable pub put : List ℕ → ℕ → List ℕ → List ℕ
put s a b = take a s ++ b ++ drop (a + length b) s

-- the n words that a list of bits contains, 64 bits per word
unfoldable pub words_of : ℕ → List ℕ → List ℕ
words_of zero s = []
words_of (suc n) s = num (take 64 s) ∷ words_of n (drop 64 s)

-- the number in the n bits of the word x from bit a
abbrev pub part : ℕ → ℕ → ℕ → ℕ
part x a n = x / 2 ^ (64 - a - n) % 2 ^ n

-- the word x with the number v in its n bits from bit a
abbrev pub with_part : ℕ → ℕ → ℕ → ℕ → ℕ
with_part x a n v = x / 2 ^ (64 - a) * 2 ^ (64 - a) + v * 2 ^ (64 - a - n) + x % 2 ^ (64 - a - n)

-- the word x with all bits cleared except the n bits from bit a
abbrev pub kept_bits : ℕ → ℕ → ℕ → ℕ
kept_bits x a n = part x a n * 2 ^ (64 - a - n)
