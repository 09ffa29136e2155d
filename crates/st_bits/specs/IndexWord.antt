-- The parts of an index word: value magnitude in bits 0-23, value sign in bit 24, count in bits
-- 28-45, refill address in bits 46-63.
--
-- Proved: by their `ensures` clauses these calls do what definitions here say: `count_of`
-- (index_words.rt), `refill_of` (index_words.rt), `value_of` (index_words.rt), `with_count`
-- (index_words.rt), and others.
-- Read by: definitions in SpeculativeChanges of st_prep, IndexChange of st_index, Emitting of
-- st_asm, Entry of st_prep.
-- Laws: none names a definition of this file itself.
-- Change: the meaning is fixed by docs/machine.md, since the contracts of `st_top::stretch` and
-- `st_account::ledger` unfold to a definition here. The form is free, with the proofs that unfold
-- it.
use Rattle.std.specs.Prelude.{ℕ, ◌%◌, ◌^◌, ℤ, pos, negsuc, neg_ℤ, unsigned_abs, ◌==◌, if◌then◌else◌}
use Rattle.st_bits.specs.Bits.{part, with_part}

-- the signed value of an index word; it is negative if the sign bit is one
abbrev pub index_value : ℕ → ℤ
index_value x = if part x 24 1 == 0 then pos (part x 0 24) else neg_ℤ (pos (part x 0 24))

-- the count of an index word
abbrev pub count_of : ℕ → ℕ
count_of x = part x 28 18

-- the refill address of an index word
abbrev pub refill_of : ℕ → ℕ
refill_of x = part x 46 18

-- the sign bit of a number: 1 for a negative number, 0 for zero and positive numbers
abbrev pub sign_bit : ℤ → ℕ
sign_bit (pos _) = 0
sign_bit (negsuc _) = 1

-- the index word x with the value r: the magnitude modulo 2 ^ 24 and the sign
abbrev pub index_word_with_value : ℕ → ℤ → ℕ
index_word_with_value x r = with_part (with_part x 0 24 (unsigned_abs r % 2 ^ 24)) 24 1 (sign_bit r)

-- the index word x with the count c
abbrev pub with_count : ℕ → ℕ → ℕ
with_count x c = with_part x 28 18 c

-- the index word x with the refill address a
abbrev pub with_refill : ℕ → ℕ → ℕ
with_refill x a = with_part x 46 18 a
