-- The fields of an instruction by their bits. Bits 32-63 are those of the second half-word.
--
-- Proved: by their `ensures` clauses these calls do what definitions here say: `decode`
-- (decoding.rt), `length_in_halves` (decoding.rt), `encode` (encoding.rt), `field_bits`
-- (encoding.rt), and others.
-- Read by: definitions in Formats, Validity, Operations, Spelling of st_dis, and others.
-- Laws: InstructionKeepsBits (specs/Laws.antt).
-- Change: the meaning is fixed by docs/instructions.md, since the contracts of `st_top::stretch`
-- and `st_account::ledger` unfold to a definition here. The form is free, with the proofs that
-- unfold it.
use Rattle.std.specs.Prelude.{ℕ, ◌+◌, ◌-◌, ◌*◌, ◌/◌, ◌%◌, ◌^◌, Bool, ◌==◌, if◌then◌else◌}

-- the number in the n bits of a half-word from bit a
abbrev pub half_word_part : ℕ → ℕ → ℕ → ℕ
half_word_part half a n = half / 2 ^ (32 - a - n) % 2 ^ n

-- the number in the n bits of the second half-word from bit a, 32 to 63
abbrev pub later : ℕ → ℕ → ℕ → ℕ
later second a n = half_word_part second (a - 32) n

-- whether bit a, 32 to 63, of the second half-word is one
abbrev pub is_one : ℕ → ℕ → Bool
is_one second a = later second a 1 == 1

-- whether a first half-word begins a full word: its bits 24-27 are ones
unfoldable pub is_full : ℕ → Bool
is_full first = half_word_part first 24 4 == 15

-- the I field, which selects the index word of the address, in both formats
unfoldable pub i_of : ℕ → ℕ
i_of first = half_word_part first 28 4

-- the address of a half-word instruction, a half-word address
unfoldable pub address_of : ℕ → ℕ
address_of first = half_word_part first 0 19

-- the J field: the index word of a half-word instruction, or its operation within a group
unfoldable pub j_of : ℕ → ℕ
j_of first = half_word_part first 19 4

-- the operation number of a half-word instruction
unfoldable pub operation_of : ℕ → ℕ
operation_of first = half_word_part first 23 5

-- the address of a full-word instruction, a bit address
unfoldable pub bit_address_of : ℕ → ℕ
bit_address_of first = half_word_part first 0 24

-- the second address of a full-word instruction, a half-word address
unfoldable pub second_address_of : ℕ → ℕ
second_address_of second = later second 32 19

-- the P field, the progressive form
unfoldable pub p_of : ℕ → ℕ
p_of second = later second 32 3

-- the value of a field in which zero encodes the greatest number
abbrev pub or_greatest : ℕ → ℕ → ℕ
or_greatest greatest n = if n == 0 then greatest else n

-- the length of a field in bits, 1 to 64; the bits have 0 for 64
unfoldable pub length_of : ℕ → ℕ
length_of second = or_greatest 64 (later second 35 6)

-- the byte size of a field in bits, 1 to 8; the bits have 0 for 8
unfoldable pub byte_of : ℕ → ℕ
byte_of second = or_greatest 8 (later second 41 3)

-- the offset of a field in the accumulator
unfoldable pub offset_of : ℕ → ℕ
offset_of second = later second 44 7

-- the K field: the last four bits, which are the word count of a transmission
unfoldable pub k_of : ℕ → ℕ
k_of second = later second 60 4

-- the word count of a transmission, 1 to 16; the bits have 0 for 16
unfoldable pub words_moved : ℕ → ℕ
words_moved second = or_greatest 16 (k_of second)

-- the bits of a half-word instruction with these fields
unfoldable pub half_bits : ℕ → ℕ → ℕ → ℕ → ℕ
half_bits address j operation i = address * 2 ^ 13 + j * 2 ^ 9 + operation * 2 ^ 4 + i

-- the first half-word of a full-word instruction with these fields
unfoldable pub first_bits : ℕ → ℕ → ℕ
first_bits address i = address * 2 ^ 8 + 15 * 2 ^ 4 + i

-- the second half-word of an operation on a field with these fields
unfoldable pub second_half_bits : ℕ → ℕ → ℕ → ℕ → ℕ → ℕ
second_half_bits p length byte offset operation =
    p * 2 ^ 29 + length % 64 * 2 ^ 23 + byte % 8 * 2 ^ 20 + offset * 2 ^ 13 + operation * 2 ^ 4

-- the second half-word of an instruction with two addresses, with these fields
unfoldable pub second_bits : ℕ → ℕ → ℕ → ℕ
second_bits second operation k = second * 2 ^ 13 + operation * 2 ^ 4 + k
