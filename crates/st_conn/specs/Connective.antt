-- Connectives: bitwise logic on a field and the accumulator. Bits are named by weight; the
-- rightmost bit has weight 0. The accumulator is a number below 2 ^ 128; a field has 64 bits at
-- most.
--
-- Proved: by their `ensures` clauses these calls do what definitions here say: `connect`
-- (logic.rt), `put_acc` (placement.rt), `combined` (logic.rt), `results` (logic.rt).
-- Read by: definitions in Connection.
-- Laws: CountsAgree (specs/Laws.antt of st_laws).
-- Change: the meaning is fixed by docs/connectives.md, since the contracts of `st_top::stretch` and
-- `st_account::ledger` unfold to a definition here. The form is free, with the proofs that unfold
-- it.
use Rattle.std.specs.Prelude.{ℕ, zero, suc, ◌+◌, ◌-◌, Bool, List, [], ◌∷◌, ◌==◌, ◌&&◌, nat_lt, nat_le, if◌then◌else◌}
use Rattle.std.specs.Int.{bit_at}
use Rattle.std.specs.List.{prefix_len, list_any}

-- the bits of the weights below n, the highest weight first
unfoldable pub by_weight : (ℕ → ℕ) → ℕ → List ℕ
by_weight bit zero = []
by_weight bit (suc n) = bit n ∷ by_weight bit n

-- the truth table's bit for a field bit and an accumulator bit: 00 has weight 3, 11 weight 0
abbrev pub truth_bit : ℕ → ℕ → ℕ → ℕ
truth_bit table zero zero = bit_at table 3
truth_bit table zero (suc _) = bit_at table 2
truth_bit table (suc _) zero = bit_at table 1
truth_bit table (suc _) (suc _) = bit_at table 0

-- the result bit of weight j, from the field's bit j and the accumulator's bit offset + j
abbrev pub result_at : ℕ → ℕ → ℕ → ℕ → ℕ → ℕ
result_at table acc offset field j = truth_bit table (bit_at field j) (bit_at acc (offset + j))

-- the n result bits, the highest weight first
unfoldable pub connective_bits : ℕ → ℕ → ℕ → ℕ → ℕ → List ℕ
connective_bits table acc offset field n = by_weight (result_at table acc offset field) n

-- the number of leading zeros of a list of bits
abbrev pub leading_zeros : List ℕ → ℕ
leading_zeros bits = prefix_len (λ b. b == 0) bits

-- whether weight i is among the n weights from offset
abbrev pub is_covered : ℕ → ℕ → ℕ → Bool
is_covered offset n i = nat_le offset i && nat_lt i (offset + n)

-- the bit of weight i of the accumulator after n bits are inserted from weight offset
abbrev pub inserted_at : ℕ → ℕ → ℕ → ℕ → ℕ → ℕ
inserted_at acc offset bits n i = if is_covered offset n i then bit_at bits (i - offset)
    else bit_at acc i

-- the 128 bits of the accumulator after n bits are inserted from weight offset
unfoldable pub accumulator_bits : ℕ → ℕ → ℕ → ℕ → List ℕ
accumulator_bits acc offset bits n = by_weight (inserted_at acc offset bits n) 128

-- bit j of the inserted bits if its place would be beyond weight 127, otherwise 0
abbrev pub bit_past : ℕ → ℕ → ℕ → ℕ
bit_past offset bits j = if nat_lt 127 (offset + j) then bit_at bits j else 0

-- whether an inserted one is lost because its place would be beyond weight 127
unfoldable pub is_one_lost : ℕ → ℕ → Bool
is_one_lost offset bits = list_any (λ b. b == 1) (by_weight (bit_past offset bits) 64)
