-- Effective addresses are bit addresses.
use Rattle.st_prep.proofs.Common.{ℕ, ◌*◌, ◌^◌, ◌<◌, ℤ, pos, negsuc, ◌+ℤ◌, List, arith, nat_lt, slice_index, index_value, Instr, Half, Branch, Floating, Vfl, Connect, Move, BitBranch, IndBranch, StoreCounter, Transfer, Invalid, modulo, effective_address, index_operand, half_word_address, full_word_address, field_address, effective}
use Rattle.st_prep.proofs.Choices.{of_choice}

modulo-below : (z : ℤ) → modulo z (2 ^ 24) < 2 ^ 24
modulo-below (pos r) = omega arith
modulo-below (negsuc r) = omega arith

half_address-below : (x : List ℕ) (a i : ℕ) → half_word_address x a i < 2 ^ 24
unfolding half_word_address
half_address-below x a i = modulo-below (pos (32 * a) +ℤ index_value (index_operand x i))

bit_address-below : (x : List ℕ) (a i : ℕ) → full_word_address x a i < 2 ^ 24
unfolding full_word_address
bit_address-below x a i = modulo-below (pos a +ℤ index_value (index_operand x i))

field_address-below : (x : List ℕ) (p a i : ℕ) → field_address x p a i < 2 ^ 24
unfolding field_address
field_address-below x p a i =
    of_choice (λ n. n < 2 ^ 24) (nat_lt p 2) (full_word_address x a i) (effective_address 0 (slice_index x i))
    (bit_address-below x a i) (modulo-below (pos 0 +ℤ index_value (slice_index x i)))

pub effective-below : (x : List ℕ) (instr : Instr) → effective x instr < 2 ^ 24
unfolding effective
effective-below x (Half op a j i) = half_address-below x a i
effective-below x (Branch op a i) = half_address-below x a i
effective-below x (Floating n a i) = half_address-below x a i
effective-below x (Vfl op d u n p l b o a i) = field_address-below x p a i
effective-below x (Connect k t p l b o a i) = field_address-below x p a i
effective-below x (Move s a i second n) = bit_address-below x a i
effective-below x (BitBranch s c a i second) = bit_address-below x a i
effective-below x (IndBranch s off a i second) = bit_address-below x a i
effective-below x (StoreCounter a i second) = bit_address-below x a i
effective-below x (Transfer w a i n) = bit_address-below x a i
effective-below x (Invalid first second full) = omega arith
