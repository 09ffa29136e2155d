-- The fields of packed half-words, and half-words packed from their fields.
use Rattle.st_format.proofs.Common.{◌≡◌, ℕ, zero, suc, if◌then◌else◌, ◌+◌, ◌*◌, ◌%◌, ◌^◌, ◌<◌, ◌≤◌, ◌==◌, Bool, true, false, refl, sym, ◌∙◌, ap, arith, eqb-true, eqb-false, ne_eqb, half_word_part, later, is_full, i_of, address_of, j_of, operation_of, bit_address_of, second_address_of, p_of, length_of, byte_of, offset_of, k_of, words_moved, or_greatest, half_bits, first_bits, second_half_bits, second_bits}
use Rattle.std.proofs.Math.Nat.{mod_self, mod-eq_of_lt}

-- a field that is not zero encodes itself
greatest-some : (g n : ℕ) → 1 ≤ n → or_greatest g n ≡ n
greatest-some g n some =
    let not_zero : (n == 0) ≡ false = ne_eqb n 0 (λ e. omega arith) in ap (λ b. if b then g else n) not_zero

greatest-mod-by : (g n : ℕ) (b : Bool) → (n == g) ≡ b → 0 < g → 1 ≤ n → n ≤ g → or_greatest g (n % g) ≡ n
greatest-mod-by g n true e pos some fits =
    let same : n ≡ g = eqb-true n g e in
    let none : n % g ≡ 0 = ap (λ m. m % g) same ∙ mod_self g in
    ap (or_greatest g) none ∙ sym same
greatest-mod-by g n false e pos some fits =
    let other : n ≡ g → ⊥ = eqb-false n g e in
    ap (or_greatest g) (mod-eq_of_lt (omega arith)) ∙ greatest-some g n some

-- a number from 1 to the greatest is recovered from its remainder modulo the greatest
pub greatest-mod : (g n : ℕ) → 0 < g → 1 ≤ n → n ≤ g → or_greatest g (n % g) ≡ n
greatest-mod g n pos some fits = greatest-mod-by g n (n == g) refl pos some fits

pub mod-greatest : (g n : ℕ) → 0 < g → n < g → or_greatest g n % g ≡ n
mod-greatest g zero pos lt = mod_self g
mod-greatest g (suc n) pos lt =
    ap (λ m. m % g) (greatest-some g (suc n) (omega arith)) ∙ mod-eq_of_lt lt

-- ---- a half-word instruction

pub address-half_bits : (a j o i : ℕ) → a < 2 ^ 19 → j < 16 → o < 32 → i < 16 → address_of (half_bits a j o i) ≡ a
unfolding address_of half_bits
address-half_bits a j o i ha hj ho hi = omega arith

pub j-half_bits : (a j o i : ℕ) → a < 2 ^ 19 → j < 16 → o < 32 → i < 16 → j_of (half_bits a j o i) ≡ j
unfolding j_of half_bits
j-half_bits a j o i ha hj ho hi = omega arith

pub operation-half_bits : (a j o i : ℕ) → a < 2 ^ 19 → j < 16 → o < 32 → i < 16 → operation_of (half_bits a j o i) ≡ o
unfolding operation_of half_bits
operation-half_bits a j o i ha hj ho hi = omega arith

pub i-half_bits : (a j o i : ℕ) → i < 16 → i_of (half_bits a j o i) ≡ i
unfolding i_of half_bits
i-half_bits a j o i hi = omega arith

pub is_full-half_bits : (a j o i : ℕ) → i < 16 → is_full (half_bits a j o i) ≡ (o % 16 == 15)
unfolding is_full half_bits
is_full-half_bits a j o i hi =
    let e : half_word_part (a * 2 ^ 13 + j * 2 ^ 9 + o * 2 ^ 4 + i) 24 4 ≡ o % 16 = omega arith in ap (λ n. n == 15) e

-- a half-word equals the half-word packed from its fields
pub half_bits-fields : (h : ℕ) → h < 2 ^ 32 → half_bits (address_of h) (j_of h) (operation_of h) (i_of h) ≡ h
unfolding half_bits address_of j_of operation_of i_of
half_bits-fields h lt = omega arith

-- ---- the first half of a full word

pub address-first_bits : (a i : ℕ) → a < 2 ^ 24 → i < 16 → bit_address_of (first_bits a i) ≡ a
unfolding bit_address_of first_bits
address-first_bits a i ha hi = omega arith

pub i-first_bits : (a i : ℕ) → i < 16 → i_of (first_bits a i) ≡ i
unfolding i_of first_bits
i-first_bits a i hi = omega arith

pub is_full-first_bits : (a i : ℕ) → i < 16 → is_full (first_bits a i) ≡ true
unfolding is_full first_bits
is_full-first_bits a i hi =
    let e : half_word_part (a * 2 ^ 8 + 15 * 2 ^ 4 + i) 24 4 ≡ 15 = omega arith in ap (λ n. n == 15) e

-- a first half-word of a full word equals the half-word packed from its fields
pub first_bits-fields : (h : ℕ) → h < 2 ^ 32 → is_full h ≡ true → first_bits (bit_address_of h) (i_of h) ≡ h
unfolding first_bits is_full bit_address_of i_of
first_bits-fields h lt full =
    let ones : half_word_part h 24 4 ≡ 15 = eqb-true (half_word_part h 24 4) 15 full in omega arith

-- ---- the second half of an operation on a field

pub p-field_bits : (p l b f o : ℕ) → p < 8 → f < 128 → o < 512 → p_of (second_half_bits p l b f o) ≡ p
unfolding p_of second_half_bits
p-field_bits p l b f o hp hf ho = omega arith

pub length-field_bits : (p l b f o : ℕ) → p < 8 → 1 ≤ l → l ≤ 64 → f < 128 → o < 512
    → length_of (second_half_bits p l b f o) ≡ l
unfolding length_of second_half_bits
length-field_bits p l b f o hp some fits hf ho =
    let e : later (p * 2 ^ 29 + l % 64 * 2 ^ 23 + b % 8 * 2 ^ 20 + f * 2 ^ 13 + o * 2 ^ 4) 35 6 ≡ l % 64 =
    omega arith in
    ap (or_greatest 64) e ∙ greatest-mod 64 l (omega arith) some fits

pub byte-field_bits : (p l b f o : ℕ) → p < 8 → 1 ≤ b → b ≤ 8 → f < 128 → o < 512
    → byte_of (second_half_bits p l b f o) ≡ b
unfolding byte_of second_half_bits
byte-field_bits p l b f o hp some fits hf ho =
    let e : later (p * 2 ^ 29 + l % 64 * 2 ^ 23 + b % 8 * 2 ^ 20 + f * 2 ^ 13 + o * 2 ^ 4) 41 3 ≡ b % 8 =
    omega arith in
    ap (or_greatest 8) e ∙ greatest-mod 8 b (omega arith) some fits

pub offset-field_bits : (p l b f o : ℕ) → p < 8 → f < 128 → o < 512 → offset_of (second_half_bits p l b f o) ≡ f
unfolding offset_of second_half_bits
offset-field_bits p l b f o hp hf ho = omega arith

pub operation-field_bits : (p l b f o : ℕ) → p < 8 → f < 128 → o < 512 → later (second_half_bits p l b f o) 51 9 ≡ o
unfolding second_half_bits
operation-field_bits p l b f o hp hf ho = omega arith

pub k-field_bits : (p l b f o : ℕ) → k_of (second_half_bits p l b f o) ≡ 0
unfolding k_of second_half_bits
k-field_bits p l b f o = omega arith

-- a second half-word of an operation on a field equals the half-word packed from its fields
pub field_bits-fields : (s : ℕ) → s < 2 ^ 32 → k_of s ≡ 0
    → second_half_bits (p_of s) (length_of s) (byte_of s) (offset_of s) (later s 51 9) ≡ s
unfolding second_half_bits p_of length_of byte_of offset_of k_of
field_bits-fields s lt none =
    let l : or_greatest 64 (later s 35 6) % 64 ≡ later s 35 6 =
    mod-greatest 64 (later s 35 6) (omega arith) (omega arith) in
    let b : or_greatest 8 (later s 41 3) % 8 ≡ later s 41 3 =
    mod-greatest 8 (later s 41 3) (omega arith) (omega arith) in
    rw (l, b) (omega arith)

-- ---- the second half of an instruction with two addresses

pub second-second_bits : (a o k : ℕ) → a < 2 ^ 19 → o < 512 → k < 16 → second_address_of (second_bits a o k) ≡ a
unfolding second_address_of second_bits
second-second_bits a o k ha ho hk = omega arith

pub operation-second_bits : (a o k : ℕ) → o < 512 → k < 16 → later (second_bits a o k) 51 9 ≡ o
unfolding second_bits
operation-second_bits a o k ho hk = omega arith

pub k-second_bits : (a o k : ℕ) → k < 16 → k_of (second_bits a o k) ≡ k
unfolding k_of second_bits
k-second_bits a o k hk = omega arith

pub count-second_bits : (a o n : ℕ) → 1 ≤ n → n ≤ 16 → words_moved (second_bits a o (n % 16)) ≡ n
unfolding words_moved
count-second_bits a o n some fits =
    ap (or_greatest 16) (k-second_bits a o (n % 16) (omega arith)) ∙ greatest-mod 16 n (omega arith) some fits

pub second_bits-fields : (s : ℕ) → s < 2 ^ 32 → second_bits (second_address_of s) (later s 51 9) (k_of s) ≡ s
unfolding second_bits second_address_of k_of
second_bits-fields s lt = omega arith

pub count_of-mod : (s : ℕ) → words_moved s % 16 ≡ k_of s
unfolding words_moved k_of
count_of-mod s = mod-greatest 16 (later s 60 4) (omega arith) (omega arith)
