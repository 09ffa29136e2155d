-- Bits shifted to their places, and ones whose place is beyond weight 127.
use Rattle.st_conn.proofs.Common.{◌≡◌, ℕ, suc, ◌+◌, ◌-◌, ◌*◌, ◌%◌, ◌^◌, ◌<◌, ◌≤◌, Bool, true, false, cond, ltb, Decides, refl, sym, ◌∙◌, ap, arith, inl, inr, add-zero, min, max, bit_and, bit_or, bit_at, w128, bit_not, count_leading_zeros, cases_lt, nat_tests, Decides-like, Decides-ltb, Decides-eqb, Decides-below_or, pow_pos, shr_high, leading_top, leading_length, bit_at-lt, bit_at-zero, bit_at_above, bit_at_cat_low, bit_at_cat_high, bit_at_ones, bit_at_ones_above, bit_at_and, bit_at_or, bit_at_not, pow-suc, pow_mono, by_weight, is_covered, inserted_at, bit_past, is_one_lost}
use Rattle.std.specs.Prelude.{◌==◌}
use Rattle.std.specs.List.{list_any}
use Rattle.st_conn.proofs.TableRows.{bit_at-mod}

pub covered-below : (offset n i : ℕ) → i < offset → is_covered offset n i ≡ false
covered-below offset n i h = grind (arith, nat_tests)

pub covered-inside : (offset n i : ℕ) → offset ≤ i → i < offset + n → is_covered offset n i ≡ true
covered-inside offset n i low high = grind (arith, nat_tests)

pub covered-above : (offset n i : ℕ) → offset + n ≤ i → is_covered offset n i ≡ false
covered-above offset n i h = grind (arith, nat_tests)

-- the bits below the shift are zeros
pub bit_at-shifted_below : (x k w i : ℕ) → i < w → i < k → bit_at (x * 2 ^ k % 2 ^ w) i ≡ 0
bit_at-shifted_below x k w i h below =
    bit_at-mod (x * 2 ^ k) w i h
    ∙ ap (λ y. bit_at y i) (sym (add-zero (x * 2 ^ k)))
    ∙ bit_at_cat_low x k 0 i below
    ∙ bit_at-zero i

-- the bits from the shift on are those of the number
pub bit_at-shifted : (x k w i : ℕ) → i < w → k ≤ i → bit_at (x * 2 ^ k % 2 ^ w) i ≡ bit_at x (i - k)
bit_at-shifted x k w i h above =
    bit_at-mod (x * 2 ^ k) w i h
    ∙ ap (λ y. bit_at y i) (sym (add-zero (x * 2 ^ k)))
    ∙ bit_at_cat_high x k 0 i (pow_pos k) above

-- n ones at the weights from offset
pub bit_at-places : (offset n i : ℕ) → i < 128
    → bit_at ((2 ^ n - 1) * 2 ^ offset % 2 ^ 128) i ≡ cond (is_covered offset n i) 1 0
bit_at-places offset n i h =
    elim (cases_lt i offset) [
      | inl low ↦
          bit_at-shifted_below (2 ^ n - 1) offset 128 i h low
          ∙ sym (ap (λ b. cond b 1 0) (covered-below offset n i low))
      | inr from ↦ elim (cases_lt i (offset + n)) [
        | inl inside ↦
            bit_at-shifted (2 ^ n - 1) offset 128 i h from
            ∙ bit_at_ones n (i - offset) (omega arith)
            ∙ sym (ap (λ b. cond b 1 0) (covered-inside offset n i from inside))
        | inr past ↦
            bit_at-shifted (2 ^ n - 1) offset 128 i h from
            ∙ bit_at_ones_above n (i - offset) (omega arith)
            ∙ sym (ap (λ b. cond b 1 0) (covered-above offset n i past))
      ]
    ]

old_bit : (old hole new : ℕ) → old < 2 → hole ≡ 0 → new ≡ 0 → max (min old (1 - hole)) new ≡ old
old_bit old hole new h p q = omega arith

new_bit : (old hole new bit : ℕ) → hole ≡ 1 → new ≡ bit → max (min old (1 - hole)) new ≡ bit
new_bit old hole new bit p q = omega arith

-- the bits of a number with bits inserted where a mask has ones
pub bit_at-put : (acc offset bits n mask i : ℕ) → mask < 2 ^ 128 → bits < 2 ^ n → i < 128
    → bit_at mask i ≡ cond (is_covered offset n i) 1 0
    → inserted_at acc offset bits n i
    ≡ bit_at (bit_or (bit_and acc (bit_not w128 mask)) (bits * 2 ^ offset % 2 ^ 128)) i
bit_at-put acc offset bits n mask i width fits h hole =
    let new = bits * 2 ^ offset % 2 ^ 128 in
    let both : bit_at (bit_or (bit_and acc (bit_not w128 mask)) new) i
    ≡ max (min (bit_at acc i) (1 - bit_at mask i)) (bit_at new i) =
    bit_at_or (bit_and acc (bit_not w128 mask)) new i
    ∙ ap (λ y. max y (bit_at new i)) (bit_at_and acc (bit_not w128 mask) i)
    ∙ ap (λ y. max (min (bit_at acc i) y) (bit_at new i)) (bit_at_not w128 mask i width h) in
    let choice = λ (b : Bool). cond b (bit_at bits (i - offset)) (bit_at acc i) in
    elim (cases_lt i offset) [
      | inl low ↦
          ap choice (covered-below offset n i low)
          ∙ sym
          (both
          ∙ old_bit (bit_at acc i) (bit_at mask i) (bit_at new i) (bit_at-lt acc i)
          (hole ∙ ap (λ b. cond b 1 0) (covered-below offset n i low))
          (bit_at-shifted_below bits offset 128 i h low))
      | inr from ↦ elim (cases_lt i (offset + n)) [
        | inl inside ↦
            ap choice (covered-inside offset n i from inside)
            ∙ sym
            (both
            ∙ new_bit (bit_at acc i) (bit_at mask i) (bit_at new i) (bit_at bits (i - offset))
            (hole ∙ ap (λ b. cond b 1 0) (covered-inside offset n i from inside))
            (bit_at-shifted bits offset 128 i h from))
        | inr past ↦
            ap choice (covered-above offset n i past)
            ∙ sym
            (both
            ∙ old_bit (bit_at acc i) (bit_at mask i) (bit_at new i) (bit_at-lt acc i)
            (hole ∙ ap (λ b. cond b 1 0) (covered-above offset n i past))
            (bit_at-shifted bits offset 128 i h from ∙ bit_at_above bits n (i - offset) fits (omega arith)))
      ]
    ]

top_bit : (x j : ℕ) → 2 ^ j ≤ x → x < 2 ^ suc j → bit_at x j ≡ 1
top_bit x j low high =
    let rest : x - 2 ^ j < 2 ^ j = omega (arith, pow-suc 2 j) in
    let parts : x ≡ 1 * 2 ^ j + (x - 2 ^ j) = omega arith in
    ap (λ y. bit_at y j) parts ∙ ap (λ y. y % 2) (shr_high 1 j (x - 2 ^ j) rest)

-- a one of a number whose place, from weight offset, is beyond weight 127
abbrev pub LostOne : ℕ → ℕ → Type 0
LostOne offset bits = (j : ℕ) × (127 < offset + j) × (bit_at bits j ≡ 1)

lost_by_room : (offset bits : ℕ) → offset ≤ 127 → bits < 2 ^ 64 → count_leading_zeros 128 bits < offset
    → LostOne offset bits
lost_by_room offset bits place fits h =
    let wide : bits < 2 ^ 128 = omega arith in
    let size = leading_length 128 bits wide in
    let two : 2 ^ 1 ≤ 2 ^ size.0 = pow_mono {i = 1} (omega (arith, size.1)) in
    let top = leading_top 128 bits (omega (arith, size.3, two)) wide in
    (top.0, omega (arith, top.1), top_bit bits top.0 top.2 top.3)

room_by_lost : (offset bits : ℕ) → bits < 2 ^ 64 → LostOne offset bits → count_leading_zeros 128 bits < offset
room_by_lost offset bits fits lost =
    elim (cases_lt (count_leading_zeros 128 bits) offset) [
      | inl h ↦ h
      | inr h ↦
          let size = leading_length 128 bits (omega arith) in
          let none = bit_at_above bits size.0 lost.0 size.2 (omega (arith, size.1, lost.1)) in
          absurd (omega (arith, none, lost.2))
    ]

-- a one is lost if and only if the number has fewer leading zeros than the shift needs
pub Decides-room : (offset bits : ℕ) → offset ≤ 127 → bits < 2 ^ 64
    → Decides (ltb (count_leading_zeros 128 bits) offset) (LostOne offset bits)
Decides-room offset bits place fits =
    Decides-like
    (ltb (count_leading_zeros 128 bits) offset)
    (lost_by_room offset bits place fits)
    (room_by_lost offset bits fits)
    (Decides-ltb (count_leading_zeros 128 bits) offset)

-- bit_past of a weight whose place is beyond weight 127, and of one whose place is not
bit_past-far : (offset bits j : ℕ) → 127 < offset + j → bit_past offset bits j ≡ bit_at bits j
bit_past-far offset bits j h = grind (arith, nat_tests)

bit_past-near : (offset bits j : ℕ) → offset + j ≤ 127 → bit_past offset bits j ≡ 0
bit_past-near offset bits j h = grind (arith, nat_tests)

-- a one among the weights below 64 whose place is beyond weight 127
abbrev PastOne : ℕ → ℕ → Type 0
PastOne offset bits = (j : ℕ) × (j < 64) × (bit_past offset bits j ≡ 1)

past-lost : (offset bits : ℕ) → PastOne offset bits → LostOne offset bits
past-lost offset bits past =
    elim (cases_lt 127 (offset + past.0)) [
      | inl far ↦ (past.0, far, sym (bit_past-far offset bits past.0 far) ∙ past.2)
      | inr near ↦ let none = bit_past-near offset bits past.0 near in absurd (omega (arith, none, past.2))
    ]

lost-past : (offset bits : ℕ) → bits < 2 ^ 64 → LostOne offset bits → PastOne offset bits
lost-past offset bits fits lost =
    let short : lost.0 < 64 =
    elim (cases_lt lost.0 64) [
      | inl h ↦ h
      | inr h ↦ let none = bit_at_above bits 64 lost.0 fits h in absurd (omega (arith, none, lost.2))
    ] in
    (lost.0, short, bit_past-far offset bits lost.0 lost.1 ∙ lost.2)

pub Decides-past : (offset bits : ℕ) → bits < 2 ^ 64 → Decides (is_one_lost offset bits) (LostOne offset bits)
unfolding by_weight is_one_lost
Decides-past offset bits fits =
    Decides-like
    (is_one_lost offset bits)
    (past-lost offset bits)
    (lost-past offset bits fits)
    (Decides-below_or
    (λ j. bit_past offset bits j == 1)
    (λ j. bit_past offset bits j ≡ 1)
    (λ n. list_any (λ b. b == 1) (by_weight (bit_past offset bits) n))
    (λ j. Decides-eqb (bit_past offset bits j) 1)
    refl
    (λ _. refl)
    64)
