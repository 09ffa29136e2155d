-- Changed index words have 64 bits.
use Rattle.st_prep.proofs.Common.{ℕ, zero, suc, ◌/◌, ◌%◌, ◌^◌, ◌<◌, ℤ, pos, negsuc, ◌+ℤ◌, neg_ℤ, List, get_or, Option, None, Some, arith, IfSome, nat_lt, unwrap_or, unsigned_abs, slice_index, bits, with_part, index_value, count_of, index_word_with_value, with_count, with_refill, sign_bit, HalfOp, Lx, Lv, Lc, Lr, Sx, Sv, Sc, Sr, Sva, VPlus, VPlusC, Kv, Lvs, Lvi, Lci, Lri, VPlusI, VMinusI, VPlusIC, VPlusICR, Kvi, Kc, Kci, Cb, Cbr, R, Ex, Instr, Half, Branch, Floating, Vfl, Connect, Move, BitBranch, IndBranch, StoreCounter, Transfer, Invalid, with_added, one_less, with_lower_count, selected_sum, is_counting, increment_of, progressive_word, SpeculativeChange, without_change, change_of_comparison, change_of_index, half_change, progressive_change, change, HasFields, IsChange}
use Rattle.st_prep.proofs.Choices.{of_choice}

-- ---- parts of a word that are replaced

front-below : (x v : ℕ) → x < 2 ^ 64 → v < 2 ^ 25 → with_part x 0 25 v < 2 ^ 64
front-below x v word fits = omega arith

magnitude-below : (x v : ℕ) → x < 2 ^ 64 → v < 2 ^ 24 → with_part x 0 24 v < 2 ^ 64
magnitude-below x v word fits = omega arith

sign-below : (x v : ℕ) → x < 2 ^ 64 → v < 2 → with_part x 24 1 v < 2 ^ 64
sign-below x v word fits = omega arith

count-below : (x v : ℕ) → x < 2 ^ 64 → v < 2 ^ 18 → with_count x v < 2 ^ 64
count-below x v word fits = omega arith

refill-below : (x v : ℕ) → x < 2 ^ 64 → v < 2 ^ 18 → with_refill x v < 2 ^ 64
refill-below x v word fits = omega arith

sign_bit-below : (r : ℤ) → sign_bit r < 2
sign_bit-below (pos n) = omega arith
sign_bit-below (negsuc n) = omega arith

value-below : (x : ℕ) (r : ℤ) → x < 2 ^ 64 → index_word_with_value x r < 2 ^ 64
value-below x r word =
    let m : ℕ = unsigned_abs r % 2 ^ 24 in
    sign-below (with_part x 0 24 m) (sign_bit r) (magnitude-below x m word (omega arith)) (sign_bit-below r)

one_less-below : (c : ℕ) → c < 2 ^ 18 → one_less c < 2 ^ 18
one_less-below zero h = omega arith
one_less-below (suc c) h = omega arith

lower_count-below : (x : ℕ) → x < 2 ^ 64 → with_lower_count x < 2 ^ 64
lower_count-below x word =
    count-below x (one_less (count_of x)) word (one_less-below (count_of x) (omega arith))

progressed-below : (p x a : ℕ) → x < 2 ^ 64 → progressive_word p x a < 2 ^ 64
progressed-below p x a word =
    let y : ℕ = with_added x (increment_of p a) in
    let fits : y < 2 ^ 64 = value-below x (index_value x +ℤ increment_of p a) word in
    of_choice (λ n. n < 2 ^ 64) (is_counting p) (with_lower_count y) y (lower_count-below y fits) fits

-- ---- changes

-- the number of a changed index word is in range, and both contents have 64 bits
abbrev pub Fits : SpeculativeChange → Type 0
Fits speculative = IfSome speculative.index IsChange

refilled-below : (r : Option ℕ) (y : ℕ) → IfSome r (λ w. w < 2 ^ 64) → y < 2 ^ 64 → unwrap_or r y < 2 ^ 64
refilled-below None y some word = word
refilled-below (Some w) y some word = some

changed-fits : (j x y : ℕ) (r : Option ℕ) → j < 16 → x < 2 ^ 64 → y < 2 ^ 64 → IfSome r (λ w. w < 2 ^ 64)
    → Fits (change_of_index j x y r)
unfolding change_of_index
changed-fits j x y r number kept word some =
    record { number = number; kept = kept; word = refilled-below r y some word }

half_change-fits : (op : HalfOp) (xs : List ℕ) (a j x e : ℕ) (r : Option ℕ) → j < 16 → x < 2 ^ 64 → e < 2 ^ 24
    → IfSome r (λ w. w < 2 ^ 64) → Fits (half_change op xs a j x e r)
unfolding half_change change_of_comparison
half_change-fits Lx xs a j x e r n w h s = changed-fits j x _ None n w (refilled-below r 0 s (omega arith)) tt
half_change-fits Lv xs a j x e r n w h s = changed-fits j x _ None n w (front-below x _ w (omega arith)) tt
half_change-fits Lc xs a j x e r n w h s = changed-fits j x _ None n w (count-below x _ w (omega arith)) tt
half_change-fits Lr xs a j x e r n w h s = changed-fits j x _ None n w (refill-below x _ w (omega arith)) tt
half_change-fits VPlus xs a j x e r n w h s = changed-fits j x _ None n w (value-below x (index_value x +ℤ index_value (unwrap_or r 0)) w) tt
half_change-fits VPlusC xs a j x e r n w h s =
    changed-fits j x _ None n w (lower_count-below _ (value-below x (index_value x +ℤ index_value (unwrap_or r 0)) w)) tt
half_change-fits Lvs xs a j x e r n w h s = changed-fits j x _ None n w (value-below x (selected_sum (bits 16 (a / 8)) xs) w) tt
half_change-fits Lvi xs a j x e r n w h s = changed-fits j x _ None n w (value-below x (pos e) w) tt
half_change-fits Lci xs a j x e r n w h s = changed-fits j x _ None n w (count-below x _ w (omega arith)) tt
half_change-fits Lri xs a j x e r n w h s = changed-fits j x _ None n w (refill-below x _ w (omega arith)) tt
half_change-fits VPlusI xs a j x e r n w h s = changed-fits j x _ None n w (value-below x (index_value x +ℤ pos e) w) tt
half_change-fits VMinusI xs a j x e r n w h s = changed-fits j x _ None n w (value-below x (index_value x +ℤ neg_ℤ (pos e)) w) tt
half_change-fits VPlusIC xs a j x e r n w h s =
    changed-fits j x _ None n w (lower_count-below _ (value-below x (index_value x +ℤ pos e) w)) tt
half_change-fits VPlusICR xs a j x e r n w h s =
    changed-fits j x _ r n w (lower_count-below _ (value-below x (index_value x +ℤ pos e) w)) s
half_change-fits Cb xs a j x e r n w h s = changed-fits j x _ None n w (lower_count-below x w) tt
half_change-fits Cbr xs a j x e r n w h s = changed-fits j x _ r n w (lower_count-below x w) s
half_change-fits R xs a j x e r n w h s = changed-fits j x _ None n w (refilled-below r 0 s (omega arith)) tt
half_change-fits Kv xs a j x e r n w h s = tt
half_change-fits Kvi xs a j x e r n w h s = tt
half_change-fits Kc xs a j x e r n w h s = tt
half_change-fits Kci xs a j x e r n w h s = tt
half_change-fits Sx xs a j x e r n w h s = tt
half_change-fits Sv xs a j x e r n w h s = tt
half_change-fits Sc xs a j x e r n w h s = tt
half_change-fits Sr xs a j x e r n w h s = tt
half_change-fits Sva xs a j x e r n w h s = tt
half_change-fits Ex xs a j x e r n w h s = tt

progressive_change-fits : (p i x a : ℕ) (r : Option ℕ) → i < 16 → x < 2 ^ 64 → IfSome r (λ w. w < 2 ^ 64)
    → Fits (progressive_change p i x a r)
unfolding progressive_change
progressive_change-fits p i x a r number word some =
    of_choice Fits (nat_lt p 2) without_change (change_of_index i x (progressive_word p x a) r) tt
    (changed-fits i x (progressive_word p x a) r number word (progressed-below p x a word) some)

pub change-fits : (xs : List ℕ) (instr : Instr) (e : ℕ) (r : Option ℕ) → ((j : ℕ) → get_or xs j 0 < 2 ^ 64)
    → HasFields instr → e < 2 ^ 24 → IfSome r (λ w. w < 2 ^ 64) → Fits (change xs instr e r)
unfolding change
change-fits xs (Half op a j i) e r words s h some =
    half_change-fits op xs a j (slice_index xs j) e r s.1 (words j) h some
change-fits xs (Vfl op d u n p l b o a i) e r words s h some =
    progressive_change-fits p i (slice_index xs i) a r s.0.i_fits (words i) some
change-fits xs (Connect k t p l b o a i) e r words s h some =
    progressive_change-fits p i (slice_index xs i) a r s.0.i_fits (words i) some
change-fits xs (Branch op a i) e r words s h some = tt
change-fits xs (Floating n a i) e r words s h some = tt
change-fits xs (Move sw a i second n) e r words s h some = tt
change-fits xs (BitBranch sense c a i second) e r words s h some = tt
change-fits xs (IndBranch sense off a i second) e r words s h some = tt
change-fits xs (StoreCounter a i second) e r words s h some = tt
change-fits xs (Transfer w a i n) e r words s h some = tt
change-fits xs (Invalid first second full) e r words s h some = tt
