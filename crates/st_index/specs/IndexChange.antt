-- Index arithmetic: the effective address, changes of value and count, and the index indicators.
--
-- Proved: by their `ensures` clauses these calls do what definitions here say: `count_down`
-- (change.rt), `add_value` (change.rt), `counts` (change.rt), `effective` (change.rt), and others.
-- Read by: definitions in SpeculativeChanges of st_prep, Entry of st_prep.
-- Laws: none names a definition of this file itself.
-- Change: the meaning is fixed by docs/index-words.md, since the contracts of `st_top::stretch` and
-- `st_account::ledger` unfold to a definition here. The form is free, with the proofs that unfold
-- it.
use Rattle.std.specs.Prelude.{ℕ, zero, suc, ◌+◌, ◌-◌, ◌%◌, ◌^◌, ℤ, pos, negsuc, ◌+ℤ◌, neg_ℤ, Bool, ◌==◌, ◌||◌, ◌&&◌, nat_lt, if◌then◌else◌, List, [], ◌∷◌}
use Rattle.std.specs.declared.cmp.Ordering.{Ordering}
use Rattle.std.specs.declared.cmp.Ordering.TheVariants.{Less, Equal, Greater}
use Rattle.std.specs.Ordering.{int_cmp}
use Rattle.st_bits.specs.Bits.{part}
use Rattle.st_bits.specs.IndexWord.{index_value, count_of, index_word_with_value, with_count}
use Rattle.st_bits.specs.declared.storage.Ind.{Ind}
use Rattle.st_bits.specs.Indicators.{indicator, indicators}
use Rattle.st_bits.specs.declared.indicators.TheConstants.{INDEX_FLAG, INDEX_COUNT_ZERO, INDEX_VALUE_LESS, INDEX_VALUE_ZERO, INDEX_VALUE_GREATER, INDEX_LOW, INDEX_EQUAL, INDEX_HIGH}
use Rattle.st_index.specs.declared.change.Changed.{Changed}

-- an integer modulo n, from 0 to n - 1
abbrev pub modulo : ℤ → ℕ → ℕ
modulo (pos r) n = r % n
modulo (negsuc r) n = n - 1 - r % n

-- the effective address: the address plus the value of the index word x, modulo 2 ^ 24
abbrev pub effective_address : ℕ → ℕ → ℕ
effective_address a x = modulo (pos a +ℤ index_value x) (2 ^ 24)

-- the index word x with d added to its value
abbrev pub with_added : ℕ → ℤ → ℕ
with_added x d = index_word_with_value x (index_value x +ℤ d)

-- a count minus one, modulo 2 ^ 18
abbrev pub one_less : ℕ → ℕ
one_less zero = 2 ^ 18 - 1
one_less (suc n) = n

-- the index word x with its count decremented
abbrev pub with_lower_count : ℕ → ℕ
with_lower_count x = with_count x (one_less (count_of x))

-- the value of the index word x if its selection bit b is one, otherwise 0
abbrev pub selected_value : ℕ → ℕ → ℤ
selected_value b x = if b == 1 then index_value x else pos 0

-- the sum of the values of those index words that the list of bits selects
unfoldable pub selected_sum : List ℕ → List ℕ → ℤ
selected_sum [] xs = pos 0
selected_sum (b ∷ bs) [] = pos 0
selected_sum (b ∷ bs) (x ∷ xs) = selected_value b x +ℤ selected_sum bs xs

-- the indicator of a comparison: XL for less, XE for equal, XH for greater
abbrev pub comparison_indicator : Ordering → ℕ
comparison_indicator Less = indicator INDEX_LOW
comparison_indicator Equal = indicator INDEX_EQUAL
comparison_indicator Greater = indicator INDEX_HIGH

-- the indicators by a comparison of a with b: exactly one of XL, XE and XH is on after it
abbrev pub comparison : ℤ → ℤ → Ind
comparison a b = record {
  on = comparison_indicator (int_cmp a b);
  off = indicators (INDEX_LOW ∷ INDEX_EQUAL ∷ INDEX_HIGH ∷ []);
}

-- the indicator for the sign of an index value: XVLZ, XVZ or XVGZ
abbrev pub sign_indicator : ℤ → ℕ
sign_indicator (negsuc _) = indicator INDEX_VALUE_LESS
sign_indicator (pos zero) = indicator INDEX_VALUE_ZERO
sign_indicator (pos (suc _)) = indicator INDEX_VALUE_GREATER

-- XCZ if the count is zero, otherwise no indicator
abbrev pub count_indicator : ℕ → ℕ
count_indicator zero = indicator INDEX_COUNT_ZERO
count_indicator (suc _) = 0

-- XF if the flag in bit 25 is one, otherwise no indicator
abbrev pub flag_indicator : ℕ → ℕ
flag_indicator zero = 0
flag_indicator (suc _) = indicator INDEX_FLAG

-- the indicators by an index word: XCZ, one of XVLZ, XVZ and XVGZ, and XF, never turned off
abbrev pub index_result : ℕ → Ind
index_result y = record {
  on = count_indicator (count_of y) + sign_indicator (index_value y) + flag_indicator (part y 25 1);
  off = indicators (INDEX_COUNT_ZERO ∷ INDEX_VALUE_LESS ∷ INDEX_VALUE_ZERO ∷ INDEX_VALUE_GREATER
      ∷ []);
}

-- what a form adds to the value: e for V+I, V+IC, V+ICR (2 to 4), -e for V-I, V-IC, V-ICR (5 to 7)
abbrev pub increment_of : ℕ → ℕ → ℤ
increment_of form e = if nat_lt form 5 then pos e else neg_ℤ (pos e)

-- whether a form decrements the count: V+IC, V+ICR, V-IC, V-ICR
abbrev pub is_counting : ℕ → Bool
is_counting form = form == 3 || form == 4 || form == 6 || form == 7

-- whether a form refills if the count became zero: V+ICR, V-ICR
abbrev pub is_refilling : ℕ → Bool
is_refilling form = form == 4 || form == 7

-- the index word x after a progressive form with increment e, before a refill
abbrev pub progressive_word : ℕ → ℕ → ℕ → ℕ
progressive_word form x e =
    let y = with_added x (increment_of form e) in if is_counting form then with_lower_count y else y

-- the result of a progressive form with increment e on the index word x, before a refill
abbrev pub progression : ℕ → ℕ → ℕ → Changed
progression form x e = let y = progressive_word form x e in
    record { word = y; refill = is_refilling form && count_of y == 0; ind = index_result y }
