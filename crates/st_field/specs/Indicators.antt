-- The indicators that operations on fields set, as words of 64 bits. Such words are added: no two
-- summands have an indicator in common.
--
-- Proved: by their `ensures` clauses these calls do what definitions here say: `compare`
-- (comparisons.rt), `compare_for_range` (comparisons.rt), `compare_if_equal` (comparisons.rt),
-- `by_number` (indicators.rt), and others.
-- Read by: definitions in Bases, Results, BinaryResult of st_bin, Connection of st_conn, and
-- others.
-- Laws: none names a definition of this file itself.
-- Change: the meaning is fixed by docs/variable-fields.md, since the contracts of `st_top::stretch`
-- and `st_account::ledger` unfold to a definition here. The form is free, with the proofs that
-- unfold it.
use Rattle.std.specs.Prelude.{ℕ, ◌+◌, ◌/◌, ◌%◌, Bool, ◌==◌, if◌then◌else◌, [], ◌∷◌}
use Rattle.std.specs.declared.cmp.Ordering.{Ordering}
use Rattle.std.specs.declared.cmp.Ordering.TheVariants.{Less, Equal, Greater}
use Rattle.st_bits.specs.declared.storage.Ind.{Ind}
use Rattle.st_bits.specs.Indicators.{indicator, indicators, is_on}
use Rattle.st_bits.specs.declared.indicators.TheConstants.{FLAG_T, FLAG_U, FLAG_V, TO_MEMORY_OPERATION, RESULT_LESS, RESULT_ZERO, RESULT_GREATER, RESULT_NEGATIVE, ACCUMULATOR_LOW, ACCUMULATOR_EQUAL, ACCUMULATOR_HIGH}

-- the word with only indicator n on if b is true, otherwise 0
abbrev pub on_if : Bool → ℕ → ℕ
on_if b n = if b then indicator n else 0

-- TF, UF and VF according to the flags T, U and V
abbrev pub flag_indicators : ℕ → ℕ
flag_indicators flags = on_if (flags / 4 == 1) FLAG_T + on_if (flags / 2 % 2 == 1) FLAG_U
    + on_if (flags % 2 == 1) FLAG_V

-- RLZ, RZ or RGZ according to a result number, and RN if its sign is minus
abbrev pub number_indicators : Bool → ℕ → ℕ
number_indicators minus m =
    (if m == 0 then indicator RESULT_ZERO else if minus then indicator RESULT_LESS
    else indicator RESULT_GREATER) + on_if minus RESULT_NEGATIVE

-- the indicator of a comparison with the operand: AL for less, AE for equal, AH for greater
abbrev pub order_indicator : Ordering → ℕ
order_indicator Less = indicator ACCUMULATOR_LOW
order_indicator Equal = indicator ACCUMULATOR_EQUAL
order_indicator Greater = indicator ACCUMULATOR_HIGH

-- the indicators by a result number, with the further indicators on; MOP if a field is written
abbrev pub by_number : Bool → Bool → ℕ → ℕ → Ind
by_number wrote minus m on = record {
  on = on + (on_if wrote TO_MEMORY_OPERATION + number_indicators minus m);
  off = indicators (TO_MEMORY_OPERATION ∷ RESULT_LESS ∷ RESULT_ZERO ∷ RESULT_GREATER
      ∷ RESULT_NEGATIVE ∷ []);
}

-- the indicators that an operation without a result number turns on and off; it writes no field
abbrev pub without_number : ℕ → Ind
without_number on = record { on = on; off = indicator TO_MEMORY_OPERATION }

-- the indicators that a comparison turns on and off, with the further indicators on
abbrev pub by_order : Ordering → ℕ → Ind
by_order order on = record {
  on = on + order_indicator order;
  off = indicators (TO_MEMORY_OPERATION ∷ ACCUMULATOR_LOW ∷ ACCUMULATOR_EQUAL ∷ ACCUMULATOR_HIGH
      ∷ []);
}

-- the indicators that a comparison turns on and off if it has an effect only if AE is on
abbrev pub by_order_if_equal : ℕ → Ordering → ℕ → Ind
by_order_if_equal ind order on = if is_on ind ACCUMULATOR_EQUAL then by_order order on
    else without_number on

-- the indicator of a comparison with the upper end of a range: AE below it, otherwise AH
abbrev pub range_indicator : Ordering → ℕ
range_indicator Less = indicator ACCUMULATOR_EQUAL
range_indicator _ = indicator ACCUMULATOR_HIGH

-- the indicators by a comparison with the upper end of a range; it has an effect only if AL is off
abbrev pub by_range : ℕ → Ordering → ℕ → Ind
by_range ind order on = if is_on ind ACCUMULATOR_LOW then without_number on
    else record {
      on = on + range_indicator order;
      off = indicators (TO_MEMORY_OPERATION ∷ ACCUMULATOR_EQUAL ∷ ACCUMULATOR_HIGH ∷ []);
    }
