-- The results of operations on fields fit the registers.
use Rattle.st_exec.proofs.Common.{◌≡◌, ◌≢◌, ℕ, ◌-◌, ◌*◌, ◌/◌, ◌%◌, ◌^◌, ◌<◌, ◌≤◌, Bool, true, false, not, ◌&&◌, ◌||◌, ◌==◌, Option, None, length, refl, sym, subst, arith, IfSome, nat_lt, ltb-false, eqb-true, eqb-false, mul-lt, bit_at-lt, div-le_self, mod-lt, pow-le-pow_right, ConnKind, C, Cm, Ct, VflOp, L, Lwf, Ltrs, Lft, St, Add, AddMg, MAdd, MAddMg, MAdd1, K, Kf, Ke, Kfe, Kr, Kfr, Mul, MulAdd, Div, Lcv, num, FitsField, Acc, Taken, InBase, operand_taken, result_of, store_result, Shape, Done, connective_bits, is_covered, inserted_at, accumulator_bits, connection, of_choice, result_by, shape_of}
use Rattle.std.proofs.lemmas.Bool.{not-false as not-not}
use Rattle.st_format.proofs.Spelled.{of_choice as of_test, or-left, or-right}
use Rattle.st_format.specs.Validity.{misfits}
use Rattle.st_field.specs.declared.fields.Field.{Field}
use Rattle.st_field.specs.Fields.{IsBinaryShape, field_of}
use Rattle.st_field.specs.Digits.{digits_of}
use Rattle.st_field.proofs.DigitLemmas.{digits_of-below}
use Rattle.st_dec.specs.DecimalOperand.{IsDecimalShape, digit_count, digit_bytes, codes, last_digit_place}
use Rattle.st_dec.specs.DigitLists.{number_of_bytes}
use Rattle.st_dec.proofs.DigitLemmas.{joined-below}
use Rattle.st_dec.proofs.ListLemmas.{codes-below}
use Rattle.st_dec.proofs.PartLemmas.{length-codes, joined-at_place}
use Rattle.st_dec.proofs.RecodeLemmas.{decimal_fits}
use Rattle.st_dec.proofs.ShapeLemmas.{count-few}
use Rattle.st_exec.proofs.BitBounds.{num-by_weight}
use Rattle.st_bin.specs.BinaryResult as binary
use Rattle.st_dec.specs.DecimalResult as decimal

-- the magnitude of the accumulator has at most 128 bits, and each register of the result at most 64
pub record FitsRegisters (d : Done) : Type 0 where
  pub acc : d.acc.mag < 2 ^ 128
  pub rm : IfSome d.rm (λ x. x < 2 ^ 64)
  pub ft : IfSome d.ft (λ x. x < 2 ^ 64)
  pub tr : IfSome d.tr (λ x. x < 2 ^ 64)

-- a result that changes only the accumulator fits the registers
fits_alone : (d : Done) → d.acc.mag < 2 ^ 128 → d.rm ≡ None → d.ft ≡ None → d.tr ≡ None → FitsRegisters d
fits_alone d h rm ft tr =
    let P : Option ℕ → Type 0 = λ o. IfSome o (λ x. x < 2 ^ 64) in
    record { acc = h; rm = subst P (sym rm) tt; ft = subst P (sym ft) tt; tr = subst P (sym tr) tt }

-- ---- fields and shapes

field_mag : (x : ℕ) (h : Shape) → x < 2 ^ 64 → (field_of x h).mag < 2 ^ 64
field_mag x h fits =
    let part_of : x / 2 ^ h.byte ≤ x = div-le_self x (2 ^ h.byte) in
    of_choice (λ (f : Field). f.mag < 2 ^ 64) h.unsigned _ _ fits (omega arith)

and-right : (a b : Bool) → (not a && b) ≡ false → a ≡ false → b ≡ false
and-right false b h e = h
and-right true b h e = absurd (cc)

and-second : (a b : Bool) → (a && b) ≡ false → a ≡ true → b ≡ false
and-second true b h e = h
and-second false b h e = absurd (cc)

is_shape : (d u n : Bool) (p l b o : ℕ) → FitsField p l b o → misfits d u l b ≡ false → IsBinaryShape (shape_of u n l b o)
is_shape d u n p l b o f h = record {
  some = f.some_bits;
  few = f.length_fits;
  some_byte = f.some_byte;
  small_byte = f.byte_fits;
  room = λ e. ltb-false l b (and-right u (nat_lt l b) (or-right _ (not u && nat_lt l b) h) e);
  near = omega (arith, f.offset_fits);
}

pub is_decimal_shape : (d u n : Bool) (p l b o : ℕ) → FitsField p l b o → misfits d u l b ≡ false → d ≡ true
    → IsDecimalShape (shape_of u n l b o)
is_decimal_shape d u n p l b o f h e =
    let whole = and-second d (nat_lt b 4 || not (l % b == 0)) (or-left _ (not u && nat_lt l b) h) e in
    record {
      shape = is_shape d u n p l b o f h;
      code = ltb-false b 4 (or-left (nat_lt b 4) (not (l % b == 0)) whole);
      whole = eqb-true (l % b) 0 (not-not (l % b == 0) (or-right (nat_lt b 4) (not (l % b == 0)) whole));
    }

-- ---- operations in any base

-- the results of a base fit the registers
record FitsBase (b : InBase) : Type 0 where
  content : b.content < 2 ^ 64
  at_place : b.at_place.bits < 2 ^ 128
  summed : (n : ℕ) → (b.summed n).bits < 2 ^ 128
  product : FitsRegisters b.product
  product_added : (ft : ℕ) → FitsRegisters (b.product_added ft)
  quotient : FitsRegisters b.quotient
  converted : FitsRegisters b.converted

based-fits : (op : VflOp) (b : InBase) (t : Taken) (ft ind : ℕ) → t.acc.mag < 2 ^ 128 → FitsBase b → FitsRegisters (result_of op b t ft ind)
unfolding store_result
based-fits L b t ft ind acc fits = fits_alone _ fits.at_place refl refl refl
based-fits Lwf b t ft ind acc fits = fits_alone _ fits.at_place refl refl refl
based-fits Ltrs b t ft ind acc fits = record { acc = acc; rm = tt; ft = tt; tr = fits.content }
based-fits Lft b t ft ind acc fits = record { acc = acc; rm = tt; ft = fits.content; tr = tt }
based-fits St b t ft ind acc fits = fits_alone _ acc refl refl refl
based-fits Add b t ft ind acc fits = fits_alone _ (fits.summed _) refl refl refl
based-fits AddMg b t ft ind acc fits = fits_alone _ (fits.summed _) refl refl refl
based-fits MAdd b t ft ind acc fits = fits_alone _ acc refl refl refl
based-fits MAddMg b t ft ind acc fits = fits_alone _ acc refl refl refl
based-fits MAdd1 b t ft ind acc fits = fits_alone _ acc refl refl refl
based-fits K b t ft ind acc fits = fits_alone _ acc refl refl refl
based-fits Kf b t ft ind acc fits = fits_alone _ acc refl refl refl
based-fits Ke b t ft ind acc fits = fits_alone _ acc refl refl refl
based-fits Kfe b t ft ind acc fits = fits_alone _ acc refl refl refl
based-fits Kr b t ft ind acc fits = fits_alone _ acc refl refl refl
based-fits Kfr b t ft ind acc fits = fits_alone _ acc refl refl refl
based-fits Mul b t ft ind acc fits = fits.product
based-fits MulAdd b t ft ind acc fits = fits.product_added ft
based-fits Div b t ft ind acc fits = fits.quotient
based-fits Lcv b t ft ind acc fits = fits.converted

-- ---- binary operations

product-fits : (a : Acc) (f : Field) (h : Shape) → f.mag < 2 ^ 64 → FitsRegisters (binary.product a f h)
unfolding binary.product
product-fits a f h mag =
    let part_of : a.mag / 2 ^ h.offset % 2 ^ 64 < 2 ^ 64 = mod-lt (a.mag / 2 ^ h.offset) (omega arith) in
    let room : a.mag / 2 ^ h.offset % 2 ^ 64 * f.mag < 2 ^ 64 * 2 ^ 64 = mul-lt _ _ (2 ^ 64) (2 ^ 64) part_of mag in
    fits_alone _ (omega arith) refl refl refl

divided-fits : (a : Acc) (f : Field) (h : Shape) → a.mag < 2 ^ 128 → f.mag < 2 ^ 64 → FitsRegisters (binary.quotient_result a f h)
unfolding binary.quotient_result
divided-fits a f h acc mag =
    let from : ℕ = a.mag / 2 ^ h.offset in
    let less : from ≤ a.mag = div-le_self a.mag (2 ^ h.offset) in
    let least : from / f.mag ≤ from = div-le_self from f.mag in
    of_test FitsRegisters (f.mag == 0) _ _ (λ _. fits_alone _ acc refl refl refl)
    (λ e.
    let some : f.mag ≢ 0 = eqb-false f.mag 0 e in
    let rest : from % f.mag < f.mag = mod-lt from (omega arith) in
    record { acc = omega arith; rm = omega arith; ft = tt; tr = tt })

digits_small : (v : ℕ) → digits_of 32 v < 2 ^ 128
digits_small v = omega (arith, digits_of-below 32 v)

binary-fits : (t : Taken) → t.acc.mag < 2 ^ 128 → t.field.mag < 2 ^ 64 → FitsBase (binary.base t)
unfolding binary.product_added binary.conversion_result
binary-fits t acc mag = record {
  content = mag;
  at_place = omega arith;
  summed = λ n. omega arith;
  product = product-fits t.acc t.field t.shape mag;
  product_added = λ ft. fits_alone _ (omega arith) refl refl refl;
  quotient = divided-fits t.acc t.field t.shape acc mag;
  converted = fits_alone _ (digits_small _) refl refl refl;
}

-- ---- decimal operations

codes_small : (f : Field) (h : Shape) → IsDecimalShape h → number_of_bytes 4 (codes f h) < 2 ^ 64
codes_small f h is =
    let n : ℕ = length (codes f h) in
    let few : n ≤ 16 = omega (arith, length-codes h.byte (digit_count h) f.mag, count-few h is) in
    let bits : 4 * n ≤ 64 = omega arith in
    let room : 2 ^ (4 * n) ≤ 2 ^ 64 = pow-le-pow_right (omega arith) bits in
    let below : number_of_bytes 4 (codes f h) < 2 ^ (4 * n) = joined-below 4 (codes f h) (codes-below (digit_bytes f h)) in
    omega arith

decimal-fits : (t : Taken) → IsDecimalShape t.shape → t.acc.mag < 2 ^ 128 → FitsBase (decimal.base t)
unfolding decimal.binary_value
decimal-fits t is acc =
    let codes : number_of_bytes 4 (codes t.field t.shape) < 2 ^ 64 = codes_small t.field t.shape is in
    let transit : FitsRegisters (decimal.transit_set t.acc t.field t.shape) = record { acc = acc; rm = tt; ft = tt; tr = codes } in
    record {
      content = codes;
      at_place = omega (arith, joined-at_place (last_digit_place t.shape) (digit_bytes t.field t.shape));
      summed = λ n. omega (arith, decimal_fits 32 n);
      product = transit;
      product_added = λ ft. transit;
      quotient = transit;
      converted = fits_alone _ (omega arith) refl refl refl;
    }

pub result-fits : (d : Bool) (op : VflOp) (a : Acc) (x : ℕ) (h : Shape) (ft ind : ℕ) → (d ≡ true → IsDecimalShape h)
    → a.mag < 2 ^ 128 → x < 2 ^ 64 → FitsRegisters (result_by d op a x h ft ind)
unfolding binary.result decimal.result
result-fits false op a x h ft ind is acc fits = based-fits op _ _ ft ind acc (binary-fits (operand_taken a x h) acc (field_mag x h fits))
result-fits true op a x h ft ind is acc fits = based-fits op _ _ 0 ind acc (decimal-fits (operand_taken a x h) (is refl) acc)

-- ---- connectives

inserted_bit : (acc offset r n i : ℕ) → inserted_at acc offset r n i < 2
inserted_bit acc offset r n i =
    of_choice (λ (x : ℕ). x < 2) (is_covered offset n i) _ _ (bit_at-lt r (i - offset)) (bit_at-lt acc i)

inserted_small : (acc offset r n : ℕ) → num (accumulator_bits acc offset r n) < 2 ^ 128
unfolding accumulator_bits
inserted_small acc offset r n = num-by_weight (inserted_at acc offset r n) 128 (inserted_bit acc offset r n)

pub connection-fits : (kind : ConnKind) (table : ℕ) (a : Acc) (offset x n : ℕ) → a.mag < 2 ^ 128
    → FitsRegisters (connection kind table a offset x n)
connection-fits C table a offset x n acc =
    fits_alone _ (inserted_small a.mag offset (num (connective_bits table a.mag offset x n)) n) refl refl refl
connection-fits Cm table a offset x n acc = fits_alone _ acc refl refl refl
connection-fits Ct table a offset x n acc = fits_alone _ acc refl refl refl
