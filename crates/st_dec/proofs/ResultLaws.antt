-- A magnitude that base 10 stores in a field fits it.
use Rattle.std.proofs.Common.{◌≡◌, ℕ, ◌-◌, ◌*◌, ◌%◌, ◌^◌, ◌<◌, refl, subst}
use Rattle.std.proofs.Math.Nat.{mod-lt}
use Rattle.std.proofs.Math.Pow.{pow_pos}
use Rattle.st_field.specs.declared.accumulator.Acc.{Acc}
use Rattle.st_field.specs.declared.base.Taken.{Taken}
use Rattle.st_field.specs.declared.fields.Field.{Field}
use Rattle.st_field.specs.declared.fields.Shape.{Shape}
use Rattle.st_field.specs.Fields.{magnitude_bits, zone_of}
use Rattle.st_field.proofs.ResultLaws.{KeepsLength}
use Rattle.st_dec.specs.DigitLists.{bytes, number_of_bytes, decimal}
use Rattle.st_dec.specs.DecimalOperand.{IsDecimalShape, digit_count, digit_bytes, last_digit_place, field_codes, bytes_with_codes}
use Rattle.st_dec.specs.DecimalResult.{base, stored_magnitude, binary_value}
use Rattle.st_dec.proofs.ShapeLemmas.{digits-whole}
use Rattle.st_dec.proofs.PartLemmas.{field-below, length-padded}
use Rattle.st_dec.proofs.RecodeLemmas.{zoned_fits, recoded_fits, bytes-decimal}

stored-fits : (a : Acc) (h : Shape) → IsDecimalShape h → stored_magnitude a h < 2 ^ magnitude_bits h
stored-fits a h is =
    subst (λ k. stored_magnitude a h < 2 ^ k) (digits-whole h is)
    (zoned_fits h.byte (zone_of a.sb % 2 ^ (h.byte - 4)) (digit_count h) (field_codes a h) is.code (mod-lt _ (pow_pos (h.byte - 4))) (field-below (digit_count h) (last_digit_place h) a.mag) (length-padded (digit_count h) _))

summed-fits : (f : Field) (h : Shape) (t : ℕ) → IsDecimalShape h → number_of_bytes h.byte (bytes_with_codes (digit_bytes f h) (decimal (digit_count h) t)) < 2 ^ magnitude_bits h
summed-fits f h t is =
    let digits : bytes 4 (digit_count h) (number_of_bytes 4 (decimal (digit_count h) t)) ≡ decimal (digit_count h) t = bytes-decimal (digit_count h) t _ refl in
    subst (λ k. number_of_bytes h.byte (bytes_with_codes (digit_bytes f h) (decimal (digit_count h) t)) < 2 ^ k) (digits-whole h is)
    (subst (λ cs. number_of_bytes h.byte (bytes_with_codes (digit_bytes f h) cs) < 2 ^ (h.byte * digit_count h)) digits
    (recoded_fits h.byte (digit_count h) f.mag (number_of_bytes 4 (decimal (digit_count h) t)) is.code))

pub keeps_length : (t : Taken) → IsDecimalShape t.shape → KeepsLength (base t) t
unfolding binary_value
keeps_length t is = record {
  stored = stored-fits t.acc t.shape is;
  replaced = λ n. summed-fits t.field t.shape n is;
  product = tt;
  product_added = λ ft. tt;
  quotient = tt;
  converted = tt;
}
