-- A magnitude that base 2 stores in a field fits it.
use Rattle.std.proofs.Common.{Bool, true, false, ◌==◌}
use Rattle.std.proofs.Math.Nat.{mod-lt}
use Rattle.std.specs.Prelude.{cond}
use Rattle.std.proofs.Math.Pow.{pow_pos}
use Rattle.st_field.specs.declared.base.Taken.{Taken}
use Rattle.st_field.specs.declared.outcome.Done.{Done}
use Rattle.st_field.specs.Fields.{magnitude_bits}
use Rattle.st_field.proofs.ResultLaws.{IsInField, KeepsLength}
use Rattle.st_bin.specs.BinaryResult.{base, product, product_added, quotient_result, conversion_result}

-- a choice of two results that write no field
of_two : (t : Taken) (b : Bool) (d e : Done) → IsInField t d → IsInField t e → IsInField t (cond b d e)
of_two t true d e p q = p
of_two t false d e p q = q

pub keeps_length : (t : Taken) → KeepsLength (base t) t
unfolding product product_added quotient_result conversion_result
keeps_length t = record {
  stored = mod-lt _ (pow_pos (magnitude_bits t.shape));
  replaced = λ n. mod-lt n (pow_pos (magnitude_bits t.shape));
  product = tt;
  product_added = λ ft. tt;
  quotient = of_two t (t.field.mag == 0) _ _ tt tt;
  converted = tt;
}
