-- The bits of a field that is written fit its length.
use Rattle.std.proofs.Common.{ℕ, ◌^◌, ◌<◌, arith}
use Rattle.std.specs.Prelude.{IfSome}
use Rattle.st_bits.specs.declared.operations.VflOp.{VflOp}
use Rattle.st_bits.specs.declared.operations.VflOp.TheVariants.{L, Lwf, Ltrs, Lft, St, Add, AddMg, MAdd, MAddMg, MAdd1, K, Kf, Ke, Kfe, Kr, Kfr, Mul, MulAdd, Div, Lcv}
use Rattle.st_field.specs.declared.base.Taken.{Taken}
use Rattle.st_field.specs.declared.outcome.Done.{Done}
use Rattle.st_field.specs.Fields.{IsBinaryShape, HasRoom, magnitude_bits}
use Rattle.st_field.specs.Results.{stored_field}
use Rattle.st_field.specs.Bases.{InBase, result_of, store_result}
use Rattle.st_field.proofs.FieldLemmas.{field_bits-below}

-- if a result writes the field, the bits fit its length
abbrev pub IsInField : Taken → Done → Type 0
IsInField t d = IfSome d.field (λ x. x < 2 ^ t.shape.length)

-- a magnitude that a base stores in a field fits it
pub record KeepsLength (b : InBase) (t : Taken) : Type 0 where
  pub stored : b.stored.bits < 2 ^ magnitude_bits t.shape
  pub replaced : (n : ℕ) → (b.replaced n).bits < 2 ^ magnitude_bits t.shape
  pub product : IsInField t b.product
  pub product_added : (ft : ℕ) → IsInField t (b.product_added ft)
  pub quotient : IsInField t b.quotient
  pub converted : IsInField t b.converted

pub result_of-fits : (op : VflOp) (b : InBase) (t : Taken) (ft ind : ℕ) → IsBinaryShape t.shape → HasRoom t.field t.shape → KeepsLength b t → IsInField t (result_of op b t ft ind)
unfolding store_result
result_of-fits L b t ft ind shape room keeps = tt
result_of-fits Lwf b t ft ind shape room keeps = tt
result_of-fits Ltrs b t ft ind shape room keeps = tt
result_of-fits Lft b t ft ind shape room keeps = tt
result_of-fits St b t ft ind shape room keeps = field_bits-below (stored_field t.acc t.shape b.stored.bits) t.shape shape keeps.stored (omega arith)
result_of-fits Add b t ft ind shape room keeps = tt
result_of-fits AddMg b t ft ind shape room keeps = tt
result_of-fits MAdd b t ft ind shape room keeps = field_bits-below _ t.shape shape (keeps.replaced _) room.three_flags
result_of-fits MAddMg b t ft ind shape room keeps = field_bits-below _ t.shape shape (keeps.replaced _) room.three_flags
result_of-fits MAdd1 b t ft ind shape room keeps = field_bits-below _ t.shape shape (keeps.replaced _) room.three_flags
result_of-fits K b t ft ind shape room keeps = tt
result_of-fits Kf b t ft ind shape room keeps = tt
result_of-fits Ke b t ft ind shape room keeps = tt
result_of-fits Kfe b t ft ind shape room keeps = tt
result_of-fits Kr b t ft ind shape room keeps = tt
result_of-fits Kfr b t ft ind shape room keeps = tt
result_of-fits Mul b t ft ind shape room keeps = keeps.product
result_of-fits MulAdd b t ft ind shape room keeps = keeps.product_added ft
result_of-fits Div b t ft ind shape room keeps = keeps.quotient
result_of-fits Lcv b t ft ind shape room keeps = keeps.converted
