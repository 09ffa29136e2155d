-- An operation that returns a field is one that writes it.
use Rattle.st_exec.proofs.Common.{◌≡◌, ℕ, ◌^◌, ◌<◌, ◌≤◌, Bool, true, false, ◌==◌, if◌then◌else◌, Option, None, Some, refl, IfSome, ConnKind, C, Cm, Ct, VflOp, L, Lwf, Ltrs, Lft, St, Add, AddMg, MAdd, MAddMg, MAdd1, K, Kf, Ke, Kfe, Kr, Kfr, Mul, MulAdd, Div, Lcv, Variable, Connective, writes_field, Acc, Taken, Shape, Done, InBase, operand_taken, result_of, store_result, no_words, field_words, AreInside, of_choice, connection, result_by, IsField}
use Rattle.st_exec.proofs.InsideLemmas.{inside-field_if}
use Rattle.st_bin.specs.BinaryResult as binary
use Rattle.st_dec.specs.DecimalResult as decimal

-- a result contains a field only if the test holds
abbrev pub OnlyIf : Bool → Done → Type 0
OnlyIf b d = IfSome d.field (λ _. b ≡ true)

-- the operations that are specific to a base return no field
record OwnLeaveNone (b : InBase) : Type 0 where
  product : OnlyIf false b.product
  product_added : (ft : ℕ) → OnlyIf false (b.product_added ft)
  quotient : OnlyIf false b.quotient
  converted : OnlyIf false b.converted

based-field : (op : VflOp) (b : InBase) (t : Taken) (ft ind : ℕ) → OwnLeaveNone b
    → OnlyIf (writes_field (Variable op)) (result_of op b t ft ind)
unfolding store_result
based-field L b t ft ind own = tt
based-field Lwf b t ft ind own = tt
based-field Ltrs b t ft ind own = tt
based-field Lft b t ft ind own = tt
based-field St b t ft ind own = refl
based-field Add b t ft ind own = tt
based-field AddMg b t ft ind own = tt
based-field MAdd b t ft ind own = refl
based-field MAddMg b t ft ind own = refl
based-field MAdd1 b t ft ind own = refl
based-field K b t ft ind own = tt
based-field Kf b t ft ind own = tt
based-field Ke b t ft ind own = tt
based-field Kfe b t ft ind own = tt
based-field Kr b t ft ind own = tt
based-field Kfr b t ft ind own = tt
based-field Mul b t ft ind own = own.product
based-field MulAdd b t ft ind own = own.product_added ft
based-field Div b t ft ind own = own.quotient
based-field Lcv b t ft ind own = own.converted

binary-own : (t : Taken) → OwnLeaveNone (binary.base t)
unfolding binary.product binary.product_added binary.quotient_result binary.conversion_result
binary-own t = record {
  product = tt;
  product_added = λ ft. tt;
  quotient = of_choice (OnlyIf false) (t.field.mag == 0) _ _ tt tt;
  converted = tt;
}

decimal-own : (t : Taken) → OwnLeaveNone (decimal.base t)
unfolding decimal.binary_value
decimal-own t = record { product = tt; product_added = λ ft. tt; quotient = tt; converted = tt }

pub result-field : (d : Bool) (op : VflOp) (a : Acc) (x : ℕ) (h : Shape) (ft ind : ℕ)
    → OnlyIf (writes_field (Variable op)) (result_by d op a x h ft ind)
unfolding binary.result decimal.result
result-field false op a x h ft ind = based-field op _ _ ft ind (binary-own (operand_taken a x h))
result-field true op a x h ft ind = based-field op _ _ 0 ind (decimal-own (operand_taken a x h))

pub connection-field : (kind : ConnKind) (table : ℕ) (a : Acc) (offset x n : ℕ)
    → OnlyIf (writes_field (Connective kind)) (connection kind table a offset x n)
connection-field C table a offset x n = tt
connection-field Cm table a offset x n = refl
connection-field Ct table a offset x n = tt

-- a field in a result lies in storage, since the words that are written do
pub is_field-left : (f : Option ℕ) (b : Bool) (e n : ℕ) → 1 ≤ n → n ≤ 64 → IfSome f (λ v. v < 2 ^ n)
    → IfSome f (λ _. b ≡ true) → AreInside (if b then field_words e n else no_words) → IfSome f (IsField e n)
is_field-left None b e n some few fits only h = tt
is_field-left (Some v) b e n some few fits only h =
    record { some = some; few = few; inside = inside-field_if b e n few h only; fits = fits }
