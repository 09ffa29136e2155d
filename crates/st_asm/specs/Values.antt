-- The values of a statement's expressions.
--
-- Proved: by their `ensures` clauses these calls do what definitions here say: `placing_value`
-- (naming.rt), `two_values` (values.rt), `value_alone` (values.rt), `value_in` (values.rt), and
-- others.
-- Read by: definitions in Alone, Naming, Places, Valuing.
-- Laws: none names a definition of this file itself.
-- Change: the meaning is fixed by docs/strap.md, since the contracts of `st_top::stretch` and
-- `st_account::ledger` unfold to a definition here. The form is free, with the proofs that unfold
-- it.
use Rattle.std.specs.Prelude.{ℕ, ℤ, pos, negsuc, ◌-◌, ◌%◌, ◌^◌, List, [], ◌∷◌, unwrap_or}
use Rattle.arrayvec.specs.ArrayVec.{ArrayVec}
use Rattle.st_expr.specs.Value.{sum_of_terms}
use Rattle.st_expr.specs.declared.terms.Term.{Term}
use Rattle.st_strap.specs.Statements.{Statement}
use Rattle.st_asm.specs.declared.values.Values.{Values}
use Rattle.st_asm.specs.Symbols.{expressions}

-- the value of an expression; 0 if one of its names is not defined
abbrev pub value_in : List (List ℕ × ℕ) → ArrayVec Term → ℤ
value_in symbols e = unwrap_or (sum_of_terms symbols e.items) (pos 0)

-- the values of at most two expressions; 0 for one that is not present
abbrev pub values_in : List (List ℕ × ℕ) → List (ArrayVec Term) → Values
values_in symbols [] = record { first = pos 0; second = pos 0 }
values_in symbols (e ∷ []) = record { first = value_in symbols e; second = pos 0 }
values_in symbols (e ∷ f ∷ more) =
    record { first = value_in symbols e; second = value_in symbols f }

-- the values of a statement's expressions
unfoldable pub values_of : List (List ℕ × ℕ) → Statement → Values
values_of symbols statement = values_in symbols (expressions statement)

-- a number modulo 2^24
unfoldable pub value_modulo : ℤ → ℕ
value_modulo (pos n) = n % 2 ^ 24
value_modulo (negsuc n) = 2 ^ 24 - 1 - n % 2 ^ 24
