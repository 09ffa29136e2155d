-- An expression: terms joined by `+` and `-`, with an optional first sign.
--
-- Proved: by their `ensures` clauses these calls do what definitions here say: `check_parts`
-- (expressions.rt), `behind_sign` (expressions.rt), `terms_in` (expressions.rt), `new` (texts.rt),
-- and others.
-- Read by: definitions in Faults of st_strap, Reading of st_strap.
-- Laws: none names a definition of this file itself.
-- Change: the meaning is fixed by docs/strap.md, since the contracts of `st_top::stretch` and
-- `st_account::ledger` unfold to a definition here. The form is free, with the proofs that unfold
-- it.
use Rattle.std.specs.Prelude.{ℕ, ◌==◌, Bool, true, false, List, [], ◌∷◌, Option, Some, None, Result, Ok, Err, if◌then◌else◌}
use Rattle.std.specs.List.{list_any, filter_map}
use Rattle.st_text.specs.Bytes.{plus_sign, minus_sign}
use Rattle.arrayvec.specs.ArrayVec.{ArrayVec}
use Rattle.st_card.specs.declared.faults.Fault.{Fault}
use Rattle.st_card.specs.declared.faults.Fault.TheVariants.{BadExpression, NumberTooLarge}
use Rattle.st_expr.specs.Term.{atom_of}
use Rattle.st_expr.specs.declared.terms.Term.{Term}
use Rattle.st_expr.specs.declared.terms.AtomReading.{AtomReading}
use Rattle.st_expr.specs.declared.terms.AtomReading.TheVariants.{Bad, Large, Good}

-- the parts of a text with a byte put in front of the first part
abbrev pub onto_part : ℕ → List (Bool × List ℕ) → List (Bool × List ℕ)
onto_part c [] = (false, c ∷ []) ∷ []
onto_part c (part ∷ parts) = (part.0, c ∷ part.1) ∷ parts

-- a text cut at its signs: parts with whether a minus precedes each, which is given for the first
abbrev pub parts_after : Bool → List ℕ → List (Bool × List ℕ)
parts_after minus [] = (minus, []) ∷ []
parts_after minus (c ∷ cs) = if c == plus_sign then (minus, []) ∷ parts_after false cs
    else (if c == minus_sign then (minus, []) ∷ parts_after true cs
    else onto_part c (parts_after minus cs))

-- the parts of an expression: a leading sign belongs to the first part
abbrev pub parts : List ℕ → List (Bool × List ℕ)
parts [] = parts_after false []
parts (c ∷ cs) = if c == plus_sign then parts_after false cs
    else (if c == minus_sign then parts_after true cs else parts_after false (c ∷ cs))

-- the term with a sign and the reading of its atom, if that is good
abbrev pub term_in : Bool → AtomReading → Option Term
term_in minus (Good atom) = Some (record { minus = minus; atom = atom })
term_in minus _ = None

-- whether a part is neither a name nor a number
abbrev pub is_bad_part : AtomReading → Bool
is_bad_part Bad = true
is_bad_part _ = false

-- whether a part is a number above the greatest that is allowed
abbrev pub is_large_part : AtomReading → Bool
is_large_part Large = true
is_large_part _ = false

-- whether any part is neither a name nor a number
abbrev pub any_bad : List (Bool × List ℕ) → Bool
any_bad parts = list_any (λ part. is_bad_part (atom_of part.1)) parts

-- whether any part is a number above the greatest that is allowed
abbrev pub any_large : List (Bool × List ℕ) → Bool
any_large parts = list_any (λ part. is_large_part (atom_of part.1)) parts

-- the terms of the parts
abbrev pub terms_of : List (Bool × List ℕ) → List Term
terms_of parts = filter_map (λ part. term_in part.0 (atom_of part.1)) parts

-- the expression of parts, or its fault: a bad part counts before a number that is too large
abbrev pub expr_in : List (Bool × List ℕ) → Result (ArrayVec Term) Fault
expr_in parts = if any_bad parts then Err BadExpression
    else (if any_large parts then Err NumberTooLarge else Ok (record { items = terms_of parts }))

-- the expression of a text, or its fault
abbrev pub expr_of : List ℕ → Result (ArrayVec Term) Fault
expr_of text = expr_in (parts text)
