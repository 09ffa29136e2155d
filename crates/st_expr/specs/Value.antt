-- Values of expressions under a symbol table.
--
-- Proved: by their `ensures` clauses these calls do what definitions here say: `part_value`
-- (texts.rt), `sum_of` (texts.rt), `value` (texts.rt), `atom_value` (values.rt), and others.
-- Read by: definitions in Values of st_asm.
-- Laws: none names a definition of this file itself.
-- Change: the meaning is fixed by docs/strap.md, since the contracts of `st_top::stretch` and
-- `st_account::ledger` unfold to a definition here. The form is free, with the proofs that unfold
-- it.
use Rattle.std.specs.Prelude.{◌≡◌, ℕ, ℤ, pos, ◌+ℤ◌, ◌-ℤ◌, Bool, true, false, List, [], ◌∷◌, ◌++◌, Option, Some, None, IsSome, if◌then◌else◌}
use Rattle.std.specs.Option.{option_map}
use Rattle.st_text.specs.Tables.{row_of}
use Rattle.st_expr.specs.declared.terms.Atom.{Atom}
use Rattle.st_expr.specs.declared.terms.Atom.TheVariants.{Number, Name}
use Rattle.st_expr.specs.declared.terms.Term.{Term}

-- a symbol table before and after a definition; the flag says whether the name is new
abbrev pub Defines : List (List ℕ × ℕ) → List (List ℕ × ℕ) → List ℕ → ℕ → Bool → Type 0
Defines old new name value true = (row_of name old ≡ None) × (new ≡ old ++ (name, value) ∷ [])
Defines old new name value false = IsSome (row_of name old) × (new ≡ old)

-- the value of an atom: its number, or the value of its name
abbrev pub atom_value : List (List ℕ × ℕ) → Atom → Option ℕ
atom_value symbols (Number n) = Some n
atom_value symbols (Name name) = row_of name symbols

-- a magnitude with a sign, as an integer
abbrev pub signed_value : Bool → ℕ → ℤ
signed_value minus n = if minus then pos 0 -ℤ pos n else pos n

-- the value of a term, if its name is defined
abbrev pub term_value : List (List ℕ × ℕ) → Term → Option ℤ
term_value symbols term = option_map (λ n. signed_value term.minus n) (atom_value symbols term.atom)

-- the sum of two values, if both are defined
abbrev pub plus : Option ℤ → Option ℤ → Option ℤ
plus (Some a) (Some b) = Some (a +ℤ b)
plus _ _ = None

-- the value of a list of terms: the sum of their values, if all are defined
abbrev pub sum_of_terms : List (List ℕ × ℕ) → List Term → Option ℤ
sum_of_terms symbols [] = Some (pos 0)
sum_of_terms symbols (term ∷ terms) = plus (term_value symbols term) (sum_of_terms symbols terms)
