-- An expression has a value if its names are defined.
use Rattle.st_asm.proofs.Common.{◌≡◌, ◌&&◌, ℕ, ℤ, List, [], ◌∷◌, Option, Some, None, is_some, refl, ap, ◌∙◌, option_map, atom_value, signed_value, plus, sum_of_terms, accepts, accepts_atom, is_defined}
use Rattle.st_expr.specs.declared.terms.Term.{Term}
use Rattle.st_expr.specs.declared.terms.Atom.{Atom}
use Rattle.st_expr.specs.declared.terms.Atom.TheVariants.{Number, Name}

atom-known : (symbols : List (List ℕ × ℕ)) (atom : Atom) → is_some (atom_value symbols atom) ≡ accepts_atom (is_defined symbols) atom
atom-known symbols (Number n) = refl
atom-known symbols (Name name) = refl

sum-known : (f : ℕ → ℤ) (value : Option ℕ) (sum : Option ℤ) → is_some (plus (option_map f value) sum) ≡ (is_some value && is_some sum)
sum-known f None sum = refl
sum-known f (Some n) None = refl
sum-known f (Some n) (Some s) = refl

-- an expression has a value if and only if each of its names is in the table
pub terms-known : (symbols : List (List ℕ × ℕ)) (terms : List Term) → is_some (sum_of_terms symbols terms) ≡ accepts (is_defined symbols) terms
terms-known symbols [] = refl
terms-known symbols (term ∷ terms) =
    sum-known (λ n. signed_value term.minus n) (atom_value symbols term.atom) (sum_of_terms symbols terms)
    ∙ (ap (λ b. b && is_some (sum_of_terms symbols terms)) (atom-known symbols term.atom)
    ∙ ap (λ b. accepts_atom (is_defined symbols) term.atom && b) (terms-known symbols terms))
