-- Places with more than two parts.
use Rattle.std.proofs.Common.{◌≡◌, ℕ, List, ◌∷◌, ap, sym, ◌∙◌}
use Rattle.st_text.specs.Pieces.{pieces_of}
use Rattle.st_text.proofs.PieceLemmas.{first_piece}
use Rattle.st_expr.specs.Term.{place_reading}
use Rattle.st_expr.specs.declared.terms.AtomReading.TheVariants.{Bad}

-- a text with two points is not a bit address
pub three_parts : (text w behind b more : List ℕ) → pieces_of 46 text ≡ w ∷ pieces_of 46 behind →
    pieces_of 46 behind ≡ b ∷ pieces_of 46 more → Bad ≡ place_reading (pieces_of 46 text)
three_parts text w behind b more first second =
    let third = first_piece 46 more in
    let parts : pieces_of 46 text ≡ w ∷ b ∷ third.0 ∷ third.1.0 =
    first ∙ (ap (λ (p : List (List ℕ)). w ∷ p) second ∙ ap (λ (p : List (List ℕ)). w ∷ b ∷ p) third.1.1) in
    sym (ap place_reading parts)
