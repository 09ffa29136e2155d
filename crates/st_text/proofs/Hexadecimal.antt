-- The hexadecimal text, from its last digit.
use Rattle.st_text.proofs.Common.{◌≡◌, ℕ, suc, zero, ◌-◌, ◌/◌, ◌%◌, ◌<◌, [], ◌∷◌, ◌++◌, refl, arith, hex_digit, hex_text}

-- the text of no digits is empty
pub hex_text-zero : (d x : ℕ) → d ≡ 0 → hex_text d x ≡ []
unfolding hex_text
hex_text-zero zero x e = refl
hex_text-zero (suc d) x e = let no : ⊥ = omega arith in absurd no

-- the last digit follows the text of the quotient
pub hex_text-last : (d x : ℕ) → 0 < d → hex_text d x ≡ hex_text (d - 1) (x / 16) ++ hex_digit (x % 16) ∷ []
unfolding hex_text
hex_text-last zero x h = let no : ⊥ = omega arith in absurd no
hex_text-last (suc d) x h = let less : suc d - 1 ≡ d = omega arith in rw less
