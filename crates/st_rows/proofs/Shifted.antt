-- The ring of the last eight entries, and the effect of adding one.
use Rattle.st_rows.proofs.Common.{Bool, if◌then◌else◌, slice_set, ◌≡◌, ℕ, zero, suc, ◌+◌, ◌-◌, ◌*◌, ◌%◌, ◌<◌, ◌≤◌, true, false, List, [], ◌∷◌, length, take, refl, arith, window, has_words, writer_bits, Past}

-- a property of a list of eight entries, by its items
of_eight : (P : List Past → Type 0)
    → ((a b c d e f g h : Past) → P (a ∷ b ∷ c ∷ d ∷ e ∷ f ∷ g ∷ h ∷ [])) → (xs : List Past) → length xs ≡ 8 → P xs
of_eight P each (a ∷ b ∷ c ∷ d ∷ e ∷ f ∷ g ∷ h ∷ []) eight = each a b c d e f g h
of_eight P each [] eight = absurd (omega arith)
of_eight P each (a ∷ []) eight = absurd (omega arith)
of_eight P each (a ∷ b ∷ []) eight = absurd (omega arith)
of_eight P each (a ∷ b ∷ c ∷ []) eight = absurd (omega arith)
of_eight P each (a ∷ b ∷ c ∷ d ∷ []) eight = absurd (omega arith)
of_eight P each (a ∷ b ∷ c ∷ d ∷ e ∷ []) eight = absurd (omega arith)
of_eight P each (a ∷ b ∷ c ∷ d ∷ e ∷ f ∷ []) eight = absurd (omega arith)
of_eight P each (a ∷ b ∷ c ∷ d ∷ e ∷ f ∷ g ∷ []) eight = absurd (omega arith)
of_eight P each (a ∷ b ∷ c ∷ d ∷ e ∷ f ∷ g ∷ h ∷ i ∷ xs) eight = absurd (omega arith)

-- a property of a number below eight, by cases
below_eight : (P : ℕ → Type 0) → P 0 → P 1 → P 2 → P 3 → P 4 → P 5 → P 6 → P 7 → (n : ℕ) → n < 8 → P n
below_eight P a b c d e f g h zero below = a
below_eight P a b c d e f g h (suc zero) below = b
below_eight P a b c d e f g h (suc (suc zero)) below = c
below_eight P a b c d e f g h (suc (suc (suc zero))) below = d
below_eight P a b c d e f g h (suc (suc (suc (suc zero)))) below = e
below_eight P a b c d e f g h (suc (suc (suc (suc (suc zero))))) below = f
below_eight P a b c d e f g h (suc (suc (suc (suc (suc (suc zero)))))) below = g
below_eight P a b c d e f g h (suc (suc (suc (suc (suc (suc (suc zero))))))) below = h
below_eight P a b c d e f g h (suc (suc (suc (suc (suc (suc (suc (suc n)))))))) below = absurd (omega arith)

-- the newest entry is written to the place before the head, over the oldest one
pub window-put : (head : ℕ) (xs : List Past) (newest : Past) → head < 8 → length xs ≡ 8
    → window ((head + 8 - 1) % 8) 8 (slice_set xs ((head + 8 - 1) % 8) newest) ≡ newest ∷ take 7 (window head 8 xs)
window-put head xs newest inside eight =
    of_eight (λ ys. window ((head + 8 - 1) % 8) 8 (slice_set ys ((head + 8 - 1) % 8) newest) ≡ newest ∷ take 7 (window head 8 ys))
    (λ a b c d e f g h. let ys = a ∷ b ∷ c ∷ d ∷ e ∷ f ∷ g ∷ h ∷ [] in
    below_eight (λ k. window ((k + 8 - 1) % 8) 8 (slice_set ys ((k + 8 - 1) % 8) newest) ≡ newest ∷ take 7 (window k 8 ys))
    refl refl refl refl refl refl refl refl head inside) xs eight

-- a bit is at most 1
bit-small : (b : Bool) → (if b then 1 else 0) ≤ 1
bit-small true = omega arith
bit-small false = omega arith

-- the bits of the entries move along with the entries
pub bits-shifted : (newest : Past) (xs : List Past) → length xs ≡ 8
    → writer_bits xs % 128 * 2 + (if has_words newest.writes then 1 else 0) ≡ writer_bits (newest ∷ take 7 xs)
unfolding writer_bits
bits-shifted newest xs =
    of_eight (λ ys. writer_bits ys % 128 * 2 + (if has_words newest.writes then 1 else 0) ≡ writer_bits (newest ∷ take 7 ys))
    (λ a b c d e f g h. omega (
      arith,
      bit-small (has_words a.writes),
      bit-small (has_words b.writes),
      bit-small (has_words c.writes),
      bit-small (has_words d.writes),
      bit-small (has_words e.writes),
      bit-small (has_words f.writes),
      bit-small (has_words g.writes),
    )) xs
