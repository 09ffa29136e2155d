-- Four held words, shifted by one place.
use Rattle.st_fetch.proofs.Common.{slice_set, slice_index_or, ◌≡◌, ℕ, ◌+◌, List, [], ◌∷◌, length, take, refl, arith, AskedWord}

-- the word at a place after the shift, which is the one before it
abbrev pub moved : ℕ → List AskedWord → List AskedWord
moved i xs = slice_set xs (i + 1) (slice_index_or xs i (record { w = 0; tick = 0 }))

pub shifted : (xs : List AskedWord) (newest : AskedWord) → length xs ≡ 4 → slice_set (moved 0 (moved 1 (moved 2 xs))) 0 newest ≡ newest ∷ take 3 xs
shifted (a ∷ b ∷ c ∷ d ∷ []) newest four = refl
shifted [] newest four = absurd (omega arith)
shifted (a ∷ []) newest four = absurd (omega arith)
shifted (a ∷ b ∷ []) newest four = absurd (omega arith)
shifted (a ∷ b ∷ c ∷ []) newest four = absurd (omega arith)
shifted (a ∷ b ∷ c ∷ d ∷ e ∷ xs) newest four = absurd (omega arith)
