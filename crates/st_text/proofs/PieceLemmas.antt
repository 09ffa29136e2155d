-- Splitting a text at a byte.
use Rattle.st_text.proofs.Common.{◌≡◌, ◌<◌, ◌≤◌, ◌&&◌, ℕ, zero, suc, slice_index, List, [], ◌∷◌, ◌++◌, Bool, true, false, not, IsTrue, length, take, drop, refl, ap, sym, subst, ◌∙◌, if◌then◌else◌, ◌==◌, arith, take-length, take-append-drop, onto_first, pieces_of, lacks}

-- a text has a first piece
pub first_piece : (at : ℕ) (text : List ℕ) →
    (piece : List ℕ) × ((pieces : List (List ℕ)) × (pieces_of at text ≡ piece ∷ pieces))
first_piece at [] = ([], ([], refl))
first_piece at (c ∷ cs) =
    let F : List (List ℕ) → Type 0 =
    λ p. (piece : List ℕ) × ((pieces : List (List ℕ)) × (p ≡ piece ∷ pieces)) in
    elim (c == at) as (λ v. F (if v then [] ∷ pieces_of at cs else onto_first c (pieces_of at cs))) [
      | true ↦ ([], (pieces_of at cs, refl))
      | false ↦ elim (pieces_of at cs) as (λ p. F (onto_first c p)) [ [] ↦ (c ∷ [], ([], refl)) | q ∷ qs ↦ (c ∷ q, (qs, refl)) ]
    ]

both_hold : (a b : Bool) → IsTrue a → b ≡ true → IsTrue (a && b)
both_hold true b first second = second
both_hold false b first second = cc

-- the whole text does not contain the byte
pub lacks_all : (at n : ℕ) (text : List ℕ) → n ≡ length text → IsTrue (lacks at (take n text)) → IsTrue (lacks at text)
lacks_all at n text full lacking =
    let P : List ℕ → Type 0 = λ s. IsTrue (lacks at s) in
    subst P (ap (λ k. take k text) full ∙ take-length text) lacking

-- a text split around one of its bytes
pub around : (text front rest tail : List ℕ) (n c : ℕ) → front ≡ take n text → rest ≡ drop n text → rest ≡ c ∷ tail →
    text ≡ front ++ c ∷ tail
around text front rest tail n c before behind parts =
    sym (take-append-drop n text)
    ∙ (ap (λ (s : List ℕ). s ++ drop n text) (sym before) ∙ ap (λ (s : List ℕ). front ++ s) (sym behind ∙ parts))

-- ---- the first occurrence of a byte

other_false : (b : Bool) → (b ≡ true → ⊥) → b ≡ false
other_false true differs = absurd (differs refl)
other_false false differs = refl

-- the split of a text at an occurrence of the byte
pub parted_at : (at n : ℕ) (text : List ℕ) → n < length text → (slice_index text n == at) ≡ true
    → ((k : ℕ) → 0 ≤ k → k < n → (slice_index text k == at) ≡ true → ⊥)
    → pieces_of at text ≡ take n text ∷ pieces_of at (drop 1 (drop n text))
parted_at at n [] within here before = absurd (omega arith)
parted_at at zero (c ∷ cs) within here before =
    ap (λ (b : Bool). if b then [] ∷ pieces_of at cs else onto_first c (pieces_of at cs)) here
parted_at at (suc n) (c ∷ cs) within here before =
    ap (λ (b : Bool). if b then [] ∷ pieces_of at cs else onto_first c (pieces_of at cs))
    (other_false (c == at) (before 0 (omega arith) (omega arith)))
    ∙ ap (onto_first c) (parted_at at n cs (omega arith) here (λ k low less. before (suc k) (omega arith) (omega arith)))

-- the byte does not occur before this place
pub lacks_before : (at n : ℕ) (text : List ℕ) → n ≤ length text
    → ((k : ℕ) → 0 ≤ k → k < n → (slice_index text k == at) ≡ true → ⊥) → IsTrue (lacks at (take n text))
lacks_before at zero text within before = refl
lacks_before at (suc n) [] within before = refl
lacks_before at (suc n) (c ∷ cs) within before =
    both_hold (not (c == at)) (lacks at (take n cs)) (ap not (other_false (c == at) (before 0 (omega arith) (omega arith))))
    (lacks_before at n cs (omega arith) (λ k low less. before (suc k) (omega arith) (omega arith)))

-- the byte does not occur in the text if no place has it
pub parted_nowhere : (at : ℕ) (text : List ℕ) → ((k : ℕ) → 0 ≤ k → k < length text → (slice_index text k == at) ≡ true → ⊥)
    → pieces_of at text ≡ text ∷ []
parted_nowhere at [] before = refl
parted_nowhere at (c ∷ cs) before =
    ap (λ (b : Bool). if b then [] ∷ pieces_of at cs else onto_first c (pieces_of at cs))
    (other_false (c == at) (before 0 (omega arith) (omega arith)))
    ∙ ap (onto_first c) (parted_nowhere at cs (λ k low less. before (suc k) (omega arith) (omega arith)))
