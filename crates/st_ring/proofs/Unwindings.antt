-- Levels are undone in sequence.
use Rattle.st_ring.proofs.Common.{◌≡◌, ℕ, List, [], ◌∷◌, ◌++◌, set, refl, ap, sym, ◌∙◌, Option, None, Some, set-set, set-get_or, words_after, Level, index_words_after, ChangeKeeps, Kept, put_back, unwound}
use Rattle.st_prep.specs.declared.entries.IndexChange.{IndexChange}

-- the youngest level is undone first
pub unwound-youngest : (x : List ℕ) (levels : List Level) (level : Level) →
    unwound x (levels ++ level ∷ []) ≡ unwound (put_back x level.prepared.index) levels
unfolding unwound
unwound-youngest x [] level = refl
unwound-youngest x (first ∷ levels) level =
    ap (λ (w : List ℕ). put_back w first.prepared.index) (unwound-youngest x levels level)

-- without levels nothing is undone
pub unwound-nothing : (x : List ℕ) → unwound x [] ≡ x
unfolding unwound
unwound-nothing x = refl

-- a change is undone by the word that it replaced
change-undone : (x : List ℕ) (change : Option IndexChange) → ChangeKeeps x change → put_back (words_after x change) change ≡ x
change-undone x None keeps = refl
change-undone x (Some c) keeps =
    set-set x c.number c.word c.kept
    ∙ (ap (λ w. set x c.number w) (sym keeps) ∙ set-get_or x c.number 0)

-- all levels are undone
pub made-undone : (first : List ℕ) (levels : List Level) → Kept first levels → unwound (index_words_after first levels) levels ≡ first
unfolding index_words_after Kept unwound
made-undone first [] kept = refl
made-undone first (level ∷ levels) kept =
    ap (λ (w : List ℕ). put_back w level.prepared.index) (made-undone (words_after first level.prepared.index) levels kept.1)
    ∙ change-undone first level.prepared.index kept.0
