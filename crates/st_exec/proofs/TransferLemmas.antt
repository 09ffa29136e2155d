-- The words of a card are written to storage one at a time, and the words of a line are read from
-- it.
use Rattle.st_exec.proofs.Common.{◌≡◌, ℕ, zero, suc, ◌+◌, ◌<◌, ◌≤◌, List, [], ◌∷◌, length, get_or, drop, refl, sym, ◌∙◌, ap, arith, drop_more, length-drop, Machine, word, state_with_store, all_stored, words_from}

-- the rest of a card after k words
pub all_stored-next : (s : Machine) (w k : ℕ) (xs : List ℕ) → k < length xs
    → all_stored (state_with_store s (w + k) (get_or xs k 0)) (w + (k + 1)) (drop (k + 1) xs) ≡ all_stored s (w + k) (drop k xs)
unfolding all_stored
all_stored-next s w k xs h =
    let next : w + (k + 1) ≡ w + k + 1 = omega arith in
    ap (λ a. all_stored (state_with_store s (w + k) (get_or xs k 0)) a (drop (k + 1) xs)) next
    ∙ ap (λ ys. all_stored s (w + k) ys) (sym (drop_more xs k 0 h))

all_stored-none : (s : Machine) (w : ℕ) (xs : List ℕ) → length xs ≡ 0 → all_stored s w xs ≡ s
unfolding all_stored
all_stored-none s w [] e = refl
all_stored-none s w (x ∷ xs) e = absurd (omega arith)

-- after the last word of the card, nothing remains
pub all_stored-all : (s : Machine) (w k : ℕ) (xs : List ℕ) → length xs ≤ k → all_stored s (w + k) (drop k xs) ≡ s
all_stored-all s w k xs h = all_stored-none s (w + k) (drop k xs) (length-drop k xs ∙ omega arith)

-- a list of n items, each equal to its word of storage, is the list of the words
pub words_from-each : (s : Machine) (w n : ℕ) (xs : List ℕ) → length xs ≡ n
    → ((k : ℕ) → k < n → get_or xs k 0 ≡ word s (w + k)) → xs ≡ words_from s w n
unfolding words_from
words_from-each s w zero [] e h = refl
words_from-each s w zero (x ∷ xs) e h = absurd (omega arith)
words_from-each s w (suc n) [] e h = absurd (omega arith)
words_from-each s w (suc n) (x ∷ xs) e h =
    let here : w + 0 ≡ w = omega arith in
    let first : x ≡ word s w = h 0 (omega arith) ∙ ap (λ a. word s a) here in
    let rest : xs ≡ words_from s (w + 1) n =
    words_from-each s (w + 1) n xs (omega arith)
    (λ k below. let next : w + suc k ≡ w + 1 + k = omega arith in h (suc k) (omega arith) ∙ ap (λ a. word s a) next) in
    ap (λ y. y ∷ xs) first ∙ ap (λ ys. word s w ∷ ys) rest
