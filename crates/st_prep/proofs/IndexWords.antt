-- The index words as words of storage.
use Rattle.st_prep.proofs.Common.{◌≡◌, ℕ, ◌+◌, ◌<◌, ◌≤◌, List, length, get_or, take, drop, sym, ◌∙◌, arith, ext_get_or, get_or-take, get_or-drop, length-take, length-drop, Machine, word, index_words}

-- sixteen words that are words 16 to 31 of storage
pub are_index_words : (s : Machine) (x : List ℕ) → 32 ≤ length s.words → length x ≡ 16
    → ((k : ℕ) → k < 16 → get_or x k 0 ≡ word s (16 + k)) → x ≡ index_words s
unfolding index_words
are_index_words s x whole size same =
    let long : length (take 16 (drop 16 s.words)) ≡ 16 = omega (arith, length-take 16 (drop 16 s.words), length-drop 16 s.words) in
    ext_get_or 0 x (take 16 (drop 16 s.words)) (size ∙ sym long)
    (λ k h.
    let few : k < 16 = omega arith in
    same k few ∙ sym (get_or-take 16 (drop 16 s.words) k 0 few ∙ get_or-drop 16 s.words k 0))
