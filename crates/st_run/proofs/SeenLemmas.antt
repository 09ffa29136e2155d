-- A state with its index words replaced.
use Rattle.st_run.proofs.Common.{option_map_or, ◌≡◌, ℕ, ◌+◌, ◌-◌, ◌<◌, ◌≤◌, List, ◌++◌, length, take, drop, get_or, Option, None, Some, refl, sym, ◌∙◌, ap, arith, length-append, length-take, get_or_append_left, get_or-append_right, get_or-take, get_or-drop, Machine, word, with_index_words}

taken : (ws : List ℕ) → 32 ≤ length ws → length (take 16 ws) ≡ 16
taken ws long = omega (arith, length-take 16 ws)

module _ (xs : List ℕ) (s : Machine) (size : length xs ≡ 16) (long : 32 ≤ length s.words) where
  issue : length (take 16 s.words ++ xs) ≡ 32
  issue = omega (arith, length-append (take 16 s.words) xs, taken s.words long, size)

  pub word-low : (w : ℕ) → w < 16 → word s w ≡ word (with_index_words xs s) w
  unfolding with_index_words
  word-low w low =
      let here : w < length (take 16 s.words) = omega (arith, taken s.words long) in
      let there : w < length (take 16 s.words ++ xs) = omega (arith, issue) in
      sym (get_or-take 16 s.words w 0 low)
      ∙ sym (get_or_append_left (take 16 s.words) xs 0 w here)
      ∙ sym (get_or_append_left (take 16 s.words ++ xs) (drop 32 s.words) 0 w there)

  pub word-index : (w : ℕ) → 16 ≤ w → w < 32 → get_or xs (w - 16) 0 ≡ word (with_index_words xs s) w
  unfolding with_index_words
  word-index w low high =
      let there : w < length (take 16 s.words ++ xs) = omega (arith, issue) in
      sym (get_or-append_right (take 16 s.words) xs 16 w 0 (taken s.words long) low)
      ∙ sym (get_or_append_left (take 16 s.words ++ xs) (drop 32 s.words) 0 w there)

  pub word-high : (w : ℕ) → 32 ≤ w → word s w ≡ word (with_index_words xs s) w
  unfolding with_index_words
  word-high w high =
      let same : 32 + (w - 32) ≡ w = omega arith in
      ap (λ (k : ℕ). get_or s.words k 0) (sym same)
      ∙ sym (get_or-drop 32 s.words (w - 32) 0)
      ∙ sym (get_or-append_right (take 16 s.words ++ xs) (drop 32 s.words) 32 w 0 issue high)

-- the program counter and the mark for interrupts do not depend on the index words
pub counter-seen : {A : Type 0} (f : A → List ℕ) (o : Option A) (s : Machine)
    → s.ic ≡ (option_map_or (λ (x : A). with_index_words (f x) s) o s).ic
unfolding with_index_words
counter-seen f None s = refl
counter-seen f (Some x) s = refl

pub enabled-seen : {A : Type 0} (f : A → List ℕ) (o : Option A) (s : Machine)
    → s.enabled ≡ (option_map_or (λ (x : A). with_index_words (f x) s) o s).enabled
unfolding with_index_words
enabled-seen f None s = refl
enabled-seen f (Some x) s = refl
