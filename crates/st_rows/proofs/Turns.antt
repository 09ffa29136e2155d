-- One iteration of a loop over the words of a run.
use Rattle.st_rows.proofs.Common.{◌≡◌, ℕ, zero, suc, ◌+◌, ◌-◌, ◌≤◌, List, refl, arith, read_word, read_words, Past, Fetching, behind, uses, wishes}

module _ (ds : List ℕ) (past : List Past) (w tick : ℕ) where
  pub read-turn : (s t : Fetching) (n : ℕ) → t ≡ read_word ds past s w tick → 1 ≤ n
      → read_words ds past t tick (w + 1) (n - 1) ≡ read_words ds past s tick w n
  unfolding read_words behind uses wishes read_word
  read-turn s t zero is some = let no : ⊥ = omega arith in absurd no
  read-turn s t (suc n) is some = let e : suc n - 1 ≡ n = omega arith in rw (is, e) refl

  -- two iterations
  pub read-two : (s t u : Fetching) (n : ℕ) → t ≡ read_word ds past s w tick → u ≡ read_word ds past t (w + 1) tick → 2 ≤ n
      → read_words ds past u tick (w + 2) (n - 2) ≡ read_words ds past s tick w n
  unfolding read_words behind uses wishes read_word
  read-two s t u zero one two some = let no : ⊥ = omega arith in absurd no
  read-two s t u (suc zero) one two some = let no : ⊥ = omega arith in absurd no
  read-two s t u (suc (suc n)) one two some =
      let less : suc (suc n) - 2 ≡ n = omega arith in
      let further : w + 2 ≡ w + 1 + 1 = omega arith in
      rw (two, one, less, further) refl
