-- Laws of held words after requests, answers and stores.
--
-- Proved: each law has its lemma in proofs/Laws.antt, with its name in small letters.
-- Change: docs/promises.txt lists each law, and the gate compares the list with the laws.
use Rattle.std.specs.Prelude.{◌≡◌, ◌≢◌, ◌≤◌, ℕ, List, ◌∷◌, [], ◌++◌, length, drop, true, Some, None}
use Rattle.std.specs.Option.{option_map}
use Rattle.st_fetch.specs.HeldWords.{is_held, words_after_request, words_after_answer, words_after_store, answer_of}
use Rattle.st_fetch.specs.declared.held.Held.{Held}

-- A store changes the contents of an answered word, but neither its tick nor any other word.
pub record StoresChangeContentAlone : Type 0 where
  pub here : (hold : List Held) (w word : ℕ) →
      answer_of (words_after_store hold w word) w ≡ option_map (λ a. (word, a.1)) (answer_of hold w)
  pub others : (hold : List Held) (v w word : ℕ) → v ≢ w →
      answer_of (words_after_store hold w word) v ≡ answer_of hold v
  pub held : (hold : List Held) (v w word : ℕ) →
      is_held (words_after_store hold w word) v ≡ is_held hold v

-- After an answer, the word has that answer, and no other word has changed.
pub record AnswersAreKnown : Type 0 where
  pub here : (hold : List Held) (w word tick : ℕ) → is_held hold w ≡ true →
      answer_of (words_after_answer hold w word tick) w ≡ Some (word, tick)
  pub others : (hold : List Held) (v w word tick : ℕ) → v ≢ w →
      answer_of (words_after_answer hold w word tick) v ≡ answer_of hold v
  pub held : (hold : List Held) (v w word tick : ℕ) →
      is_held (words_after_answer hold w word tick) v ≡ is_held hold v

-- A request drops the oldest word if four are held, and otherwise none.
pub record RequestsHoldFour : Type 0 where
  pub room : (hold : List Held) (w : ℕ) → length hold ≤ 3 →
      words_after_request hold w ≡ hold ++ record { w = w; answer = None } ∷ []
  pub full : (hold : List Held) (w : ℕ) → length hold ≡ 4 →
      words_after_request hold w ≡ drop 1 hold ++ record { w = w; answer = None } ∷ []
