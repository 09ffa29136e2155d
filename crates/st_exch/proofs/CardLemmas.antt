-- Each card of the reader has eight words.
use Rattle.st_exch.proofs.Common.{◌≡◌, ℕ, zero, suc, ◌+◌, ◌<◌, ◌^◌, List, [], ◌∷◌, length, take, drop, refl, arith, All-nil, All-cons, All-head, All-tail, cards_of, text_in, Card, column_of_card, word_from, card_words, is_comment, behind_statements, texts_in, reader_cards}
use Rattle.std.specs.Prelude.{All, map, filter, slice_index_or}

abbrev AreBytes : List ℕ → Type 0
AreBytes = All (λ x. x < 256)

abbrev AreWords : List ℕ → Type 0
AreWords = All (λ x. x < 2 ^ 64)

-- ---- columns

bytes-drop : (n : ℕ) (xs : List ℕ) → AreBytes xs → AreBytes (drop n xs)
bytes-drop zero xs are = are
bytes-drop (suc n) [] are = are
bytes-drop (suc n) (x ∷ xs) are = bytes-drop n xs (All-tail (λ (y : ℕ). y < 256) x xs are)

bytes-take : (n : ℕ) (xs : List ℕ) → AreBytes xs → AreBytes (take n xs)
bytes-take zero xs are = All-nil (λ (y : ℕ). y < 256)
bytes-take (suc n) [] are = All-nil (λ (y : ℕ). y < 256)
bytes-take (suc n) (x ∷ xs) are =
    All-cons (λ (y : ℕ). y < 256) x (take n xs) (All-head (λ (y : ℕ). y < 256) x xs are)
    (bytes-take n xs (All-tail (λ (y : ℕ). y < 256) x xs are))

item-below : (xs : List ℕ) (k : ℕ) → AreBytes xs → slice_index_or xs k 32 < 256
item-below [] k are = omega arith
item-below (x ∷ xs) zero are = All-head (λ (y : ℕ). y < 256) x xs are
item-below (x ∷ xs) (suc k) are = item-below xs k (All-tail (λ (y : ℕ). y < 256) x xs are)

-- ---- words

word-below : (text : List ℕ) (c : ℕ) → AreBytes text → word_from text c < 2 ^ 64
unfolding word_from
word-below text c are =
    let at : (k : ℕ) → column_of_card text k < 256 = λ k. item-below text _ are in
    omega (arith, at c, at (c + 1), at (c + 2), at (c + 3), at (c + 4), at (c + 5), at (c + 6), at (c + 7))

words-size : (text : List ℕ) → length (card_words text) ≡ 8
unfolding card_words
words-size text = refl

all-map : {A B : Type 0} (P : B → Type 0) (f : A → B) (xs : List A) → ((x : A) → P (f x)) → All P (map f xs)
all-map P f [] each = All-nil P
all-map P f (x ∷ xs) each = All-cons P (f x) (map f xs) (each x) (all-map P f xs each)

words-below : (text : List ℕ) → AreBytes text → AreWords (card_words text)
unfolding card_words
words-below text are =
    all-map (λ (x : ℕ). x < 2 ^ 64) (word_from text) (2 ∷ 10 ∷ 18 ∷ 26 ∷ 34 ∷ 42 ∷ 50 ∷ 58 ∷ []) (λ c. word-below text c are)

-- ---- cards

pub cards-size : (job : List ℕ) → All (λ (card : List ℕ). length card ≡ 8) (reader_cards job)
unfolding reader_cards texts_in
cards-size job =
    all-map (λ (card : List ℕ). length card ≡ 8) (λ (card : Card). card_words (text_in job card))
    (filter (λ (card : Card). is_comment card.kind) (behind_statements (cards_of job))) (λ card. words-size (text_in job card))

pub cards-below : (job : List ℕ) → All (λ x. x < 256) job → All (All (λ x. x < 2 ^ 64)) (reader_cards job)
unfolding reader_cards texts_in
cards-below job are =
    all-map AreWords (λ (card : Card). card_words (text_in job card))
    (filter (λ (card : Card). is_comment card.kind) (behind_statements (cards_of job)))
    (λ card. words-below (text_in job card) (bytes-take card.len (drop card.start job) (bytes-drop card.start job are)))
