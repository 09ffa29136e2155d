-- The held words combined with their contents, as a list with the oldest request first.
use Rattle.st_fetch.proofs.Common.{◌==◌, if◌then◌else◌, min, zip, ◌≡◌, ℕ, zero, suc, ◌+◌, ◌<◌, ◌≤◌, List, [], ◌∷◌, length, get_or, take, map, Option, None, Some, refl, ap, add-one, inl, inr, arith, cases_Bool, is_held, found, words_after_request, changed_at, with_answer, with_content, words_after_answer, words_after_store, no_word, word_with_answer, asked_for, content_answered, content_patched, with_its_content, oldest_first, AskedWord, Held}
use Rattle.std.specs.Prelude.{is_some}

-- a property of any four items is a property of a list of four
at_four : {A : Type 0} (P : List A → Type 0) → ((a b c d : A) → P (a ∷ b ∷ c ∷ d ∷ [])) → (xs : List A) → length xs ≡ 4 → P xs
at_four P all [] is = let no : ⊥ = omega arith in absurd no
at_four P all (a ∷ []) is = let no : ⊥ = omega arith in absurd no
at_four P all (a ∷ b ∷ []) is = let no : ⊥ = omega arith in absurd no
at_four P all (a ∷ b ∷ c ∷ []) is = let no : ⊥ = omega arith in absurd no
at_four P all (a ∷ b ∷ c ∷ d ∷ []) is = all a b c d
at_four P all (a ∷ b ∷ c ∷ d ∷ e ∷ xs) is = let no : ⊥ = omega arith in absurd no

-- the length of the combined list
pub length-oldest_first : (n : ℕ) (ws : List AskedWord) (cs : List (Option ℕ)) → length (oldest_first n ws cs) ≡ n
unfolding oldest_first
length-oldest_first zero ws cs = refl
length-oldest_first (suc n) ws cs = ap suc (length-oldest_first n ws cs)

-- a request among four words
asked_four : (w tick : ℕ) (n : ℕ) → n ≤ 4 → (a b c d : AskedWord) (e f g h : Option ℕ)
    → oldest_first (min (n + 1) 4) (asked_for (a ∷ b ∷ c ∷ d ∷ []) w tick) (None ∷ take 3 (e ∷ f ∷ g ∷ h ∷ []))
    ≡ words_after_request (oldest_first n (a ∷ b ∷ c ∷ d ∷ []) (e ∷ f ∷ g ∷ h ∷ [])) w
unfolding oldest_first
asked_four w tick zero few a b c d e f g h = refl
asked_four w tick (suc zero) few a b c d e f g h = refl
asked_four w tick (suc (suc zero)) few a b c d e f g h = refl
asked_four w tick (suc (suc (suc zero))) few a b c d e f g h = refl
asked_four w tick (suc (suc (suc (suc zero)))) few a b c d e f g h = refl
asked_four w tick (suc (suc (suc (suc (suc n))))) few a b c d e f g h = let no : ⊥ = omega arith in absurd no

-- a request adds the newest word without contents; the oldest of five is dropped
pub oldest_first-asked : (w tick : ℕ) (n : ℕ) (ws : List AskedWord) (cs : List (Option ℕ)) → n ≤ 4
    → length ws ≡ 4 → length cs ≡ 4
    → oldest_first (min (n + 1) 4) (asked_for ws w tick) (None ∷ take 3 cs) ≡ words_after_request (oldest_first n ws cs) w
oldest_first-asked w tick n ws cs few four fours =
    at_four
    (λ us. oldest_first (min (n + 1) 4) (asked_for us w tick) (None ∷ take 3 cs) ≡ words_after_request (oldest_first n us cs) w)
    (λ a b c d. at_four
    (λ vs. oldest_first (min (n + 1) 4) (asked_for (a ∷ b ∷ c ∷ d ∷ []) w tick) (None ∷ take 3 vs) ≡ words_after_request (oldest_first n (a ∷ b ∷ c ∷ d ∷ []) vs) w)
    (λ e f g h. asked_four w tick n few a b c d e f g h)
    cs fours)
    ws four

-- the word w with its new tick and contents, and any other word unchanged
slot-answered : (w word tick : ℕ) (f : AskedWord) (content : Option ℕ)
    → with_its_content (word_with_answer w tick f, content_answered w word (word_with_answer w tick f, content))
    ≡ changed_at w (with_answer word tick) (with_its_content (f, content))
slot-answered w word tick f content = elim (cases_Bool (f.w == w)) [ inl t ↦ rw (t, t) refl | inr n ↦ rw (n, n) refl ]

slot-patched : (w word : ℕ) (f : AskedWord) (content : Option ℕ)
    → with_its_content (f, content_patched w word (f, content))
    ≡ changed_at w (with_content word) (with_its_content (f, content))
slot-patched w word f (Some was) = elim (cases_Bool (f.w == w)) [ inl t ↦ rw t refl | inr n ↦ rw n refl ]
slot-patched w word f None = elim (cases_Bool (f.w == w)) [ inl t ↦ rw t refl | inr n ↦ rw n refl ]

-- the list after a change of each slot
module _ (F : Held → Held) (ws vs : List AskedWord) (cs ds : List (Option ℕ)) where
  changed-each :
      ((i : ℕ) → i < 4 → with_its_content (get_or vs i no_word, get_or ds i None) ≡ F (with_its_content (get_or ws i no_word, get_or cs i None)))
      → (n : ℕ) → n ≤ 4 → oldest_first n vs ds ≡ map F (oldest_first n ws cs)
  unfolding oldest_first
  changed-each each zero few = refl
  changed-each each (suc n) few = rw (each n (omega arith), changed-each each n (omega arith)) refl

-- the slots after the answer of w and after a store to w
each_answered : (w word tick : ℕ) (a b c d : AskedWord) (e f g h : Option ℕ) (i : ℕ) → i < 4
    → with_its_content (get_or (map (word_with_answer w tick) (a ∷ b ∷ c ∷ d ∷ [])) i no_word, get_or (map (content_answered w word) (zip (map (word_with_answer w tick) (a ∷ b ∷ c ∷ d ∷ [])) (e ∷ f ∷ g ∷ h ∷ []))) i None)
    ≡ changed_at w (with_answer word tick) (with_its_content (get_or (a ∷ b ∷ c ∷ d ∷ []) i no_word, get_or (e ∷ f ∷ g ∷ h ∷ []) i None))
each_answered w word tick a b c d e f g h zero low = slot-answered w word tick a e
each_answered w word tick a b c d e f g h (suc zero) low = slot-answered w word tick b f
each_answered w word tick a b c d e f g h (suc (suc zero)) low = slot-answered w word tick c g
each_answered w word tick a b c d e f g h (suc (suc (suc zero))) low = slot-answered w word tick d h
each_answered w word tick a b c d e f g h (suc (suc (suc (suc i)))) low = let no : ⊥ = omega arith in absurd no

each_patched : (w word : ℕ) (a b c d : AskedWord) (e f g h : Option ℕ) (i : ℕ) → i < 4
    → with_its_content (get_or (a ∷ b ∷ c ∷ d ∷ []) i no_word, get_or (map (content_patched w word) (zip (a ∷ b ∷ c ∷ d ∷ []) (e ∷ f ∷ g ∷ h ∷ []))) i None)
    ≡ changed_at w (with_content word) (with_its_content (get_or (a ∷ b ∷ c ∷ d ∷ []) i no_word, get_or (e ∷ f ∷ g ∷ h ∷ []) i None))
each_patched w word a b c d e f g h zero low = slot-patched w word a e
each_patched w word a b c d e f g h (suc zero) low = slot-patched w word b f
each_patched w word a b c d e f g h (suc (suc zero)) low = slot-patched w word c g
each_patched w word a b c d e f g h (suc (suc (suc zero))) low = slot-patched w word d h
each_patched w word a b c d e f g h (suc (suc (suc (suc i)))) low = let no : ⊥ = omega arith in absurd no

-- the list after the answer of w
pub oldest_first-answered : (w word tick n : ℕ) (ws : List AskedWord) (cs : List (Option ℕ)) → n ≤ 4 → length ws ≡ 4 → length cs ≡ 4
    → oldest_first n (map (word_with_answer w tick) ws) (map (content_answered w word) (zip (map (word_with_answer w tick) ws) cs)) ≡ words_after_answer (oldest_first n ws cs) w word tick
oldest_first-answered w word tick n ws cs few four fours =
    at_four
    (λ us. oldest_first n (map (word_with_answer w tick) us) (map (content_answered w word) (zip (map (word_with_answer w tick) us) cs)) ≡ words_after_answer (oldest_first n us cs) w word tick)
    (λ a b c d. at_four
    (λ vs. oldest_first n (map (word_with_answer w tick) (a ∷ b ∷ c ∷ d ∷ [])) (map (content_answered w word) (zip (map (word_with_answer w tick) (a ∷ b ∷ c ∷ d ∷ [])) vs)) ≡ words_after_answer (oldest_first n (a ∷ b ∷ c ∷ d ∷ []) vs) w word tick)
    (λ e f g h. changed-each (changed_at w (with_answer word tick)) (a ∷ b ∷ c ∷ d ∷ []) _ (e ∷ f ∷ g ∷ h ∷ []) _
    (each_answered w word tick a b c d e f g h) n few)
    cs fours)
    ws four

-- the list after a store to w
pub oldest_first-patched : (w word n : ℕ) (ws : List AskedWord) (cs : List (Option ℕ)) → n ≤ 4 → length ws ≡ 4 → length cs ≡ 4
    → oldest_first n ws (map (content_patched w word) (zip ws cs)) ≡ words_after_store (oldest_first n ws cs) w word
oldest_first-patched w word n ws cs few four fours =
    at_four
    (λ us. oldest_first n us (map (content_patched w word) (zip us cs)) ≡ words_after_store (oldest_first n us cs) w word)
    (λ a b c d. at_four
    (λ vs. oldest_first n (a ∷ b ∷ c ∷ d ∷ []) (map (content_patched w word) (zip (a ∷ b ∷ c ∷ d ∷ []) vs)) ≡ words_after_store (oldest_first n (a ∷ b ∷ c ∷ d ∷ []) vs) w word)
    (λ e f g h. changed-each (changed_at w (with_content word)) (a ∷ b ∷ c ∷ d ∷ []) _ (e ∷ f ∷ g ∷ h ∷ []) _
    (each_patched w word a b c d e f g h) n few)
    cs fours)
    ws four

-- the search runs from the newest word to the oldest, and the last find is the result
pub found-next : (w i : ℕ) (ws : List AskedWord) (cs : List (Option ℕ)) (here next : Option Held)
    → next ≡ (if (get_or ws i no_word).w == w then Some (with_its_content (get_or ws i no_word, get_or cs i None)) else here)
    → here ≡ found (oldest_first i ws cs) w
    → next ≡ found (oldest_first (i + 1) ws cs) w
unfolding oldest_first
found-next w i ws cs here next is before = rw (is, before, add-one) refl

-- a word is held if and only if the lookup finds it
pub is_held-found : (hold : List Held) (w : ℕ) → is_held hold w ≡ is_some (found hold w)
is_held-found [] w = refl
is_held-found (h ∷ hold) w = elim (cases_Bool (h.w == w)) [ inl t ↦ rw t refl | inr n ↦ rw n (is_held-found hold w) ]
