-- The result of an entry's reading, the words that it reads, and their number.
use Rattle.st_prep.proofs.Common.{◌≡◌, ℕ, zero, suc, ◌+◌, ◌-◌, ◌/◌, ◌<◌, ◌≤◌, Bool, true, false, ◌==◌, List, [], ◌∷◌, ◌++◌, length, take, Option, None, Some, refl, sym, subst, ◌∙◌, ap, arith, All, nat_le, ltb-false, words_of_storage, Decoded, decoded_entry, Machine, word, is_invalid_word, address_invalid, forbidden_by, Fetch, Place, Fetched, Next, Found, FoundInstruction, effective, index_words, words_fetched, Reading, Finds, Reads, outcome, words_read, own_words, left_after, fetching_of, half_of, Continuation, with_second, with_first, read_after, instruction_at, is_execute, with_target, own_use, reading_at_place, or-right}
use Rattle.st_prep.proofs.Choices.{of_choice, test-none}
use Rattle.st_prep.proofs.RunLemmas.{allowed-inside}

-- ---- the result

-- the fetched entry is the result of the reading
pub fetched-outcome : (s : Machine) (p : Place) → words_fetched s p ≡ outcome (reading_at_place (index_words s) (word s 3) s.enabled p) (word s)
unfolding words_fetched
fetched-outcome s p = refl

-- ---- the words that are read

-- a list of at most n words, each of them in storage above the registers
pub record AreFew (n : ℕ) (ws : List ℕ) : Type 0 where
  pub few : length ws ≤ n
  pub above : All (λ w. 32 ≤ w) ws
  pub inside : All (λ w. w < words_of_storage) ws

none_few : (n : ℕ) → AreFew n []
none_few n = record { few = omega arith; above = λ k d h. absurd (omega arith); inside = λ k d h. absurd (omega arith) }

-- one more word
all-more : (P : ℕ → Type 0) (w : ℕ) (ws : List ℕ) → P w → All P ws → All P (w ∷ ws)
all-more P w ws here rest zero d h = here
all-more P w ws here rest (suc k) d h = rest k d (omega arith)

one_more : (n w : ℕ) (ws : List ℕ) → 32 ≤ w → w < words_of_storage → AreFew n ws → AreFew (n + 1) (w ∷ ws)
one_more n w ws above inside h = record {
  few = omega (arith, h.few);
  above = all-more (λ w. 32 ≤ w) w ws above h.above;
  inside = all-more (λ w. w < words_of_storage) w ws inside h.inside;
}

not_fewer : (n : ℕ) (ws : List ℕ) → AreFew n ws → AreFew (n + 1) ws
not_fewer n ws h = record { few = omega (arith, h.few); above = h.above; inside = h.inside }

-- a continuation that reads at most n words
abbrev pub ReadsFew : ℕ → (ℕ → ℕ) → Continuation → Type 0
ReadsFew n c k = (f : FoundInstruction) → AreFew n (words_read (k f) c)

fetch-above : (b : ℕ) (en : Bool) (w : ℕ) → forbidden_by b en Fetch w ≡ None → 32 ≤ w
unfolding forbidden_by
fetch-above b en w h = ltb-false w 32 (or-right (nat_le words_of_storage w) _ (test-none (is_invalid_word Fetch w) address_invalid _ h))

few-second : (f : Option ℕ) (t : Bool) (b : ℕ) (en : Bool) (first h v content n : ℕ) (c : ℕ → ℕ) (k : Continuation)
    → forbidden_by b en Fetch (h / 2) ≡ f → ReadsFew n c k → AreFew (n + 1) (words_read (with_second f t first h v content k) c)
unfolding words_read
few-second (Some i) t b en first h v content n c k e few = not_fewer n _ (few _)
few-second None t b en first h v content n c k e few =
    of_choice (λ r. AreFew (n + 1) (words_read r c)) (h / 2 == v) _ _ (not_fewer n _ (few _))
    (one_more n (h / 2) _ (fetch-above b en (h / 2) e) (allowed-inside b en Fetch (h / 2) e) (few _))

few-first : (t : Bool) (b : ℕ) (en : Bool) (h content n : ℕ) (c : ℕ → ℕ) (k : Continuation) → ReadsFew n c k
    → AreFew (n + 1) (words_read (with_first t b en h content k) c)
unfolding with_first
few-first t b en h content n c k few =
    of_choice (λ r. AreFew (n + 1) (words_read r c)) ((decoded_entry (half_of content h) 0).halves == 2) _ _
    (few-second (forbidden_by b en Fetch ((h + 1) / 2)) t b en (half_of content h) (h + 1) (h / 2) content n c k refl few)
    (not_fewer n _ (few _))

few-after : (f : Option ℕ) (t : Bool) (b : ℕ) (en : Bool) (h n : ℕ) (c : ℕ → ℕ) (k : Continuation) → forbidden_by b en Fetch (h / 2) ≡ f
    → ReadsFew n c k → AreFew (n + 1 + 1) (words_read (read_after f t b en h k) c)
unfolding words_read
few-after (Some i) t b en h n c k e few = not_fewer (n + 1) _ (not_fewer n _ (few _))
few-after None t b en h n c k e few =
    one_more (n + 1) (h / 2) _ (fetch-above b en (h / 2) e) (allowed-inside b en Fetch (h / 2) e)
    (few-first t b en h (c (h / 2)) n c k few)

few-at : (t : Bool) (b : ℕ) (en : Bool) (h n : ℕ) (c : ℕ → ℕ) (k : Continuation) → ReadsFew n c k
    → AreFew (n + 1 + 1) (words_read (instruction_at t b en h k) c)
unfolding instruction_at
few-at t b en h n c k few = few-after (forbidden_by b en Fetch (h / 2)) t b en h n c k refl few

few-target : (own : Decoded) (c : ℕ → ℕ) → ReadsFew 0 c (λ target. Finds (with_target own target))
unfolding words_read
few-target own c f = none_few 0

few-own : (x : List ℕ) (b : ℕ) (en : Bool) (c : ℕ → ℕ) → ReadsFew 2 c (own_use x b en)
unfolding own_use words_read
few-own x b en c own =
    of_choice (λ r. AreFew 2 (words_read r c)) (is_execute own.decoded.instr) _ _
    (few-at true b en (effective x own.decoded.instr / 32) 0 c _ (few-target own.decoded c)) (none_few 2)

pub reading-few : (x : List ℕ) (b : ℕ) (en : Bool) (p : Place) (c : ℕ → ℕ) → AreFew 4 (words_read (reading_at_place x b en p) c)
unfolding reading_at_place
reading-few x b en p c = few-at false b en p.address 2 c (own_use x b en) (few-own x b en c)

-- ---- the entry's own words

-- each word that is read is one of them unless it is read for the target
abbrev pub own_one : Bool → ℕ
own_one true = 0
own_one false = 1

own-read : (t : Bool) (w : ℕ) (r : ℕ → Reading) (c : ℕ → ℕ) → own_words (Reads t w r) c ≡ own_one t + own_words (r (c w)) c
unfolding own_words
own-read true w r c = omega arith
own-read false w r c = omega arith

abbrev pub OwnFew : ℕ → (ℕ → ℕ) → Continuation → Type 0
OwnFew n c k = (f : FoundInstruction) → own_words (k f) c ≤ n

own-more : (t : Bool) (m n : ℕ) → m ≤ n → own_one t + m ≤ own_one t + n
own-more t m n h = omega arith

own-same : (t : Bool) (m n : ℕ) → m ≤ n → m ≤ own_one t + n
own-same t m n h = omega arith

own-second : (f : Option ℕ) (t : Bool) (first h v content n : ℕ) (c : ℕ → ℕ) (k : Continuation) → OwnFew n c k
    → own_words (with_second f t first h v content k) c ≤ own_one t + n
own-second (Some i) t first h v content n c k few = own-same t _ n (few _)
own-second None t first h v content n c k few =
    of_choice (λ r. own_words r c ≤ own_one t + n) (h / 2 == v) _ _ (own-same t _ n (few _))
    (rw (own-read t (h / 2) _ c) (own-more t _ n (few _)))

own-first : (t : Bool) (b : ℕ) (en : Bool) (h content n : ℕ) (c : ℕ → ℕ) (k : Continuation) → OwnFew n c k
    → own_words (with_first t b en h content k) c ≤ own_one t + n
unfolding with_first
own-first t b en h content n c k few =
    of_choice (λ r. own_words r c ≤ own_one t + n) ((decoded_entry (half_of content h) 0).halves == 2) _ _
    (own-second _ t _ (h + 1) (h / 2) content n c k few) (own-same t _ n (few _))

own-after : (f : Option ℕ) (t : Bool) (b : ℕ) (en : Bool) (h n : ℕ) (c : ℕ → ℕ) (k : Continuation) → OwnFew n c k
    → own_words (read_after f t b en h k) c ≤ own_one t + (own_one t + n)
own-after (Some i) t b en h n c k few = own-same t _ (own_one t + n) (own-same t _ n (few _))
own-after None t b en h n c k few =
    let there : own_words (with_first t b en h (c (h / 2)) k) c ≤ own_one t + n = own-first t b en h (c (h / 2)) n c k few in
    rw (own-read t (h / 2) (λ content. with_first t b en h content k) c) (omega (arith, there))

own-at : (t : Bool) (b : ℕ) (en : Bool) (h n : ℕ) (c : ℕ → ℕ) (k : Continuation) → OwnFew n c k
    → own_words (instruction_at t b en h k) c ≤ own_one t + (own_one t + n)
unfolding instruction_at
own-at t b en h n c k few = own-after _ t b en h n c k few

own-found : (f : Fetched) (c : ℕ → ℕ) → own_words (Finds f) c ≤ 0
unfolding own_words
own-found f c = omega arith

own-use : (x : List ℕ) (b : ℕ) (en : Bool) (c : ℕ → ℕ) → OwnFew 0 c (own_use x b en)
unfolding own_use
own-use x b en c own =
    of_choice (λ r. own_words r c ≤ 0) (is_execute own.decoded.instr) _ _
    (own-at true b en (effective x own.decoded.instr / 32) 0 c _ (λ target. own-found _ c)) (own-found _ c)

-- at most two words are the entry's own
pub reading-own : (x : List ℕ) (b : ℕ) (en : Bool) (p : Place) (c : ℕ → ℕ) → own_words (reading_at_place x b en p) c ≤ 2
unfolding reading_at_place
reading-own x b en p c = own-at false b en p.address 0 c (own_use x b en) (own-use x b en c)

-- ---- the contents so far determine the rest

all-head : (P : ℕ → Type 0) (w : ℕ) (ws : List ℕ) → All P (w ∷ ws) → P w
all-head P w ws h = h 0 0 (omega arith)

all-tail : (P : ℕ → Type 0) (w : ℕ) (ws : List ℕ) → All P (w ∷ ws) → All P ws
all-tail P w ws h k d few = h (suc k) d (omega arith)

-- equal contents of all words that are read give equal results
pub outcome-same : (r : Reading) (c d : ℕ → ℕ) → All (λ w. d w ≡ c w) (words_read r c) → outcome r d ≡ outcome r c
unfolding outcome words_read
outcome-same (Finds f) c d h = refl
outcome-same (Reads t w r) c d h =
    let P : ℕ → Type 0 = λ w. d w ≡ c w in
    ap (λ x. outcome (r x) d) (all-head P w (words_read (r (c w)) c) h)
    ∙ outcome-same (r (c w)) c d (all-tail P w (words_read (r (c w)) c) h)

-- equal contents of the first n words give the next word to read
pub next-same : (n : ℕ) (r : Reading) (c d : ℕ → ℕ) → All (λ w. d w ≡ c w) (take n (words_read r c))
    → take (suc n) (words_read r d) ≡ take (suc n) (words_read r c)
unfolding words_read
next-same n (Finds f) c d h = refl
next-same zero (Reads t w r) c d h = refl
next-same (suc n) (Reads t w r) c d h =
    let P : ℕ → Type 0 = λ w. d w ≡ c w in
    ap (λ x. w ∷ take (suc n) (words_read (r x) d)) (all-head P w (take n (words_read (r (c w)) c)) h)
    ∙ ap (λ ws. w ∷ ws) (next-same n (r (c w)) c d (all-tail P w (take n (words_read (r (c w)) c)) h))

-- ---- successive contents

pub left_after-none : (r : Reading) → left_after r [] ≡ r
unfolding left_after
left_after-none (Finds f) = refl
left_after-none (Reads t w r) = refl

pub left_after-more : (r : Reading) (cs : List ℕ) (c : ℕ) → left_after r (cs ++ c ∷ []) ≡ left_after (left_after r cs) (c ∷ [])
unfolding left_after
left_after-more (Finds f) cs c = refl
left_after-more (Reads t w r) [] c = refl
left_after-more (Reads t w r) (d ∷ cs) c = left_after-more (r d) cs c

-- the rest of a reading has the result of the whole, and reads at most n words
pub record IsLeft (r s : Reading) (c : ℕ → ℕ) (n : ℕ) : Type 0 where
  pub same : outcome r c ≡ outcome s c
  pub few : length (words_read r c) ≤ n

same_word : (v w : ℕ) (t u : Bool) → Next v t ≡ Next w u → v ≡ w
same_word v w t u e = cc

same_found : (f g : Fetched) → Found f ≡ Found g → f ≡ g
same_found f g e = cc

pub next-left : (r s : Reading) (c : ℕ → ℕ) (n w : ℕ) (t : Bool) → fetching_of r ≡ Next w t → IsLeft r s c n
    → (1 ≤ n) × IsLeft (left_after r (c w ∷ [])) s c (n - 1)
unfolding fetching_of left_after outcome words_read
next-left (Finds f) s c n w t e h = cc
next-left (Reads u v r) s c n w t e h =
    let word : v ≡ w = same_word v w u t e in
    let one : suc (length (words_read (r (c v)) c)) ≤ n = h.few in
    let there : r (c v) ≡ r (c w) = ap (λ x. r (c x)) word in (
      omega arith,
      record {
        same = ap (λ x. outcome x c) (left_after-none (r (c w)) ∙ sym there) ∙ h.same;
        few = rw (left_after-none (r (c w)) ∙ sym there) (omega arith);
      },
    )

pub found-left : (r s : Reading) (c : ℕ → ℕ) (n : ℕ) (f : Fetched) → fetching_of r ≡ Found f → IsLeft r s c n → f ≡ outcome s c
unfolding fetching_of outcome
found-left (Finds g) s c n f e h = sym (same_found g f e) ∙ h.same
found-left (Reads u v r) s c n f e h = cc

-- before the first content, the rest is the whole reading
pub whole-left : (x : List ℕ) (b : ℕ) (en : Bool) (p : Place) (c : ℕ → ℕ)
    → IsLeft (left_after (reading_at_place x b en p) []) (reading_at_place x b en p) c 4
whole-left x b en p c =
    let r = reading_at_place x b en p in
    rw (left_after-none r) (record { same = refl; few = (reading-few x b en p c).few })

-- one more content
pub more-left : (r s : Reading) (c : ℕ → ℕ) (cs ds : List ℕ) (x n m : ℕ) → ds ≡ cs ++ x ∷ [] → m ≡ n
    → IsLeft (left_after (left_after r cs) (x ∷ [])) s c n → IsLeft (left_after r ds) s c m
more-left r s c cs ds x n m e f h =
    subst (λ k. IsLeft (left_after r ds) s c k) (sym f) (subst (λ t. IsLeft t s c n) (sym (ap (left_after r) e ∙ left_after-more r cs x)) h)
