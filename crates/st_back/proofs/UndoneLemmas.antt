-- Words that are restored one at a time.
use Rattle.st_back.proofs.Common.{◌≡◌, ℕ, zero, suc, ◌+◌, ◌-◌, ◌<◌, ◌≤◌, inl, inr, List, length, refl, sym, ◌∙◌, ap, arith, slice_index, leb_tells, length-set, get_or-set_same, register_word, Machine, IsMachine, word, state_with_store, fixed-word, IsBeside, beside-rest, beside-first, state_with_words, unput}
use Rattle.st_exec.proofs.Unchanged.{stored-other}

-- ---- the remaining words

pub restored-next : (w n f k : ℕ) (xs : List ℕ) (s : Machine) → k < n
    → state_with_words (w + (k + 1)) (n - (k + 1)) (f + (k + 1)) xs (state_with_store s (w + k) (slice_index xs (f + k)))
    ≡ state_with_words (w + k) (n - k) (f + k) xs s
unfolding state_with_words
restored-next w n f k xs s h =
    let t = state_with_store s (w + k) (slice_index xs (f + k)) in
    let size : suc (n - (k + 1)) ≡ n - k = omega arith in
    let place : w + (k + 1) ≡ w + k + 1 = omega arith in
    let from : f + (k + 1) ≡ f + k + 1 = omega arith in
    ap (λ a. state_with_words a (n - (k + 1)) (f + (k + 1)) xs t) place
    ∙ ap (λ b. state_with_words (w + k + 1) (n - (k + 1)) b xs t) from
    ∙ ap (λ m. state_with_words (w + k) m (f + k) xs s) size

restored-none : (w n f : ℕ) (xs : List ℕ) (s : Machine) → n ≡ 0 → state_with_words w n f xs s ≡ s
unfolding state_with_words
restored-none w zero f xs s e = refl
restored-none w (suc n) f xs s e = absurd (omega arith)

pub restored-all : (w n f k : ℕ) (xs : List ℕ) (s : Machine) → n ≤ k → state_with_words (w + k) (n - k) (f + k) xs s ≡ s
restored-all w n f k xs s h = restored-none (w + k) (n - k) (f + k) xs s (omega arith)

pub unput-next : (n : ℕ) (places contents : List ℕ) (s : Machine) → 0 < n
    → unput (n - 1) places contents (state_with_store s (slice_index places (n - 1)) (slice_index contents (n - 1)))
    ≡ unput n places contents s
unfolding unput
unput-next zero places contents s h = absurd (omega arith)
unput-next (suc n) places contents s h =
    let one : suc n - 1 ≡ n = omega arith in
    ap (λ m. unput m places contents (state_with_store s (slice_index places m) (slice_index contents m))) one

pub unput-none : (n : ℕ) (places contents : List ℕ) (s : Machine) → n ≡ 0 → unput n places contents s ≡ s
unfolding unput
unput-none zero places contents s e = refl
unput-none (suc n) places contents s e = absurd (omega arith)

-- ---- single words

pub restored-other : (w n f : ℕ) (xs : List ℕ) (s : Machine) (i : ℕ) → IsBeside i w n
    → word (state_with_words w n f xs s) i ≡ word s i
unfolding state_with_words
restored-other w zero f xs s i h = refl
restored-other w (suc n) f xs s i h =
    restored-other (w + 1) n (f + 1) xs (state_with_store s w (slice_index xs f)) i (beside-rest i w n h)
    ∙ stored-other s w (slice_index xs f) i (beside-first i w n h)

pub restored-size : (w n f : ℕ) (xs : List ℕ) (s : Machine) → length (state_with_words w n f xs s).words ≡ length s.words
unfolding state_with_words
restored-size w zero f xs s = refl
restored-size w (suc n) f xs s =
    restored-size (w + 1) n (f + 1) xs (state_with_store s w (slice_index xs f)) ∙ length-set s.words w (register_word w (slice_index xs f))

pub restored-in : (w n f : ℕ) (xs : List ℕ) (s : Machine) (j : ℕ) → j < n → w + n ≤ length s.words
    → word (state_with_words w n f xs s) (w + j) ≡ register_word (w + j) (slice_index xs (f + j))
unfolding state_with_words
restored-in w zero f xs s j few inside = absurd (omega arith)
restored-in w (suc n) f xs s zero few inside =
    let x : ℕ = slice_index xs f in
    let place : w + 0 ≡ w = omega arith in
    let from : f ≡ f + 0 = omega arith in
    restored-other (w + 1) n (f + 1) xs (state_with_store s w x) (w + 0) (inl (omega arith))
    ∙ ap (λ i. word (state_with_store s w x) i) place
    ∙ get_or-set_same s.words w (register_word w x) 0 (omega arith)
    ∙ ap (λ i. register_word i x) (sym place)
    ∙ ap (λ k. register_word (w + 0) (slice_index xs k)) from
restored-in w (suc n) f xs s (suc j) few inside =
    let x : ℕ = slice_index xs f in
    let place : w + suc j ≡ w + 1 + j = omega arith in
    let from : f + 1 + j ≡ f + suc j = omega arith in
    let size = length-set s.words w (register_word w x) in
    ap (λ i. word (state_with_words (w + 1) n (f + 1) xs (state_with_store s w x)) i) place
    ∙ restored-in (w + 1) n (f + 1) xs (state_with_store s w x) j (omega arith) (omega arith)
    ∙ ap (λ i. register_word i (slice_index xs (f + 1 + j))) (sym place)
    ∙ ap (λ k. register_word (w + suc j) (slice_index xs k)) from

-- a restored word is that of state v if the list has the word of v, or if the word was already
-- equal
pub restored-back : (w n f : ℕ) (xs : List ℕ) (s v : Machine) (i : ℕ) → IsMachine s
    → (1 ≤ n → w + n ≤ length v.words) → ((j : ℕ) → j < n → slice_index xs (f + j) ≡ word s (w + j))
    → (IsBeside i w n → word v i ≡ word s i) → word (state_with_words w n f xs v) i ≡ word s i
restored-back w n f xs s v i m inside has other =
    elim (leb_tells w i) [
      | inl p ↦
          let above : w ≤ i = p.1 in
          elim (leb_tells (w + n) i) [
            | inl q ↦
                let beside : IsBeside i w n = inr q.1 in
                restored-other w n f xs v i beside ∙ other beside
            | inr q ↦
                let below : i < w + n = q.1 in
                let place : w + (i - w) ≡ i = omega arith in
                let room : w + n ≤ length v.words = inside (omega arith) in
                ap (λ k. word (state_with_words w n f xs v) k) (sym place)
                ∙ restored-in w n f xs v (i - w) (omega arith) room
                ∙ ap (λ x. register_word (w + (i - w)) x) (has (i - w) (omega arith))
                ∙ fixed-word s (w + (i - w)) m
                ∙ ap (λ k. word s k) place
          ]
      | inr p ↦
          let beside : IsBeside i w n = inl p.1 in
          restored-other w n f xs v i beside ∙ other beside
    ]
