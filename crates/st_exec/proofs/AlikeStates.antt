-- States that differ only in their indicators, and changes of both.
use Rattle.st_exec.proofs.Common.{◌≡◌, ◌≢◌, ℕ, ◌+◌, ◌-◌, ◌*◌, ◌/◌, ◌%◌, ◌^◌, ◌<◌, ◌≤◌, inl, inr, List, length, take, drop, ◌++◌, sym, ◌∙◌, ap, arith, get_or, get_or-set_other, length-append, set, length-set, get_or-set_same, get_or_past, length-take, length-drop, get_or-take, get_or-drop, get_or_append_left, get_or-append_right, ext_get_or, leb_tells, eqb_tells, bits, num, all_bits, field, put, part, register_word, field-in_word, Machine, word, with_word, state_with_store, state_with_bits, AreAlike, field_at, accumulator}
use Rattle.st_exec.proofs.ApartLemmas.{length-all_bits, length-placed, word-placed_by}

-- ---- lists of bits with equal parts

same-put : (s t v : List ℕ) (a i : ℕ) → length t ≡ length s → a + length v ≤ length s → get_or t i 0 ≡ get_or s i 0
    → get_or (put t a v) i 0 ≡ get_or (put s a v) i 0
unfolding put
same-put s t v a i size inside e =
    let n : ℕ = a + length v in
    let front : length (take a s) ≡ a = omega (arith, length-take a s) in
    let front' : length (take a t) ≡ a = omega (arith, length-take a t) in
    let both : length (take a s ++ v) ≡ n = omega (arith, length-append (take a s) v) in
    let both' : length (take a t ++ v) ≡ n = omega (arith, length-append (take a t) v) in
    elim (leb_tells n i) [
      | inl p ↦
          let after : n ≤ i = p.1 in
          let place : n + (i - n) ≡ i = omega arith in
          get_or-append_right (take a t ++ v) (drop n t) n i 0 both' after
          ∙ get_or-drop n t (i - n) 0
          ∙ ap (λ j. get_or t j 0) place
          ∙ e
          ∙ ap (λ j. get_or s j 0) (sym place)
          ∙ sym (get_or-append_right (take a s ++ v) (drop n s) n i 0 both after ∙ get_or-drop n s (i - n) 0)
      | inr q ↦
          let before : i < n = q.1 in
          get_or_append_left (take a t ++ v) (drop n t) 0 i (omega arith)
          ∙ elim (leb_tells a i) as (λ _. get_or (take a t ++ v) i 0 ≡ get_or (take a s ++ v) i 0) [
            | inl p ↦
                get_or-append_right (take a t) v a i 0 front' p.1
                ∙ sym (get_or-append_right (take a s) v a i 0 front p.1)
            | inr r ↦
                let low : i < a = r.1 in
                get_or_append_left (take a t) v 0 i (omega arith)
                ∙ get_or-take a t i 0 low
                ∙ e
                ∙ sym (get_or_append_left (take a s) v 0 i (omega arith) ∙ get_or-take a s i 0 low)
          ]
          ∙ sym (get_or_append_left (take a s ++ v) (drop n s) 0 i (omega arith))
    ]

length-put : (s v : List ℕ) (a : ℕ) → a + length v ≤ length s → length (put s a v) ≡ length s
unfolding put
length-put s v a inside =
    omega (arith, length-append (take a s ++ v) (drop (a + length v) s), length-append (take a s) v, length-take a s, length-drop (a + length v) s)

same-field : (s t : List ℕ) (c n : ℕ) → length t ≡ length s
    → ((k : ℕ) → k < n → get_or t (c + k) 0 ≡ get_or s (c + k) 0) → field t c n ≡ field s c n
unfolding field
same-field s t c n size e =
    let long : length (take n (drop c t)) ≡ length (take n (drop c s)) =
    omega (arith, length-take n (drop c t), length-drop c t, length-take n (drop c s), length-drop c s) in
    ext_get_or 0 (take n (drop c t)) (take n (drop c s)) long
    (λ k few.
    let near : k < n = omega (arith, length-take n (drop c t)) in
    get_or-take n (drop c t) k 0 near
    ∙ get_or-drop c t k 0
    ∙ e k near
    ∙ sym (get_or-take n (drop c s) k 0 near ∙ get_or-drop c s k 0))

same-in_field : (s t : List ℕ) (c n k : ℕ) → field t c n ≡ field s c n → k < n → get_or t (c + k) 0 ≡ get_or s (c + k) 0
unfolding field
same-in_field s t c n k e near =
    sym (get_or-take n (drop c t) k 0 near ∙ get_or-drop c t k 0)
    ∙ ap (λ xs. get_or xs k 0) e
    ∙ get_or-take n (drop c s) k 0 near
    ∙ get_or-drop c s k 0

-- a bit of storage is a bit of its word
same-bit : (ws vs : List ℕ) (j : ℕ) → length vs ≡ length ws → j / 64 < length ws
    → get_or vs (j / 64) 0 ≡ get_or ws (j / 64) 0 → get_or (all_bits vs) j 0 ≡ get_or (all_bits ws) j 0
same-bit ws vs j size here e =
    let c : ℕ = 64 * (j / 64) + 0 in
    let place : c + j % 64 ≡ j = omega arith in
    let same : field (all_bits vs) c 64 ≡ field (all_bits ws) c 64 =
    field-in_word vs (j / 64) 0 64 (omega arith) (omega arith)
    ∙ ap (λ x. field (bits 64 x) 0 64) e
    ∙ sym (field-in_word ws (j / 64) 0 64 here (omega arith)) in
    ap (λ i. get_or (all_bits vs) i 0) (sym place)
    ∙ same-in_field (all_bits ws) (all_bits vs) c 64 (j % 64) same (omega arith)
    ∙ ap (λ i. get_or (all_bits ws) i 0) place

-- ---- changes of both states

pub alike-words : (s t : Machine) (vs ws : List ℕ) → AreAlike s t → length ws ≡ length vs
    → ((w : ℕ) → w ≢ 11 → get_or ws w 0 ≡ get_or vs w 0) → AreAlike (record s { words = vs }) (record t { words = ws })
alike-words s t vs ws h size e = record {
  size = size;
  words = e;
  ic = h.ic;
  enabled = h.enabled;
  waiting = h.waiting;
  done = h.done;
  reader = h.reader;
  printer = h.printer;
}

pub same-set : (vs ws : List ℕ) (w x i : ℕ) → length ws ≡ length vs → get_or ws i 0 ≡ get_or vs i 0
    → get_or (set ws w x) i 0 ≡ get_or (set vs w x) i 0
same-set vs ws w x i size e =
    elim (eqb_tells i w) [
      | inl p ↦
          let here : i ≡ w = p.1 in
          elim (leb_tells (length vs) w) [
            | inl q ↦
                let past : length vs ≤ w = q.1 in
                get_or_past (set ws w x) i 0 (omega (arith, length-set ws w x))
                ∙ sym (get_or_past (set vs w x) i 0 (omega (arith, length-set vs w x)))
            | inr q ↦
                let inside : w < length vs = q.1 in
                ap (λ j. get_or (set ws w x) j 0) here
                ∙ get_or-set_same ws w x 0 (omega arith)
                ∙ sym (ap (λ j. get_or (set vs w x) j 0) here ∙ get_or-set_same vs w x 0 inside)
          ]
      | inr q ↦ get_or-set_other ws w i x 0 q.1 ∙ e ∙ sym (get_or-set_other vs w i x 0 q.1)
    ]

pub alike-stored : (s t : Machine) (w x : ℕ) → AreAlike s t → AreAlike (state_with_store s w x) (state_with_store t w x)
alike-stored s t w x h =
    alike-words s t _ _ h (length-set t.words w (register_word w x) ∙ h.size ∙ sym (length-set s.words w (register_word w x)))
    (λ i other. same-set s.words t.words w (register_word w x) i h.size (h.words i other))

-- setting the indicators of both states to any values keeps them alike
pub alike-indicators : (s t : Machine) (x y : ℕ) → AreAlike s t → AreAlike (with_word s 11 x) (with_word t 11 y)
alike-indicators s t x y h =
    alike-words s t _ _ h (length-set t.words 11 y ∙ h.size ∙ sym (length-set s.words 11 x))
    (λ i other. get_or-set_other t.words 11 i y 0 other ∙ h.words i other ∙ sym (get_or-set_other s.words 11 i x 0 other))

pub alike-placed : (s t : Machine) (a : ℕ) (v : List ℕ) → AreAlike s t → a + length v ≤ 64 * length s.words
    → AreAlike (state_with_bits s a v) (state_with_bits t a v)
alike-placed s t a v h inside =
    let ws = s.words in
    let vs = t.words in
    let size : length (all_bits vs) ≡ length (all_bits ws) = omega (arith, h.size, length-all_bits vs, length-all_bits ws) in
    let room : a + length v ≤ length (all_bits ws) = omega (arith, length-all_bits ws) in
    let room' : a + length v ≤ length (all_bits vs) = omega arith in
    alike-words s t _ _ h (length-placed t a v ∙ h.size ∙ sym (length-placed s a v))
    (λ i other.
    elim (leb_tells (length ws) i) [
      | inl p ↦
          let past : length ws ≤ i = p.1 in
          get_or_past (state_with_bits t a v).words i 0 (omega (arith, h.size, length-placed t a v))
          ∙ sym (get_or_past (state_with_bits s a v).words i 0 (omega (arith, length-placed s a v)))
      | inr q ↦
          let here : i < length ws = q.1 in
          word-placed_by t a v i (omega (arith, h.size))
          ∙ ap (λ bs. register_word i (num bs))
          (same-field (put (all_bits ws) a v) (put (all_bits vs) a v) (64 * i) 64
          (length-put (all_bits vs) v a room' ∙ size ∙ sym (length-put (all_bits ws) v a room))
          (λ k few.
          let place : (64 * i + k) / 64 ≡ i = omega arith in
          same-put (all_bits ws) (all_bits vs) v a (64 * i + k) size room
          (same-bit ws vs (64 * i + k) h.size (omega arith)
          (ap (λ j. get_or vs j 0) place ∙ h.words i other ∙ ap (λ j. get_or ws j 0) (sym place)))))
          ∙ sym (word-placed_by s a v i here)
    ])

-- ---- reads of both states

-- a field above the registers is equal in both states
pub alike-field_at : (s t : Machine) (e n : ℕ) → AreAlike s t → 32 ≤ e / 64 → e + n ≤ 64 * length s.words
    → field_at t e n ≡ field_at s e n
alike-field_at s t e n h above inside =
    let ws = s.words in
    let vs = t.words in
    ap num
    (same-field (all_bits ws) (all_bits vs) e n (omega (arith, h.size, length-all_bits vs, length-all_bits ws))
    (λ k few.
    same-bit ws vs (e + k) h.size (omega arith) (h.words ((e + k) / 64) (omega arith))))

pub alike-accumulator : (s t : Machine) → AreAlike s t → accumulator t ≡ accumulator s
alike-accumulator s t h =
    ap (λ x. record { mag = x * 2 ^ 64 + word t 9; sb = part (word t 10) 0 8 }) (h.words 8 (omega arith))
    ∙ ap (λ x. record { mag = word s 8 * 2 ^ 64 + x; sb = part (word t 10) 0 8 }) (h.words 9 (omega arith))
    ∙ ap (λ x. record { mag = word s 8 * 2 ^ 64 + word s 9; sb = part x 0 8 }) (h.words 10 (omega arith))
