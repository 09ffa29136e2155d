-- States that differ only in indicators and orders have equal readings.
use Rattle.st_segment.proofs.Common.{◌≡◌, ℕ, suc, ◌+◌, ◌*◌, ◌%◌, ◌^◌, ◌<◌, ◌≤◌, true, false, List, ◌∷◌, get_or, take, drop, length, Option, None, Some, refl, sym, ◌∙◌, ap, arith, All, ext_get_or, get_or-take, get_or-drop, length-take, length-drop, Machine, word, Place, AreAlikeBesideOrders, index_words, address_by, place_of, reading_of, words_fetched, decode_context, Reading, Finds, Reads, outcome, words_read, own_words, reading_at_place, same_seen, fetched-outcome, reading-few, outcome-same, reading_at, instruction_words, own_count}
use Rattle.st_bits.specs.Bits.{part}

-- ---- the words of a reading

head-of : (P : ℕ → Type 0) (w : ℕ) (ws : List ℕ) → All P (w ∷ ws) → P w
head-of P w ws h = h 0 0 (omega arith)

tail-of : (P : ℕ → Type 0) (w : ℕ) (ws : List ℕ) → All P (w ∷ ws) → All P ws
tail-of P w ws h k d few = h (suc k) d (omega arith)

words-same : (r : Reading) (c d : ℕ → ℕ) → All (λ w. d w ≡ c w) (words_read r c)
    → (words_read r d ≡ words_read r c) × (own_words r d ≡ own_words r c)
unfolding words_read own_words
words-same (Finds f) c d h = (refl, refl)
words-same (Reads true w r) c d h =
    let P : ℕ → Type 0 = λ w. d w ≡ c w in
    let here : d w ≡ c w = head-of P w (words_read (r (c w)) c) h in
    let rest = words-same (r (c w)) c d (tail-of P w (words_read (r (c w)) c) h) in (
      ap (λ x. w ∷ words_read (r x) d) here ∙ ap (λ ws. w ∷ ws) rest.0,
      ap (λ x. own_words (r x) d) here ∙ rest.1,
    )
words-same (Reads false w r) c d h =
    let P : ℕ → Type 0 = λ w. d w ≡ c w in
    let here : d w ≡ c w = head-of P w (words_read (r (c w)) c) h in
    let rest = words-same (r (c w)) c d (tail-of P w (words_read (r (c w)) c) h) in (
      ap (λ x. w ∷ words_read (r x) d) here ∙ ap (λ ws. w ∷ ws) rest.0,
      ap (λ x. suc (own_words (r x) d)) here ∙ ap suc rest.1,
    )

-- ---- states

pub same-index : (s t : Machine) → AreAlikeBesideOrders s t → index_words t ≡ index_words s
unfolding index_words
same-index s t h =
    let long : length (take 16 (drop 16 t.words)) ≡ length (take 16 (drop 16 s.words)) =
    omega (arith, h.size, length-take 16 (drop 16 t.words), length-drop 16 t.words, length-take 16 (drop 16 s.words), length-drop 16 s.words) in
    ext_get_or 0 (take 16 (drop 16 t.words)) (take 16 (drop 16 s.words)) long
    (λ k few.
    let near : k < 16 = omega (arith, length-take 16 (drop 16 t.words)) in
    get_or-take 16 (drop 16 t.words) k 0 near
    ∙ get_or-drop 16 t.words k 0
    ∙ h.words (16 + k) (omega arith)
    ∙ sym (get_or-take 16 (drop 16 s.words) k 0 near ∙ get_or-drop 16 s.words k 0))

same-address : (s u : Machine) (t : Option ℕ) → AreAlikeBesideOrders s u → address_by t u ≡ address_by t s
same-address s u None h = h.ic
same-address s u (Some i) h = ap (λ y. 2 * ((part y 0 18 + i) % 2 ^ 18)) (h.words 2 (omega arith))

place-by : (a b c d : ℕ) (t : Option ℕ) → a ≡ b → c ≡ d
    → ◌≡◌ {A = Place} (record { counter = a; address = c; table = t }) (record { counter = b; address = d; table = t })
place-by a b c d t e f = cc

pub same-place : (s u : Machine) (t : Option ℕ) → AreAlikeBesideOrders s u → place_of u t ≡ place_of s t
unfolding place_of
same-place s u t h = place-by _ _ _ _ t h.ic (same-address s u t h)

same-reading : (s u : Machine) (p : Place) → AreAlikeBesideOrders s u → reading_of u p ≡ reading_of s p
same-reading s u p h =
    ap (λ x. reading_at_place x (word u 3) u.enabled p) (same-index s u h)
    ∙ ap (λ b. reading_at_place (index_words s) b u.enabled p) (h.words 3 (omega arith))
    ∙ ap (λ en. reading_at_place (index_words s) (word s 3) en p) h.enabled

-- instruction words are not registers, so the states agree in them
same-words : (s u : Machine) (p : Place) → AreAlikeBesideOrders s u
    → All (λ w. word u w ≡ word s w) (words_read (reading_of s p) (word s))
same-words s u p h k d few =
    let ws = words_read (reading_of s p) (word s) in
    let above : 32 ≤ get_or ws k d = (reading-few (index_words s) (word s 3) s.enabled p (word s)).above k d few in
    h.words (get_or ws k d) (omega arith)

same-fetched : (s u : Machine) (p : Place) → AreAlikeBesideOrders s u → words_fetched u p ≡ words_fetched s p
same-fetched s u p h =
    fetched-outcome u p
    ∙ ap (λ r. outcome r (word u)) (same-reading s u p h)
    ∙ outcome-same (reading_of s p) (word s) (word u) (same-words s u p h)
    ∙ sym (fetched-outcome s p)

same-decode_context_at : (s u : Machine) (p : Place) → AreAlikeBesideOrders s u → decode_context u p ≡ decode_context s p
unfolding decode_context
same-decode_context_at s u p h =
    same_seen p p _ _ _ _ _ _ _ _ refl (same-fetched s u p h) (same-index s u h) (h.words 3 (omega arith)) h.enabled

pub same-decode_context : (s u : Machine) (t : Option ℕ) → AreAlikeBesideOrders s u
    → decode_context u (place_of u t) ≡ decode_context s (place_of s t)
same-decode_context s u t h = ap (decode_context u) (same-place s u t h) ∙ same-decode_context_at s u (place_of s t) h

same-reading_at : (s u : Machine) (t : Option ℕ) → AreAlikeBesideOrders s u → reading_at t u ≡ reading_at t s
same-reading_at s u t h = ap (reading_of u) (same-place s u t h) ∙ same-reading s u (place_of s t) h

pub same-instruction : (s u : Machine) (t : Option ℕ) → AreAlikeBesideOrders s u
    → (instruction_words t u ≡ instruction_words t s) × (own_count t u ≡ own_count t s)
unfolding instruction_words own_count
same-instruction s u t h =
    let same = same-reading_at s u t h in
    let words = words-same (reading_at t s) (word s) (word u) (same-words s u (place_of s t) h) in (
      ap (λ r. words_read r (word u)) same ∙ words.0,
      ap (λ r. own_words r (word u)) same ∙ words.1,
    )
