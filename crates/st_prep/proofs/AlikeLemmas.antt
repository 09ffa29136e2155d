-- A prepared entry depends only on the words read for it: on the indicators only as its index-side word.
use Rattle.st_prep.proofs.Common.{◌≡◌, ◌≢◌, ℕ, ◌+◌, ◌*◌, ◌%◌, ◌^◌, ◌<◌, ◌≤◌, Bool, true, false, ◌==◌, List, length, take, drop, get_or, set, Option, None, Some, refl, sym, subst, ◌∙◌, ap, arith, get_or-set_other, get_or-set_at, eqb-true, nat_tests, All, IfSome, ext_get_or, get_or-take, get_or-drop, length-take, length-drop, part, words_of_storage_is, indicator, indicator_word, Machine, IsMachine, word, Place, index_words, address_by, place_of, reading_of, words_fetched, needs, prepared_entry, decode_context, state_at_entry, side_word, plan, outcome, words_read, reading_at_place, AreAlike, ReadTheSame}
use Rattle.st_prep.proofs.PlanLemmas.{same_seen}
use Rattle.st_prep.proofs.PreparedLemmas.{is_needs, same_serial}
use Rattle.st_prep.proofs.ReadingLemmas.{fetched-outcome, reading-few, outcome-same}

same_index_words : (s t : Machine) → AreAlike s t → index_words t ≡ index_words s
unfolding index_words
same_index_words s t h =
    let long : length (take 16 (drop 16 t.words)) ≡ length (take 16 (drop 16 s.words)) =
    omega (arith, h.size, length-take 16 (drop 16 t.words), length-drop 16 t.words, length-take 16 (drop 16 s.words), length-drop 16 s.words) in
    ext_get_or 0 (take 16 (drop 16 t.words)) (take 16 (drop 16 s.words)) long
    (λ k few.
    let near : k < 16 = omega (arith, length-take 16 (drop 16 t.words)) in
    get_or-take 16 (drop 16 t.words) k 0 near
    ∙ get_or-drop 16 t.words k 0
    ∙ h.words (16 + k) (omega arith)
    ∙ sym (get_or-take 16 (drop 16 s.words) k 0 near ∙ get_or-drop 16 s.words k 0))

same_address : (s t : Machine) (i : Option ℕ) → t.ic ≡ s.ic → word t 2 ≡ word s 2 → address_by i t ≡ address_by i s
same_address s t None e h = e
same_address s t (Some i) e h = ap (λ y. 2 * ((part y 0 18 + i) % 2 ^ 18)) h

same_place_by : (a b c d : ℕ) (i : Option ℕ) → a ≡ b → c ≡ d
    → ◌≡◌ {A = Place} (record { counter = a; address = c; table = i }) (record { counter = b; address = d; table = i })
same_place_by a b c d i e f = cc

same_place : (s t : Machine) (i : Option ℕ) → t.ic ≡ s.ic → word t 2 ≡ word s 2 → place_of t i ≡ place_of s i
unfolding place_of
same_place s t i e h = same_place_by _ _ _ _ i e (same_address s t i e h)

same_fetched : (s t : Machine) (p : Place) → index_words t ≡ index_words s → word t 3 ≡ word s 3 → t.enabled ≡ s.enabled
    → All (λ w. word t w ≡ word s w) (words_read (reading_of s p) (word s)) → words_fetched t p ≡ words_fetched s p
same_fetched s t p index bounds enabled words =
    fetched-outcome t p
    ∙ ap (λ x. outcome (reading_at_place x (word t 3) t.enabled p) (word t)) index
    ∙ ap (λ b. outcome (reading_at_place (index_words s) b t.enabled p) (word t)) bounds
    ∙ ap (λ en. outcome (reading_at_place (index_words s) (word s 3) en p) (word t)) enabled
    ∙ outcome-same (reading_of s p) (word s) (word t) words
    ∙ sym (fetched-outcome s p)

same_decode_context : (s t : Machine) (p : Place) → index_words t ≡ index_words s → word t 3 ≡ word s 3 → t.enabled ≡ s.enabled
    → All (λ w. word t w ≡ word s w) (words_read (reading_of s p) (word s)) → decode_context t p ≡ decode_context s p
unfolding decode_context
same_decode_context s t p index bounds enabled words =
    same_seen p p _ _ _ _ _ _ _ _ refl (same_fetched s t p index bounds enabled words) index bounds enabled

-- states with equal decode contexts at the place of the next entry, and equal index-side words, have equal next entries
same_plan : (s t : Machine) (i : Option ℕ) → place_of t i ≡ place_of s i → decode_context t (place_of s i) ≡ decode_context s (place_of s i)
    → side_word i t (needs (decode_context s (place_of s i))).index_read ≡ side_word i s (needs (decode_context s (place_of s i))).index_read
    → plan t i ≡ plan s i
unfolding plan
same_plan s t i place seen side =
    let v = decode_context s (place_of s i) in
    ap (λ u. prepared_entry u (side_word i t (needs u).index_read)) (ap (decode_context t) place ∙ seen) ∙ ap (prepared_entry v) side

-- ---- equal contents of the words that are read

-- a word that is set in two lists
set_same : (b : Bool) (xs ys : List ℕ) (w x y : ℕ) → (w == 11) ≡ b → 11 < length xs → 11 < length ys
    → get_or ys w 0 ≡ get_or xs w 0 → (w ≡ 11 → y ≡ x) → get_or (set ys 11 y) w 0 ≡ get_or (set xs 11 x) w 0
set_same true xs ys w x y e few many h same =
    let it : w ≡ 11 = eqb-true w 11 e in
    get_or-set_at ys 11 w y 0 it many ∙ same it ∙ sym (get_or-set_at xs 11 w x 0 it few)
set_same false xs ys w x y e few many h same =
    let other : w ≢ 11 = grind (arith, nat_tests, e) in
    get_or-set_other ys 11 w y 0 other ∙ h ∙ sym (get_or-set_other xs 11 w x 0 other)

opened_same : (s t : Machine) (i : Option ℕ) (w : ℕ) → IsMachine s → IsMachine t → word t w ≡ word s w
    → word (state_at_entry i t) w ≡ word (state_at_entry i s) w
opened_same s t None w m n h = h
opened_same s t (Some i) w m n h =
    set_same (w == 11) s.words t.words w _ _ refl (omega (arith, m.size, words_of_storage_is))
    (omega (arith, n.size, words_of_storage_is)) h
    (λ e. ap (indicator_word 64 0 (indicator i)) (subst (λ k. word t k ≡ word s k) e h))

side_same : (s t : Machine) (i w : Option ℕ) → IsMachine s → IsMachine t → IfSome w (λ n. word t n ≡ word s n)
    → side_word i t w ≡ side_word i s w
side_same s t i None m n h = refl
side_same s t i (Some w) m n h = ap Some (opened_same s t i w m n h)

pub plan-read : (s t : Machine) (i : Option ℕ) → IsMachine s → IsMachine t → ReadTheSame i s t → plan t i ≡ plan s i
plan-read s t i m n h =
    same_plan s t i (same_place s t i h.ic h.origin)
    (same_decode_context s t (place_of s i) h.index h.bounds h.enabled h.instruction) (side_same s t i _ m n h.side)

-- ---- the indicators

-- the word of the indicators is no instruction word
other_words : (s t : Machine) (p : Place) → AreAlike s t
    → All (λ w. word t w ≡ word s w) (words_read (reading_of s p) (word s))
other_words s t p h k d few =
    let ws = words_read (reading_of s p) (word s) in
    let above : 32 ≤ get_or ws k d = (reading-few (index_words s) (word s 3) s.enabled p (word s)).above k d few in
    h.words (get_or ws k d) (omega arith)

same_opened : (s t : Machine) (i : Option ℕ) (w : ℕ) → AreAlike s t → w ≢ 11 → word (state_at_entry i t) w ≡ word (state_at_entry i s) w
same_opened s t None w h other = h.words w other
same_opened s t (Some i) w h other =
    get_or-set_other t.words 11 w _ 0 other ∙ h.words w other ∙ sym (get_or-set_other s.words 11 w _ 0 other)

same_side : (s t : Machine) (i w : Option ℕ) → AreAlike s t → w ≢ Some 11 → side_word i t w ≡ side_word i s w
same_side s t i None h other = refl
same_side s t i (Some w) h other = ap Some (same_opened s t i w h (λ e. other (ap Some e)))

-- states that differ only in their indicators have equal next entries, unless the indicators are the index-side word
pub plan-alike : (s t : Machine) (i : Option ℕ) → AreAlike s t → (needs (decode_context s (place_of s i))).index_read ≢ Some 11
    → plan t i ≡ plan s i
plan-alike s t i h other =
    let p = place_of s i in
    same_plan s t i (same_place s t i h.ic (h.words 2 (omega arith)))
    (same_decode_context s t p (same_index_words s t h) (h.words 3 (omega arith)) h.enabled (other_words s t p h))
    (same_side s t i _ h other)

not_register : (w : Option ℕ) → IfSome w (λ n. 32 ≤ n) → w ≢ Some 11
not_register None h e = cc
not_register (Some n) h e = let same : n ≡ 11 = cc in omega arith

serial-needs : (s : Machine) (i : Option ℕ) → (plan s i).serial ≡ false → (needs (decode_context s (place_of s i))).serial ≡ false
unfolding plan
serial-needs s i free =
    let v = decode_context s (place_of s i) in sym (same_serial v (side_word i s (needs v).index_read)) ∙ free

-- the indicators are not the index-side word of an entry that is not serializing
pub plan-alike_ahead : (s t : Machine) (i : Option ℕ) → AreAlike s t → (plan s i).serial ≡ false → plan t i ≡ plan s i
plan-alike_ahead s t i h free =
    let v = decode_context s (place_of s i) in
    let ahead : (needs v).serial ≡ false = serial-needs s i free in
    plan-alike s t i h (not_register (needs v).index_read ((is_needs v).above ahead))
