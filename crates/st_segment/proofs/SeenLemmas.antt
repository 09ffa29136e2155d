-- The decode context of the entry after those in flight.
use Rattle.st_segment.proofs.Common.{◌≡◌, ℕ, ◌<◌, List, Option, refl, ◌∙◌, ap, arith, IfSome, Machine, IsMachine, word, Place, reading_at_place, index_words, place_of, reading_of, words_fetched, decode_context_of, decode_context, IsSeen, predictions, table_behind, split_words, RunAhead}
use Rattle.st_segment.proofs.IndexLemmas.{index-split}
use Rattle.st_segment.proofs.RestLemmas.{low-kept, enabled-kept}

pub reading-behind : (k : ℕ) (t : Option ℕ) (s : Machine) (p : Place) → IsMachine s → IfSome t (λ i. i < 64)
    → RunAhead k t s → reading_of (predictions k t s) p ≡ reading_at_place (split_words k t s) (word s 3) s.enabled p
reading-behind k t s p m some free =
    let u = predictions k t s in
    ap (λ x. reading_at_place x (word u 3) u.enabled p) (index-split k t s m some free)
    ∙ ap (λ b. reading_at_place (split_words k t s) b u.enabled p) (low-kept k t s 3 m some free (omega arith))
    ∙ ap (λ on. reading_at_place (split_words k t s) (word s 3) on p) (enabled-kept k t s m some free)

-- the decode context of a state, from equal index words, word 3 and flag of another state
decode_context-by : (u s : Machine) (p : Place) (x : List ℕ) → index_words u ≡ x → word u 3 ≡ word s 3 → u.enabled ≡ s.enabled
    → decode_context u p ≡ decode_context_of p (words_fetched u p) x s
unfolding decode_context
decode_context-by u s p x index bounds enabled = cc

seen-by : (u s : Machine) (t : Option ℕ) (x : List ℕ) → index_words u ≡ x → word u 3 ≡ word s 3
    → u.enabled ≡ s.enabled → IsSeen u (decode_context_of (place_of u t) (words_fetched u (place_of u t)) x s)
unfolding place_of
seen-by u s t x index bounds enabled =
    record { place = refl; fetched = refl; words = index; bounds = bounds; enabled = enabled }

pub seen-behind : (k : ℕ) (t : Option ℕ) (s : Machine) → IsMachine s → IfSome t (λ i. i < 64) → RunAhead k t s
    → let u = predictions k t s in let p = place_of u (table_behind k t) in
    (decode_context u p ≡ decode_context_of p (words_fetched u p) (split_words k t s) s) × IsSeen u (decode_context_of p (words_fetched u p) (split_words k t s) s)
seen-behind k t s m some free =
    let u = predictions k t s in
    let index = index-split k t s m some free in
    let bounds = low-kept k t s 3 m some free (omega arith) in
    let enabled = enabled-kept k t s m some free in (
      decode_context-by u s (place_of u (table_behind k t)) (split_words k t s) index bounds enabled,
      seen-by u s (table_behind k t) (split_words k t s) index bounds enabled,
    )
