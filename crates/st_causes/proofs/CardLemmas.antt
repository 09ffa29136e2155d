-- Lemmas on the cards that rows come from.
use Rattle.st_causes.proofs.Common.{slice_index_or, Bool, length, Option, Some, All, ◌≡◌, ℕ, ◌+◌, ◌≤◌, ◌<◌, List, [], ◌∷◌, arith, cond_both, All-nil, All-cons, All-head, All-tail, All-from_get_or, rests, Use, Moment, next_state, standing_at, next_moment, Machine, Why, Origin, card_of, card_by_origin, row_at, tallied_from, why_after, segment_after, segment_end_at, uses_at, words_before}
use Rattle.std.proofs.Common.{zero, suc}
use Rattle.st_asm.specs.Assembly.{Assembly}
use Rattle.st_asm.specs.Sound.{IsAssemblySound}
use Rattle.st_asm.specs.declared.valuing.Listed.{Listed}
use Rattle.st_lines.specs.Origins.{origin_by, is_kept}
use Rattle.st_account.specs.FirstCards.{beginning, is_at, first_card, origin_of}

-- the cards of a listing are numbered from 1 on
cards-by : (cards : ℕ) (rows : List Listed) → length rows ≡ cards → ((k : ℕ) (d : Listed) → k < cards → (slice_index_or rows k d).card ≡ k + 1)
    → All (λ (row : Listed). row.card ≤ cards) rows
cards-by cards [] are numbers = All-nil (λ (row : Listed). row.card ≤ cards)
cards-by cards (x ∷ xs) are numbers =
    All-from_get_or (λ (row : Listed). row.card ≤ cards) (x ∷ xs) x
    (λ i inside. omega (arith, numbers i x (omega (arith, inside, are)), inside, are))

pub cards-few : (cards : ℕ) (a : Assembly) → IsAssemblySound cards a → All (λ (row : Listed). row.card ≤ cards) a.rows
cards-few cards a sound = cards-by cards a.rows sound.row_count sound.numbers

first-few : (cards : ℕ) (rows : List Listed) (h : ℕ) (kept : Bool) → All (λ (row : Listed). row.card ≤ cards) rows
    → card_by_origin (origin_by (first_card rows h) kept) < cards + 1
unfolding first_card
first-few cards [] h kept each = omega arith
first-few cards (row ∷ rows) h kept each =
    cond_both (is_at (beginning row) h) (Some row.card) (first_card rows h) (λ o. card_by_origin (origin_by o kept) < cards + 1)
    (λ yes. omega (arith, All-head (λ (x : Listed). x.card ≤ cards) row rows each))
    (λ no. first-few cards rows h kept (All-tail (λ (x : Listed). x.card ≤ cards) row rows each))

pub origin-few : (cards : ℕ) (a : Assembly) (s : Machine) (h : ℕ) → All (λ (row : Listed). row.card ≤ cards) a.rows
    → card_by_origin (origin_of a s h) < cards + 1
unfolding origin_of
origin-few cards a s h each = first-few cards a.rows h (is_kept a.image s.words h) each

row-few : (cards : ℕ) (o : Machine → ℕ → Option Origin) (ds : List ℕ) (n : ℕ) (end : Option ℕ) (w : Why) (before : List Use) (m : Moment)
    → ((s : Machine) (h : ℕ) → card_by_origin (o s h) < cards + 1) → card_of (row_at o ds n end w before (standing_at m)) < cards + 1
unfolding row_at
row-few cards o ds n end w before m few = few _ _

-- the rows from a moment on
pub rows-few : (cards : ℕ) (o : Machine → ℕ → Option Origin) (ds : List ℕ) (n left k : ℕ) (w : Why) (us : List Use) (m : Moment)
    → ((s : Machine) (h : ℕ) → card_by_origin (o s h) < cards + 1) → All (λ x. card_of x < cards + 1) (tallied_from o ds n left k w us m)
unfolding tallied_from
rows-few cards o ds n zero k w us m few = All-nil (λ x. card_of x < cards + 1)
rows-few cards o ds n (suc left) k w us m few =
    let p = standing_at m in
    let behind = next_moment ds n p in
    cond_both (rests (next_state m)) [] _ (λ xs. All (λ x. card_of x < cards + 1) xs)
    (λ rest. All-nil (λ x. card_of x < cards + 1))
    (λ on. All-cons (λ x. card_of x < cards + 1) (row_at o ds n (segment_end_at left behind) (why_after k w m) (words_before m us) p) _
    (row-few cards o ds n (segment_end_at left behind) (why_after k w m) (words_before m us) m few)
    (rows-few cards o ds n left (segment_after k m) (why_after k w m) (uses_at ds n p) behind few))
