-- Lemmas on the origin of half-words and on its line.
use Rattle.st_lines.proofs.Common.{Bool, slice_index, option_map, ◌≡◌, ◌≢◌, ℕ, zero, suc, List, [], ◌++◌, refl, sym, ◌∙◌, ap, append_assoc, append-nil, card_by, is_kept, origin_by, origin_at, Origin, Machine}
use Rattle.std.specs.Prelude.{None, Some}
use Rattle.st_lines.specs.declared.origins.Origins.{Origins}

-- a line of five pieces, two of which are put together, the last one first
pub emitted_pieces : (a b c d e l0 l1 l2 l3 l4 : List ℕ) → l0 ≡ [] → l1 ≡ e ++ l0 → l2 ≡ (c ++ d) ++ l1 → l3 ≡ b ++ l2 → l4 ≡ a ++ l3
    → l4 ≡ a ++ b ++ c ++ d ++ e
emitted_pieces a b c d e l0 l1 l2 l3 l4 e0 e1 e2 e3 e4 = rw (e4, e3, e2, e1, e0) (simp (append_assoc, append-nil) refl)

card-some : (card : ℕ) (kept : Bool) → card ≢ 0 → origin_by (card_by card) kept ≡ Some (record { card = card; kept = kept })
card-some zero kept some = absurd (some refl)
card-some (suc n) kept some = refl

pub origin_none : (o : Origins) (s : Machine) (h card : ℕ) → card ≡ slice_index o.cards.items h → card ≡ 0 → None ≡ origin_at o s h
unfolding origin_at
origin_none o s h card is none = ap (λ n. origin_by (card_by n) (is_kept o.image.items s.words h)) (sym none ∙ is)

pub origin_some : (o : Origins) (s : Machine) (h card : ℕ) (kept : Bool) → card ≡ slice_index o.cards.items h → card ≢ 0
    → kept ≡ is_kept o.image.items s.words h → Some (record { card = card; kept = kept }) ≡ origin_at o s h
unfolding origin_at
origin_some o s h card kept is some same =
    sym (card-some card kept some)
    ∙ ap (λ n. origin_by (card_by n) kept) is
    ∙ ap (λ k. origin_by (card_by (slice_index o.cards.items h)) k) same

-- the card alone, whether or not its bits are there still

pub card_none : (o : Origins) (s : Machine) (h card : ℕ) → card ≡ slice_index o.cards.items h → card ≡ 0
    → option_map (λ (x : Origin). x.card) None ≡ option_map (λ (x : Origin). x.card) (origin_at o s h)
card_none o s h card is none = ap (option_map (λ (x : Origin). x.card)) (origin_none o s h card is none)

pub card_some : (o : Origins) (s : Machine) (h card : ℕ) (kept : Bool) → card ≡ slice_index o.cards.items h → card ≢ 0
    → option_map (λ (x : Origin). x.card) (Some (record { card = card; kept = kept })) ≡ option_map (λ (x : Origin). x.card) (origin_at o s h)
card_some o s h card kept is some =
    ap (option_map (λ (x : Origin). x.card)) (origin_some o s h card (is_kept o.image.items s.words h) is some refl)
