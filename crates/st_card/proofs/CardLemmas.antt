-- Lemmas on reading cards line by line.
use Rattle.st_card.proofs.Common.{◌≡◌, ◌≤◌, ◌<◌, ◌+◌, ◌-◌, ℕ, List, [], ◌∷◌, ◌++◌, length, take, All, refl, ap, sym, subst, ◌∙◌, arith, append_assoc, append-nil, take_all, take-append_seam, strip_carriage_return, All-push, pieces_of, IsFront, IsBehind, card_at, cards_from, IsCardOf, Card}
use Rattle.st_text.proofs.PieceLemmas.{first_piece}
use Rattle.st_card.proofs.TextLemmas.{card_described}

-- a line with a line end becomes a card
pub card_first : (text line shown after : List ℕ) → pieces_of 10 text ≡ line ∷ pieces_of 10 after →
    shown ≡ strip_carriage_return line → length line + 1 + length after ≡ length text → (n place : ℕ) →
    cards_from n place (pieces_of 10 text)
    ≡ card_at n place shown ∷ cards_from (n + 1) (place + (length text - length after)) (pieces_of 10 after)
card_first text line shown after parts stripped lengths n place =
    let lines = first_piece 10 after in
    let P : List (List ℕ) → Type 0 = λ p. cards_from n place (line ∷ p)
    ≡ card_at n place (strip_carriage_return line) ∷ cards_from (n + 1) (place + length line + 1) p in
    let here : P (pieces_of 10 after) = subst P (sym lines.1.1) refl in
    let next : place + length line + 1 ≡ place + (length text - length after) = omega arith in
    ap (λ p. cards_from n place p) parts
    ∙ (here
    ∙ (ap (λ (s : List ℕ). card_at n place s ∷ cards_from (n + 1) (place + length line + 1) (pieces_of 10 after)) (sym stripped)
    ∙ ap (λ k. card_at n place shown ∷ cards_from (n + 1) k (pieces_of 10 after)) next))

-- reading one more card extends the cards read so far
pub cards_further : (n : ℕ) (job rest after shown : List ℕ) (cards longer all : List Card) (card : Card) →
    cards ++ cards_from n (length job - length rest) (pieces_of 10 rest) ≡ all →
    ((m place : ℕ) → cards_from m place (pieces_of 10 rest)
    ≡ card_at m place shown ∷ cards_from (m + 1) (place + (length rest - length after)) (pieces_of 10 after)) →
    card ≡ card_at n (length job - length rest) shown → longer ≡ cards ++ card ∷ [] →
    length rest ≤ length job → length after < length rest →
    longer ++ cards_from (n + 1) (length job - length after) (pieces_of 10 after) ≡ all
cards_further n job rest after shown cards longer all card so_far parts is_card more within shorter =
    let place = length job - length rest in
    let step : place + (length rest - length after) ≡ length job - length after = omega arith in
    let later = cards_from (n + 1) (length job - length after) (pieces_of 10 after) in
    let here : cards_from n place (pieces_of 10 rest) ≡ card ∷ later =
    parts n place
    ∙ (ap (λ k. card_at n place shown ∷ cards_from (n + 1) k (pieces_of 10 after)) step
    ∙ ap (λ (x : Card). x ∷ later) (sym is_card)) in
    ap (λ (x : List Card). x ++ later) more
    ∙ (append_assoc cards (card ∷ []) later ∙ (ap (λ (x : List Card). cards ++ x) (sym here) ∙ so_far))

-- the cards read are all cards if no text remains
pub cards_done : (n : ℕ) (cards rest all : List Card) → cards ++ rest ≡ all → rest ≡ [] → length cards ≤ n → cards ≡ take n all
cards_done n cards rest all so_far none few =
    let same : cards ≡ all = sym (append-nil cards) ∙ (ap (λ (x : List Card). cards ++ x) (sym none) ∙ so_far) in
    sym (ap (λ (x : List Card). take n x) (sym same) ∙ take_all n cards few)

-- the cards read are the whole result if the maximum is reached
pub cards_full : (n : ℕ) (cards rest all : List Card) → cards ++ rest ≡ all → length cards ≡ n → cards ≡ take n all
cards_full n cards rest all so_far full =
    sym (take-append_seam cards rest) ∙ (ap (λ k. take k (cards ++ rest)) full ∙ ap (λ (x : List Card). take n x) so_far)

-- one more card and its agreement with its text
pub texts_further : (n : ℕ) (job rest shown : List ℕ) (cards longer : List Card) (card : Card) →
    All (IsCardOf job) cards → IsBehind rest job → IsFront shown rest →
    card ≡ card_at n (length job - length rest) shown → longer ≡ cards ++ card ∷ [] → All (IsCardOf job) longer
texts_further n job rest shown cards longer card texts behind front is_card more =
    subst (λ (x : List Card). All (IsCardOf job) x) (sym more)
    (All-push (IsCardOf job) cards card texts
    (subst (λ (x : Card). IsCardOf job x) (sym is_card) (card_described n job rest shown behind front)))
