-- The reader's cards, card by card.
use Rattle.st_exch.proofs.Common.{◌≡◌, ◌-◌, ◌<◌, ◌≤◌, ◌||◌, ℕ, zero, suc, Bool, true, false, List, [], ◌∷◌, ◌++◌, length, drop, get_or, map, filter, refl, sym, ap, ◌∙◌, arith, All, if◌then◌else◌, map-append, filter-append, All-tail, text_in, Card, is_comment, is_statement, has_statement, behind_statements, card_words, texts_in}

or-true : (b : Bool) → (b || true) ≡ true
or-true true = refl
or-true false = refl

-- the words of the cards of two lists in sequence
texts-append : (job : List ℕ) (cards more : List Card) → texts_in job (cards ++ more) ≡ texts_in job cards ++ texts_in job more
unfolding texts_in
texts-append job cards more =
    let test = λ (c : Card). is_comment c.kind in
    let text = λ (c : Card). card_words (text_in job c) in
    ap (λ (x : List Card). map text x) (filter-append test cards more) ∙ map-append text (filter test cards) (filter test more)

-- the words of one more card
pub texts-more : (job : List ℕ) (cards : List Card) (card : Card) (now new : List (List ℕ)) → now ≡ texts_in job cards
    → new ≡ now ++ texts_in job (card ∷ []) → new ≡ texts_in job (cards ++ card ∷ [])
texts-more job cards card now new here further = rw (further, here) (sym (texts-append job cards (card ∷ [])))

-- the item in place n is the first of the list from place n
drop-one : (cards : List Card) (n : ℕ) (default : Card) → n < length cards → drop n cards ≡ get_or cards n default ∷ drop (suc n) cards
drop-one [] n default below = let no : ⊥ = omega (arith, below) in absurd no
drop-one (card ∷ cards) zero default below = refl
drop-one (card ∷ cards) (suc n) default below = drop-one cards n default (omega (arith, below))

-- after the last card there is no statement card
pub none-behind : (cards : List Card) → has_statement (drop (length cards) cards) ≡ false
none-behind [] = refl
none-behind (card ∷ cards) = none-behind cards

-- there is no statement card from place n - 1 if there is none from place n and none in place n - 1
pub none-from : (cards : List Card) (n : ℕ) (default : Card) → 0 < n → n ≤ length cards
    → is_statement (get_or cards (n - 1) default).kind ≡ false → has_statement (drop n cards) ≡ false
    → has_statement (drop (n - 1) cards) ≡ false
none-from cards zero default some within kind none = let no : ⊥ = omega (arith, some) in absurd no
none-from cards (suc n) default some within kind none =
    let same : suc n - 1 ≡ n = omega arith in
    ap (λ (k : ℕ). has_statement (drop k cards)) same
    ∙ (ap (λ (x : List Card). has_statement x) (drop-one cards n default (omega (arith, within)))
    ∙ (ap (λ v. v || has_statement (drop (suc n) cards)) (sym (ap (λ (k : ℕ). is_statement (get_or cards k default).kind) same) ∙ kind) ∙ none))

-- without a statement card, all cards are after the last one
pub behind-none : (cards : List Card) → has_statement cards ≡ false → behind_statements cards ≡ cards
unfolding behind_statements
behind-none [] none = refl
behind-none (card ∷ cards) none = ap (λ v. if v then behind_statements cards else card ∷ cards) none

has-at : (cards : List Card) (n : ℕ) (default : Card) → n < length cards → is_statement (get_or cards n default).kind ≡ true
    → has_statement cards ≡ true
has-at [] n default below kind = let no : ⊥ = omega (arith, below) in absurd no
has-at (card ∷ cards) zero default below kind = ap (λ v. v || has_statement cards) kind
has-at (card ∷ cards) (suc n) default below kind =
    ap (λ v. is_statement card.kind || v) (has-at cards n default (omega (arith, below)) kind) ∙ or-true (is_statement card.kind)

behind-at : (cards : List Card) (n : ℕ) (default : Card) → n < length cards → is_statement (get_or cards n default).kind ≡ true
    → has_statement (drop (suc n) cards) ≡ false → behind_statements cards ≡ drop (suc n) cards
unfolding behind_statements
behind-at [] n default below kind none = let no : ⊥ = omega (arith, below) in absurd no
behind-at (card ∷ cards) zero default below kind none =
    ap (λ v. if v || has_statement cards then behind_statements cards else card ∷ cards) kind ∙ behind-none cards none
behind-at (card ∷ cards) (suc n) default below kind none =
    ap (λ v. if v then behind_statements cards else card ∷ cards) (has-at (card ∷ cards) (suc n) default below kind)
    ∙ behind-at cards n default (omega (arith, below)) kind none

-- the cards after the statement card in place n - 1, if there is none after it
pub behind-last : (cards : List Card) (n : ℕ) (default : Card) → 0 < n → n ≤ length cards
    → is_statement (get_or cards (n - 1) default).kind ≡ true → has_statement (drop n cards) ≡ false
    → drop n cards ≡ behind_statements cards
behind-last cards zero default some within kind none = let no : ⊥ = omega (arith, some) in absurd no
behind-last cards (suc n) default some within kind none =
    let same : suc n - 1 ≡ n = omega arith in
    sym (behind-at cards n default (omega (arith, within)) (sym (ap (λ (k : ℕ). is_statement (get_or cards k default).kind) same) ∙ kind) none)

-- a property of each card is a property of those after the last statement card
pub behind-all : (P : Card → Type 0) (cards : List Card) → All P cards → All P (behind_statements cards)
unfolding behind_statements
behind-all P [] all = all
behind-all P (card ∷ cards) all = elim (has_statement (card ∷ cards)) as (λ v. All P (if v then behind_statements cards else card ∷ cards)) [
  | true ↦ behind-all P cards (All-tail P card cards all)
  | false ↦ all
]
