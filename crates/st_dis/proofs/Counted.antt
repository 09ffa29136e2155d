-- Lemmas on the number of cards of words.
use Rattle.st_dis.proofs.Common.{◌≡◌, ◌≤◌, ◌+◌, ◌-◌, ◌==◌, ◌++◌, ℕ, true, false, List, [], ◌∷◌, length, map, take, drop, get_or, if◌then◌else◌, refl, ap, sym, ◌∙◌, length-append, arith, flat_map, take_all, Asked, asked_by, Keyword, statement_card, location_statement, location_cards, cards_of_word, word_cards, statements_of}

-- the number of a word's cards does not depend on its address
location_cards-length : (v w before : ℕ) → length (location_cards v before) ≡ length (location_cards w before)
location_cards-length v w before =
    let one = statement_card (location_statement v) in
    let other = statement_card (location_statement w) in
    elim (before == 0) as (λ b. length (if b then one ∷ [] else []) ≡ length (if b then other ∷ [] else []))
    [ true ↦ refl | false ↦ refl ]

placed-length : (v w before x : ℕ) → length (cards_of_word v before x) ≡ length (cards_of_word w before x)
unfolding cards_of_word
placed-length v w before x =
    let texts = map statement_card (statements_of x) in
    let filled : length (location_cards v before ++ texts) ≡ length (location_cards w before ++ texts) =
    length-append (location_cards v before) texts
    ∙ (ap (λ n. n + length texts) (location_cards-length v w before) ∙ sym (length-append (location_cards w before) texts)) in
    elim (x == 0) as (λ b. length (if b then [] else location_cards v before ++ texts)
    ≡ length (if b then [] else location_cards w before ++ texts)) [ true ↦ refl | false ↦ filled ]

word_cards-length : (v w before : ℕ) (xs : List ℕ) → length (word_cards v before xs) ≡ length (word_cards w before xs)
word_cards-length v w before [] = refl
word_cards-length v w before (x ∷ xs) =
    let here = placed-length v w before x in
    let rest = word_cards-length (v + 1) (w + 1) x xs in
    let one = length-append (cards_of_word v before x) (word_cards (v + 1) x xs) in
    let other = length-append (cards_of_word w before x) (word_cards (w + 1) x xs) in
    omega (arith, here, rest, one, other)

-- the count with one more word
pub counted-more : (count n total before : ℕ) (rest : List ℕ) → 1 ≤ length rest → n ≡ length (cards_of_word 0 before (get_or rest 0 0)) →
    count + length (word_cards 0 before rest) ≡ total →
    count + n + length (word_cards 0 (get_or rest 0 0) (take (length rest - 1) (drop 1 rest))) ≡ total
counted-more count n total before [] some here all = let no : ⊥ = omega arith in absurd no
counted-more count n total before (x ∷ xs) some here all =
    let whole : take (length (x ∷ xs) - 1) xs ≡ xs = take_all (length (x ∷ xs) - 1) xs (omega arith) in
    let moved = word_cards-length 0 1 x xs in
    let parts = length-append (cards_of_word 0 before x) (word_cards 1 x xs) in
    let sizes : count + n + length (word_cards 0 x xs) ≡ total = omega (arith, here, all, moved, parts) in
    ap (λ ys. count + n + length (word_cards 0 x ys)) whole ∙ sizes

-- the count with the requests of one more keyword
pub asked-more : (a : Asked) (count n total : ℕ) (keyword : Keyword) (after keywords : List Keyword) → keywords ≡ keyword ∷ after →
    n ≡ length (asked_by keyword a) → count + length (flat_map (λ k. asked_by k a) keywords) ≡ total →
    count + n + length (flat_map (λ k. asked_by k a) after) ≡ total
asked-more a count n total keyword after keywords parts here all =
    let whole = ap (λ ks. count + length (flat_map (λ k. asked_by k a) ks)) parts in
    let size = length-append (asked_by keyword a) (flat_map (λ k. asked_by k a) after) in
    omega (arith, whole, size, here, all)
