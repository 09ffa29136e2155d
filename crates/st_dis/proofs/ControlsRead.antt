-- The control cards of a deck, added one by one, make the requests of the program.
use Rattle.st_dis.proofs.Common.{◌≡◌, ◌≤◌, ◌<◌, ◌==◌, ℕ, Bool, true, false, not, nat_lt, List, [], ◌∷◌, ◌++◌, Option, Some, None, if◌then◌else◌, length, map, filter, decimal, refl, ap, sym, subst, ◌∙◌, append_assoc, length-append, arith, nat_tests, take_all, length-decimal-le, leb-true, map-append, keyword_text, card_number, numbers_before, card_numbers, control_line, IsShort, IsShortControl, Keyword, Control, Card, pieces_of, lacks, words, columns, Asked, nothing_asked, with_keyword, with_card, with_words, asked_with_card, IsWithinLimits, keyword-found, is-word, Steps, steps-of, all-steps, parted-once, control_cards, CardsLead}
use Rattle.st_text.specs.Number.{is_filled, reading, number_if_good}
use Rattle.st_card.specs.Controls.{with_control}
use Rattle.st_mnemonic.proofs.Digits.{decimal-digits, reading-decimal, digits-lack, low_other, lacks-parted}
use Rattle.st_card.specs.declared.keywords.Keyword.TheVariants as keywords
use Rattle.st_card.specs.declared.keywords.Control.TheVariants as asks

decimal-short : (n : ℕ) → IsShort n → length (decimal n) ≤ 12
decimal-short n short = length-decimal-le 12 n (omega arith) (omega (arith, short)) (omega (arith, short))

decimal-lacks : (n : ℕ) → IsShort n → lacks 32 (decimal n) ≡ true
decimal-lacks n short = digits-lack 32 (decimal n) (low_other 32 (omega arith)) (decimal-digits n (omega (arith, short)))

is-filled : (n : ℕ) → 0 < n → not (n == 0) ≡ true
is-filled n some = grind (arith, nat_tests)

decimal-filled : (n : ℕ) → IsShort n → is_filled (decimal n) ≡ true
decimal-filled n short = is-filled (length (decimal n)) (decimal-digits n (omega (arith, short))).some

-- the words of a card with one number, or with two
filter-two : (a b : List ℕ) → is_filled a ≡ true → is_filled b ≡ true → filter is_filled (a ∷ b ∷ []) ≡ a ∷ b ∷ []
filter-two a b first second = rw (first, second)

filter-three : (a b c : List ℕ) → is_filled a ≡ true → is_filled b ≡ true → is_filled c ≡ true →
    filter is_filled (a ∷ b ∷ c ∷ []) ≡ a ∷ b ∷ c ∷ []
filter-three a b c first second third = rw (first, second, third)

pub one-number : (word : List ℕ) (n : ℕ) → lacks 32 word ≡ true → is_filled word ≡ true → length word ≤ 20 → IsShort n →
    words (columns (word ++ 32 ∷ decimal n)) ≡ word ∷ decimal n ∷ []
one-number word n lack filled few short =
    let text = word ++ 32 ∷ decimal n in
    let size = length-append word (32 ∷ decimal n) in
    let digits = decimal-short n short in
    let whole : columns text ≡ text = take_all 72 text (omega (arith, size, digits, few)) in
    let cut : pieces_of 32 text ≡ word ∷ decimal n ∷ [] =
    parted-once 32 word (decimal n) lack ∙ ap (λ (ps : List (List ℕ)). word ∷ ps) (lacks-parted 32 (decimal n) (decimal-lacks n short)) in
    ap (λ (t : List ℕ). words t) whole
    ∙ (ap (λ (ps : List (List ℕ)). filter is_filled ps) cut ∙ filter-two word (decimal n) filled (decimal-filled n short))

pub two-numbers : (word : List ℕ) (a b : ℕ) → lacks 32 word ≡ true → is_filled word ≡ true → length word ≤ 20 → IsShort a → IsShort b →
    words (columns (word ++ 32 ∷ (decimal a ++ 32 ∷ decimal b))) ≡ word ∷ decimal a ∷ decimal b ∷ []
two-numbers word a b lack filled few short_a short_b =
    let behind = decimal a ++ 32 ∷ decimal b in
    let text = word ++ 32 ∷ behind in
    let size = length-append word (32 ∷ behind) in
    let size_behind = length-append (decimal a) (32 ∷ decimal b) in
    let first = decimal-short a short_a in
    let second = decimal-short b short_b in
    let whole : columns text ≡ text = take_all 72 text (omega (arith, size, size_behind, first, second, few)) in
    let cut_behind : pieces_of 32 behind ≡ decimal a ∷ decimal b ∷ [] =
    parted-once 32 (decimal a) (decimal b) (decimal-lacks a short_a)
    ∙ ap (λ (ps : List (List ℕ)). decimal a ∷ ps) (lacks-parted 32 (decimal b) (decimal-lacks b short_b)) in
    let cut : pieces_of 32 text ≡ word ∷ decimal a ∷ decimal b ∷ [] =
    parted-once 32 word behind lack ∙ ap (λ (ps : List (List ℕ)). word ∷ ps) cut_behind in
    ap (λ (t : List ℕ). words t) whole
    ∙ (ap (λ (ps : List (List ℕ)). filter is_filled ps) cut
    ∙ filter-three word (decimal a) (decimal b) filled (decimal-filled a short_a) (decimal-filled b short_b))

-- the numbers on control cards are read
number-read : (n : ℕ) → IsShort n → card_number (decimal n) ≡ Some n
number-read n short =
    let few = decimal-short n short in
    let fits : nat_lt 12 (length (decimal n)) ≡ false = grind (arith, nat_tests, few) in
    let value = reading-decimal 999999999999 n short (omega (arith, short)) in
    ap (λ b. if b then None else number_if_good (reading 999999999999 (decimal n))) fits ∙ ap (λ r. number_if_good r) value

numbers-one : (n : ℕ) → IsShort n → card_numbers (decimal n ∷ []) ≡ Some (n ∷ [])
numbers-one n short = ap (λ o. numbers_before o (Some [])) (number-read n short)

numbers-two : (a b : ℕ) → IsShort a → IsShort b → card_numbers (decimal a ∷ decimal b ∷ []) ≡ Some (a ∷ b ∷ [])
numbers-two a b short_a short_b =
    ap (λ o. numbers_before o (card_numbers (decimal b ∷ []))) (number-read a short_a)
    ∙ ap (λ (o : Option (List ℕ)). numbers_before (Some a) o) (numbers-one b short_b)

-- the words of a card without numbers
no-number : (word : List ℕ) → lacks 32 word ≡ true → is_filled word ≡ true → length word ≤ 20 → words (columns word) ≡ word ∷ []
no-number word lack filled few =
    let whole : columns word ≡ word = take_all 72 word (omega (arith, few)) in
    ap (λ (t : List ℕ). words t) whole
    ∙ (ap (λ (ps : List (List ℕ)). filter is_filled ps) (lacks-parted 32 word lack) ∙ rw filled refl)

-- the text of a control card
abbrev control_card : Control → List ℕ
control_card control = control_line Card control

short-word : (keyword : Keyword) → length (keyword_text Card keyword) ≤ 20
short-word keyword = let few = leb-true (length (keyword_text Card keyword)) 8 (is-word Card keyword).2 in omega (arith, few)

module _ (kept : Asked) where
  -- the request of a card with these words
  found-card : (keyword : Keyword) (numbers : List ℕ) (text : List ℕ) (texts : List (List ℕ)) → words (columns text) ≡ keyword_text Card keyword ∷ texts →
      card_numbers texts ≡ Some numbers → asked_with_card kept text ≡ with_keyword keyword kept numbers
  found-card keyword numbers text texts parts read =
      ap (λ (ws : List (List ℕ)). with_words kept ws) parts
      ∙ ap (λ o. with_card kept o (card_numbers texts)) (keyword-found Card keyword)
      ∙ ap (λ (ns : Option (List ℕ)). with_card kept (Some keyword) ns) read

  -- the request that a card with one number adds
  number-card : (keyword : Keyword) (n : ℕ) → IsShort n →
      asked_with_card kept (keyword_text Card keyword ++ 32 ∷ [] ++ decimal n) ≡ with_keyword keyword kept (n ∷ [])
  number-card keyword n short =
      let is = is-word Card keyword in
      let text : List ℕ = keyword_text Card keyword ++ 32 ∷ decimal n in
      ap (λ (t : List ℕ). asked_with_card kept t) (append_assoc (keyword_text Card keyword) (32 ∷ []) (decimal n))
      ∙ found-card keyword (n ∷ []) text (decimal n ∷ []) (one-number (keyword_text Card keyword) n is.0 is.1 (short-word keyword) short) (numbers-one n short)

  -- the request that each card adds
  card-read : (c : Control) → IsShortControl c → asked_with_card kept (control_card c) ≡ with_control kept c
  unfolding control_line
  card-read (asks.Mark mark) short =
      let keyword = keywords.Mark mark in
      let is = is-word Card keyword in
      found-card keyword [] (keyword_text Card keyword) [] (no-number (keyword_text Card keyword) is.0 is.1 (short-word keyword)) refl
  card-read (asks.Once once n) short = number-card (keywords.Once once) n short
  card-read (asks.Number number n) short = number-card (keywords.Number number) n short
  card-read (asks.Pair pair a b) short =
      let keyword = keywords.Pair pair in
      let is = is-word Card keyword in
      let text : List ℕ = keyword_text Card keyword ++ 32 ∷ (decimal a ++ 32 ∷ decimal b) in
      let same : keyword_text Card keyword ++ 32 ∷ [] ++ decimal a ++ 32 ∷ [] ++ decimal b ≡ text = simp append_assoc refl in
      ap (λ (t : List ℕ). asked_with_card kept t) same
      ∙ found-card keyword (a ∷ b ∷ []) text (decimal a ∷ decimal b ∷ []) (two-numbers (keyword_text Card keyword) a b is.0 is.1 (short-word keyword) short.0 short.1)
      (numbers-two a b short.0 short.1)

leads_on : (a b c : Asked) (xs ys : List (List ℕ)) → CardsLead a xs b → CardsLead b ys c → CardsLead a (xs ++ ys) c
leads_on a b c [] ys first second = subst (λ (x : Asked). CardsLead x ys c) (sym first) second
leads_on a b c (x ∷ xs) ys first second = (first.0, first.1, leads_on first.0 b c xs ys first.2 second)

-- the cards of requests that can be added one by one
cards-lead : (keyword : Keyword) (a b : Asked) (cs : List Control) → Steps keyword a cs b → CardsLead a (map control_card cs) b
cards-lead keyword a b [] steps = steps
cards-lead keyword a b (c ∷ cs) steps = (steps.0, card-read a c steps.3 ∙ steps.1, cards-lead keyword steps.0 b cs steps.4)

-- the control cards of requests make these requests
pub controls-read : (a : Asked) → IsWithinLimits a → 1 ≤ a.budget → a.list ≡ false → CardsLead nothing_asked (control_cards a) a
controls-read a limits some unlisted =
    let all = all-steps a (λ b cs c. CardsLead b (map control_card cs) c) (λ b. refl)
    (λ b c d xs ys first second.
    subst (λ (cards : List (List ℕ)). CardsLead b cards d) (sym (map-append control_card xs ys)) (leads_on b c d (map control_card xs) (map control_card ys) first second))
    (λ keyword. cards-lead keyword _ _ _ (steps-of a limits keyword)) in
    let same : record a { list = false } ≡ a = ap (λ (b : Bool). record a { list = b }) (sym unlisted) in
    subst (λ (x : Asked). CardsLead nothing_asked (control_cards a) x) same all
