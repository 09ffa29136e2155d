-- A deck is split into its cards; each has its text and no fault by itself.
use Rattle.st_dis.proofs.Common.{◌≡◌, ◌≤◌, ◌+◌, ◌-◌, ◌==◌, ◌++◌, ℕ, zero, suc, Bool, true, false, not, nat_lt, min, List, [], ◌∷◌, length, map, take, drop, None, if◌then◌else◌, refl, sym, ◌∙◌, ap, subst, append_assoc, length-append, arith, drop-append_seam, take_at, take_all, length-map, All-nil, All-cons, All-head, All-tail, and_parts, nat_tests, All, list_all, slice_index, lf, is_printable, first_fault, fault_of, kind_of, card_at, cards_from, cards_of, text_in, is_column_1, first_column, Fault, NotAscii, CardTooLong, BadName, TooManyCards, Program, IsProgram, AreWords, deck_cards, deck_text, card_count, text_of_lines}
use Rattle.std.specs.Str.Lines.{strip_carriage_return}
use Rattle.st_card.specs.declared.cards.Card.{Card}
use Rattle.st_dis.proofs.Printable.{IsPlain, is_plain, IsWritten, pieces, deck_written}
use Rattle.st_dis.proofs.Lengths.{IsCard, deck_cards-short}

-- no byte of a printable text is a carriage return
plain_at : (text : List ℕ) (k : ℕ) → IsPlain text → (slice_index text k == 13) ≡ false
plain_at [] k p = refl
plain_at (c ∷ cs) zero p =
    let parts = and_parts (is_plain c) (list_all is_plain cs) p in
    let other : (c == 13) ≡ false = grind (arith, nat_tests, parts.0) in other
plain_at (c ∷ cs) (suc k) p = plain_at cs k (and_parts (is_plain c) (list_all is_plain cs) p).1

kept : (text : List ℕ) → IsPlain text → strip_carriage_return text ≡ text
kept text p = ap (λ b. if b then take (length text - 1) text else text) (plain_at text (length text - 1) p)

-- no fault results from four tests that are false
no_fault : (a b c d : Bool) (w x y z : Fault) → a ≡ false → b ≡ false → c ≡ false → d ≡ false → first_fault ((a, w) ∷ (b, x) ∷ (c, y) ∷ (d, z) ∷ []) ≡ None
no_fault true b c d w x y z p q r s = absurd (cc)
no_fault false true c d w x y z p q r s = absurd (cc)
no_fault false false true d w x y z p q r s = absurd (cc)
no_fault false false false true w x y z p q r s = absurd (cc)
no_fault false false false false w x y z p q r s = refl

good_card : (n : ℕ) (line : List ℕ) → n ≤ 20000 → IsWritten line → IsCard line → fault_of n line ≡ None
good_card n line few w short =
    let room : nat_lt 20000 n ≡ false = grind (arith, nat_tests, few) in
    let fits : nat_lt 80 (length line) ≡ false = grind (arith, nat_tests, short) in
    no_fault (nat_lt 20000 n) (not (is_printable line)) (nat_lt 80 (length line)) (not (is_column_1 (first_column line)))
    TooManyCards NotAscii CardTooLong BadName room (ap not w.plain) fits (ap not w.column)

-- the text of a card within a job
text_there : (front line rest : List ℕ) → length line ≤ 80 → take (min (length line) 80) (drop (length front) (front ++ (line ++ rest))) ≡ line
text_there front line rest short =
    let size : length line ≡ min (length line) 80 = omega (arith, short) in
    ap (take (min (length line) 80)) (drop-append_seam front (line ++ rest)) ∙ take_at line rest (min (length line) 80) size

-- a card is the n-th of a job, has no fault, and has a line as its text
pub record IsCardAs (job : List ℕ) (n : ℕ) (line : List ℕ) (card : Card) : Type 0 where
  pub number : card.number ≡ n
  pub kind : card.kind ≡ kind_of line
  pub fault : card.fault ≡ None
  pub text : text_in job card ≡ line

-- the cards from the n-th on, one for each line
abbrev pub AreCardsAs : List ℕ → ℕ → List (List ℕ) → List Card → Type 0
AreCardsAs job n [] cards = cards ≡ []
AreCardsAs job n (line ∷ lines) [] = ⊥
AreCardsAs job n (line ∷ lines) (card ∷ cards) = IsCardAs job n line card × AreCardsAs job (n + 1) lines cards

-- the cards of a job with these lines
pub record IsCutAs (job : List ℕ) (n : ℕ) (cards : List Card) (lines : List (List ℕ)) : Type 0 where
  pub texts : map (text_in job) cards ≡ lines
  pub good : All (λ card. card.fault ≡ None) cards
  pub each : AreCardsAs job n lines cards

first_cut : (n place : ℕ) (line : List ℕ) (lines : List (List ℕ)) → cards_from n place (line ∷ (lines ++ [] ∷ [])) ≡ card_at n place (strip_carriage_return line) ∷ cards_from (n + 1) (place + length line + 1) (lines ++ [] ∷ [])
first_cut n place line [] = refl
first_cut n place line (next ∷ more) = refl

cut : (job front : List ℕ) (n : ℕ) (lines : List (List ℕ)) → job ≡ front ++ text_of_lines lines → All IsWritten lines → All IsCard lines → n + length lines ≤ 20001 → IsCutAs job n (cards_from n (length front) (lines ++ [] ∷ [])) lines
cut job front n [] e w s few = record { texts = refl; good = All-nil (λ (card : Card). card.fault ≡ None); each = refl }
cut job front n (line ∷ lines) e w s few =
    let here = All-head IsWritten line lines w in
    let short = All-head IsCard line lines s in
    let card = card_at n (length front) line in
    let rest = front ++ (line ++ lf) in
    let whole : job ≡ rest ++ text_of_lines lines = e ∙ sym (append_assoc front (line ++ lf) (text_of_lines lines)) in
    let more = cut job rest (n + 1) lines whole (All-tail IsWritten line lines w) (All-tail IsCard line lines s) (omega arith) in
    let long = length-append front (line ++ lf) in
    let one = length-append line lf in
    let place : length rest ≡ length front + length line + 1 = omega (arith, long, one) in
    let job_here : job ≡ front ++ (line ++ (lf ++ text_of_lines lines)) = e ∙ ap (λ (t : List ℕ). front ++ t) (append_assoc line lf (text_of_lines lines)) in
    let text : text_in job card ≡ line = ap (λ (t : List ℕ). take (min (length line) 80) (drop (length front) t)) job_here
    ∙ text_there front line (lf ++ text_of_lines lines) (omega (arith, short)) in
    let tail = cards_from (n + 1) (length rest) (lines ++ [] ∷ []) in
    let cards : card ∷ tail ≡ cards_from n (length front) (line ∷ (lines ++ [] ∷ [])) =
    ap (λ k. card ∷ cards_from (n + 1) k (lines ++ [] ∷ [])) place
    ∙ (ap (λ (t : List ℕ). card_at n (length front) t ∷ cards_from (n + 1) (length front + length line + 1) (lines ++ [] ∷ [])) (sym (kept line here.plain))
    ∙ sym (first_cut n (length front) line lines)) in
    let faultless : card.fault ≡ None = good_card n line (omega arith) here short in
    subst (λ (cs : List Card). IsCutAs job n cs (line ∷ lines)) cards
    (record {
      texts = ap (λ (t : List ℕ). t ∷ map (text_in job) tail) text ∙ ap (λ (ts : List (List ℕ)). line ∷ ts) more.texts;
      good = All-cons (λ (c : Card). c.fault ≡ None) card tail faultless more.good;
      each = (record { number = refl; kind = refl; fault = faultless; text = text }, more.each);
    })

-- the cards of a whole text of lines
pub lines_cut : (lines : List (List ℕ)) → All IsWritten lines → All IsCard lines → length lines ≤ 20000 → IsCutAs (text_of_lines lines) 1 (cards_of (text_of_lines lines)) lines
lines_cut lines written short few =
    let job = text_of_lines lines in
    let all = cut job [] 1 lines refl written short (omega (arith, few)) in
    let cards = cards_from 1 0 (lines ++ [] ∷ []) in
    let size : length cards ≤ 20001 =
    let same : length cards ≡ length lines = sym (length-map cards (text_in job)) ∙ ap length all.texts in omega (arith, same, few) in
    let found : cards ≡ cards_of job =
    sym (take_all 20001 cards size) ∙ ap (λ (ls : List (List ℕ)). take 20001 (cards_from 1 0 ls)) (sym (pieces lines written)) in
    subst (λ (cs : List Card). IsCutAs job 1 cs lines) found all

-- the cards of a whole deck
deck_cut : (p : Program) → IsProgram p → AreWords p.words → card_count p ≤ 20000 → IsCutAs (deck_text p) 1 (cards_of (deck_text p)) (deck_cards p)
unfolding deck_text card_count
deck_cut p is words few = lines_cut (deck_cards p) (deck_written p) (deck_cards-short p is words) few

pub deck_texts : (p : Program) → IsProgram p → AreWords p.words → card_count p ≤ 20000 → map (text_in (deck_text p)) (cards_of (deck_text p)) ≡ deck_cards p
deck_texts p is words few = (deck_cut p is words few).texts

pub deck_good : (p : Program) → IsProgram p → AreWords p.words → card_count p ≤ 20000 → All (λ card. card.fault ≡ None) (cards_of (deck_text p))
deck_good p is words few = (deck_cut p is words few).good
