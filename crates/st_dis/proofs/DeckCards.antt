-- The cards of a deck are its statements and its control cards, and the form pass reads all of
-- them.
use Rattle.st_dis.proofs.Common.{◌≡◌, ◌<◌, ◌≤◌, ◌+◌, ◌*◌, ◌/◌, ◌%◌, ◌^◌, ◌==◌, ℕ, Bool, true, false, List, [], ◌∷◌, ◌++◌, length, map, Some, None, Result, Ok, Err, is_none, if◌then◌else◌, refl, sym, ap, subst, ◌∙◌, arith, All, map-append, All-nil, All-cons, All-head, All-tail, All-append, cards_of, Asked, control_line, requests, text_of_lines, Control, Card, Fault, words_of_storage_is, number_expr, statement_of, Statement, Half, Sum, Refill, Branch, Floating, Vfl, Connect, Move, BitBranch, IndBranch, StoreCounter, Transfer, Data, IndexWord, Synonym, SetLocation, Reserve, End, word_form, data-read, accepts_all, is_defined, values_of, placing_of, length_in, naming_at_start, value_fault, bits_of, form_pass, emitted_alone, emitted_if_read, emitted_by, EmittedBits, Program, IsProgram, AreWords, number_text, statements_of, statement_card, location_statement, location_cards, cards_of_word, word_cards, end_text, control_cards, deck_cards, deck_text, card_count}
use Rattle.st_dis.proofs.Spelled.{statements-cases, whole_bits, half_bits}
use Rattle.st_dis.proofs.WordRead.{says-emits}
use Rattle.st_dis.proofs.Printable.{IsWritten, deck_written}
use Rattle.st_dis.proofs.Lengths.{IsCard, deck_cards-short}
use Rattle.st_dis.proofs.ControlsRead.{controls-read}
use Rattle.st_dis.proofs.FormPass.{IsOpen, IsControl, IsJob, job_cards, found_in_job, job-formed, read-append}
use Rattle.st_dis.proofs.PlacesRead.{location-read, start-read}
use Rattle.st_dis.proofs.Said.{word_statements, statements_from, deck_statements, AreRead}
use Rattle.st_card.specs.declared.keywords.Control.TheVariants as asks

-- ---- the cards

-- the cards of a word are the cards of its statements
placed-texts : (w before word : ℕ) → cards_of_word w before word ≡ map statement_card (word_statements w before word)
unfolding cards_of_word
placed-texts w before word =
    let texts = statements_of word in
    let card = statement_card (location_statement w) in
    let location : (b : Bool) → (if b then card ∷ [] else []) ++ map statement_card texts
    ≡ map statement_card ((if b then location_statement w ∷ [] else []) ++ texts) = λ b.
    elim b as (λ b. (if b then card ∷ [] else []) ++ map statement_card texts
    ≡ map statement_card ((if b then location_statement w ∷ [] else []) ++ texts)) [
      | true ↦ refl
      | false ↦ refl
    ] in
    elim (word == 0) as (λ b. (if b then [] else location_cards w before ++ map statement_card texts)
    ≡ map statement_card (if b then [] else (if before == 0 then location_statement w ∷ [] else []) ++ texts)) [
      | true ↦ refl
      | false ↦ location (before == 0)
    ]

word_cards-texts : (w before : ℕ) (xs : List ℕ) → word_cards w before xs ≡ map statement_card (statements_from w before xs)
word_cards-texts w before [] = refl
word_cards-texts w before (x ∷ xs) =
    let rest = word_cards (w + 1) x xs in
    let texts = word_statements w before x in
    let more = statements_from (w + 1) x xs in
    ap (λ (cards : List (List ℕ)). cards ++ rest) (placed-texts w before x)
    ∙ (ap (λ (cards : List (List ℕ)). map statement_card texts ++ cards) (word_cards-texts (w + 1) x xs)
    ∙ sym (map-append statement_card texts more))

-- the cards of a deck are those of its statements, then its control cards
pub deck-cards : (p : Program) → deck_cards p ≡ map statement_card (deck_statements p) ++ control_cards p.controls
deck-cards p =
    let texts = statements_from 0 0 p.words in
    let end = end_text p.start ∷ [] in
    let card : List (List ℕ) = statement_card (end_text p.start) ∷ [] in
    let words : word_cards 0 0 p.words ++ card ≡ map statement_card (texts ++ end) =
    ap (λ (cards : List (List ℕ)). cards ++ card) (word_cards-texts 0 0 p.words) ∙ sym (map-append statement_card texts end) in
    ap (λ (cards : List (List ℕ)). cards ++ control_cards p.controls) words

-- ---- the statements

-- texts that are read as statements other than END
pub record AreOpen (texts : List (List ℕ)) : Type 0 where
  pub statements : List Statement
  pub read : AreRead texts statements
  pub open_ones : All IsOpen statements

no_texts : AreOpen []
no_texts = record { statements = []; read = refl; open_ones = All-nil IsOpen }

one_text : (t : List ℕ) (s : Statement) → statement_of [] t ≡ Ok s → IsOpen s → AreOpen (t ∷ [])
one_text t s read not_end = record { statements = s ∷ []; read = (read, refl); open_ones = All-cons IsOpen s [] not_end (All-nil IsOpen) }

both_texts : (ts us : List (List ℕ)) → AreOpen ts → AreOpen us → AreOpen (ts ++ us)
both_texts ts us first second = record {
  statements = first.statements ++ second.statements;
  read = read-append ts us first.statements second.statements first.read second.read;
  open_ones = All-append IsOpen first.statements second.statements first.open_ones second.open_ones;
}

-- a statement that assembles to bits is not END
emits_by : (known faultless : Bool) (length bits : ℕ) (wanted : EmittedBits) →
    (if known then (if faultless then Some (record { length = length; bits = bits }) else None) else None) ≡ Some wanted →
    length ≡ wanted.length
emits_by true true length bits wanted emits = cc
emits_by true false length bits wanted emits = let no : ⊥ = cc in absurd no
emits_by false faultless length bits wanted emits = let no : ⊥ = cc in absurd no

emits-length : (s : Statement) (wanted : EmittedBits) → emitted_by [] s ≡ Some wanted → length_in (placing_of s) ≡ wanted.length
unfolding emitted_by
emits-length s wanted emits =
    emits_by (accepts_all (is_defined []) s) (is_none (value_fault s (values_of [] s) naming_at_start.location))
    (length_in (placing_of s)) (bits_of s (values_of [] s)) wanted emits

open-length : (s : Statement) → 0 < length_in (placing_of s) → IsOpen s
open-length (Half op j at) emits = refl
open-length (Sum j listed) emits = refl
open-length (Refill j) emits = refl
open-length (Branch op at) emits = refl
open-length (Floating number at) emits = refl
open-length (Vfl op negated form at offset) emits = refl
open-length (Connect kind truth form at offset) emits = refl
open-length (Move swap at second count) emits = refl
open-length (BitBranch sense change at second) emits = refl
open-length (IndBranch sense off at second) emits = refl
open-length (StoreCounter at second) emits = refl
open-length (Transfer write at count) emits = refl
open-length (Data form minus number) emits = refl
open-length (IndexWord value count refill flags) emits = refl
open-length (Synonym at) emits = refl
open-length (SetLocation at) emits = refl
open-length (Reserve at) emits = refl
open-length (End at) emits = let no : ⊥ = omega arith in absurd no

-- a text that assembles to bits is read as a statement other than END
read_by : (t : List ℕ) (answer : Result Statement Fault) (wanted : EmittedBits) → 0 < wanted.length → statement_of [] t ≡ answer →
    emitted_if_read [] answer ≡ Some wanted → AreOpen (t ∷ [])
read_by t (Ok s) wanted some is emits =
    let same = emits-length s wanted emits in one_text t s is (open-length s (omega (arith, some, same)))
read_by t (Err fault) wanted some is emits = let no : ⊥ = cc in absurd no

emitted-read : (t : List ℕ) (wanted : EmittedBits) → 0 < wanted.length → emitted_alone [] t ≡ Some wanted → AreOpen (t ∷ [])
unfolding emitted_alone
emitted-read t wanted some emits = read_by t (statement_of [] t) wanted some refl emits

statements-read : (word : ℕ) → word < 2 ^ 64 → AreOpen (statements_of word)
statements-read word small =
    statements-cases AreOpen word
    (λ t said. emitted-read t (whole_bits word) (omega arith) (says-emits t (whole_bits word) said))
    (λ l r said_l said_r. both_texts (l ∷ []) (r ∷ [])
    (emitted-read l (half_bits (word / 2 ^ 32)) (omega arith) (says-emits l (half_bits (word / 2 ^ 32)) said_l))
    (emitted-read r (half_bits (word % 2 ^ 32)) (omega arith) (says-emits r (half_bits (word % 2 ^ 32)) said_r)))
    (one_text (number_text word) (Data word_form false word) (data-read word small) refl)

word-read : (w before word : ℕ) → w < 98304 → word < 2 ^ 64 → AreOpen (word_statements w before word)
word-read w before word within small =
    let texts = statements_of word in
    let place : AreOpen (location_statement w ∷ []) =
    one_text (location_statement w) (SetLocation (number_expr (64 * w))) (location-read w within) refl in
    let here : (b : Bool) → AreOpen ((if b then location_statement w ∷ [] else []) ++ texts) = λ b.
    elim b as (λ b. AreOpen ((if b then location_statement w ∷ [] else []) ++ texts)) [
      | true ↦ both_texts (location_statement w ∷ []) texts place (statements-read word small)
      | false ↦ statements-read word small
    ] in
    elim (word == 0) as (λ b. AreOpen (if b then [] else (if before == 0 then location_statement w ∷ [] else []) ++ texts)) [
      | true ↦ no_texts
      | false ↦ here (before == 0)
    ]

words-read : (w before : ℕ) (xs : List ℕ) → w + length xs ≤ 98304 → AreWords xs → AreOpen (statements_from w before xs)
words-read w before [] few words = no_texts
words-read w before (x ∷ xs) few words =
    both_texts (word_statements w before x) (statements_from (w + 1) x xs)
    (word-read w before x (omega (arith, few)) (All-head (λ y. y < 2 ^ 64) x xs words))
    (words-read (w + 1) x xs (omega (arith, few)) (All-tail (λ y. y < 2 ^ 64) x xs words))

-- all statements of a deck before END are read as statements other than END
pub deck-open : (p : Program) → IsProgram p → AreWords p.words → AreOpen (statements_from 0 0 p.words)
deck-open p is words =
    let whole = is.image.size in words-read 0 0 p.words (omega (arith, whole, words_of_storage_is)) words

-- the END statement of a deck
abbrev pub end_of : Program → Statement
end_of p = End (number_expr (32 * p.start))

-- ---- the control cards

card-kind : (c : Control) → IsControl (control_line Card c)
unfolding control_line
card-kind (asks.Mark mark) = refl
card-kind (asks.Once once n) = refl
card-kind (asks.Number number n) = refl
card-kind (asks.Pair pair a b) = refl

pub control_cards-kind : (a : Asked) → All IsControl (control_cards a)
control_cards-kind a = mapped (requests a)
  where
    mapped : (cs : List Control) → All IsControl (map (control_line Card) cs)
    mapped [] = All-nil IsControl
    mapped (c ∷ cs) = All-cons IsControl (control_line Card c) (map (control_line Card) cs) (card-kind c) (mapped cs)

-- ---- the form pass

-- the deck as a job: its statements, END, and the result of reading them
deck-job : (p : Program) → IsProgram p → (before : List Statement) → AreRead (statements_from 0 0 p.words) before → All IsOpen before →
    IsJob (statements_from 0 0 p.words) (end_text p.start) (control_cards p.controls) before (end_of p) p.controls
deck-job p is before read going = record {
  read = read;
  going = going;
  final_read = start-read p.start is.start;
  ends = refl;
  marks = control_cards-kind p.controls;
  leads = controls-read p.controls is.limits is.budget is.unlisted;
}

-- all statements of a deck are read, and the form pass returns them and the requests of the program
pub record IsFormed (p : Program) : Type 0 where
  pub statements : List Statement
  pub read : AreRead (deck_statements p) statements
  pub formed : form_pass (deck_text p) (cards_of (deck_text p)) ≡ Ok (found_in_job statements (length (control_cards p.controls)) p.controls)

pub form-passes : (p : Program) → IsProgram p → AreWords p.words → card_count p ≤ 20000 → IsFormed p
unfolding deck_text card_count
form-passes p is words few =
    let texts = statements_from 0 0 p.words in
    let found = deck-open p is words in
    let before = found.statements in
    let all = before ++ end_of p ∷ [] in
    let controls = control_cards p.controls in
    let cards = job_cards texts (end_text p.start) controls in
    let same : deck_cards p ≡ cards = deck-cards p in
    let written = subst (λ (cs : List (List ℕ)). All IsWritten cs) same (deck_written p) in
    let short = subst (λ (cs : List (List ℕ)). All IsCard cs) same (deck_cards-short p is words) in
    let fits = subst (λ (cs : List (List ℕ)). length cs ≤ 20000) same few in
    let passes = job-formed texts (end_text p.start) controls before (end_of p) p.controls
    (deck-job p is before found.read found.open_ones) written short fits in record {
      statements = all;
      read = read-append texts (end_text p.start ∷ []) before (end_of p ∷ []) found.read (start-read p.start is.start, refl);
      formed = subst (λ (cs : List (List ℕ)). form_pass (text_of_lines cs) (cards_of (text_of_lines cs))
          ≡ Ok (found_in_job all (length controls) p.controls)) (sym same) passes;
    }
