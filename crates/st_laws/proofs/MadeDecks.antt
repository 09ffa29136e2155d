-- A generated deck is a text of cards that is assembled.
use Rattle.st_laws.proofs.Common.{◌≡◌, ◌≤◌, ◌+◌, ◌==◌, ℕ, zero, suc, true, false, nat_le, List, [], ◌∷◌, ◌++◌, length, map, codes, decimal, Ok, refl, sym, ap, ◌∙◌, append_assoc, append-nil, length-append, replicate, arith, nat_tests, All-nil, All-cons, All-append, All, AllPass, words_of_storage, IsWithinLimits, is_tick, statement_of, Statement, End, form_pass, spoken_lines, silent_lines, job_cards, found_in_job, job-formed, stand, end-steps, next_number, number_after, below, draw, index, word_text, bit_text, small_value, field_length, byte_field_length, field_operands, statement, form_after, card, control, after_cards, drawn_cards, delay_cards, closing_cards, made_deck, drawn-cases}
use Rattle.std.proofs.lemmas.Bool.{and_from as both_true, le-leb as within}
use Rattle.std.proofs.lemmas.List.{map-append, length-map}
use Rattle.std.proofs.lemmas.Simd.{map-map}
use Rattle.std.specs.Fmt.{digits}
use Rattle.st_card.specs.Controls.{Asked, nothing_asked, is_in_range}
use Rattle.st_card.specs.Written.{control_line, text_of_lines}
use Rattle.st_card.specs.declared.keywords.Mark.TheVariants.{Time}
use Rattle.st_card.specs.declared.keywords.Number.TheVariants.{Delays}
use Rattle.st_card.specs.declared.keywords.Control.{Control}
use Rattle.st_card.specs.declared.keywords.ControlForm.TheVariants.{Card}
use Rattle.st_card.proofs.LimitLemmas.{nothing-within, keyword-kept, others-within}
use Rattle.st_card.specs.Cards.{cards_of}
use Rattle.st_text.specs.Bytes.{lf}
use Rattle.st_strap.specs.Reading.{number_expr}
use Rattle.st_asm.specs.Assembly.{Assembly, with_defaults, together, assembly}
use Rattle.st_dis.specs.Deck.{statement_card, end_text, control_cards}
use Rattle.st_dis.proofs.Printable.{IsPlain, IsWritten, join, number, cards_plain, controls_plain}
use Rattle.st_dis.proofs.Lengths.{IsShort, IsCard, all_statement_cards, control_cards-short}
use Rattle.st_dis.proofs.DeckCards.{control_cards-kind}
use Rattle.st_dis.proofs.ControlsRead.{controls-read}
use Rattle.st_dis.proofs.PlacesRead.{start-read}
use Rattle.st_dis.proofs.PassesLead.{GivesProgram, leads-give}
use Rattle.st_dis.proofs.ThreePasses.{assembled, defaults-kept}
use Rattle.st_gen.proofs.Sizes.{statement-short}
use Rattle.st_laws.proofs.MadeStatements.{IsGood, made-good, wait-good, LeadOn, good-leads, leads-behind}
use Rattle.st_card.specs.declared.keywords.Keyword.TheVariants as keywords
use Rattle.st_card.specs.declared.keywords.Control.TheVariants as asks

-- ---- the statements

-- the texts of n drawn statements
drawn_texts : ℕ → ℕ → List (List ℕ)
drawn_texts zero x = []
drawn_texts (suc n) x = drawn_texts n x ++ statement (form_after (after_cards n x)) (next_number (after_cards n x)) ∷ []

drawn-all : (P : List ℕ → Type 0) → ((y x : ℕ) → P (statement (form_after y) x)) → (n x : ℕ) → All P (drawn_texts n x)
unfolding drawn_texts
drawn-all P each zero x = All-nil P
drawn-all P each (suc n) x =
    let y : ℕ = after_cards n x in
    let one = statement (form_after y) (next_number y) in
    All-append P (drawn_texts n x) (one ∷ []) (drawn-all P each n x) (All-cons P one [] (each y (next_number y)) (All-nil P))

drawn-length : (n x : ℕ) → length (drawn_texts n x) ≡ n
unfolding drawn_texts
drawn-length zero x = refl
drawn-length (suc n) x =
    let y : ℕ = after_cards n x in
    let size = length-append (drawn_texts n x) (statement (form_after y) (next_number y) ∷ []) in
    let rest = drawn-length n x in
    omega (arith, size, rest)

-- a number between two printable texts is printable
held : (ahead behind : List ℕ) (n : ℕ) → IsPlain ahead → IsPlain behind → IsPlain (ahead ++ decimal n ++ behind)
held ahead behind n p q = join (ahead ++ decimal n) behind (join ahead (decimal n) p (number n)) q

operands-plain : (x : ℕ) → IsPlain (field_operands x)
operands-plain x =
    let bits = codes "(BU," ++ field_length 1 x ++ codes ")," in
    let place = bits ++ word_text 2 x ++ codes "." in
    let bits_is = held (codes "(BU,") (codes "),") (1 + draw 1 64 x) refl refl in
    let word_is = held bits (codes ".") (4096 + draw 2 256 x) bits_is refl in
    let bit_is = held place (codes ",") (draw 3 64 x) word_is refl in
    join (place ++ bit_text 3 x ++ codes ",") (bit_text 4 x) bit_is (number (draw 4 64 x))

load_value-plain : (x : ℕ) → IsPlain (codes "LVI,$X" ++ index 1 x ++ codes "," ++ word_text 2 x ++ codes ".0")
load_value-plain x =
    held (codes "LVI,$X" ++ index 1 x ++ codes ",") (codes ".0") (4096 + draw 2 256 x)
    (held (codes "LVI,$X") (codes ",") (1 + draw 1 7 x) refl refl) refl

add_value-plain : (x : ℕ) → IsPlain (codes "V+I,$X" ++ index 1 x ++ codes "," ++ small_value 2 x ++ codes ".0")
add_value-plain x =
    held (codes "V+I,$X" ++ index 1 x ++ codes ",") (codes ".0") (draw 2 4 x) (held (codes "V+I,$X") (codes ",") (1 + draw 1 7 x) refl refl) refl

add_one-plain : (x : ℕ) → IsPlain (codes "M+1(B," ++ byte_field_length 1 x ++ codes ",8)," ++ word_text 2 x ++ codes "." ++ bit_text 3 x)
add_one-plain x =
    let bits = codes "M+1(B," ++ byte_field_length 1 x ++ codes ",8)," in
    let bits_is = held (codes "M+1(B,") (codes ",8),") (8 + draw 1 57 x) refl refl in
    join (bits ++ word_text 2 x ++ codes ".") (bit_text 3 x) (held bits (codes ".") (4096 + draw 2 256 x) bits_is refl) (number (draw 3 64 x))

multiply-plain : (x : ℕ) → IsPlain (codes "*(BU," ++ field_length 1 x ++ codes ")(V+I),0.32($X" ++ index 2 x ++ codes ")")
multiply-plain x =
    let bits = codes "*(BU," ++ field_length 1 x ++ codes ")(V+I),0.32($X" in
    held bits (codes ")") (1 + draw 2 7 x) (held (codes "*(BU,") (codes ")(V+I),0.32($X") (1 + draw 1 64 x) refl refl) refl

statement-plain : (y x : ℕ) → IsPlain (statement (form_after y) x)
statement-plain y x = drawn-cases IsPlain (record {
  load_value = load_value-plain;
  add_value = add_value-plain;
  load_word = λ z. held (codes "L(BU,64),") (codes ".0") (4096 + draw 1 256 z) refl refl;
  add = λ z. join (codes "+") (field_operands z) refl (operands-plain z);
  store = λ z. join (codes "ST") (field_operands z) refl (operands-plain z);
  add_one = add_one-plain;
  connect = λ z. join (codes "C0110") (field_operands z) refl (operands-plain z);
  multiply = multiply-plain;
}) y x

statement-few : (y x : ℕ) → IsShort (statement (form_after y) x)
statement-few y x = let few = statement-short (form_after y) x in omega (arith, few)

-- the texts of all statements except END
abbrev made_texts : ℕ → ℕ → List (List ℕ)
made_texts cards x = drawn_texts cards x ++ codes "BEW" ∷ []

made-all : (P : List ℕ → Type 0) → ((y x : ℕ) → P (statement (form_after y) x)) → P (codes "BEW") → (cards x : ℕ) → All P (made_texts cards x)
made-all P each wait cards x = All-append P (drawn_texts cards x) (codes "BEW" ∷ []) (drawn-all P each cards x)
    (All-cons P (codes "BEW") [] wait (All-nil P))

-- ---- the requests of the control cards

-- n drawn delays
drawn_delays : ℕ → ℕ → List ℕ
drawn_delays zero x = []
drawn_delays (suc n) x = drawn_delays n x ++ (1 + below 20 (next_number (number_after n x))) ∷ []

one-delay : (y : ℕ) → is_in_range 1 255 (1 + below 20 y) ≡ true
one-delay y = both_true (nat_le 1 (1 + below 20 y)) (nat_le (1 + below 20 y) 255) (within 1 (1 + below 20 y) (omega arith))
    (within (1 + below 20 y) 255 (omega arith))

drawn_delays-among : (n x : ℕ) → AllPass (is_in_range 1 255) (drawn_delays n x)
unfolding drawn_delays
drawn_delays-among zero x = All-nil (λ d. is_in_range 1 255 d ≡ true)
drawn_delays-among (suc n) x =
    let d : ℕ = 1 + below 20 (next_number (number_after n x)) in
    All-append (λ e. is_in_range 1 255 e ≡ true) (drawn_delays n x) (d ∷ []) (drawn_delays-among n x)
    (All-cons (λ e. is_in_range 1 255 e ≡ true) d [] (one-delay (next_number (number_after n x))) (All-nil (λ e. is_in_range 1 255 e ≡ true)))

drawn_delays-length : (n x : ℕ) → length (drawn_delays n x) ≡ n
unfolding drawn_delays
drawn_delays-length zero x = refl
drawn_delays-length (suc n) x =
    let size = length-append (drawn_delays n x) ((1 + below 20 (next_number (number_after n x))) ∷ []) in
    let rest = drawn_delays-length n x in
    omega (arith, size, rest)

-- requests with a budget, delays and timing
abbrev asked_with : ℕ → List ℕ → Asked
asked_with budget delays = record nothing_asked { budget = budget; delays = delays; time = true }

asked-within : (budget : ℕ) (delays : List ℕ) → budget ≤ 10000000 → AllPass (is_in_range 1 255) delays → length delays ≤ 4096 →
    IsWithinLimits (asked_with budget delays)
asked-within budget delays small each few =
    let timed : Asked = record nothing_asked { time = true } in
    let limits : IsWithinLimits timed = keyword-kept (keywords.Mark Time) nothing_asked timed [] (All-nil (λ t. is_tick t ≡ true)) refl nothing-within in
    others-within timed budget delays limits small (record { each = each; few = few })

-- ---- the deck is a text of cards

cards-behind : (xs ys : List (List ℕ)) → text_of_lines (xs ++ ys) ≡ text_of_lines xs ++ text_of_lines ys
cards-behind [] ys = refl
cards-behind (x ∷ xs) ys = ap (λ (t : List ℕ). (x ++ lf) ++ t) (cards-behind xs ys) ∙ sym (append_assoc (x ++ lf) (text_of_lines xs) (text_of_lines ys))

one-card : (text : List ℕ) → text_of_lines (text ∷ []) ≡ text ++ lf
one-card text = append-nil (text ++ lf)

card-is : (text : List ℕ) → card text ≡ text_of_lines (statement_card text ∷ [])
unfolding card
card-is text = sym (one-card (statement_card text))

control-is : (text : List ℕ) → control text ≡ text_of_lines (text ∷ [])
unfolding control
control-is text = sym (one-card text)

drawn-is : (n x : ℕ) → drawn_cards n x ≡ text_of_lines (map statement_card (drawn_texts n x))
unfolding drawn_texts
drawn-is zero x = refl
drawn-is (suc n) x =
    let y : ℕ = after_cards n x in
    let one = statement (form_after y) (next_number y) in
    let before = map statement_card (drawn_texts n x) in
    ap (λ (t : List ℕ). t ++ card one) (drawn-is n x)
    ∙ (ap (λ (t : List ℕ). text_of_lines before ++ t) (card-is one)
    ∙ (sym (cards-behind before (statement_card one ∷ []))
    ∙ ap (λ (cs : List (List ℕ)). text_of_lines cs) (sym (map-append statement_card (drawn_texts n x) (one ∷ [])))))

delays-are : (n x : ℕ) → delay_cards n x ≡ text_of_lines (map (λ d. codes "/DELAYS " ++ decimal d) (drawn_delays n x))
unfolding delay_cards drawn_delays
delays-are zero x = refl
delays-are (suc n) x =
    let d : ℕ = 1 + below 20 (next_number (number_after n x)) in
    let text = codes "/DELAYS " ++ decimal d in
    let before = map (λ e. codes "/DELAYS " ++ decimal e) (drawn_delays n x) in
    ap (λ (t : List ℕ). t ++ control text) (delays-are n x)
    ∙ (ap (λ (t : List ℕ). text_of_lines before ++ t) (control-is text)
    ∙ (sym (cards-behind before (text ∷ []))
    ∙ ap (λ (cs : List (List ℕ)). text_of_lines cs) (sym (map-append (λ e. codes "/DELAYS " ++ decimal e) (drawn_delays n x) (d ∷ [])))))

controls-are : (budget : ℕ) (delays : List ℕ) → 1 ≤ budget →
    control_cards (asked_with budget delays) ≡ (codes "/BUDGET " ++ decimal budget)
    ∷ (map (λ d. codes "/DELAYS " ++ decimal d) delays ++ codes "/TIME" ∷ [])
unfolding control_line
controls-are budget delays some =
    let is : (budget == 0) ≡ false = grind (arith, nat_tests) in
    let line : Control → List ℕ = control_line Card in
    rw is (ap (λ (cs : List (List ℕ)). (codes "/BUDGET " ++ decimal budget) ∷ cs)
    (map-append line (map (λ n. asks.Number Delays n) delays) (asks.Mark Time ∷ [])
    ∙ ap (λ (cs : List (List ℕ)). cs ++ codes "/TIME" ∷ []) (map-map line (λ n. asks.Number Delays n) delays)))

-- the cards after the drawn ones, without the branch and END
five : (a b c d e : List ℕ) → a ++ b ++ c ++ d ++ e ≡ a ++ (b ++ (c ++ (d ++ e)))
five a b c d e = simp append_assoc refl

abbrev made_cards : ℕ → ℕ → List (List ℕ)
made_cards cards x =
    job_cards (made_texts cards x) (codes "END,32.0") (control_cards (asked_with (cards + 2) (drawn_delays 16 (after_cards cards x))))

closing-is : (cards x : ℕ) → closing_cards cards x
    ≡ text_of_lines (statement_card (codes "BEW") ∷ statement_card (codes "END,32.0") ∷ control_cards (asked_with (cards + 2) (drawn_delays 16 x)))
closing-is cards x =
    let budget = codes "/BUDGET " ++ decimal (cards + 2) in
    let delays = map (λ d. codes "/DELAYS " ++ decimal d) (drawn_delays 16 x) in
    let wait = statement_card (codes "BEW") in
    let end = statement_card (codes "END,32.0") in
    let time : List (List ℕ) = codes "/TIME" ∷ [] in
    let last : delay_cards 16 x ++ control (codes "/TIME") ≡ text_of_lines (delays ++ time) =
    ap (λ (t : List ℕ). t ++ control (codes "/TIME")) (delays-are 16 x)
    ∙ (ap (λ (t : List ℕ). text_of_lines delays ++ t) (control-is (codes "/TIME")) ∙ sym (cards-behind delays time)) in
    let third : control budget ++ text_of_lines (delays ++ time) ≡ text_of_lines (budget ∷ (delays ++ time)) =
    ap (λ (t : List ℕ). t ++ text_of_lines (delays ++ time)) (control-is budget) ∙ sym (cards-behind (budget ∷ []) (delays ++ time)) in
    let second : card (codes "END,32.0") ++ text_of_lines (budget ∷ (delays ++ time)) ≡ text_of_lines (end ∷ budget ∷ (delays ++ time)) =
    ap (λ (t : List ℕ). t ++ text_of_lines (budget ∷ (delays ++ time))) (card-is (codes "END,32.0"))
    ∙ sym (cards-behind (end ∷ []) (budget ∷ (delays ++ time))) in
    let first : card (codes "BEW") ++ text_of_lines (end ∷ budget ∷ (delays ++ time)) ≡ text_of_lines (wait ∷ end ∷ budget ∷ (delays ++ time)) =
    ap (λ (t : List ℕ). t ++ text_of_lines (end ∷ budget ∷ (delays ++ time))) (card-is (codes "BEW"))
    ∙ sym (cards-behind (wait ∷ []) (end ∷ budget ∷ (delays ++ time))) in
    five (card (codes "BEW")) (card (codes "END,32.0")) (control budget) (delay_cards 16 x) (control (codes "/TIME"))
    ∙ (ap (λ (t : List ℕ). card (codes "BEW") ++ (card (codes "END,32.0") ++ (control budget ++ t))) last
    ∙ (ap (λ (t : List ℕ). card (codes "BEW") ++ (card (codes "END,32.0") ++ t)) third
    ∙ (ap (λ (t : List ℕ). card (codes "BEW") ++ t) second
    ∙ (first
    ∙ ap (λ (cs : List (List ℕ)). text_of_lines (wait ∷ end ∷ cs)) (sym (controls-are (cards + 2) (drawn_delays 16 x) (omega arith)))))))

made-is : (seed cards : ℕ) → made_deck seed cards ≡ text_of_lines (made_cards cards seed)
made-is seed cards =
    let x : ℕ = after_cards cards seed in
    let drawn = map statement_card (drawn_texts cards seed) in
    let wait = statement_card (codes "BEW") in
    let end = statement_card (codes "END,32.0") in
    let rest = control_cards (asked_with (cards + 2) (drawn_delays 16 x)) in
    let one : map statement_card (drawn_texts cards seed ++ codes "BEW" ∷ []) ≡ drawn ++ wait ∷ [] =
    map-append statement_card (drawn_texts cards seed) (codes "BEW" ∷ []) in
    let two : map statement_card (made_texts cards seed ++ codes "END,32.0" ∷ []) ≡ (drawn ++ wait ∷ []) ++ end ∷ [] =
    map-append statement_card (made_texts cards seed) (codes "END,32.0" ∷ []) ∙ ap (λ (cs : List (List ℕ)). cs ++ end ∷ []) one in
    let flat : made_cards cards seed ≡ drawn ++ wait ∷ end ∷ rest =
    ap (λ (cs : List (List ℕ)). cs ++ rest) two
    ∙ (append_assoc (drawn ++ wait ∷ []) (end ∷ []) rest ∙ append_assoc drawn (wait ∷ []) (end ∷ rest)) in
    ap (λ (t : List ℕ). t ++ closing_cards cards x) (drawn-is cards seed)
    ∙ (ap (λ (t : List ℕ). text_of_lines drawn ++ t) (closing-is cards x)
    ∙ (sym (cards-behind drawn (wait ∷ end ∷ rest)) ∙ ap (λ (cs : List (List ℕ)). text_of_lines cs) (sym flat)))

-- ---- its cards

end-is : codes "END,32.0" ≡ end_text 64
unfolding digits
end-is = refl

end-read : statement_of [] (codes "END,32.0") ≡ Ok (End (number_expr 2048))
end-read = ap (λ (t : List ℕ). statement_of [] t) end-is ∙ start-read 64 (omega arith)

all-texts : (P : List ℕ → Type 0) → ((y x : ℕ) → P (statement (form_after y) x)) → P (codes "BEW") → P (codes "END,32.0") → (cards x : ℕ) →
    All P (made_texts cards x ++ codes "END,32.0" ∷ [])
all-texts P each wait end cards x =
    All-append P (made_texts cards x) (codes "END,32.0" ∷ []) (made-all P each wait cards x) (All-cons P (codes "END,32.0") [] end (All-nil P))

module _ (cards seed : ℕ) (few : cards ≤ 19980) where
  abbrev asked : Asked
  asked = asked_with (cards + 2) (drawn_delays 16 (after_cards cards seed))

  within-limits : IsWithinLimits asked
  within-limits =
      let x : ℕ = after_cards cards seed in
      let size = drawn_delays-length 16 x in
      asked-within (cards + 2) (drawn_delays 16 x) (omega arith) (drawn_delays-among 16 x) (omega (arith, size))

  written : All IsWritten (made_cards cards seed)
  written =
      let texts = made_texts cards seed ++ codes "END,32.0" ∷ [] in
      All-append IsWritten (map statement_card texts) (control_cards asked)
      (cards_plain texts (all-texts IsPlain statement-plain refl refl cards seed))
      (controls_plain asked)

  short : All IsCard (made_cards cards seed)
  short =
      let texts = made_texts cards seed ++ codes "END,32.0" ∷ [] in
      All-append IsCard (map statement_card texts) (control_cards asked)
      (all_statement_cards texts (all-texts IsShort statement-few (omega arith) (omega arith) cards seed))
      (control_cards-short asked within-limits)

  texts-count : length (made_texts cards seed) ≡ cards + 1
  texts-count =
      let size = length-append (drawn_texts cards seed) (codes "BEW" ∷ []) in
      let drawn = drawn-length cards seed in
      omega (arith, size, drawn)

  controls-count : length (control_cards asked) ≡ 18
  controls-count =
      let delays = drawn_delays 16 (after_cards cards seed) in
      let cards_of_delays = map (λ d. codes "/DELAYS " ++ decimal d) delays in
      let same = ap (λ (cs : List (List ℕ)). length cs) (controls-are (cards + 2) delays (omega arith)) in
      let each = length-map delays (λ (d : ℕ). codes "/DELAYS " ++ decimal d) in
      let sixteen = drawn_delays-length 16 (after_cards cards seed) in
      let size = length-append cards_of_delays (codes "/TIME" ∷ []) in
      omega (arith, same, each, sixteen, size)

  count : length (made_cards cards seed) ≤ 20000
  count =
      let texts = made_texts cards seed ++ codes "END,32.0" ∷ [] in
      let all = length-append (map statement_card texts) (control_cards asked) in
      let same = length-map texts statement_card in
      let size = length-append (made_texts cards seed) (codes "END,32.0" ∷ []) in
      let made = texts-count in
      let behind = controls-count in
      omega (arith, few, all, same, size, made, behind)

  -- the statements lead from the empty image
  lead-on : LeadOn (made_texts cards seed) (stand 2048 (replicate words_of_storage 0) 0)
  lead-on =
      let made = texts-count in
      good-leads (made_texts cards seed) 2048 0 (replicate words_of_storage 0) (made-all IsGood made-good wait-good cards seed)
      (omega arith) (omega arith) (omega (arith, few, made))

  abbrev last : Statement
  last = End (number_expr 2048)

  gives : GivesProgram (spoken_lines 1 (lead-on.statements ++ last ∷ []) ++ silent_lines (length (lead-on.statements ++ last ∷ []) + 1)
      (length (control_cards asked)))
      lead-on.image 64
  gives =
      leads-give (lead-on.statements ++ last ∷ []) (length (control_cards asked)) lead-on.image 64 lead-on.location
      (leads-behind lead-on.statements last (stand 2048 (replicate words_of_storage 0) 0) (stand lead-on.location lead-on.image 0)
      (stand lead-on.location lead-on.image 64) lead-on.leads (end-steps 64 lead-on.location 0 lead-on.image (omega arith)))

  formed : form_pass (text_of_lines (made_cards cards seed)) (cards_of (text_of_lines (made_cards cards seed)))
      ≡ Ok (found_in_job (lead-on.statements ++ last ∷ []) (length (control_cards asked)) asked)
  formed =
      job-formed (made_texts cards seed) (codes "END,32.0") (control_cards asked) lead-on.statements last asked
      (record {
        read = lead-on.read;
        going = lead-on.going;
        final_read = end-read;
        ends = refl;
        marks = control_cards-kind asked;
        leads = controls-read asked within-limits (omega arith) refl;
      })
      written short count

  job-assembled : assembly (text_of_lines (made_cards cards seed))
      ≡ Ok (together (found_in_job (lead-on.statements ++ last ∷ []) (length (control_cards asked)) asked) gives.named gives.emitted)
  job-assembled =
      assembled (text_of_lines (made_cards cards seed)) (found_in_job (lead-on.statements ++ last ∷ []) (length (control_cards asked)) asked) gives.named
      gives.emitted
      formed gives.names gives.values

  asked-kept : with_defaults asked ≡ asked
  asked-kept = let sixteen = drawn_delays-length 16 (after_cards cards seed) in defaults-kept asked (omega arith) (omega (arith, sixteen))

-- a generated deck is assembled; its program begins at the first word after the registers, and it
-- requests its budget, sixteen delays and timing
pub made-assembled : (seed cards : ℕ) → cards ≤ 19980 →
    (a : Assembly) × (assembly (made_deck seed cards) ≡ Ok a) × (a.start ≡ 64) × (a.asked.budget ≡ cards + 2) × (length a.asked.delays ≡ 16)
    × (a.asked.time ≡ true)
made-assembled seed cards few =
    let kept = asked-kept cards seed few in (
      together (found_in_job ((lead-on cards seed few).statements ++ last cards seed few ∷ []) (length (control_cards (asked cards seed few)))
          (asked cards seed few))
          (gives cards seed few).named (gives cards seed few).emitted,
      ap (λ (t : List ℕ). assembly t) (made-is seed cards) ∙ job-assembled cards seed few,
      (gives cards seed few).begins,
      ap (λ (k : Asked). k.budget) kept,
      ap (λ (k : Asked). length k.delays) kept ∙ drawn_delays-length 16 (after_cards cards seed),
      ap (λ (k : Asked). k.time) kept,
    )
