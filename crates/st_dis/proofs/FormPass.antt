-- The form pass over statement cards without names, followed by control cards.
use Rattle.st_dis.proofs.Common.{◌≡◌, ◌≤◌, ◌+◌, ◌==◌, ℕ, zero, suc, Bool, true, false, not, List, [], ◌∷◌, ◌++◌, length, map, filter, take, Option, Some, None, Result, Ok, Err, if◌then◌else◌, refl, sym, ap, subst, ◌∙◌, append_assoc, append-nil, length-append, arith, All, take_all, length-map, map-append, All-nil, All-cons, All-head, All-tail, and_parts, is_blank, kind_of, cards_of, text_in, Asked, nothing_asked, asked_with_card, Fault, BadName, UnknownOperation, BadControlCard, reading_of_operation, is_misnamed, clean_statement_of, statement_of, Statement, Refusal, onward, pass, pass_then, unless_faulty, name_field, statement_field, name_in, silent_line, saying, Found, found_at_start, first_fault_of, is_end, with_statement, with_control, form_control, form_statement, form_kind, form_card, with_end, form_pass, statement_card, CardsLead, text_of_lines}
use Rattle.st_card.specs.declared.cards.Card.{Card}
use Rattle.st_card.specs.declared.cards.CardKind.{CardKind}
use Rattle.st_card.specs.declared.cards.CardKind.TheVariants.{Comment, Control, Statement as StatementCard}
use Rattle.st_strap.specs.Order.{next_reading, reading_map}
use Rattle.st_mnemonic.specs.Table.{operation_of_word, other_operations, index_operations, field_operations, negated_operation, connective, connective_kinds, truth_tables}
use Rattle.st_mnemonic.specs.Text.{statement_text, stop}
use Rattle.st_dis.proofs.Printable.{IsWritten}
use Rattle.st_dis.proofs.Cutting.{IsCardAs, AreCardsAs, lines_cut}
use Rattle.st_dis.proofs.Lengths.{IsCard, IsShort}
use Rattle.st_dis.proofs.Said.{ReadCard, AreRead, spoken_lines, silent_lines}

-- ---- the cards as texts

-- the form pass over the n-th card, given its text, if it has no fault by itself
abbrev form_text : Found → ℕ → List ℕ → Result Found Fault
form_text found n text = form_kind (kind_of text) found n None text

-- the form pass leads from one result to another over cards with these texts, from the n-th on
abbrev TextsLead : Found → ℕ → List (List ℕ) → Found → Type 0
TextsLead found n [] to = found ≡ to
TextsLead found n (text ∷ texts) to = (next : Found) × (form_text found n text ≡ Ok next) × TextsLead next (n + 1) texts to

faultless : (kind : CardKind) → first_fault_of kind None ≡ None
faultless Comment = refl
faultless Control = refl
faultless StatementCard = refl

card-form : (job : List ℕ) (found : Found) (n : ℕ) (text : List ℕ) (card : Card) → IsCardAs job n text card →
    form_card job found card ≡ form_text found n text
unfolding form_card
card-form job found n text card is =
    let kind = kind_of text in
    ap (λ (f : Option Fault). unless_faulty (first_fault_of card.kind f) (form_kind card.kind found card.number f (text_in job card))) is.fault
    ∙ (ap (λ (t : List ℕ). unless_faulty (first_fault_of card.kind None) (form_kind card.kind found card.number None t)) is.text
    ∙ (ap (λ (k : ℕ). unless_faulty (first_fault_of card.kind None) (form_kind card.kind found k None text)) is.number
    ∙ (ap (λ (k : CardKind). unless_faulty (first_fault_of k None) (form_kind k found n None text)) is.kind
    ∙ ap (λ (f : Option Fault). unless_faulty f (form_kind kind found n None text)) (faultless kind))))

cards-pass : (job : List ℕ) (found to : Found) (n : ℕ) (texts : List (List ℕ)) (cards : List Card) → AreCardsAs job n texts cards →
    TextsLead found n texts to → pass (form_card job) (λ card. card.number) found cards ≡ Ok to
cards-pass job found to n [] cards as_cards leads =
    ap (λ (cs : List Card). pass (form_card job) (λ card. card.number) found cs) as_cards ∙ ap (λ (f : Found). Ok f) leads
cards-pass job found to n (text ∷ texts) [] as_cards leads = absurd as_cards
cards-pass job found to n (text ∷ texts) (card ∷ cards) as_cards leads =
    ap (λ r. onward (λ s. pass (form_card job) (λ c. c.number) s cards) card.number r) (card-form job found n text card as_cards.0 ∙ leads.1)
    ∙ cards-pass job leads.0 to (n + 1) texts cards as_cards.1 leads.2

leads-on : (a b c : Found) (n k : ℕ) (xs ys : List (List ℕ)) → k ≡ n + length xs → TextsLead a n xs b → TextsLead b k ys c →
    TextsLead a n (xs ++ ys) c
leads-on a b c n k [] ys place first second =
    let same : k ≡ n = omega (arith, place) in
    subst (λ (j : ℕ). TextsLead a j ys c) same (subst (λ (x : Found). TextsLead x k ys c) (sym first) second)
leads-on a b c n k (x ∷ xs) ys place first second =
    (first.0, first.1, leads-on first.0 b c (n + 1) k xs ys (omega (arith, place)) first.2 second)

-- ---- statement cards

-- a text of blanks has an empty statement
without_blanks : (k : ℕ) (text : List ℕ) → is_blank text ≡ true → filter (λ c. not (c == 32)) (take k text) ≡ []
without_blanks zero text blanks = refl
without_blanks (suc k) [] blanks = refl
without_blanks (suc k) (c ∷ cs) blanks =
    let parts = and_parts (c == 32) (is_blank cs) blanks in
    ap (λ (b : Bool). if not b then c ∷ filter (λ d. not (d == 32)) (take k cs) else filter (λ d. not (d == 32)) (take k cs)) parts.0
    ∙ without_blanks k cs parts.1

no_operation : operation_of_word [] ≡ None
unfolding operation_of_word other_operations index_operations field_operations negated_operation connective connective_kinds truth_tables
no_operation = refl

no_statement : clean_statement_of [] [] ≡ Err UnknownOperation
unfolding clean_statement_of is_misnamed
no_statement = ap (λ op. if is_misnamed [] op then Err BadName else next_reading UnknownOperation op (λ found. reading_of_operation found [])) no_operation

nothing_said : (s : Statement) → clean_statement_of [] [] ≡ Ok s → ⊥
nothing_said s read = let same : Err UnknownOperation ≡ Ok s = sym no_statement ∙ read in let no : ⊥ = cc in no

blank-unread : (text : List ℕ) (s : Statement) → is_blank text ≡ true → statement_of [] text ≡ Ok s → ⊥
unfolding statement_text
blank-unread text s blanks read =
    nothing_said s (ap (λ (t : List ℕ). clean_statement_of [] t) (sym (without_blanks (stop 59 59 text) text blanks)) ∙ read)

filled_by : (text : List ℕ) (s : Statement) → statement_of [] text ≡ Ok s → (b : Bool) → is_blank text ≡ b → is_blank text ≡ false
filled_by text s read true blanks = absurd (blank-unread text s blanks read)
filled_by text s read false blanks = blanks

-- a card whose statement is read is a statement card
statement-kind : (text : List ℕ) (s : Statement) → length text ≤ 63 → statement_of [] text ≡ Ok s →
    kind_of (statement_card text) ≡ StatementCard
statement-kind text s short read =
    let whole : take 63 text ≡ text = take_all 63 text short in
    let filled : is_blank (take 63 text) ≡ false = ap (λ (t : List ℕ). is_blank t) whole ∙ filled_by text s read (is_blank text) refl in
    ap (λ (b : Bool). if b then Comment else StatementCard) filled

-- a statement card of a deck has no name
card-name : (text : List ℕ) → name_field (statement_card text) ≡ []
unfolding name_field
card-name text = refl

-- the columns of a statement card from the tenth on are its statement
card-statement : (text : List ℕ) → length text ≤ 63 → statement_field (statement_card text) ≡ text
unfolding statement_field
card-statement text short = take_all 63 text short

-- the result of the form pass with these parts
abbrev found_as : Bool → Asked → List ReadCard → Found
found_as ended asked lines = record { ended = ended; asked = asked; lines = lines }

-- the form pass over a statement card before END
statement-formed : (asked : Asked) (lines : List ReadCard) (n : ℕ) (text : List ℕ) (s : Statement) → length text ≤ 63 →
    statement_of [] text ≡ Ok s →
    form_text (found_as false asked lines) n (statement_card text) ≡ Ok (found_as (is_end s) asked (lines ++ saying n None s ∷ []))
unfolding form_statement name_in
statement-formed asked lines n text s short read =
    let found = found_as false asked lines in
    let card = statement_card text in
    let reads : List ℕ → List ℕ → Result Found Fault =
    λ name t. reading_map (λ x. with_statement found n name x) (statement_of name t) in
    ap (λ (k : CardKind). form_kind k found n None card) (statement-kind text s short read)
    ∙ (ap (λ (name : List ℕ). reads name (statement_field card)) (card-name text)
    ∙ (ap (λ (t : List ℕ). reads [] t) (card-statement text short)
    ∙ ap (λ (r : Result Statement Fault). reading_map (λ x. with_statement found n [] x) r) read))

-- a statement other than END
abbrev pub IsOpen : Statement → Type 0
IsOpen s = is_end s ≡ false

-- the form pass over statement cards other than END
statements-lead : (asked : Asked) (lines : List ReadCard) (n : ℕ) (texts : List (List ℕ)) (ss : List Statement) → All IsShort texts →
    AreRead texts ss → All IsOpen ss →
    TextsLead (found_as false asked lines) n (map statement_card texts) (found_as false asked (lines ++ spoken_lines n ss))
statements-lead asked lines n [] ss short read not_end =
    ap (λ (ls : List ReadCard). found_as false asked ls) (sym (append-nil lines))
    ∙ ap (λ (all : List Statement). found_as false asked (lines ++ spoken_lines n all)) (sym read)
statements-lead asked lines n (t ∷ ts) [] short read not_end = absurd read
statements-lead asked lines n (t ∷ ts) (s ∷ ss) short read not_end =
    let more : List ReadCard = lines ++ saying n None s ∷ [] in
    let here = statement-formed asked lines n t s (All-head IsShort t ts short) read.0 in
    let going : IsOpen s = All-head IsOpen s ss not_end in
    let step = here ∙ ap (λ (b : Bool). Ok (found_as b asked more)) going in
    let rest = statements-lead asked more (n + 1) ts ss (All-tail IsShort t ts short) read.1 (All-tail IsOpen s ss not_end) in (
      found_as false asked more,
      step,
      subst (λ (ls : List ReadCard). TextsLead (found_as false asked more) (n + 1) (map statement_card ts) (found_as false asked ls))
          (append_assoc lines (saying n None s ∷ []) (spoken_lines (n + 1) ss)) rest,
    )

-- the form pass over statement cards and then END
end-lead : (asked : Asked) (lines : List ReadCard) (n : ℕ) (text : List ℕ) (s : Statement) → length text ≤ 63 →
    statement_of [] text ≡ Ok s → is_end s ≡ true →
    TextsLead (found_as false asked lines) n (statement_card text ∷ []) (found_as true asked (lines ++ saying n None s ∷ []))
end-lead asked lines n text s short read last =
    let more : List ReadCard = lines ++ saying n None s ∷ [] in (
      found_as true asked more,
      statement-formed asked lines n text s short read ∙ ap (λ (b : Bool). Ok (found_as b asked more)) last,
      refl,
    )

-- ---- control cards

-- a card that begins with the mark of a control card
abbrev pub IsControl : List ℕ → Type 0
IsControl card = kind_of card ≡ Control

-- the form pass over a control card after END
control-formed : (asked next : Asked) (lines : List ReadCard) (n : ℕ) (card : List ℕ) → IsControl card → asked_with_card asked card ≡ Some next →
    form_text (found_as true asked lines) n card ≡ Ok (found_as true next (lines ++ silent_line n ∷ []))
unfolding form_control
control-formed asked next lines n card is adds =
    let found = found_as true asked lines in
    ap (λ (k : CardKind). form_kind k found n None card) is
    ∙ ap (λ (o : Option Asked). next_reading BadControlCard o (λ a. Ok (with_control found n a))) adds

controls-lead : (asked to : Asked) (lines : List ReadCard) (n : ℕ) (cards : List (List ℕ)) → All IsControl cards → CardsLead asked cards to →
    TextsLead (found_as true asked lines) n cards (found_as true to (lines ++ silent_lines n (length cards)))
controls-lead asked to lines n [] marks leads =
    ap (λ (ls : List ReadCard). found_as true asked ls) (sym (append-nil lines))
    ∙ ap (λ (a : Asked). found_as true a (lines ++ [])) leads
controls-lead asked to lines n (card ∷ cards) marks leads =
    let more : List ReadCard = lines ++ silent_line n ∷ [] in
    let rest = controls-lead leads.0 to more (n + 1) cards (All-tail IsControl card cards marks) leads.2 in (
      found_as true leads.0 more,
      control-formed asked leads.0 lines n card (All-head IsControl card cards marks) leads.1,
      subst (λ (ls : List ReadCard). TextsLead (found_as true leads.0 more) (n + 1) cards (found_as true to ls))
          (append_assoc lines (silent_line n ∷ []) (silent_lines (n + 1) (length cards))) rest,
    )

-- ---- the whole job

pub read-append : (ts us : List (List ℕ)) (ss vs : List Statement) → AreRead ts ss → AreRead us vs → AreRead (ts ++ us) (ss ++ vs)
read-append [] us ss vs first second = subst (λ (all : List Statement). AreRead us (all ++ vs)) (sym first) second
read-append (t ∷ ts) us [] vs first second = absurd first
read-append (t ∷ ts) us (s ∷ ss) vs first second = (first.0, read-append ts us ss vs first.1 second)

-- texts that are read are as many as their statements
read-count : (ts : List (List ℕ)) (ss : List Statement) → AreRead ts ss → length ts ≡ length ss
read-count [] ss read = ap (λ (all : List Statement). length all) (sym read)
read-count (t ∷ ts) [] read = absurd read
read-count (t ∷ ts) (s ∷ ss) read = let more = read-count ts ss read.1 in omega (arith, more)

-- the lines of statements with one more statement
spoken-more : (n k : ℕ) (ss : List Statement) (s : Statement) → k ≡ n + length ss →
    spoken_lines n (ss ++ s ∷ []) ≡ spoken_lines n ss ++ saying k None s ∷ []
spoken-more n k [] s place =
    let same : n ≡ k = omega (arith, place) in ap (λ (j : ℕ). saying j None s ∷ []) same
spoken-more n k (x ∷ xs) s place =
    ap (λ (ls : List ReadCard). saying n None x ∷ ls) (spoken-more (n + 1) k xs s (omega (arith, place)))

-- the statements of cards with at most 72 characters have at most 63
shorts : (texts rest : List (List ℕ)) → All IsCard (map statement_card texts ++ rest) → All IsShort texts
shorts [] rest cards = All-nil IsShort
shorts (t ∷ ts) rest cards =
    let more = map statement_card ts ++ rest in
    let here : length (statement_card t) ≤ 72 = All-head IsCard (statement_card t) more cards in
    let parts = length-append (32 ∷ 32 ∷ 32 ∷ 32 ∷ 32 ∷ 32 ∷ 32 ∷ 32 ∷ 32 ∷ []) t in
    All-cons IsShort t ts (omega (arith, here, parts)) (shorts ts rest (All-tail IsCard (statement_card t) more cards))

-- a property of all cards holds of the last ones
behind_all : (xs ys : List (List ℕ)) → All IsCard (xs ++ ys) → All IsCard ys
behind_all [] ys all = all
behind_all (x ∷ xs) ys all = behind_all xs ys (All-tail IsCard x (xs ++ ys) all)

-- a job of statement cards without names, the last of which is END, and of control cards after it
pub record IsJob (texts : List (List ℕ)) (final : List ℕ) (controls : List (List ℕ)) (before : List Statement) (last : Statement)
    (asked : Asked) : Type 0 where
  pub read : AreRead texts before
  pub going : All IsOpen before
  pub final_read : statement_of [] final ≡ Ok last
  pub ends : is_end last ≡ true
  pub marks : All IsControl controls
  pub leads : CardsLead nothing_asked controls asked

-- the cards of such a job
abbrev pub job_cards : List (List ℕ) → List ℕ → List (List ℕ) → List (List ℕ)
job_cards texts final controls = map statement_card (texts ++ final ∷ []) ++ controls

-- the result of the form pass for such a job: the lines of its statements and control cards, and
-- its requests
abbrev pub found_in_job : List Statement → ℕ → Asked → Found
found_in_job ss controls asked =
    record { ended = true; asked = asked; lines = spoken_lines 1 ss ++ silent_lines (length ss + 1) controls }

job-leads : (texts : List (List ℕ)) (final : List ℕ) (controls : List (List ℕ)) (before : List Statement) (last : Statement) (asked : Asked) →
    IsJob texts final controls before last asked → All IsCard (job_cards texts final controls) →
    TextsLead found_at_start 1 (job_cards texts final controls) (found_in_job (before ++ last ∷ []) (length controls) asked)
job-leads texts final controls before last asked is short =
    let cards = map statement_card texts in
    let end = statement_card final ∷ [] in
    let all = before ++ last ∷ [] in
    let whole_cards : job_cards texts final controls ≡ (cards ++ end) ++ controls =
    ap (λ (cs : List (List ℕ)). cs ++ controls) (map-append statement_card texts (final ∷ [])) in
    let regrouped : job_cards texts final controls ≡ cards ++ (end ++ controls) = whole_cards ∙ append_assoc cards end controls in
    let cards_short = subst (λ (cs : List (List ℕ)). All IsCard cs) regrouped short in
    let texts_short = shorts texts (end ++ controls) cards_short in
    let final_short = All-head IsShort final [] (shorts (final ∷ []) controls (behind_all cards (end ++ controls) cards_short)) in
    let count = read-count texts before is.read in
    let cards_count : length cards ≡ length texts = length-map texts statement_card in
    let all_count = length-append before (last ∷ []) in
    let size = length-append cards end in
    let k : ℕ = length before + 1 in
    let j : ℕ = length all + 1 in
    let lines : List ReadCard = spoken_lines 1 before ++ saying k None last ∷ [] in
    let spoken : spoken_lines 1 all ≡ lines = spoken-more 1 k before last (omega arith) in
    let until = found_as false nothing_asked (spoken_lines 1 before) in
    let ended = found_as true nothing_asked lines in
    let to = found_as true asked (lines ++ silent_lines j (length controls)) in
    let one = statements-lead nothing_asked [] 1 texts before texts_short is.read is.going in
    let two = end-lead nothing_asked (spoken_lines 1 before) k final last final_short is.final_read is.ends in
    let three = controls-lead nothing_asked asked lines j controls is.marks is.leads in
    let spoken_cards = leads-on found_at_start until ended 1 k cards end (omega (arith, count, cards_count)) one two in
    let whole = leads-on found_at_start ended to 1 j (cards ++ end) controls (omega (arith, count, cards_count, all_count, size)) spoken_cards three in
    let found : to ≡ found_in_job all (length controls) asked =
    ap (λ (ls : List ReadCard). found_as true asked (ls ++ silent_lines j (length controls))) (sym spoken) in
    subst (λ (f : Found). TextsLead found_at_start 1 (job_cards texts final controls) f) found
    (subst (λ (cs : List (List ℕ)). TextsLead found_at_start 1 cs to) (sym whole_cards) whole)

-- the form pass over such a job returns that result
pub job-formed : (texts : List (List ℕ)) (final : List ℕ) (controls : List (List ℕ)) (before : List Statement) (last : Statement)
    (asked : Asked) → IsJob texts final controls before last asked → All IsWritten (job_cards texts final controls) →
    All IsCard (job_cards texts final controls) →
    length (job_cards texts final controls) ≤ 20000 →
    form_pass (text_of_lines (job_cards texts final controls)) (cards_of (text_of_lines (job_cards texts final controls)))
    ≡ Ok (found_in_job (before ++ last ∷ []) (length controls) asked)
unfolding form_pass
job-formed texts final controls before last asked is written short few =
    let lines = job_cards texts final controls in
    let job = text_of_lines lines in
    let cards = cards_of job in
    let found = found_in_job (before ++ last ∷ []) (length controls) asked in
    let passes = cards-pass job found_at_start found 1 lines cards (lines_cut lines written short few).each
    (job-leads texts final controls before last asked is short) in
    ap (λ (r : Result Found Refusal). pass_then r (with_end (length cards))) passes
