-- Two jobs with equal assemblies apart from the delays have equal unmarked lines.
use Rattle.st_top.proofs.Common.{◌≡◌, ◌≤◌, ℕ, Bool, true, false, if◌then◌else◌, List, [], ◌∷◌, ◌++◌, length, take, drop, map, filter, not, refl, sym, ◌∙◌, ap, le-leb, Ok, MOST_CARDS, lf, cards_of, text_in, Asked, flat_map, filter-append, keyword_order, control_line, asked_by, requests, Budget, Delays, Card, Assembly, assembly, Symbol, Listed, behind_statements, reader_cards, Scene, lines_of, is_delay_line, line_text, Program, object_lines, others-same, word_cards, statement_card, end_text, card_count, program_in, listed_line, opening_state, rows_lines, symbols_lines, AreAlikeBesideDelays, lines_unmarked, marked_run, up_to_end, texts_up_to_end, end_card, listed_lines, marked_listing, marked_by, is_delay, marked_cards, marked_object, marked_deck, marked_assembled, marked_disassembled, joined, scene_of_assembly, loaded_start, deck_by}
use Rattle.st_card.specs.declared.keywords.Control.{Control}
use Rattle.st_card.specs.declared.keywords.Control.TheVariants.{Number}
use Rattle.st_telling.specs.Report.{Part as Marked, varying as with_marks, fixed as without_marks}
use Rattle.st_top.proofs.MarkLemmas.{joined-cons}
use Rattle.st_top.proofs.DelayLemmas.{run-same}
use Rattle.st_top.proofs.PlainEventLemmas.{unmarked-append, unmarked-plain, unmarked-between}
use Rattle.st_card.specs.declared.keywords.Keyword.TheVariants as keywords
use Rattle.st_card.specs.declared.keywords.ControlForm.TheVariants as forms

-- ---- the listing

-- the lines of texts, given the row of each
text_lines : List Listed → List (List ℕ) → List (List ℕ)
text_lines [] texts = []
text_lines (row ∷ rows) [] = []
text_lines (row ∷ rows) (text ∷ texts) = listed_line row.card row.location row.bits row.length text ∷ text_lines rows texts

rows-texts : (job : List ℕ) (rows : List Listed) (cards : List Card)
    → rows_lines job rows cards ≡ text_lines (take (length cards) rows) (map (text_in job) cards)
unfolding text_lines
rows-texts job [] [] = refl
rows-texts job [] (card ∷ cards) = refl
rows-texts job (row ∷ rows) [] = refl
rows-texts job (row ∷ rows) (card ∷ cards) =
    ap (λ rest. listed_line row.card row.location row.bits row.length (text_in job card) ∷ rest) (rows-texts job rows cards)

listed-unmarked : (job : List ℕ) (a : Assembly)
    → lines_unmarked (listed_lines job a) ≡ text_lines (take (end_card job) a.rows) (texts_up_to_end job) ++ symbols_lines a.symbols
listed-unmarked job a =
    let issue = up_to_end (cards_of job) in
    unmarked-between (rows_lines job a.rows issue) (rows_lines job (drop (end_card job) a.rows) (behind_statements (cards_of job)))
    (symbols_lines a.symbols)
    ∙ ap (λ lines. lines ++ symbols_lines a.symbols) (rows-texts job a.rows issue)

listed-same : (job other : List ℕ) (a b : Assembly) → AreAlikeBesideDelays job other a b
    → lines_unmarked (listed_lines job a) ≡ lines_unmarked (listed_lines other b)
listed-same job other a b h =
    listed-unmarked job a
    ∙ ap (λ rows. text_lines rows (texts_up_to_end job) ++ symbols_lines a.symbols) h.rows
    ∙ ap (λ texts. text_lines (take (end_card other) b.rows) texts ++ symbols_lines a.symbols) h.texts
    ∙ ap (λ (symbols : List Symbol). text_lines (take (end_card other) b.rows) (texts_up_to_end other) ++ symbols_lines symbols) h.symbols
    ∙ sym (listed-unmarked other b)

listing-same : (job other : List ℕ) (a b : Assembly) → AreAlikeBesideDelays job other a b
    → lines_unmarked (marked_listing job a) ≡ lines_unmarked (marked_listing other b)
unfolding marked_listing
listing-same job other a b h =
    asked-same a.asked.list (listed_lines job a) (listed_lines other b) (listed-same job other a b h)
    ∙ ap (λ (asked : Asked). lines_unmarked (if asked.list then listed_lines other b else [])) h.asked where
      asked-same : (test : Bool) (xs ys : List Marked) → lines_unmarked xs ≡ lines_unmarked ys
          → lines_unmarked (if test then xs else []) ≡ lines_unmarked (if test then ys else [])
      asked-same true xs ys same = same
      asked-same false xs ys same = refl

-- ---- the run

-- the start of a run of an image, with the requested signals and these cards
abbrev scene_with : Asked → List ℕ → ℕ → List (List ℕ) → Scene
scene_with asked image start cards =
    record { machine = opening_state image start; signals = asked.signals; cards = cards }

abbrev lines_with : Asked → List ℕ → ℕ → List (List ℕ) → List (List ℕ)
lines_with asked image start cards = lines_unmarked (marked_run asked (scene_with asked image start cards))

delays-same : (asked : Asked) (ds : List ℕ) (image : List ℕ) (start : ℕ) (cards : List (List ℕ))
    → lines_with (record asked { delays = ds }) image start cards ≡ lines_with asked image start cards
delays-same asked ds image start cards =
    run-same asked ds asked.snaps asked.time asked.chart (scene_with asked image start cards)

started-same : (job other : List ℕ) (a b : Assembly) → AreAlikeBesideDelays job other a b
    → lines_unmarked (marked_run a.asked (scene_of_assembly job a)) ≡ lines_unmarked (marked_run b.asked (scene_of_assembly other b))
started-same job other a b h =
    sym (delays-same a.asked b.asked.delays a.image a.start (reader_cards job))
    ∙ ap (λ asked. lines_with asked a.image a.start (reader_cards job)) h.asked
    ∙ ap (λ image. lines_with b.asked image a.start (reader_cards job)) h.image
    ∙ ap (λ start. lines_with b.asked b.image start (reader_cards job)) h.start
    ∙ ap (λ cards. lines_with b.asked b.image b.start cards) h.reader

by-same : (job other : List ℕ) (a b : Assembly) → AreAlikeBesideDelays job other a b
    → lines_unmarked (marked_by job (Ok a)) ≡ lines_unmarked (marked_by other (Ok b))
by-same job other a b h =
    unmarked-append (marked_listing job a) (marked_run a.asked (scene_of_assembly job a))
    ∙ ap (λ listed. listed ++ lines_unmarked (marked_run a.asked (scene_of_assembly job a))) (listing-same job other a b h)
    ∙ ap (λ ran. lines_unmarked (marked_listing other b) ++ ran) (started-same job other a b h)
    ∙ sym (unmarked-append (marked_listing other b) (marked_run b.asked (scene_of_assembly other b)))

pub jobs-same : (job other : List ℕ) (a b : Assembly) → assembly job ≡ Ok a → assembly other ≡ Ok b → AreAlikeBesideDelays job other a b
    → lines_unmarked (marked_by job (assembly job)) ≡ lines_unmarked (marked_by other (assembly other))
jobs-same job other a b is also h =
    ap (λ r. lines_unmarked (marked_by job r)) is ∙ by-same job other a b h ∙ sym (ap (λ r. lines_unmarked (marked_by other r)) also)

-- ---- a loaded program

pub loads-same : (p q : Program) → record p { controls = record p.controls { delays = q.controls.delays } } ≡ q
    → lines_unmarked (marked_run p.controls (loaded_start p)) ≡ lines_unmarked (marked_run q.controls (loaded_start q))
loads-same p q h =
    sym (delays-same p.controls q.controls.delays p.words p.start [])
    ∙ ap (λ (r : Program). lines_unmarked (marked_run r.controls (loaded_start r))) h

-- ---- an object text, and a deck

-- the line of an item is kept unless it is marked
kept-if : {X : Type 0} (line : X → List ℕ) (b : Bool) (x : X) (parts : List Marked) (rest : List X) → joined parts ≡ map line rest
    → joined (if not b then record { lines = line x ∷ []; varies = b } ∷ parts else parts) ≡ map line (if not b then x ∷ rest else rest)
kept-if line true x parts rest same = same
kept-if line false x parts rest same = joined-cons (record { lines = line x ∷ []; varies = false }) parts ∙ ap (λ l. line x ∷ l) same

each-unmarked : {X : Type 0} (line : X → List ℕ) (marked : X → Bool) (xs : List X)
    → lines_unmarked (map (λ x. record { lines = line x ∷ []; varies = marked x }) xs) ≡ map line (filter (λ x. not (marked x)) xs)
unfolding lines_unmarked
each-unmarked line marked [] = refl
each-unmarked line marked (x ∷ xs) = kept-if line (marked x) x _ (filter (λ y. not (marked y)) xs) (each-unmarked line marked xs)

texts-unmarked : (xs : List (List ℕ)) → lines_unmarked (map (λ text. record { lines = (text ++ lf) ∷ []; varies = is_delay_line text }) xs)
    ≡ map (λ t. t ++ lf) (filter (λ line. not (is_delay_line line)) xs)
texts-unmarked xs = each-unmarked (λ t. t ++ lf) is_delay_line xs

objects-same : (p q : Program) → record p { controls = record p.controls { delays = q.controls.delays } } ≡ q
    → lines_unmarked (marked_object p) ≡ lines_unmarked (marked_object q)
objects-same p q h =
    texts-unmarked (map line_text (object_lines p))
    ∙ ap (map (λ t. t ++ lf)) (sym (others-same p q.controls.delays))
    ∙ sym (texts-unmarked (map line_text (object_lines (record p { controls = record p.controls { delays = q.controls.delays } }))))
    ∙ ap (λ (r : Program). lines_unmarked (marked_object r)) h

-- the control cards of a deck without the delay cards
abbrev others_asked : Asked → List (List ℕ)
others_asked a = map (λ c. control_line forms.Card c ++ lf) (filter (λ c. not (is_delay c)) (requests a))

cards-unmarked : (a : Asked) → lines_unmarked (marked_cards a) ≡ others_asked a
cards-unmarked a = each-unmarked (λ c. control_line forms.Card c ++ lf) is_delay (requests a)

none-left : (ds : List ℕ) → filter (λ c. not (is_delay c)) (map (λ n. Number Delays n) ds) ≡ []
none-left [] = refl
none-left (d ∷ ds) = none-left ds

without-middle : (xs ds ys : List Control) → filter (λ c. not (is_delay c)) ds ≡ []
    → filter (λ c. not (is_delay c)) (xs ++ (ds ++ ys)) ≡ filter (λ c. not (is_delay c)) (xs ++ ys)
without-middle xs ds ys none =
    let keep : Control → Bool = λ c. not (is_delay c) in
    filter-append keep xs (ds ++ ys)
    ∙ ap (λ l. filter keep xs ++ l) (filter-append keep ds ys ∙ ap (λ l. l ++ filter keep ys) none)
    ∙ sym (filter-append keep xs ys)

-- the requests other than delays do not depend on the delays
beside-delays : (a : Asked) (ds : List ℕ)
    → filter (λ c. not (is_delay c)) (requests (record a { delays = ds })) ≡ filter (λ c. not (is_delay c)) (requests a)
beside-delays a ds =
    let front = asked_by (keywords.Once Budget) a in
    let back = flat_map (λ k. asked_by k a) (drop 2 keyword_order) in
    without-middle front (map (λ n. Number Delays n) ds) back (none-left ds)
    ∙ sym (without-middle front (map (λ n. Number Delays n) a.delays) back (none-left a.delays))

-- a deck without its delay cards
abbrev deck_beside : Program → List (List ℕ)
deck_beside p =
    map (λ card. card ++ lf) (word_cards 0 0 p.words ++ statement_card (end_text p.start) ∷ []) ++ others_asked p.controls

deck-unmarked : (p : Program) → lines_unmarked (marked_deck p) ≡ deck_beside p
deck-unmarked p =
    let issue = map (λ card. card ++ lf) (word_cards 0 0 p.words ++ statement_card (end_text p.start) ∷ []) in
    unmarked-append (without_marks issue) (marked_cards p.controls)
    ∙ ap (λ xs. xs ++ lines_unmarked (marked_cards p.controls)) (unmarked-plain issue)
    ∙ ap (λ xs. issue ++ xs) (cards-unmarked p.controls)

decks-same : (p q : Program) → record p { controls = record p.controls { delays = q.controls.delays } } ≡ q
    → lines_unmarked (marked_deck p) ≡ lines_unmarked (marked_deck q)
decks-same p q h =
    let issue = map (λ card. card ++ lf) (word_cards 0 0 p.words ++ statement_card (end_text p.start) ∷ []) in
    deck-unmarked p
    ∙ ap (λ (cs : List Control). issue ++ map (λ c. control_line forms.Card c ++ lf) cs) (sym (beside-delays p.controls q.controls.delays))
    ∙ ap (λ (r : Program). deck_beside r) h ∙ sym (deck-unmarked q)

programs-differ : (job other : List ℕ) (a b : Assembly) → AreAlikeBesideDelays job other a b
    → record (program_in a) { controls = record (program_in a).controls { delays = b.asked.delays } } ≡ program_in b
programs-differ job other a b h =
    let asked : Asked = record a.asked { delays = b.asked.delays } in
    ap (λ image. record { words = image; start = a.start; controls = record asked { list = false } }) h.image
    ∙ ap (λ start. record { words = b.image; start = start; controls = record asked { list = false } }) h.start
    ∙ ap (λ (asked : Asked). record { words = b.image; start = b.start; controls = record asked { list = false } }) h.asked

pub assembled-same : (job other : List ℕ) (a b : Assembly) → assembly job ≡ Ok a → assembly other ≡ Ok b → AreAlikeBesideDelays job other a b
    → lines_unmarked (marked_assembled (assembly job)) ≡ lines_unmarked (marked_assembled (assembly other))
assembled-same job other a b is also h =
    ap (λ r. lines_unmarked (marked_assembled r)) is
    ∙ objects-same (program_in a) (program_in b) (programs-differ job other a b h)
    ∙ sym (ap (λ r. lines_unmarked (marked_assembled r)) also)

disassembled-unmarked : (p : Program) → card_count p ≤ MOST_CARDS → lines_unmarked (marked_disassembled (Ok p)) ≡ lines_unmarked (marked_deck p)
disassembled-unmarked p few =
    ap (λ b. lines_unmarked (if b then marked_deck p else with_marks (lines_of (deck_by p).events))) (le-leb (card_count p) MOST_CARDS few)

pub disassembled-same : (p q : Program) → record p { controls = record p.controls { delays = q.controls.delays } } ≡ q
    → card_count p ≤ MOST_CARDS → card_count q ≤ MOST_CARDS
    → lines_unmarked (marked_disassembled (Ok p)) ≡ lines_unmarked (marked_disassembled (Ok q))
disassembled-same p q h few more =
    disassembled-unmarked p few ∙ decks-same p q h ∙ sym (disassembled-unmarked q more)
