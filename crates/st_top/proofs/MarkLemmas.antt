-- Lines with marks: all lines, and the unmarked ones.
use Rattle.st_top.proofs.Common.{◌≡◌, ℕ, Bool, true, false, if◌then◌else◌, List, [], ◌∷◌, ◌++◌, length, map, drop, refl, sym, ◌∙◌, ap, append_assoc, map-append, Result, Ok, Err, MOST_CARDS, lf, cards_of, Asked, control_line, requests, Card, Assembly, assembly, Refusal, Listed, has_statement, behind_statements, Scene, lines_of, at_moment, lines_of-append, lines_of-at_moment, is_delay_line, line_text, Program, object_lines, word_cards, statement_card, end_text, control_cards, card_count, program_in, object_text_lines, deck_lines, TimedReportedEvent, reported_events, rows_lines, symbols_lines, listing, marked_report, marked_run, up_to_end, end_card, listed_lines, marked_listing, marked_by, marked_load, is_delay, marked_cards, marked_object, marked_deck, marked_assembled, marked_disassembled, marked_output, Output, lines_alone, output_of, ran_by, loaded_by, assembled_by, disassembled_by, scene_of_assembly, loaded_start, joined, parts_at, lines_told, report, states_of_run, events_of_run, moment_at_end, last_state, lines_of_steps_back, run_report, Command, Run, Assemble, Load, Disassemble, Sweep, Soak}
use Rattle.std.proofs.lemmas.List.{append-nil}
use Rattle.std.proofs.lemmas.Simd.{map-map}
use Rattle.std.specs.Prelude.{nat_le}
use Rattle.st_top.specs.declared.answer.Status.TheVariants.{Done as Finished}
use Rattle.st_top.specs.Listing.{listing_row_line as card_line}
use Rattle.st_telling.specs.Report.{Part as Marked, varying as with_marks, fixed as without_marks}
use Rattle.st_card.specs.declared.keywords.ControlForm.TheVariants as forms

-- ---- all lines

pub joined-cons : (p : Marked) (ps : List Marked) → joined (p ∷ ps) ≡ p.lines ++ joined ps
joined-cons p [] = sym (append-nil p.lines)
joined-cons p (q ∷ ps) = refl

pub lines-append : (xs ys : List Marked) → joined (xs ++ ys) ≡ joined xs ++ joined ys
lines-append [] ys = refl
lines-append (x ∷ xs) ys =
    joined-cons x (xs ++ ys)
    ∙ ap (λ rest. x.lines ++ rest) (lines-append xs ys)
    ∙ sym (append_assoc x.lines (joined xs) (joined ys))
    ∙ ap (λ issue. issue ++ joined ys) (sym (joined-cons x xs))

pub lines-plain : (lines : List (List ℕ)) → joined (without_marks lines) ≡ lines
lines-plain lines = refl

pub lines-marked : (lines : List (List ℕ)) → joined (with_marks lines) ≡ lines
lines-marked lines = refl

-- lines that are each a part of their own
lines-each : {X : Type 0} (f : X → List ℕ) (g : X → Bool) (xs : List X) → joined (map (λ x. record { lines = f x ∷ []; varies = g x }) xs) ≡ map f xs
lines-each f g [] = refl
lines-each f g (x ∷ xs) =
    joined-cons (record { lines = f x ∷ []; varies = g x }) (map (λ y. record { lines = f y ∷ []; varies = g y }) xs)
    ∙ ap (λ rest. f x ∷ rest) (lines-each f g xs)

-- unmarked lines, marked lines, and unmarked lines again
lines-between : (xs ys zs : List (List ℕ)) → joined (without_marks xs ++ with_marks ys ++ without_marks zs) ≡ xs ++ ys ++ zs
lines-between xs ys zs =
    lines-append (without_marks xs ++ with_marks ys) (without_marks zs)
    ∙ ap (λ rest. rest ++ joined (without_marks zs)) (lines-append (without_marks xs) (with_marks ys))
    ∙ ap (λ issue. issue ++ joined (with_marks ys) ++ joined (without_marks zs)) (lines-plain xs)
    ∙ ap (λ middle. xs ++ middle ++ joined (without_marks zs)) (lines-marked ys)
    ∙ ap (λ rest. xs ++ ys ++ rest) (lines-plain zs)

-- ---- the lines of a report

lines-report : (asked : Asked) (ts : List TimedReportedEvent) → joined (marked_report asked ts) ≡ lines_of (report asked ts)
unfolding marked_report report
lines-report asked [] = refl
lines-report asked (t ∷ ts) =
    let event = at_moment t.done t.tick (lines_told asked t) in
    lines-append (parts_at asked t.done t.tick t.event) (marked_report asked ts)
    ∙ ap (λ issue. issue ++ joined (marked_report asked ts)) (sym (lines_of-at_moment t.done t.tick (lines_told asked t)))
    ∙ ap (λ rest. lines_of event ++ rest) (lines-report asked ts)
    ∙ sym (lines_of-append event (report asked ts))

pub lines-run : (asked : Asked) (start : Scene) → joined (marked_run asked start) ≡ lines_of (run_report asked start)
unfolding marked_run run_report
lines-run asked start =
    let ts = reported_events (events_of_run asked start) in
    let back = lines_of_steps_back asked (states_of_run asked start) (last_state asked start) in
    let e = moment_at_end asked start in
    lines-append (marked_report asked ts) (without_marks back)
    ∙ ap (λ issue. issue ++ joined (without_marks back)) (lines-report asked ts)
    ∙ ap (λ rest. lines_of (report asked ts) ++ rest) (lines-plain back ∙ sym (lines_of-at_moment e.done e.tick back))
    ∙ sym (lines_of-append (report asked ts) (at_moment e.done e.tick back))

-- ---- a listing

-- the cards up to END and those after it are all cards
pub cards-split : (cards : List Card) → up_to_end cards ++ behind_statements cards ≡ cards
unfolding up_to_end behind_statements
cards-split [] = refl
cards-split (card ∷ cards) = split-if (has_statement (card ∷ cards)) card cards (cards-split cards) where
  split-if : (b : Bool) (card : Card) (cards : List Card) → up_to_end cards ++ behind_statements cards ≡ cards
      → (if b then card ∷ up_to_end cards else []) ++ (if b then behind_statements cards else card ∷ cards) ≡ card ∷ cards
  split-if true card cards same = ap (λ rest. card ∷ rest) same
  split-if false card cards same = refl

-- the lines of two lists of cards
rows-split : (job : List ℕ) (rows : List Listed) (xs ys : List Card)
    → rows_lines job rows xs ++ rows_lines job (drop (length xs) rows) ys ≡ rows_lines job rows (xs ++ ys)
rows-split job [] [] ys = refl
rows-split job [] (x ∷ xs) ys = refl
rows-split job (row ∷ rows) [] ys = refl
rows-split job (row ∷ rows) (x ∷ xs) ys = ap (λ rest. card_line job row x ∷ rest) (rows-split job rows xs ys)

lines-listed : (job : List ℕ) (a : Assembly)
    → joined (listed_lines job a) ≡ rows_lines job a.rows (cards_of job) ++ symbols_lines a.symbols
lines-listed job a =
    let issue = up_to_end (cards_of job) in
    let behind = behind_statements (cards_of job) in
    lines-between (rows_lines job a.rows issue) (rows_lines job (drop (end_card job) a.rows) behind) (symbols_lines a.symbols)
    ∙ ap (λ lines. lines ++ symbols_lines a.symbols)
    (rows-split job a.rows issue behind ∙ ap (rows_lines job a.rows) (cards-split (cards_of job)))

lines-listing : (job : List ℕ) (a : Assembly) → joined (marked_listing job a) ≡ listing job a
unfolding marked_listing listing
lines-listing job a = listing-if a.asked.list (listed_lines job a) _ (lines-listed job a) where
  listing-if : (b : Bool) (xs : List Marked) (lines : List (List ℕ)) → joined xs ≡ lines
      → joined (if b then xs else []) ≡ (if b then lines else [])
  listing-if true xs lines same = same
  listing-if false xs lines same = refl

-- ---- the output of a command

lines-by : (job : List ℕ) (r : Result Assembly Refusal) → joined (marked_by job r) ≡ lines_of (ran_by [] job r).events
lines-by job (Ok a) =
    let start = scene_of_assembly job a in
    lines-append (marked_listing job a) (marked_run a.asked start)
    ∙ ap (λ issue. issue ++ joined (marked_run a.asked start)) (lines-listing job a ∙ sym (lines_of-at_moment 0 0 (listing job a)))
    ∙ ap (λ rest. lines_of (at_moment 0 0 (listing job a)) ++ rest) (lines-run a.asked start)
    ∙ sym (lines_of-append (at_moment 0 0 (listing job a)) (run_report a.asked start))
lines-by job (Err r) = lines-plain _

lines-load : (r : Result Program ℕ) → joined (marked_load r) ≡ lines_of (loaded_by r).events
lines-load (Ok p) = lines-run p.controls (loaded_start p)
lines-load (Err n) = lines-plain _

-- the control cards of a deck have the lines of all requests
lines-cards : (a : Asked) → joined (marked_cards a) ≡ map (λ card. card ++ lf) (control_cards a)
lines-cards a =
    lines-each (λ c. control_line forms.Card c ++ lf) is_delay (requests a)
    ∙ sym (map-map (λ card. card ++ lf) (control_line forms.Card) (requests a))

lines-object : (p : Program) → joined (marked_object p) ≡ object_text_lines p
unfolding object_text_lines
lines-object p =
    lines-each (λ text. text ++ lf) is_delay_line (map line_text (object_lines p))
    ∙ map-map (λ text. text ++ lf) line_text (object_lines p)

lines-deck : (p : Program) → joined (marked_deck p) ≡ deck_lines p
unfolding deck_lines
lines-deck p =
    let line : List ℕ → List ℕ = λ card. card ++ lf in
    let issue = word_cards 0 0 p.words ++ statement_card (end_text p.start) ∷ [] in
    let controls = marked_cards p.controls in
    lines-append (without_marks (map line issue)) controls
    ∙ ap (λ xs. xs ++ joined controls) (lines-plain (map line issue))
    ∙ ap (λ xs. map line issue ++ xs) (lines-cards p.controls)
    ∙ sym (map-append line issue (control_cards p.controls))

lines-assembled : (r : Result Assembly Refusal) → joined (marked_assembled r) ≡ lines_of (assembled_by r).events
lines-assembled (Ok a) = lines-object (program_in a) ∙ sym (lines_of-at_moment 0 0 (object_text_lines (program_in a)))
lines-assembled (Err r) = lines-plain _

lines-disassembled : (r : Result Program ℕ) → joined (marked_disassembled r) ≡ lines_of (disassembled_by r).events
lines-disassembled (Ok p) = deck-if (nat_le (card_count p) MOST_CARDS) (lines_alone Finished (deck_lines p)) _ (lines-deck p ∙ sym (lines_of-at_moment 0 0 (deck_lines p)))
  where
    deck-if : (b : Bool) (deck other : Output) → joined (marked_deck p) ≡ lines_of deck.events
        → joined (if b then marked_deck p else with_marks (lines_of (if b then deck else other).events)) ≡ lines_of (if b then deck else other).events
    deck-if true deck other same = same
    deck-if false deck other same = lines-marked _
lines-disassembled (Err n) = lines-plain _

pub lines-output : (command : Command) (job : List ℕ) (read : Result Program ℕ)
    → joined (marked_output command job read) ≡ lines_of (output_of command job read).events
unfolding marked_output output_of
lines-output Run job read = lines-by job (assembly job)
lines-output Load job read = lines-load read
lines-output Assemble job read = lines-assembled (assembly job)
lines-output Disassemble job read = lines-disassembled read
lines-output Sweep job read = lines-marked _
lines-output (Soak number cards) job read = lines-marked _
