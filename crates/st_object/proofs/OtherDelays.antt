-- Object texts that differ only in their delay lines contain programs that differ only in their
-- delays.
use Rattle.st_object.proofs.Common.{◌≡◌, ◌≤◌, ◌+◌, ◌==◌, ℕ, Bool, true, false, not, List, [], ◌∷◌, ◌++◌, drop, map, filter, Ok, refl, sym, subst, ◌∙◌, ap, append_assoc, append-nil, arith, cond_both, nat_tests, map-append, filter-append, line_end, pieces_of, All, flat_map, list_all, All-head, All-tail, keyword_order, keyword_of, Asked, control_line, asked_by, Budget, Delays, Keyword, Control, others-within, asked-keyword, line_text, word_lines, draft_at_start, Program, IsProgram, AreWords, object_lines, object_text, read_from, read_text, Item, Object, Start, Word, Fin, Ask}
use Rattle.std.proofs.lemmas.Bool.{and_parts as both}
use Rattle.st_card.specs.declared.keywords.Control.TheVariants.{Number, Once}
use Rattle.st_object.proofs.AcceptedTexts.{accepted}
use Rattle.st_object.proofs.ProgramLines.{made_again}
use Rattle.st_object.proofs.ReadBack.{parted-text_of, read_back}
use Rattle.st_object.specs.DelayLines.{is_delay_line, is_budget_line, with_delay_lines, DifferInDelayLines, HasDelayLines}
use Rattle.st_card.specs.declared.keywords.Keyword.TheVariants as keywords

-- the lines of items
abbrev lines_of : List Item → List (List ℕ)
lines_of items = map line_text items

-- lines without delay lines
abbrev others : List (List ℕ) → List (List ℕ)
others lines = filter (λ line. not (is_delay_line line)) lines

-- a program with these delays
abbrev with_delays : Program → List ℕ → Program
with_delays p delays = record p { controls = record p.controls { delays = delays } }

-- ---- lines other than delay lines are kept

abbrev Stay : List Item → Type 0
Stay items = others (lines_of items) ≡ lines_of items

stay-both : (xs ys : List Item) → Stay xs → Stay ys → Stay (xs ++ ys)
stay-both xs ys first second =
    ap others (map-append line_text xs ys) ∙ filter-append (λ line. not (is_delay_line line)) (lines_of xs) (lines_of ys)
    ∙ ap (λ l. l ++ others (lines_of ys)) first ∙ ap (λ l. lines_of xs ++ l) second ∙ sym (map-append line_text xs ys)

stay-words : (w : ℕ) (xs : List ℕ) → Stay (word_lines w xs)
unfolding line_text control_line is_delay_line
stay-words w [] = refl
stay-words w (x ∷ xs) =
    cond_both (x == 0) _ _ Stay (λ none. stay-words (w + 1) xs) (λ some. ap (λ l. line_text (Word w x) ∷ l) (stay-words (w + 1) xs))

-- whether a keyword is another one than that of the delays
abbrev is_other : Keyword → Bool
is_other (keywords.Number Delays) = false
is_other _ = true

not-delay : (c : Control) → is_other (keyword_of c) ≡ true → is_delay_line (line_text (Ask c)) ≡ false
unfolding line_text control_line is_delay_line
not-delay c other = grind arith

stay-asks : (keyword : Keyword) → is_other keyword ≡ true → (cs : List Control) → All (λ c. keyword_of c ≡ keyword) cs → Stay (map (λ c. Ask c) cs)
stay-asks keyword other [] same = refl
stay-asks keyword other (c ∷ cs) same =
    let here : keyword_of c ≡ keyword = All-head (λ c. keyword_of c ≡ keyword) c cs same in
    rw (not-delay c (rw here other))
    (ap (λ l. line_text (Ask c) ∷ l) (stay-asks keyword other cs (All-tail (λ c. keyword_of c ≡ keyword) c cs same)))

fin-stays : Stay (Fin ∷ [])
unfolding line_text is_delay_line
fin-stays = refl

-- the lines of requests other than delays are kept
stay-keywords : (a : Asked) (keywords : List Keyword) → list_all is_other keywords ≡ true → Stay (map (λ c. Ask c) (flat_map (λ k. asked_by k a) keywords))
stay-keywords a [] other = refl
stay-keywords a (k ∷ more) other =
    let tests = both (is_other k) (list_all is_other more) other in
    subst (λ (items : List Item). Stay items) (sym (map-append (λ c. Ask c) (asked_by k a) (flat_map (λ j. asked_by j a) more)))
    (stay-both (map (λ c. Ask c) (asked_by k a)) (map (λ c. Ask c) (flat_map (λ j. asked_by j a) more))
    (stay-asks k tests.0 (asked_by k a) (asked-keyword k a)) (stay-keywords a more tests.1))

-- the lines of delays
abbrev delay_lines : List ℕ → List Item
delay_lines delays = map (λ c. Ask c) (map (λ n. Number Delays n) delays)

none-stays : (delays : List ℕ) → others (lines_of (delay_lines delays)) ≡ []
unfolding line_text control_line is_delay_line
none-stays [] = refl
none-stays (d ∷ delays) = none-stays delays

-- ---- the lines of a program in four parts

-- the lines of a program up to the words
abbrev head : Program → List Item
head p = Object ∷ Start p.start ∷ [] ++ word_lines 0 p.words

-- the line of the budget
abbrev budget_lines : Program → List Item
budget_lines p = map (λ c. Ask c) (asked_by (keywords.Once Budget) p.controls)

-- the lines of a program after the delays
abbrev rest : Program → List Item
rest p = map (λ c. Ask c) (flat_map (λ k. asked_by k p.controls) (drop 2 keyword_order)) ++ Fin ∷ []

-- the pieces of a program's object text between its line ends
abbrev pieces : Program → List (List ℕ)
pieces p = lines_of (object_lines p) ++ [] ∷ []

in-parts : (p : Program) → object_lines p ≡ head p ++ (budget_lines p ++ (delay_lines p.controls.delays ++ rest p))
in-parts p =
    let budget = asked_by (keywords.Once Budget) p.controls in
    let delays = asked_by (keywords.Number Delays) p.controls in
    let more = flat_map (λ k. asked_by k p.controls) (drop 2 keyword_order) in
    let ask : List Control → List Item = λ cs. map (λ c. Ask c) cs in
    let split : ask (budget ++ (delays ++ more)) ≡ ask budget ++ (ask delays ++ ask more) =
    map-append (λ c. Ask c) budget (delays ++ more) ∙ ap (λ (l : List Item). ask budget ++ l) (map-append (λ c. Ask c) delays more) in
    let regrouped : (w b d m f : List Item) → w ++ (b ++ (d ++ m)) ++ f ≡ w ++ (b ++ (d ++ (m ++ f))) = λ w b d m f. simp append_assoc refl in
    ap (λ (l : List Item). head p ++ l ++ Fin ∷ []) split ∙ regrouped (head p) (ask budget) (ask delays) (ask more) (Fin ∷ [])

-- the lines of four consecutive parts, with an end
four-parts : (w b d r : List Item) (end : List (List ℕ)) → lines_of (w ++ (b ++ (d ++ r))) ++ end
    ≡ lines_of w ++ (lines_of b ++ (lines_of d ++ (lines_of r ++ end)))
four-parts w b d r end =
    rw (map-append line_text w (b ++ (d ++ r)), map-append line_text b (d ++ r), map-append line_text d r) (simp append_assoc refl)

pieces-parts : (p : Program) → pieces p
    ≡ lines_of (head p) ++ (lines_of (budget_lines p)
    ++ (lines_of (delay_lines p.controls.delays) ++ (lines_of (rest p) ++ [] ∷ [])))
pieces-parts p =
    ap (λ items. lines_of items ++ [] ∷ []) (in-parts p)
    ∙ four-parts (head p) (budget_lines p) (delay_lines p.controls.delays) (rest p) ([] ∷ [])

-- ---- without delays

stay-head : (p : Program) → Stay (head p)
unfolding line_text control_line is_delay_line
stay-head p = ap (λ l. line_text Object ∷ line_text (Start p.start) ∷ l) (stay-words 0 p.words)

stay-budget : (p : Program) → Stay (budget_lines p)
stay-budget p = stay-asks (keywords.Once Budget) refl (asked_by (keywords.Once Budget) p.controls) (asked-keyword (keywords.Once Budget) p.controls)

stay-rest : (p : Program) → Stay (rest p)
stay-rest p =
    stay-both (map (λ c. Ask c) (flat_map (λ k. asked_by k p.controls) (drop 2 keyword_order))) (Fin ∷ [])
    (stay-keywords p.controls (drop 2 keyword_order) refl) fin-stays

-- four parts without delay lines, one of which is dropped
three-left : (w b d r end : List (List ℕ)) → others w ≡ w → others b ≡ b → others d ≡ [] → others r ≡ r → others end ≡ end
    → others (w ++ (b ++ (d ++ (r ++ end)))) ≡ w ++ (b ++ (r ++ end))
three-left w b d r end one two three four five =
    let keep = λ (line : List ℕ). not (is_delay_line line) in
    filter-append keep w (b ++ (d ++ (r ++ end))) ∙ ap (λ l. l ++ others (b ++ (d ++ (r ++ end)))) one
    ∙ ap (λ l. w ++ l) (filter-append keep b (d ++ (r ++ end)) ∙ ap (λ l. l ++ others (d ++ (r ++ end))) two
    ∙ ap (λ l. b ++ l) (filter-append keep d (r ++ end) ∙ ap (λ l. l ++ others (r ++ end)) three
    ∙ filter-append keep r end ∙ ap (λ l. l ++ others end) four ∙ ap (λ l. r ++ l) five))

empty-stays : others ([] ∷ []) ≡ [] ∷ []
unfolding is_delay_line
empty-stays = refl

others-parts : (p : Program) → others (pieces p)
    ≡ lines_of (head p) ++ (lines_of (budget_lines p) ++ (lines_of (rest p) ++ [] ∷ []))
others-parts p =
    ap others (pieces-parts p)
    ∙ three-left (lines_of (head p)) (lines_of (budget_lines p)) (lines_of (delay_lines p.controls.delays))
    (lines_of (rest p)) ([] ∷ []) (stay-head p) (stay-budget p) (none-stays p.controls.delays) (stay-rest p) empty-stays

-- the lines of a program without delay lines
others-lines : (p : Program) → others (lines_of (object_lines p))
    ≡ lines_of (head p) ++ (lines_of (budget_lines p) ++ (lines_of (rest p) ++ []))
others-lines p =
    ap others (sym (append-nil (lines_of (object_lines p))) ∙ ap (λ items. lines_of items ++ []) (in-parts p)
    ∙ four-parts (head p) (budget_lines p) (delay_lines p.controls.delays) (rest p) [])
    ∙ three-left (lines_of (head p)) (lines_of (budget_lines p)) (lines_of (delay_lines p.controls.delays))
    (lines_of (rest p)) [] (stay-head p) (stay-budget p) (none-stays p.controls.delays) (stay-rest p) refl

-- the lines of a program without delay lines do not depend on its delays
pub others-same : (p : Program) (delays : List ℕ)
    → filter (λ line. not (is_delay_line line)) (map line_text (object_lines (record p { controls = record p.controls { delays = delays } })))
    ≡ filter (λ line. not (is_delay_line line)) (map line_text (object_lines p))
others-same p delays = others-lines (with_delays p delays) ∙ sym (others-lines p)

-- ---- with other delays

-- the lines of the words come before the inserted delay lines
passes-words : (delays : List ℕ) (w : ℕ) (xs : List ℕ) (more : List (List ℕ))
    → with_delay_lines delays (lines_of (word_lines w xs) ++ more) ≡ lines_of (word_lines w xs) ++ with_delay_lines delays more
unfolding line_text control_line is_budget_line
passes-words delays w [] more = refl
passes-words delays w (x ∷ xs) more =
    cond_both (x == 0) _ _ (λ items. with_delay_lines delays (lines_of items ++ more) ≡ lines_of items ++ with_delay_lines delays more)
    (λ none. passes-words delays (w + 1) xs more) (λ some. ap (λ l. line_text (Word w x) ∷ l) (passes-words delays (w + 1) xs more))

passes-head : (delays : List ℕ) (p : Program) (more : List (List ℕ))
    → with_delay_lines delays (lines_of (head p) ++ more) ≡ lines_of (head p) ++ with_delay_lines delays more
unfolding line_text control_line is_budget_line
passes-head delays p more = ap (λ l. line_text Object ∷ line_text (Start p.start) ∷ l) (passes-words delays 0 p.words more)

spelled-each : (delays : List ℕ) → map (λ d. line_text (Ask (Number Delays d))) delays ≡ lines_of (delay_lines delays)
spelled-each [] = refl
spelled-each (d ∷ delays) = ap (λ l. line_text (Ask (Number Delays d)) ∷ l) (spelled-each delays)

one-budget : (p : Program) → 1 ≤ p.controls.budget → budget_lines p ≡ Ask (Once Budget p.controls.budget) ∷ []
one-budget p some = let is : (p.controls.budget == 0) ≡ false = grind (arith, nat_tests) in rw is refl

-- the delay lines are inserted after the budget line
comes : (delays : List ℕ) (p : Program) (more : List (List ℕ)) → 1 ≤ p.controls.budget →
    with_delay_lines delays (lines_of (budget_lines p) ++ more) ≡ lines_of (budget_lines p) ++ (lines_of (delay_lines delays) ++ more)
unfolding line_text control_line is_budget_line
comes delays p more some =
    ap (λ items. with_delay_lines delays (lines_of items ++ more)) (one-budget p some)
    ∙ ap (λ l. line_text (Ask (Once Budget p.controls.budget)) ∷ (l ++ more)) (spelled-each delays)
    ∙ sym (ap (λ items. lines_of items ++ (lines_of (delay_lines delays) ++ more)) (one-budget p some))

exchanged : (p : Program) (delays : List ℕ) → 1 ≤ p.controls.budget → with_delay_lines delays (others (pieces p)) ≡ pieces (with_delays p delays)
exchanged p delays some =
    let end = lines_of (rest p) ++ [] ∷ [] in
    ap (with_delay_lines delays) (others-parts p)
    ∙ passes-head delays p (lines_of (budget_lines p) ++ end)
    ∙ ap (λ l. lines_of (head p) ++ l) (comes delays p end some)
    ∙ sym (pieces-parts (with_delays p delays))

-- ---- texts

pieces-are : (p : Program) → IsProgram p → AreWords p.words → pieces_of line_end (object_text p) ≡ pieces p
pieces-are p is each =
    let makes = made_again p is each in
    parted-text_of (object_lines p) draft_at_start makes.last makes.steps

text-pieces : (text : List ℕ) (p : Program) → read_text text ≡ Ok p → pieces_of line_end text ≡ pieces p
text-pieces text p read =
    let is = accepted text p read in
    ap (pieces_of line_end) is.same ∙ pieces-are p is.program is.words

-- an object text has the lines of its program's delays
pub has-lines : (text : List ℕ) (p : Program) → read_text text ≡ Ok p → HasDelayLines text p.controls.delays
has-lines text p read =
    let is = accepted text p read in
    let same = text-pieces text p read in
    record {
      some = is.program.delays;
      limits = is.program.limits.delays;
      lines = same ∙ sym (ap (λ l. with_delay_lines p.controls.delays (others l)) same
          ∙ exchanged p p.controls.delays is.program.budget);
    }

-- a text with equal lines apart from delay lines is read as the program with these delays
pub again-read : (text other delays : List ℕ) (p : Program) → read_text text ≡ Ok p → DifferInDelayLines text other
    → HasDelayLines other delays → read_text other ≡ Ok (with_delays p delays)
unfolding read_text
again-read text other delays p read same good =
    let is = accepted text p read in
    let program : IsProgram (with_delays p delays) = record {
      image = is.program.image;
      start = is.program.start;
      limits = others-within p.controls p.controls.budget delays is.program.limits (is.program.limits.once Budget) good.limits;
      budget = is.program.budget;
      delays = good.some;
      unlisted = is.program.unlisted;
    } in
    let lines : pieces_of line_end other ≡ pieces_of line_end (object_text (with_delays p delays)) =
    good.lines ∙ ap (with_delay_lines delays) (sym same)
    ∙ ap (λ l. with_delay_lines delays (others l)) (text-pieces text p read)
    ∙ exchanged p delays is.program.budget ∙ sym (pieces-are (with_delays p delays) program is.words) in
    ap (read_from draft_at_start 1) lines ∙ read_back (with_delays p delays) program is.words

-- two object texts with equal lines apart from delay lines contain programs that differ only in
-- their delays
pub lines-differ : (text other : List ℕ) (p q : Program) → read_text text ≡ Ok p → read_text other ≡ Ok q → DifferInDelayLines text other
    → with_delays p q.controls.delays ≡ q
lines-differ text other p q is also same =
    let again = again-read text other q.controls.delays p is same (has-lines other q also) in cc
