-- Lemmas on writing an object text line by line.
use Rattle.st_object.proofs.Common.{◌≡◌, ◌<◌, ◌+◌, ℕ, true, List, [], ◌∷◌, ◌++◌, length, map, take, get_or, refl, ap, sym, ◌∙◌, append_assoc, arith, Some, flat_map, map-append, flat_map-map, common_steps, flat_map-append, lf, keyword_order, control_line, text_of_lines, unless_zero, asked_by, requests, Keyword, Control, ObjectLine, line_text, object_text_of, word_lines, Draft, kind_lines, lines_read, Program, object_lines, Item, Object, Start, Word, Fin, Ask}
use Rattle.st_object.proofs.FurtherLines.{word_lines-append}
use Rattle.st_object.specs.declared.items.Kind.TheVariants as kinds

pub text_of-append : (xs ys : List Item) → object_text_of (xs ++ ys) ≡ object_text_of xs ++ object_text_of ys
text_of-append xs ys = flat_map-append (λ i. line_text i ++ lf) xs ys

-- the line of one more word, if it is not zero
word_taken : (xs : List ℕ) (i x : ℕ) → i < length xs → get_or xs i 0 ≡ x →
    word_lines 0 (take (i + 1) xs) ≡ word_lines 0 (take i xs) ++ unless_zero x (Word i x)
word_taken xs i x within here = grind (arith, common_steps, word_lines-append)

pub words_more : (old now new : List ℕ) (xs : List ℕ) (i x : ℕ) → i < length xs → get_or xs i 0 ≡ x →
    now ≡ old ++ object_text_of (word_lines 0 (take i xs)) → new ≡ now ++ object_text_of (unless_zero x (Word i x)) →
    new ≡ old ++ object_text_of (word_lines 0 (take (i + 1) xs))
words_more old now new xs i x within here before further =
    rw (further, before, word_taken xs i x within here, text_of-append (word_lines 0 (take i xs)) (unless_zero x (Word i x)), append_assoc)

-- the text of requests as the text of items
pub controls-written : (cs : List Control) → text_of_lines (map (control_line ObjectLine) cs) ≡ object_text_of (map (λ c. Ask c) cs)
unfolding line_text
controls-written cs =
    flat_map-map (λ l. l ++ lf) (control_line ObjectLine) cs ∙ sym (flat_map-map (λ i. line_text i ++ lf) (λ c. Ask c) cs)

-- the complete draft of a program
abbrev pub draft_of : Program → Draft
draft_of p = record { begun = true; start = Some p.start; words = p.words; asked = p.controls; ended = true }

-- the lines of requests, by keyword
ask_lines : (p : Program) (keywords : List Keyword) →
    flat_map (λ kind. kind_lines (draft_of p) kind) (map (λ k. kinds.Ask k) keywords ++ kinds.Fin ∷ [])
    ≡ map (λ c. Ask c) (flat_map (λ k. asked_by k p.controls) keywords) ++ Fin ∷ []
ask_lines p [] = refl
ask_lines p (k ∷ more) =
    let here : List Item = map (λ c. Ask c) (asked_by k p.controls) in
    let later : List Item = map (λ c. Ask c) (flat_map (λ j. asked_by j p.controls) more) in
    ap (λ (s : List Item). here ++ s) (ask_lines p more)
    ∙ sym (append_assoc here later (Fin ∷ []))
    ∙ ap (λ (s : List Item). s ++ Fin ∷ []) (sym (map-append (λ c. Ask c) (asked_by k p.controls) (flat_map (λ j. asked_by j p.controls) more)))

-- the lines of a program's complete draft are those of the program
pub whole_lines : (p : Program) → lines_read (draft_of p) ≡ object_lines p
whole_lines p =
    let words = word_lines 0 p.words in
    let asks : List Item = map (λ c. Ask c) (requests p.controls) in
    ap (λ (s : List Item). Object ∷ Start p.start ∷ (words ++ s)) (ask_lines p keyword_order)
    ∙ ap (λ (s : List Item). Object ∷ Start p.start ∷ s) (sym (append_assoc words asks (Fin ∷ [])))
