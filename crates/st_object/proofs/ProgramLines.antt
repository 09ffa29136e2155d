-- The lines of a program, added one by one, make that program.
use Rattle.st_object.proofs.Common.{◌≡◌, ◌≤◌, ◌<◌, ◌+◌, ◌-◌, ◌^◌, ◌==◌, ℕ, suc, Bool, true, false, List, [], ◌∷◌, ◌++◌, length, get_or, map, replicate, Some, refl, ap, sym, subst, ◌∙◌, append_assoc, append-nil, length-append, arith, cond_both, All, nat_tests, common_steps, length-map, length-replicate, map-append, replicate_more, words_of_storage, words_of_storage_is, place, keyword_of, Asked, nothing_asked, with_control, asked_by, requests, Delays, Keyword, Control, Steps, asked_before, steps-of, all-steps, word_lines, Draft, draft_at_start, is_whole, has_place, may_hold, draft_with_value, with_item, IsItem, Program, IsProgram, AreWords, object_lines, filled_up, program_of, Item, Object, Start, Word, Fin, Ask}
use Rattle.std.proofs.lemmas.Bool.{eqb-true as same_number, lt-ltb as below}
use Rattle.st_object.proofs.FurtherLines.{place_kept}
use Rattle.st_object.proofs.WrittenLines.{draft_of}
use Rattle.st_card.specs.declared.keywords.Control.TheVariants as asks
use Rattle.st_object.specs.declared.items.Kind.TheVariants as kinds

-- a line that can be read and may come next
abbrev IsStep : Draft → Item → Draft → Type 0
IsStep d item e = (with_item d item ≡ Some e) × IsItem item

-- lines that can be read and may come one after the other lead from one draft to another
abbrev pub Leads : Draft → List Item → Draft → Type 0
Leads d [] e = d ≡ e
Leads d (item ∷ more) e = (next : Draft) × (with_item d item ≡ Some next) × IsItem item × Leads next more e

leads_on : (d e f : Draft) (xs ys : List Item) → Leads d xs e → Leads e ys f → Leads d (xs ++ ys) f
leads_on d e f [] ys first second = rw first second
leads_on d e f (x ∷ xs) ys first second = (first.0, first.1, first.2, leads_on first.0 e f xs ys first.3 second)

one : (d e : Draft) (item : Item) → IsStep d item e → Leads d (item ∷ []) e
one d e item step = (e, step.0, step.1, refl)

-- a draft before its last line
abbrev open_draft : ℕ → List ℕ → Asked → Draft
open_draft h ws a = record { begun = true; start = Some h; words = ws; asked = a; ended = false }

some_is : (n : ℕ) → 1 ≤ n → (n == 0) ≡ false
some_is n some = grind (arith, nat_tests)

-- the words that lines add, with zeros after them
record Adds (h : ℕ) (ws whole : List ℕ) (items : List Item) : Type 0 where
  last : List ℕ
  zeros : ℕ
  filled : last ++ replicate zeros 0 ≡ whole
  steps : Leads (open_draft h ws nothing_asked) items (open_draft h last nothing_asked)

-- the address of a word that is not zero is above the registers, so a line may have it
holds : (next w x : ℕ) → (w < 32 → x ≡ 0) → next ≤ w → w < words_of_storage → (x == 0) ≡ false → may_hold next w x ≡ true
holds next w x registers behind inside some = grind (arith, nat_tests)

add_words : (h k w : ℕ) (ws rest : List ℕ) → w ≡ length ws + k → ((i : ℕ) → w + i < 32 → get_or rest i 0 ≡ 0) →
    w + length rest ≤ words_of_storage → All (λ x. x < 2 ^ 64) rest → Adds h ws (ws ++ replicate k 0 ++ rest) (word_lines w rest)
unfolding has_place draft_with_value
add_words h k w ws [] place registers room each = record { last = ws; zeros = k; filled = sym (append-nil (ws ++ replicate k 0)); steps = refl }
add_words h k w ws (x ∷ rest) place registers room each =
    let storage : words_of_storage ≡ 98304 = words_of_storage_is in
    let behind_registers : (i : ℕ) → w + 1 + i < 32 → get_or rest i 0 ≡ 0 = λ i low. registers (suc i) (omega arith) in
    let behind_each : All (λ y. y < 2 ^ 64) rest = λ i d within. each (suc i) d (omega arith) in
    cond_both (x == 0) _ _ (λ items. Adds h ws (ws ++ replicate k 0 ++ x ∷ rest) items)
    (λ none.
    let same : ws ++ replicate (k + 1) 0 ++ rest ≡ ws ++ replicate k 0 ++ x ∷ rest =
    rw (same_number x 0 none, ← replicate_more {X = ℕ} k 0) (simp append_assoc) in
    rw same at (add_words h (k + 1) (w + 1) ws rest (omega arith) behind_registers (omega arith) behind_each))
    (λ some.
    let new : List ℕ = ws ++ replicate (w - length ws) 0 ++ x ∷ [] in
    let gap : w - length ws ≡ k = omega arith in
    let size : length new ≡ w + 1 = rw gap (simp (length-append, length-replicate) (omega arith)) in
    let same : new ++ [] ++ rest ≡ ws ++ replicate k 0 ++ x ∷ rest = rw gap (simp (append_assoc, append-nil)) in
    let later = rw same at (add_words h 0 (w + 1) new rest (omega arith) behind_registers (omega arith) behind_each) in
    let fits = holds (length ws) w x (λ low. registers 0 (omega arith)) (omega arith) (omega arith) some in
    let readable : IsItem (Word w x) = (omega arith, each 0 0 (omega arith)) in
    record { last = later.last; zeros = later.zeros; filled = later.filled; steps = (open_draft h new nothing_asked, rw fits, readable, later.steps) })

-- words up to the last that is not zero, padded with zeros again, are the words
filled_again : (last words : List ℕ) (count : ℕ) → last ++ replicate count 0 ≡ words → length words ≡ words_of_storage →
    filled_up last ≡ words
filled_again last words count whole size = grind (arith, common_steps)

ask_added : (d : Draft) (c : Control) (next : Asked) → has_place d (kinds.Ask (keyword_of c)) ≡ true → with_control d.asked c ≡ Some next →
    with_item d (Ask c) ≡ Some (record d { asked = next })
unfolding draft_with_value
ask_added d c next here added = rw (here, added)

-- requests that can be added one by one have lines that can be read one by one
leads_asks : (keyword : Keyword) (d : Draft) (cs : List Control) (b : Asked) → has_place d (kinds.Ask keyword) ≡ true → Steps keyword d.asked cs b →
    Leads d (map (λ c. Ask c) cs) (record d { asked = b })
leads_asks keyword d [] b placed steps = ap (λ (a : Asked). record d { asked = a }) steps
leads_asks keyword d (c ∷ cs) b placed steps =
    let next : Draft = record d { asked = steps.0 } in
    let here : has_place d (kinds.Ask (keyword_of c)) ≡ true = rw steps.2 placed in
    let further : has_place next (kinds.Ask keyword) ≡ true = rw steps.2 at (place_kept d c steps.0 steps.1 here) in
    (next, ask_added d c steps.0 here steps.1, steps.3, leads_asks keyword next cs b further steps.4)

-- the requests of a program within its limits
module _ (p : Program) (is : IsProgram p) (ws : List ℕ) where
  budget : (p.controls.budget == 0) ≡ false
  budget = some_is p.controls.budget is.budget

  delays : (length (map (λ n. asks.Number Delays n) p.controls.delays) == 0) ≡ false
  delays = some_is (length (map (λ n. asks.Number Delays n) p.controls.delays)) (simp length-map (omega (arith, is.delays)))

  -- the lines of a keyword may come after those of the keywords before it
  placed : (keyword : Keyword) → has_place (open_draft p.start ws (asked_before p.controls (place keyword))) (kinds.Ask keyword) ≡ true
  unfolding has_place
  placed keyword = grind (arith, budget, delays)

  leads_requests : Leads (open_draft p.start ws nothing_asked) (map (λ c. Ask c) (requests p.controls)) (open_draft p.start ws (record p.controls { list = false }))
  leads_requests =
      let R : Asked → List Control → Asked → Type 0 = λ b cs c. Leads (open_draft p.start ws b) (map (λ c. Ask c) cs) (open_draft p.start ws c) in
      all-steps p.controls R (λ b. refl)
      (λ b c d xs ys first second.
      subst (λ (items : List Item). Leads (open_draft p.start ws b) items (open_draft p.start ws d)) (sym (map-append (λ c. Ask c) xs ys))
      (leads_on (open_draft p.start ws b) (open_draft p.start ws c) (open_draft p.start ws d) (map (λ c. Ask c) xs) (map (λ c. Ask c) ys) first second))
      (λ keyword.
      leads_asks keyword (open_draft p.start ws (asked_before p.controls (place keyword))) (asked_by keyword p.controls) (asked_before p.controls (place keyword + 1))
      (placed keyword) (steps-of p.controls is.limits keyword))

  -- the last line
  abbrev last_draft : Draft
  last_draft = record (draft_of p) { words = ws; asked = record p.controls { list = false } }

  fin_added : with_item (open_draft p.start ws (record p.controls { list = false })) Fin ≡ Some last_draft
  unfolding has_place draft_with_value
  fin_added = rw (budget, delays)

  fin_whole : is_whole last_draft ≡ true
  unfolding is_whole
  fin_whole = rw (budget, delays)

-- the whole draft of a program, and the lines that lead to it
pub record Makes (p : Program) : Type 0 where
  pub last : Draft
  pub steps : Leads draft_at_start (object_lines p) last
  pub ended : is_whole last ≡ true
  pub program : program_of last ≡ p

-- the first two lines
leads_start : (h : ℕ) → h < 2 ^ 19 → Leads draft_at_start (Object ∷ Start h ∷ []) (open_draft h [] nothing_asked)
unfolding has_place draft_with_value
leads_start h small = (record draft_at_start { begun = true }, refl, tt, (open_draft h [] nothing_asked, rw (below h (2 ^ 19) small), omega (arith, small), refl))

pub made_again : (p : Program) → IsProgram p → AreWords p.words → Makes p
made_again p is each =
    let words = add_words p.start 0 0 [] p.words refl (λ i low. is.image.registers i (omega (arith, low))) (omega (arith, is.image.size)) each in
    let ws : List ℕ = words.last in
    let asks : List Item = map (λ c. Ask c) (requests p.controls) in
    let last : Draft = last_draft p is ws in
    let before : Draft = open_draft p.start ws (record p.controls { list = false }) in
    let requested = leads_on (open_draft p.start [] nothing_asked) (open_draft p.start ws nothing_asked) before
    (word_lines 0 p.words) asks words.steps (leads_requests p is ws) in
    let finished = leads_on (open_draft p.start [] nothing_asked) before last (word_lines 0 p.words ++ asks) (Fin ∷ []) requested
    (one before last Fin (fin_added p is ws, tt)) in
    record {
      last = last;
      steps = leads_on draft_at_start (open_draft p.start [] nothing_asked) last (Object ∷ Start p.start ∷ []) (word_lines 0 p.words ++ asks ++ Fin ∷ [])
          (leads_start p.start is.start) finished;
      ended = fin_whole p is ws;
      program = ap (λ (s : List ℕ). record p { words = s; controls = record p.controls { list = false } }) (filled_again ws p.words words.zeros words.filled is.image.size)
          ∙ ap (λ (b : Bool). record p { controls = record p.controls { list = b } }) (sym is.unlisted);
    }
