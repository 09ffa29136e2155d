-- A line that is added comes after the lines that were read before.
use Rattle.st_object.proofs.Common.{◌≡◌, ◌≤◌, ◌+◌, ◌-◌, ◌==◌, ◌&&◌, ◌||◌, ℕ, suc, zero, Bool, true, false, not, Option, List, [], ◌∷◌, ◌++◌, length, map, replicate, Some, None, if◌then◌else◌, refl, ap, sym, subst, ◌∙◌, append_assoc, append-nil, arith, map-append, flat_map-append, nat_tests, common_steps, flat_map, option_map, keyword_of, Asked, with_control, asked_by, Control, asked_then, then-is, then-last, word_lines, order, row_of_kind, kinds_before, kinds_behind, kind_of_line, are_met, none_stands, Draft, is_empty, kind_lines, lines_read, has_line, has_place, draft_with_value, with_item, Item, Object, Start, Word, Fin, Ask, Kind}
use Rattle.st_object.specs.declared.items.Kind.TheVariants as kinds

-- a list of length zero is empty
none_of : {X : Type 0} (xs : List X) → (length xs == 0) ≡ true → xs ≡ []
none_of [] none = refl
none_of (x ∷ xs) none = grind (arith, nat_tests)

twice_not : (b : Bool) → not (not b) ≡ true → b ≡ true
twice_not true off = refl
twice_not false off = cc

no_lines : (d : Draft) (kind : Kind) → not (has_line d kind) ≡ true → kind_lines d kind ≡ []
no_lines d (kinds.Ask keyword) off =
    ap (λ cs. map (λ c. Ask c) cs) (none_of (asked_by keyword d.asked) (twice_not _ off))
no_lines d kinds.Object off = grind arith
no_lines d kinds.Start off = grind arith
no_lines d kinds.Word off = grind (arith, nat_tests, none_of)
no_lines d kinds.Fin off = grind arith

pub no_lines_of : (d : Draft) (kinds : List Kind) → none_stands (has_line d) kinds ≡ true → flat_map (λ kind. kind_lines d kind) kinds ≡ []
no_lines_of d [] off = refl
no_lines_of d (kind ∷ more) off = grind (arith, no_lines d, no_lines_of d more)

-- the order of kinds, split at a kind
pub cut : (kind : Kind) → kinds_before kind ++ kind ∷ kinds_behind kind ≡ order
cut kind = grind arith

-- the draft after an item is added: the lines before its kind are unchanged, the item is the last
-- of its kind, and no line comes after it
pub record IsPut (kind : Kind) (d : Draft) (item : Item) (e : Draft) : Type 0 where
  pub front : flat_map (λ k. kind_lines e k) (kinds_before kind) ≡ flat_map (λ k. kind_lines d k) (kinds_before kind)
  pub here : kind_lines e kind ≡ kind_lines d kind ++ item ∷ []
  pub there : has_line e kind ≡ true
  pub met : are_met (has_line e) (kinds_before kind) ≡ true
  pub none_then : none_stands (has_line d) (kinds_behind kind) ≡ true
  pub none_now : none_stands (has_line e) (kinds_behind kind) ≡ true

-- the parts of the test whether a line may come next
place_parts : (met repeats here none : Bool) → (met && (repeats || not here) && none) ≡ true →
    (met ≡ true) × ((none ≡ true) × (repeats ≡ false → not here ≡ true))
place_parts met repeats here none placed = grind arith

-- the lines before a kind, and the flags of the kinds around it
abbrev beside : Draft → Kind → List Item × (Bool × Bool)
beside d kind = (flat_map (λ k. kind_lines d k) (kinds_before kind), (are_met (has_line d) (kinds_before kind), none_stands (has_line d) (kinds_behind kind)))

-- the lines of a draft end with a kind if no kind after it has been read
lines_up_to : (kind : Kind) (d : Draft) → none_stands (has_line d) (kinds_behind kind) ≡ true →
    lines_read d ≡ flat_map (λ k. kind_lines d k) (kinds_before kind) ++ kind_lines d kind
lines_up_to kind d none =
    ap (λ ks. flat_map (λ k. kind_lines d k) ks) (sym (cut kind))
    ∙ rw (flat_map-append (λ k. kind_lines d k) (kinds_before kind) (kind ∷ kinds_behind kind), no_lines_of d (kinds_behind kind) none, append-nil)

abbrev Grows : List Item → List Item → Item → Type 0
Grows old new item = new ≡ old ++ item ∷ []

put_last : (kind : Kind) (d e : Draft) (item : Item) → IsPut kind d item e → Grows (lines_read d) (lines_read e) item
put_last kind d e item is =
    lines_up_to kind e is.none_now
    ∙ rw (is.front, is.here, ← append_assoc (flat_map (λ k. kind_lines d k) (kinds_before kind)) (kind_lines d kind) (item ∷ []))
    (ap (λ (s : List Item). s ++ item ∷ []) (sym (lines_up_to kind d is.none_then)))

-- a list with one more item has one more line
mapped_more : {X : Type 0} (f : X → Item) (xs : List X) (x : X) → Grows (map f xs) (map f (xs ++ x ∷ [])) (f x)
mapped_more f xs x = map-append f xs (x ∷ [])

pub filled_more : {X : Type 0} (xs : List X) (x : X) → not (is_empty (xs ++ x ∷ [])) ≡ true
filled_more [] x = refl
filled_more (y ∷ ys) x = grind (arith, nat_tests)

-- the lines of two consecutive lists of words
pub word_lines-append : (w : ℕ) (xs ys : List ℕ) → word_lines w (xs ++ ys) ≡ word_lines w xs ++ word_lines (w + length xs) ys
word_lines-append w [] ys = let same : w ≡ w + 0 = omega arith in ap (λ k. word_lines k ys) same
word_lines-append w (x ∷ xs) ys = grind (arith, word_lines-append (w + 1) xs ys)

-- zeros have no lines
pub word_lines-zeros : (w n : ℕ) → word_lines w (replicate n 0) ≡ []
word_lines-zeros w zero = refl
word_lines-zeros w (suc n) = word_lines-zeros (w + 1) n

-- the line of a word after zeros
word_more : (xs : List ℕ) (w x : ℕ) → length xs ≤ w → (x == 0) ≡ false →
    Grows (word_lines 0 xs) (word_lines 0 (xs ++ replicate (w - length xs) 0 ++ x ∷ [])) (Word w x)
word_more xs w x within some = grind (arith, common_steps, word_lines-append, word_lines-zeros)

-- the draft with an item's contents, without checks
abbrev said : Draft → Item → Draft
said d Object = record d { begun = true }
said d (Start h) = record d { start = Some h }
said d (Word w x) = record d { words = d.words ++ replicate (w - length d.words) 0 ++ x ∷ [] }
said d (Ask c) = record d { asked = asked_then d.asked c }
said d Fin = record d { ended = true }

-- an item that is accepted gives that draft
value_said : (d e : Draft) (item : Item) → draft_with_value d item ≡ Some e → said d item ≡ e
unfolding draft_with_value
value_said d e (Ask c) same =
    let mapped : (o : Option Asked) → option_map (λ a. record d { asked = a }) o ≡ Some e → (a : Asked) × ((o ≡ Some a) × (record d { asked = a } ≡ e)) =
    λ o is. grind arith in
    let new = mapped (with_control d.asked c) same in
    ap (λ (a : Asked). record d { asked = a }) (then-is d.asked new.0 c new.1.0) ∙ new.1.1
value_said d e Object same = grind arith
value_said d e (Start h) same = grind arith
value_said d e (Word w x) same = grind arith
value_said d e Fin same = grind arith

-- an item changes only the lines of its kind, and becomes the last of them
beside_said : (d : Draft) (item : Item) → beside (said d item) (kind_of_line item) ≡ beside d (kind_of_line item)
beside_said d item = grind arith

-- a request leaves a place for others with its keyword
pub place_kept : (d : Draft) (c : Control) (next : Asked) → with_control d.asked c ≡ Some next →
    has_place d (kinds.Ask (keyword_of c)) ≡ true → has_place (record d { asked = next }) (kinds.Ask (keyword_of c)) ≡ true
unfolding has_place
place_kept d c next added placed =
    let beside_next : beside (record d { asked = next }) (kinds.Ask (keyword_of c)) ≡ beside d (kinds.Ask (keyword_of c)) =
    ap (λ (a : Asked). beside (record d { asked = a }) (kinds.Ask (keyword_of c))) (sym (then-is d.asked next c added)) ∙ beside_said d (Ask c) in
    ap (λ t. t.1.0 && true && t.1.1) beside_next ∙ placed

abbrev IsLast : Draft → Item → Type 0
IsLast d item = (Grows (kind_lines d (kind_of_line item)) (kind_lines (said d item) (kind_of_line item)) item) × (has_line (said d item) (kind_of_line item) ≡ true)

said_last : (d e : Draft) (item : Item) → draft_with_value d item ≡ Some e → ((row_of_kind (kind_of_line item)).repeats ≡ false → kind_lines d (kind_of_line item) ≡ []) → IsLast d item
unfolding draft_with_value
said_last d e (Ask c) same first =
    let mapped : (o : Option Asked) → option_map (λ a. record d { asked = a }) o ≡ Some e → (a : Asked) × (o ≡ Some a) = λ o is. grind arith in
    let new = mapped (with_control d.asked c) same in
    let last = then-last d.asked new.0 c new.1 in (
      ap (λ cs. map (λ c. Ask c) cs) last ∙ mapped_more (λ c. Ask c) (asked_by (keyword_of c) d.asked) c,
      ap (λ cs. not (is_empty cs)) last ∙ filled_more (asked_by (keyword_of c) d.asked) c,
    )
said_last d e Object same first = grind arith
said_last d e (Start h) same first = grind (arith, nat_tests)
said_last d e (Word w x) same first = grind (arith, nat_tests, word_more, filled_more)
said_last d e Fin same first = grind arith

-- each accepted line changes the draft in this way
pub added : (d e : Draft) (item : Item) → with_item d item ≡ Some e → IsPut (kind_of_line item) d item e
unfolding has_place
added d e item same =
    let kind : Kind = kind_of_line item in
    let given : (b : Bool) (o : Option Draft) → (if b then o else None) ≡ Some e → (b ≡ true) × (o ≡ Some e) = λ b o is. grind arith in
    let parts = given (has_place d kind) (draft_with_value d item) same in
    let places = place_parts (are_met (has_line d) (kinds_before kind)) (row_of_kind kind).repeats (has_line d kind) _ parts.0 in
    let last = said_last d e item parts.1 (λ once. no_lines d kind (places.1.1 once)) in
    let beside : beside (said d item) kind ≡ beside d kind = beside_said d item in
    subst (λ (x : Draft). IsPut kind d item x) (value_said d e item parts.1) record {
      front = ap (λ t. t.0) beside;
      here = last.0;
      there = last.1;
      met = ap (λ t. t.1.0) beside ∙ places.0;
      none_then = places.1.0;
      none_now = ap (λ t. t.1.1) beside ∙ places.1.0;
    }

-- each accepted line is appended to the lines that were read before
pub grown : (d e : Draft) (item : Item) → with_item d item ≡ Some e → Grows (lines_read d) (lines_read e) item
grown d e item same = put_last (kind_of_line item) d e item (added d e item same)
