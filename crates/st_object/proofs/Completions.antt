-- Lines that were read can be followed by other lines up to a complete program.
use Rattle.st_object.proofs.Common.{IsWithinLimits, others-within, Budget, ◌≡◌, ◌≤◌, ◌==◌, ℕ, Bool, true, false, not, List, [], ◌∷◌, ◌++◌, Some, unwrap_or, if◌then◌else◌, refl, ap, subst, ◌∙◌, append_assoc, arith, or_right, cond_both, nat_tests, length-map, flat_map, is_in_range, AreDelays, order, row_of_kind, kinds_before, kinds_behind, kind_of_line, is_met, are_met, none_stands, Draft, draft_at_start, IsDraft, is_empty, kind_lines, lines_read, has_line, is_whole, with_item, object_text_of, program_of, BeginsObjectText, Item, Kind}
use Rattle.std.proofs.lemmas.List.Sums.{AllPass-from_list_all}
use Rattle.st_object.proofs.FurtherLines.{no_lines_of, cut, IsPut, added}
use Rattle.st_object.proofs.WrittenLines.{text_of-append}
use Rattle.st_object.proofs.WholeDrafts.{start_small, whole_program, whole_words, whole_lines_of}

-- after the first required kind that is missing, no kind has been read
abbrev orderly : Draft → List Kind → Bool
orderly d [] = true
orderly d (kind ∷ more) = if is_met (has_line d) kind then orderly d more else none_stands (has_line d) (kind ∷ more)

abbrev pub IsOrderly : Draft → Type 0
IsOrderly d = orderly d order ≡ true

pub blank_orderly : IsOrderly draft_at_start
blank_orderly = refl

none_orderly : (d : Draft) (kinds : List Kind) → none_stands (has_line d) kinds ≡ true → orderly d kinds ≡ true
none_orderly d [] none = refl
none_orderly d (kind ∷ more) none = grind (arith, none_orderly d more)

met_orderly : (d : Draft) (xs ys : List Kind) → are_met (has_line d) xs ≡ true → orderly d ys ≡ true → orderly d (xs ++ ys) ≡ true
met_orderly d [] ys met later = later
met_orderly d (kind ∷ xs) ys met later = grind (arith, met_orderly d xs ys)

-- each line that is added keeps the order
put_orderly : (kind : Kind) (d e : Draft) (item : Item) → IsPut kind d item e → IsOrderly e
put_orderly kind d e item is =
    subst (λ ks. orderly e ks ≡ true) (cut kind)
    (met_orderly e (kinds_before kind) (kind ∷ kinds_behind kind) is.met
    (rw (or_right (not (row_of_kind kind).required) (has_line e kind) is.there) (none_orderly e (kinds_behind kind) is.none_now)))

pub ordered : (d e : Draft) (item : Item) → with_item d item ≡ Some e → IsOrderly e
ordered d e item same = put_orderly (kind_of_line item) d e item (added d e item same)

-- a draft with the missing required lines added
abbrev completion : Draft → Draft
completion d = record {
  begun = true;
  start = Some (unwrap_or d.start 0);
  words = d.words;
  asked = record d.asked {
    budget = if d.asked.budget == 0 then 1 else d.asked.budget;
    delays = if is_empty d.asked.delays then 1 ∷ [] else d.asked.delays;
  };
  ended = true;
}

met_kept : (d : Draft) (kind : Kind) → is_met (has_line d) kind ≡ true → kind_lines (completion d) kind ≡ kind_lines d kind
met_kept d kind met = grind (arith, length-map)

-- the lines of the completed draft begin with those that were read
abbrev GoesOn : Draft → List Kind → Type 0
GoesOn d kinds = (more : List Item) × (flat_map (λ k. kind_lines (completion d) k) kinds ≡ flat_map (λ k. kind_lines d k) kinds ++ more)

goes_on : (d : Draft) (kinds : List Kind) → orderly d kinds ≡ true → GoesOn d kinds
goes_on d [] orders = ([], refl)
goes_on d (kind ∷ kinds) orders = go (is_met (has_line d) kind) refl (λ later_orders. goes_on d kinds later_orders) orders
  where
    go : (b : Bool) → is_met (has_line d) kind ≡ b → (orderly d kinds ≡ true → GoesOn d kinds) →
        (if b then orderly d kinds else none_stands (has_line d) (kind ∷ kinds)) ≡ true → GoesOn d (kind ∷ kinds)
    go true met on later_orders = let later = on later_orders in (later.0, rw (met_kept d kind met, later.1, append_assoc))
    go false lacking on none = (flat_map (λ k. kind_lines (completion d) k) (kind ∷ kinds), rw (no_lines_of d (kind ∷ kinds) none))

-- the budget and the delays of the completed draft are within their limits
some_limits : (n : ℕ) (ds : List ℕ) → n ≤ 10000000 → AreDelays ds →
    ((if n == 0 then 1 else n) ≤ 10000000) × AreDelays (if is_empty ds then 1 ∷ [] else ds)
some_limits n ds few are = (
  cond_both (n == 0) 1 n (λ k. k ≤ 10000000) (λ none. omega arith) (λ some. few),
  cond_both (is_empty ds) (1 ∷ []) ds (λ xs. AreDelays xs)
      (λ none. record { each = AllPass-from_list_all (is_in_range 1 255) (1 ∷ []) refl; few = omega arith }) (λ some. are),
)

completion_draft : (d : Draft) → IsDraft d → IsDraft (completion d)
completion_draft d draft =
    let small = start_small d.start draft.start in
    let some = some_limits d.asked.budget d.asked.delays (draft.limits.once Budget) draft.limits.delays in
    let limits : IsWithinLimits (completion d).asked = others-within d.asked _ _ draft.limits some.0 some.1 in
    assumption

completion_whole : (d : Draft) → is_whole (completion d) ≡ true
unfolding is_whole
completion_whole d = grind (arith, nat_tests, length-map)

-- an object text begins with the lines that were read
pub begins : (d : Draft) (front : List ℕ) → IsDraft d → IsOrderly d → object_text_of (lines_read d) ≡ front → BeginsObjectText front
begins d front draft orders same =
    let last = completion d in
    let is = completion_draft d draft in
    let whole = completion_whole d in
    let on = goes_on d order orders in
    let text = ap (λ (s : List Item). object_text_of s) (whole_lines_of last whole ∙ on.1) ∙ (text_of-append (lines_read d) on.0 ∙ rw same) in
    (program_of last, whole_program last is whole, whole_words last is, object_text_of on.0, text)
