-- The invariants of drafts are preserved by a further line.
use Rattle.st_object.proofs.Common.{◌≡◌, ◌+◌, ◌≤◌, ◌<◌, ◌-◌, ◌^◌, ℕ, Bool, true, false, nat_lt, List, [], ◌∷◌, ◌++◌, length, get_or, replicate, Option, Some, None, if◌then◌else◌, ap, sym, ◌∙◌, length-append, arith, lit<, common_steps, AllPass, option_map, length-replicate, All-append, All-replicate, nat_tests, words_of_storage, keyword_of, numbers_of, Asked, with_control, Control, is_tick, keyword-kept, then-is, then-unlisted, Draft, IsDraft, may_hold, draft_with_value, with_item, Item, Object, Start, Word, Fin, Ask}
use Rattle.std.proofs.lemmas.Bool.{ltb-true as below}
use Rattle.st_object.proofs.LineMeanings.{IsNarrow}

-- adding a word above the registers leaves the registers zero
registers_kept : (xs : List ℕ) (n w x : ℕ) → length xs + n ≡ w → 32 ≤ w → ((k : ℕ) → k < 32 → get_or xs k 0 ≡ 0) →
    (k : ℕ) → k < 32 → get_or (xs ++ replicate n 0 ++ x ∷ []) k 0 ≡ 0
registers_kept xs n w x whole above zero_below k low = grind (arith, common_steps)

held : (next w x : ℕ) → may_hold next w x ≡ true → (32 ≤ w) × ((next ≤ w) × (w < words_of_storage))
held next w x fits = grind (arith, nat_tests)

kept_word : (d : Draft) (w x : ℕ) → IsDraft d → may_hold (length d.words) w x ≡ true → x < 2 ^ 64 →
    IsDraft (record d { words = d.words ++ replicate (w - length d.words) 0 ++ x ∷ [] })
kept_word d w x draft fits small =
    let places = held (length d.words) w x fits in
    let zeros : List ℕ = replicate (w - length d.words) 0 in
    let whole : length d.words + (w - length d.words) ≡ w = omega arith in
    let fit = λ (y : ℕ). y < 2 ^ 64 in
    record {
      few = omega (arith, length-append (d.words ++ zeros) (x ∷ []), length-append d.words zeros, length-replicate {A = ℕ} (w - length d.words) 0);
      each = All-append fit (d.words ++ zeros) (x ∷ []) (All-append fit d.words zeros draft.each (All-replicate fit (w - length d.words) 0 (lit< tt)))
          (All-replicate fit 1 x small);
      registers = registers_kept d.words (w - length d.words) w x whole places.0 draft.registers;
      start = draft.start;
      limits = draft.limits;
      unlisted = draft.unlisted;
    }

-- a request within its limits preserves the invariants
kept_asked : (d e : Draft) (place : Bool) (c : Control) → (if place then option_map (λ a. record d { asked = a }) (with_control d.asked c) else None) ≡ Some e →
    AllPass is_tick (numbers_of c) → IsDraft d → IsDraft e
kept_asked d e place c same narrow draft =
    let found : (o : Option Asked) → (if place then option_map (λ a. record d { asked = a }) o else None) ≡ Some e →
    (a : Asked) × ((o ≡ Some a) × (record d { asked = a } ≡ e)) = λ o is. grind arith in
    let new = found (with_control d.asked c) same in
    let within = keyword-kept (keyword_of c) d.asked new.0 (numbers_of c) narrow new.1.0 draft.limits in
    let none : new.0.list ≡ false = ap (λ a. a.list) (sym (then-is d.asked new.0 c new.1.0)) ∙ then-unlisted d.asked c ∙ draft.unlisted in
    let here : IsDraft (record d { asked = new.0 }) = assumption in rw new.1.1 at here

-- an item that is accepted passes its test
by_value : (d e new : Draft) (place test : Bool) → (if place then (if test then Some new else None) else None) ≡ Some e →
    (place ≡ true → test ≡ true → IsDraft new) → IsDraft e
by_value d e new place test same holds = grind arith

-- each line that is added preserves the invariants of drafts
pub kept : (d e : Draft) (item : Item) → with_item d item ≡ Some e → IsNarrow item → IsDraft d → IsDraft e
unfolding draft_with_value
kept d e Object same narrow draft = by_value d e (record d { begun = true }) _ true same (λ placed test. assumption)
kept d e (Start h) same narrow draft = by_value d e (record d { start = Some h }) _ (nat_lt h (2 ^ 19)) same
    (λ placed fits. let small = below h (2 ^ 19) fits in assumption)
kept d e (Word w x) same narrow draft =
    by_value d e (record d { words = d.words ++ replicate (w - length d.words) 0 ++ x ∷ [] }) _ (may_hold (length d.words) w x) same
    (λ placed fits. kept_word d w x draft fits narrow)
kept d e (Ask c) same narrow draft = kept_asked d e _ c same narrow draft
kept d e Fin same narrow draft = by_value d e (record d { ended = true }) _ true same (λ placed test. assumption)
