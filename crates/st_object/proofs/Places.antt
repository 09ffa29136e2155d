-- Kinds of lines by their position in the order, and tests of all kinds from a position on.
use Rattle.st_object.proofs.Common.{◌≡◌, ◌<◌, ◌≤◌, ◌+◌, ◌-◌, ◌&&◌, ℕ, zero, suc, Bool, List, [], ◌∷◌, ◌++◌, length, map, take, drop, get_or, Some, ap, sym, ◌∙◌, arith, list_all, order, none_stands, not, Keyword, Kind, slice_get, get_or-take, length-take-le}
use Rattle.std.proofs.Math.Seq.{drop-cons}
use Rattle.st_object.specs.declared.items.Kind.TheVariants as kinds

asked-at : (keywords : List Keyword) (i : ℕ) (keyword : Keyword) → slice_get keywords i ≡ Some keyword →
    get_or (map (λ k. kinds.Ask k) keywords ++ kinds.Fin ∷ []) i kinds.Fin ≡ kinds.Ask keyword
asked-at [] i keyword is = cc
asked-at (k ∷ keywords) zero keyword is = cc
asked-at (k ∷ keywords) (suc i) keyword is = asked-at keywords i keyword is

-- behind the first three positions come those of requests
pub request-at : (place : ℕ) (keywords : List Keyword) (keyword : Keyword) → 3 ≤ place → slice_get keywords (place - 3) ≡ Some keyword →
    get_or (kinds.Object ∷ kinds.Start ∷ kinds.Word ∷ (map (λ k. kinds.Ask k) keywords ++ kinds.Fin ∷ [])) place kinds.Fin ≡ kinds.Ask keyword
request-at zero keywords keyword behind is = absurd (omega (arith, behind))
request-at (suc zero) keywords keyword behind is = absurd (omega (arith, behind))
request-at (suc (suc zero)) keywords keyword behind is = absurd (omega (arith, behind))
request-at (suc (suc (suc i))) keywords keyword behind is =
    let same : suc (suc (suc i)) - 3 ≡ i = omega arith in
    asked-at keywords i keyword (ap (λ j. slice_get keywords j) (sym same) ∙ is)

module _ (p : Kind → Bool) (kinds : List Kind) where
  -- a test of all kinds from a position on is one of the kind there and one of those behind it
  pub all-next : (i : ℕ) (d : Kind) → i < length kinds → list_all p (drop i kinds) ≡ (p (get_or kinds i d) && list_all p (drop (i + 1) kinds))
  all-next i d within =
      let next : suc i ≡ i + 1 = omega arith in
      ap (λ ks. list_all p ks) (drop-cons kinds i d within) ∙ ap (λ j. p (get_or kinds i d) && list_all p (drop j kinds)) next

-- that test of the kinds before a position, by the kind at an earlier one
pub all-before : (p : Kind → Bool) (end place : ℕ) (kind : Kind) (passes : Bool) → end ≤ length order → place < end →
    kind ≡ get_or order place kinds.Fin → passes ≡ p kind →
    list_all p (drop place (take end order)) ≡ (passes && list_all p (drop (place + 1) (take end order)))
all-before p end place kind passes within here is tested =
    let size : length (take end order) ≡ end = length-take-le end order within in
    let next = all-next p (take end order) place kinds.Fin (omega (arith, size, here)) in
    let same : p (get_or (take end order) place kinds.Fin) ≡ passes =
    ap p (get_or-take end order place kinds.Fin here ∙ sym is) ∙ sym tested in
    next ∙ ap (λ b. b && list_all p (drop (place + 1) (take end order))) same

-- the test that no line has been read, by the kind at a position
pub none-from : (stands : Kind → Bool) (place : ℕ) (kind : Kind) (is_read : Bool) → place < length order →
    kind ≡ get_or order place kinds.Fin → is_read ≡ stands kind →
    none_stands stands (drop place order) ≡ (not is_read && none_stands stands (drop (place + 1) order))
none-from stands place kind is_read within is tested =
    all-next (λ k. not (stands k)) order place kinds.Fin within
    ∙ ap (λ b. not b && none_stands stands (drop (place + 1) order)) (ap stands (sym is) ∙ sym tested)
