-- The ring of the last eight entries of an issue state, and the copies of them.
use Rattle.st_account.proofs.Common.{◌≡◌, ◌≢◌, ℕ, zero, suc, ◌+◌, ◌-◌, ◌%◌, ◌<◌, List, [], ◌∷◌, length, get_or, take, set, refl, ap, sym, ◌∙◌, arith, length-set, get_or-take, length-take-le, same_lists, get_or-set_same, length-window, get_or-window, Past}
use Rattle.std.proofs.lemmas.List.{get_or-set_other}
use Rattle.st_fetch.specs.Queue.{window}

-- a write before the first of eight items adds it at the front, and drops the last one
pub window-put : (head : ℕ) (xs : List Past) (newest : Past) → head < 8 → length xs ≡ 8
    → window ((head + 8 - 1) % 8) 8 (set xs ((head + 8 - 1) % 8) newest) ≡ newest ∷ take 7 (window head 8 xs)
window-put head xs newest inside whole =
    same_lists _ _ (omega (
      arith,
      length-window 8 ((head + 8 - 1) % 8) 8 (set xs ((head + 8 - 1) % 8) newest) (omega arith) (omega arith) (length-set xs ((head + 8 - 1) % 8) newest ∙ whole),
      length-take-le 7 (window head 8 xs) (omega (arith, length-window 8 head 8 xs inside (omega arith) whole)),
    )) (λ i d in_range. by-item i d in_range)
  where
    by-item : (i : ℕ) (d : Past) → i < length (window ((head + 8 - 1) % 8) 8 (set xs ((head + 8 - 1) % 8) newest))
        → get_or (window ((head + 8 - 1) % 8) 8 (set xs ((head + 8 - 1) % 8) newest)) i d ≡ get_or (newest ∷ take 7 (window head 8 xs)) i d
    by-item zero d in_range =
        let at = (head + 8 - 1) % 8 in
        let length_ys = length-set xs at newest ∙ whole in
        let place : (at + 0) % 8 ≡ at = omega arith in
        get_or-window 8 at 8 (set xs at newest) (omega arith) (omega arith) length_ys 0 d (omega arith)
        ∙ ap (λ j. get_or (set xs at newest) j d) place
        ∙ get_or-set_same xs at newest d (omega (arith, whole))
    by-item (suc i) d in_range =
        let at = (head + 8 - 1) % 8 in
        let length_ys = length-set xs at newest ∙ whole in
        let length_new = length-window 8 at 8 (set xs at newest) (omega arith) (omega arith) length_ys in
        let place : (at + suc i) % 8 ≡ (head + i) % 8 = omega arith in
        let other : (head + i) % 8 ≢ at = λ e. omega (arith, e, in_range, length_new) in
        get_or-window 8 at 8 (set xs at newest) (omega arith) (omega arith) length_ys (suc i) d (omega (arith, in_range, length_new))
        ∙ ap (λ j. get_or (set xs at newest) j d) place
        ∙ get_or-set_other xs at ((head + i) % 8) newest d other
        ∙ sym (get_or-window 8 head 8 xs inside (omega arith) whole i d (omega (arith, in_range, length_new)))
        ∙ sym (get_or-take 7 (window head 8 xs) i d (omega (arith, in_range, length_new)))

-- putting the items of a list of eight entries into any list gives the list of eight
pub eight-put : (xs ys : List Past) (d : Past) → length xs ≡ 8
    → get_or xs 0 d ∷ take 7 (get_or xs 1 d ∷ take 7 (get_or xs 2 d ∷ take 7 (get_or xs 3 d ∷ take 7 (get_or xs 4 d
    ∷ take 7 (get_or xs 5 d ∷ take 7 (get_or xs 6 d ∷ take 7 (get_or xs 7 d ∷ take 7 ys))))))) ≡ xs
eight-put (a ∷ b ∷ c ∷ d ∷ e ∷ f ∷ g ∷ h ∷ []) ys x eight = refl
eight-put [] ys x eight = absurd (omega arith)
eight-put (a ∷ []) ys x eight = absurd (omega arith)
eight-put (a ∷ b ∷ []) ys x eight = absurd (omega arith)
eight-put (a ∷ b ∷ c ∷ []) ys x eight = absurd (omega arith)
eight-put (a ∷ b ∷ c ∷ d ∷ []) ys x eight = absurd (omega arith)
eight-put (a ∷ b ∷ c ∷ d ∷ e ∷ []) ys x eight = absurd (omega arith)
eight-put (a ∷ b ∷ c ∷ d ∷ e ∷ f ∷ []) ys x eight = absurd (omega arith)
eight-put (a ∷ b ∷ c ∷ d ∷ e ∷ f ∷ g ∷ []) ys x eight = absurd (omega arith)
eight-put (a ∷ b ∷ c ∷ d ∷ e ∷ f ∷ g ∷ h ∷ i ∷ xs) ys x eight = absurd (omega arith)
