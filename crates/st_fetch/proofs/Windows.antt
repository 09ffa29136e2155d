-- The slots of a ring buffer: lookups, and the effect of a push, a write and a pop.
use Rattle.st_fetch.proofs.Common.{◌≡◌, ℕ, ◌+◌, ◌-◌, ◌%◌, ◌<◌, ◌≤◌, ◌⊎◌, List, [], ◌∷◌, ◌++◌, length, get_or, drop, set, ap, sym, ◌∙◌, inl, inr, mod-eq_of_lt, arith, length-append, length-drop, length-set, length-take-le, get_or-drop, get_or-take, cases_lt}
use native.Mathlib.Nat.{mod-eq-sub-mod, mod-add-mod}
use Rattle.std.proofs.lemmas.List.{same_lists, drop_more, get_or_append_left, get_or-append_right, set-get_or}
use Rattle.std.proofs.lemmas.Grind.{common_steps}
use Rattle.st_fetch.specs.Queue.{window}

-- an index below 2 N wraps at most once
mod_wraps_once : (N j : ℕ) → j < N + N → ((j < N) × (j % N ≡ j)) ⊎ ((N ≤ j) × (j % N ≡ j - N))
mod_wraps_once N j below = elim (cases_lt j N) [
  | inl low ↦ inl (low, mod-eq_of_lt low)
  | inr high ↦ inr (high, mod-eq-sub-mod high ∙ mod-eq_of_lt (omega arith))
]

module _ {A : Type 0} (N k n : ℕ) (xs : List A) (first_in_range : k < N) (len_fits : n ≤ N) (length_xs : length xs ≡ N) where
  -- the window has n items
  pub length-window : length (window k n xs) ≡ n
  length-window = length-take-le n _ (simp (length-append, length-drop) (omega (arith, length-take-le k xs (omega arith))))

  -- item i of the window is slot (k + i) % N
  pub get_or-window : (i : ℕ) (d : A) → i < n → get_or (window k n xs) i d ≡ get_or xs ((k + i) % N) d
  get_or-window i d in_range =
      let length_tail = length-drop k xs in
      get_or-take n _ i d in_range ∙ elim (mod_wraps_once N (k + i) (omega arith)) [
        | inl unwrapped ↦ get_or_append_left _ _ d i (omega arith) ∙ get_or-drop k xs i d ∙ ap (λ j. get_or xs j d) (omega arith)
        | inr wrapped ↦ get_or-append_right _ _ (N - k) i d (omega arith) (omega arith) ∙ get_or-take k xs _ d (omega arith) ∙ ap (λ j. get_or xs j d) (omega arith)
      ]

-- the following lemmas use those above for other windows
module _ {A : Type 0} (N k n : ℕ) (xs : List A) (first_in_range : k < N) (len_fits : n ≤ N) (length_xs : length xs ≡ N) where
  -- a write after the last item adds it at the end; the lists are compared item by item
  pub window-push : (x : A) → n < N → window k (n + 1) (set xs ((k + n) % N) x) ≡ window k n xs ++ x ∷ []
  window-push x has_room =
      let ys = set xs ((k + n) % N) x in
      let length_ys = length-set xs ((k + n) % N) x ∙ length_xs in
      let length_old = length-window N k n xs first_in_range len_fits length_xs in
      let length_new = length-window N k (n + 1) ys first_in_range (omega arith) length_ys in
      let written_slot = mod_wraps_once N (k + n) (omega arith) in
      same_lists _ _ (grind (arith, common_steps)) (λ i d in_range. grind (
        arith,
        common_steps,
        mod_wraps_once N (k + i) (omega arith),
        get_or-window N k n xs first_in_range len_fits length_xs i d,
        get_or-window N k (n + 1) ys first_in_range (omega arith) length_ys i d,
      ))

  -- a write to item i changes only item i
  pub window-set : (i : ℕ) (x : A) → i < n → window k n (set xs ((k + i) % N) x) ≡ set (window k n xs) i x
  window-set i x in_window =
      let ys = set xs ((k + i) % N) x in
      let length_ys = length-set xs ((k + i) % N) x ∙ length_xs in
      let length_old = length-window N k n xs first_in_range len_fits length_xs in
      let length_new = length-window N k n ys first_in_range len_fits length_ys in
      let written_slot = mod_wraps_once N (k + i) (omega arith) in
      same_lists _ _ (grind (arith, common_steps)) (λ j d in_range. grind (
        arith,
        common_steps,
        mod_wraps_once N (k + j) (omega arith),
        get_or-window N k n xs first_in_range len_fits length_xs j d,
        get_or-window N k n ys first_in_range len_fits length_ys j d,
      ))

  -- the window from the next slot is the window without its first item
  pub window-pop : 0 < n → window ((k + 1) % N) (n - 1) xs ≡ drop 1 (window k n xs)
  window-pop nonempty =
      let next_in_range : (k + 1) % N < N = grind (arith, mod_wraps_once N (k + 1) (omega arith)) in
      let length_old = length-window N k n xs first_in_range len_fits length_xs in
      let length_new = length-window N ((k + 1) % N) (n - 1) xs next_in_range (omega arith) length_xs in
      same_lists _ _ (simp length-drop (omega arith)) (λ i d in_range. grind (
        arith,
        length-drop 1 (window k n xs),
        get_or-drop 1 (window k n xs) i d,
        mod-add-mod (k + 1) N i,
        get_or-window N k n xs first_in_range len_fits length_xs (1 + i) d,
        get_or-window N _ (n - 1) xs next_in_range (omega arith) length_xs i d,
      ))

  -- the first item is that of slot k
  pub window-oldest : (d : A) → 0 < n → window k n xs ≡ get_or xs k d ∷ drop 1 (window k n xs)
  window-oldest d nonempty =
      let length_old = length-window N k n xs first_in_range len_fits length_xs in
      drop_more (window k n xs) 0 d (omega arith)
      ∙ ap (λ x. x ∷ drop 1 (window k n xs))
      (get_or-window N k n xs first_in_range len_fits length_xs 0 d nonempty ∙ ap (λ j. get_or xs j d) (mod-eq_of_lt (omega arith) ∙ omega arith))

  -- the last item is that of slot (k + n) % N, which is written to itself
  pub window-youngest : (d : A) → n < N → window k (n + 1) xs ≡ window k n xs ++ get_or xs ((k + n) % N) d ∷ []
  window-youngest d has_room =
      ap (window k (n + 1)) (sym (set-get_or xs ((k + n) % N) d)) ∙ window-push (get_or xs ((k + n) % N) d) has_room
