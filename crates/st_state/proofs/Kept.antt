-- A write of a word keeps the invariant of the state.
use Rattle.st_state.proofs.Common.{◌≡◌, ◌≢◌, ℕ, ◌<◌, ◌^◌, List, length, sym, ◌∙◌, subst, arith, inl, inr, get_or, set, length-set, get_or-set_same, get_or-set_other, eqb_tells, register_word, words_of_storage, words_of_storage_is, fixed-twice, fixed_below, fixed-zero, Machine, IsMachine, with_word, opening_state}

-- if P holds of x at w and of every item of the list before the write, it holds of every item after
-- it
pub each_after_set : (P : ℕ → ℕ → Type 0) (xs : List ℕ) (w x : ℕ) → w < length xs → P w x
    → ((i : ℕ) → i ≢ w → P i (get_or xs i 0)) → (i : ℕ) → P i (get_or (set xs w x) i 0)
each_after_set P xs w x room here before i =
    elim (eqb_tells i w) [
      | inl p ↦
          let Q : ℕ → Type 0 = λ j. P j (get_or (set xs w x) j 0) in
          let R : ℕ → Type 0 = λ y. P w y in
          subst Q (sym p.1) (subst R (sym (get_or-set_same xs w x 0 room)) here)
      | inr q ↦ let R : ℕ → Type 0 = λ y. P i y in subst R (sym (get_or-set_other xs w i x 0 q.1)) (before i q.1)
    ]

-- a state with another word w, whose fixed bits are correct, keeps the invariant
pub is_machine-with_word : (s : Machine) (w x : ℕ) → IsMachine s → w < words_of_storage → x < 2 ^ 64 → register_word w x ≡ x
    → IsMachine (with_word s w x)
is_machine-with_word s w x m inside below fits =
    let room : w < length s.words = omega (arith, m.size) in
    record {
      size = length-set s.words w x ∙ m.size;
      counter = m.counter;
      below = each_after_set (λ _ y. y < 2 ^ 64) s.words w x room below (λ i _. m.below i);
      registers =
          each_after_set (λ i y. i < 32 → register_word i y ≡ y) s.words w x room (λ _. fits) (λ i _. m.registers i);
      reader_area = m.reader_area;
      printer_area = m.printer_area;
    }

-- the initial state has the invariant
pub is_machine-opening : (image : List ℕ) (start : ℕ) → length image ≡ words_of_storage
    → ((w : ℕ) → w < 32 → get_or image w 0 ≡ 0) → ((w : ℕ) → get_or image w 0 < 2 ^ 64) → start < 2 ^ 19
    → IsMachine (opening_state image start)
is_machine-opening image start size zeros below counter =
    let number : words_of_storage ≡ 98304 = words_of_storage_is in
    let room : 12 < length image = omega arith in
    let mask : register_word 12 0 < 2 ^ 64 = fixed_below 12 0 (omega arith) in
    record {
      size = length-set image 12 (register_word 12 0) ∙ size;
      counter = counter;
      below = each_after_set (λ _ y. y < 2 ^ 64) image 12 (register_word 12 0) room mask (λ i _. below i);
      registers =
          each_after_set
          (λ i y. i < 32 → register_word i y ≡ y) image 12 (register_word 12 0) room
          (λ _. fixed-twice 12 0)
          (λ i other h. let zero : get_or image i 0 ≡ 0 = zeros i h in rw zero (fixed-zero i other));
      reader_area = tt;
      printer_area = tt;
    }
