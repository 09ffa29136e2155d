-- The marks are the words that entries wrote.
use Rattle.st_sweep.proofs.Common.{◌||◌, list_any, ◌≡◌, ◌≢◌, ℕ, zero, suc, ◌+◌, ◌-◌, ◌<◌, ◌≤◌, inl, inr, Bool, true, false, List, [], ◌∷◌, length, get_or, set, replicate, refl, sym, ◌∙◌, ap, arith, cases_eq, length-set, get_or-set_same, get_or-set_other, is_in, is_among, WordRuns, words_to_write, is_among_written, are_written, AreMarks, marks_with}
use Rattle.std.proofs.lemmas.Bool.Decides.{nat_tests}
use Rattle.st_prep.specs.declared.entries.Words.{Words}

-- ---- the words of a range, one at a time

pub written-next : (earlier : List WordRuns) (w n : ℕ) → 0 < n
    → are_written earlier w n ≡ (is_among_written earlier w || are_written earlier (w + 1) (n - 1))
unfolding are_written
written-next earlier w zero some = let no : ⊥ = omega arith in absurd no
written-next earlier w (suc n) some =
    let one : n ≡ suc n - 1 = omega arith in
    ap (λ k. is_among_written earlier w || are_written earlier (w + 1) k) one

pub marked-next : (marks : List Bool) (w n : ℕ) → 0 < n → marks_with marks w n ≡ marks_with (set marks w true) (w + 1) (n - 1)
unfolding marks_with
marked-next marks w zero some = let no : ⊥ = omega arith in absurd no
marked-next marks w (suc n) some =
    let one : n ≡ suc n - 1 = omega arith in
    ap (λ k. marks_with (set marks w true) (w + 1) k) one

-- ---- no marks

none-marked : (n w : ℕ) → get_or (replicate n false) w false ≡ false
none-marked zero w = refl
none-marked (suc n) zero = refl
none-marked (suc n) (suc w) = none-marked n w

pub marks-none : (n : ℕ) → AreMarks [] (replicate n false)
unfolding is_among_written
marks-none n = record { each = λ w. none-marked n w }

-- ---- marks after a range of words

pub length-marked : (marks : List Bool) (w n : ℕ) → length (marks_with marks w n) ≡ length marks
unfolding marks_with
length-marked marks w zero = refl
length-marked marks w (suc n) = length-marked (set marks w true) (w + 1) n ∙ length-set marks w true

module _ (v w : ℕ) where
  external_events : is_in v (record { first = w; len = 0 }) ≡ false
  unfolding is_in
  external_events = grind (arith, nat_tests)

  first-in : v ≡ w → (n : ℕ) → is_in v (record { first = w; len = suc n }) ≡ true
  unfolding is_in
  first-in same n = grind (arith, nat_tests)

  first-out : v ≡ w → (n : ℕ) → is_in v (record { first = w + 1; len = n }) ≡ false
  unfolding is_in
  first-out same n = grind (arith, nat_tests)

  other-in : v ≢ w → (n : ℕ) → is_in v (record { first = w; len = suc n }) ≡ is_in v (record { first = w + 1; len = n })
  unfolding is_in
  other-in other n = grind (arith, nat_tests)

run-marked : (marks : List Bool) (v w n : ℕ) → (1 ≤ n → w + n ≤ length marks)
    → get_or (marks_with marks w n) v false ≡ (is_in v (record { first = w; len = n }) || get_or marks v false)
unfolding marks_with
run-marked marks v w zero inside = rw (external_events v w) refl
run-marked marks v w (suc n) inside =
    let next = set marks w true in
    let long : length next ≡ length marks = length-set marks w true in
    let all : w + suc n ≤ length marks = inside (omega arith) in
    let rest = run-marked next v (w + 1) n (λ some. omega (arith, long, all)) in
    elim (cases_eq v w) [
      | inl same ↦
          let at : get_or next v false ≡ true =
          ap (λ k. get_or next k false) same ∙ get_or-set_same marks w true false (omega (arith, all)) in
          rest ∙ rw (first-out v w same n, at, first-in v w same n) refl
      | inr other ↦
          let at : get_or next v false ≡ get_or marks v false = get_or-set_other marks w v true false other in
          rest ∙ rw (at, other-in v w other n) refl
    ]

regroup : (a b c : Bool) → (b || (a || c)) ≡ ((a || b) || c)
regroup true true c = refl
regroup true false c = refl
regroup false true c = refl
regroup false false c = refl

pub marks-put : (earlier : List WordRuns) (marks : List Bool) (words : Words) → AreMarks earlier marks
    → (1 ≤ words.len → words.first + words.len ≤ length marks) → (1 ≤ words.len2 → words.first2 + words.len2 ≤ length marks)
    → AreMarks (words_to_write words ∷ earlier) (marks_with (marks_with marks words.first words.len) words.first2 words.len2)
unfolding is_among_written is_among
marks-put earlier marks words are inside inside2 =
    let once = marks_with marks words.first words.len in
    let one = λ (v : ℕ). is_in v (record { first = words.first; len = words.len }) in
    let two = λ (v : ℕ). is_in v (record { first = words.first2; len = words.len2 }) in
    let long : length once ≡ length marks = length-marked marks words.first words.len in
    record {
      each = λ v.
          run-marked once v words.first2 words.len2 (λ some. let low = inside2 some in omega (arith, long, low))
          ∙ ap (λ b. two v || b) (run-marked marks v words.first words.len inside)
          ∙ ap (λ b. two v || (one v || b)) (are.each v)
          ∙ regroup (one v) (two v) (list_any (is_among v) earlier);
    }

-- ---- a range, word by word

pub none-left : (earlier : List WordRuns) (w n : ℕ) → n ≡ 0 → false ≡ are_written earlier w n
unfolding are_written
none-left earlier w zero none = refl
none-left earlier w (suc n) none = let no : ⊥ = omega arith in absurd no

pub found-mark : (earlier : List WordRuns) (marks : List Bool) (w n : ℕ) → 0 < n → AreMarks earlier marks → get_or marks w false ≡ true
    → true ≡ are_written earlier w n
found-mark earlier marks w n some are on =
    let here : is_among_written earlier w ≡ true = sym (are.each w) ∙ on in
    sym (written-next earlier w n some ∙ ap (λ b. b || are_written earlier (w + 1) (n - 1)) here)

pub passed-mark : (earlier : List WordRuns) (marks : List Bool) (w n : ℕ) → 0 < n → AreMarks earlier marks → get_or marks w false ≡ false
    → are_written earlier (w + 1) (n - 1) ≡ are_written earlier w n
passed-mark earlier marks w n some are off =
    let here : is_among_written earlier w ≡ false = sym (are.each w) ∙ off in
    sym (written-next earlier w n some ∙ ap (λ b. b || are_written earlier (w + 1) (n - 1)) here)

pub none-marked-left : (marks : List Bool) (w n : ℕ) → n ≡ 0 → marks ≡ marks_with marks w n
unfolding marks_with
none-marked-left marks w zero none = refl
none-marked-left marks w (suc n) none = let no : ⊥ = omega arith in absurd no
