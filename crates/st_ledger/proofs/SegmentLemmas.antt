-- The waits of a row of a segment are true.
use Rattle.st_ledger.proofs.Common.{Bool, nat_lt, nat_le, nat_eq, ◌&&◌, None, All, replicate, list_any, ◌≡◌, ℕ, ◌≤◌, ◌<◌, inl, inr, true, false, List, [], ◌∷◌, ◌++◌, refl, sym, ◌∙◌, arith, cases_Bool, and_parts, and_from, or_cases, or_left, or_right, eqb-true, eq-eqb, ne_eqb, le-leb, lt-ltb, All-head, All-tail, list_any-append, LastAnswers, tick_of, no_word, opening_issue, issue_after_entry, tick_a, tick_p, tick_c, address_tick, preparation_tick, ready-after, Instruction, Supply, Read, Held, Forwarded, Register, Use, Storage, is_read, read_of, is_instruction, is_answered, is_answered_at, is_cause, has_cause, AreBrought, brings, is_held_until, Told, IsTold, issue_of, uses_behind, all_uses}
use Rattle.st_ledger.proofs.Linked.{turn_at, want_at, AreLinked}
use Rattle.st_ledger.proofs.Chains.{AreBehind, entry-behind}
use Rattle.st_ledger.proofs.WaitLemmas.{AreOnTheirWay}
use Rattle.st_ledger.proofs.WordLemmas.{decided-role, decided-answer, decided-first, turn-read, turn-other}

-- ---- a part of linked words

pub linked-drop : (base : ℕ) (xs ys : List Use) → AreLinked base (xs ++ ys) → AreLinked base ys
unfolding AreLinked
linked-drop base [] ys linked = linked
linked-drop base (x ∷ xs) ys linked = linked-drop base xs ys linked.1

pub brought-drop : (xs ys : List Use) → AreBrought (xs ++ ys) → AreBrought ys
unfolding AreBrought
brought-drop [] ys all = all
brought-drop (x ∷ xs) ys all = brought-drop xs ys all.1

pub turn-cut : (base : ℕ) (xs ys : List Use) → turn_at (turn_at base ys) xs ≡ turn_at base (xs ++ ys)
unfolding turn_at
turn-cut base [] ys = refl
turn-cut base (x ∷ xs) ys = rw (turn-cut base xs ys) refl

pub want-cut : (xs ys : List Use) → want_at xs ≤ want_at (xs ++ ys)
unfolding want_at
want-cut [] ys = omega arith
want-cut (x ∷ xs) ys =
    elim (cases_Bool (is_read x.supply)) [ inl y ↦ rw y (omega arith) | inr m ↦ rw m (want-cut xs ys) ]

pub linked-cut : (base : ℕ) (xs ys : List Use) → AreLinked base (xs ++ ys) → AreLinked (turn_at base ys) xs
unfolding AreLinked
linked-cut base [] ys linked = tt
linked-cut base (x ∷ xs) ys linked = (
  record {
    turn = λ y. linked.0.turn y ∙ sym (turn-cut base xs ys);
    want = λ y. omega (arith, linked.0.want y, want-cut xs ys);
    accept = linked.0.accept;
  },
  linked-cut base xs ys linked.1,
)

-- ---- a read that is accepted early is in progress

turn-lower : (base : ℕ) (u : Use) (older : List Use) → AreLinked base (u ∷ older) → turn_at base older ≤ turn_at base (u ∷ older)
unfolding AreLinked
turn-lower base u older linked = elim (cases_Bool (is_read u.supply)) [
  | inl y ↦ omega (arith, turn-read base u older y, linked.0.turn y, linked.0.accept y)
  | inr m ↦ omega (arith, turn-other base u older m)
]

one-cause : (from w t v : ℕ) (u : Use) → brings w t u ≡ true → (read_of u.supply).accept < from → from ≤ v → v < t → is_cause Storage w t v u ≡ true
unfolding has_cause
one-cause from w t v u by low late early =
    let is = and_parts (is_read u.supply) (nat_eq u.word w && nat_eq (read_of u.supply).answer t) by in
    let same = and_parts (nat_eq u.word w) (nat_eq (read_of u.supply).answer t) is.1 in
    let answer : (read_of u.supply).answer ≡ t = eqb-true _ _ same.1 in
    let on_it : nat_le (read_of u.supply).accept v ≡ true = le-leb _ _ (omega (arith, low, late)) in
    let going : nat_lt v (read_of u.supply).answer ≡ true = lt-ltb _ _ (omega (arith, early, answer)) in
    and_from _ _ (and_from _ _ is.0 same.0) (and_from _ _ on_it going)

brought-cause : (base from w t : ℕ) (us : List Use) → AreLinked base us → turn_at base us ≤ from → list_any (brings w t) us ≡ true
    → (v : ℕ) → from ≤ v → v < t → list_any (is_cause Storage w t v) us ≡ true
unfolding AreLinked
brought-cause base from w t [] linked low some v late early = absurd (cc)
brought-cause base from w t (u ∷ us) linked low some v late early = elim (or_cases (brings w t u) (list_any (brings w t) us) some) [
  | inl here ↦
      let is = (and_parts (is_read u.supply) (nat_eq u.word w && nat_eq (read_of u.supply).answer t) here).0 in
      or_left _ _ (one-cause from w t v u here (omega (arith, low, turn-read base u us is)) late early)
  | inr further ↦
      or_right _ _ (brought-cause base from w t us linked.1 (omega (arith, low, turn-lower base u us linked)) further v late early)
]

-- ---- held words are in progress

pub others-on-their-way : (us : List Use) (from : ℕ) (before xs ys : List Use) → All (λ (u : Use). is_instruction u.role ≡ false) xs
    → AreOnTheirWay us from before ys → AreOnTheirWay us from before (xs ++ ys)
unfolding AreOnTheirWay
others-on-their-way us from before [] ys all rest = rest
others-on-their-way us from before (x ∷ xs) ys all rest =
    let no_word : is_instruction x.role ≡ false = All-head (λ (u : Use). is_instruction u.role ≡ false) x xs all in (
      (λ t none due. let y : is_instruction x.role ≡ true = decided-role Instruction t x (xs ++ ys) due in absurd (cc)),
      others-on-their-way us from before xs ys (All-tail (λ (u : Use). is_instruction u.role ≡ false) x xs all) rest,
    )

answered-supply : (t : ℕ) (s : Supply) → is_read s ≡ true → (read_of s).answer ≡ t → is_answered t s ≡ true
unfolding is_answered is_read read_of
answered-supply t (Read r) is at = eq-eqb _ _ at
answered-supply t (Held a) is at = absurd (cc)
answered-supply t (Forwarded w) is at = absurd (cc)
answered-supply t Register is at = absurd (cc)

held-supply : (t : ℕ) (s : Supply) → is_read s ≡ false → is_answered t s ≡ true → is_held_until t s ≡ true
unfolding is_answered is_read is_held_until
held-supply t (Read r) none at = absurd (cc)
held-supply t (Held a) none at = at
held-supply t (Forwarded w) none at = absurd (cc)
held-supply t Register none at = absurd (cc)

-- a word that an instruction word's read brings is answered with that read
brings-answered : (w t : ℕ) (u : Use) → is_instruction u.role ≡ true → brings w t u ≡ true → is_answered_at Instruction t u ≡ true
unfolding is_answered_at
brings-answered w t u is by =
    let both = and_parts (is_read u.supply) (nat_eq u.word w && nat_eq (read_of u.supply).answer t) by in
    let same = and_parts (nat_eq u.word w) (nat_eq (read_of u.supply).answer t) both.1 in
    and_from _ _ is (answered-supply t u.supply both.0 (eqb-true _ _ same.1))

any-brings-answered : (w t : ℕ) (us : List Use) → All (λ (u : Use). is_instruction u.role ≡ true) us → list_any (brings w t) us ≡ true
    → list_any (is_answered_at Instruction t) us ≡ true
any-brings-answered w t [] all some = some
any-brings-answered w t (u ∷ us) all some = elim (or_cases (brings w t u) (list_any (brings w t) us) some) [
  | inl here ↦ or_left _ _ (brings-answered w t u (All-head (λ (u : Use). is_instruction u.role ≡ true) u us all) here)
  | inr further ↦ or_right _ _ (any-brings-answered w t us (All-tail (λ (u : Use). is_instruction u.role ≡ true) u us all) further)
]

pub words-on-their-way : (us : List Use) (base from : ℕ) (before deep words : List Use) → AreLinked base deep → turn_at base deep ≤ from
    → ((p : Use → Bool) → list_any p deep ≡ true → list_any p us ≡ true)
    → All (λ (u : Use). is_instruction u.role ≡ true) words → All (λ (u : Use). 32 ≤ u.word) words → AreBrought (words ++ (before ++ deep))
    → AreOnTheirWay us from before words
unfolding AreOnTheirWay AreBrought
words-on-their-way us base from before deep [] linked low among all above brought = tt
words-on-their-way us base from before deep (u ∷ earlier) linked low among all above brought =
    let roles = All-tail (λ (u : Use). is_instruction u.role ≡ true) u earlier all in (
      (λ t none due not_before v late early.
          let by : list_any (brings u.word t) (earlier ++ (before ++ deep)) ≡ true =
          brought.0 t (All-head (λ (u : Use). 32 ≤ u.word) u earlier above) (held-supply t u.supply none (decided-answer Instruction t u earlier due)) in
          elim (or_cases _ _ (sym (list_any-append (brings u.word t) earlier (before ++ deep)) ∙ by)) [
            | inl mine ↦
                let one = any-brings-answered u.word t earlier roles mine in
                let two = decided-first Instruction t u earlier due in
                absurd (cc)
            | inr further ↦ elim (or_cases _ _ (sym (list_any-append (brings u.word t) before deep) ∙ further)) [
              | inl last ↦ let here : list_any (brings u.word t) before ≡ true = last in absurd (cc)
              | inr old ↦ among (is_cause Storage u.word t v) (brought-cause base from u.word t deep linked low old v late early)
            ]
          ]),
      words-on-their-way us base from before deep earlier linked low among roles (All-tail (λ (u : Use). 32 ≤ u.word) u earlier above) brought.1,
    )

-- ---- the segment so far

module _ (ds : List ℕ) (n : ℕ) (banks : LastAnswers) (start : ℕ) where
  opening-behind : AreBehind start (opening_issue banks start).bus (opening_issue banks start).p []
  unfolding AreLinked AreBrought turn_at want_at
  opening-behind = record {
    linked = tt;
    turn = refl;
    want = omega arith;
    brought = tt;
    held = λ w t above is. let no : nat_eq 0 w ≡ false = ne_eqb 0 w (λ e. omega (arith, e, above)) in
        let none : tick_of (replicate 4 no_word) w ≡ None = rw no refl in absurd (cc);
  }

  pub segment-behind : (older : List Told) → All IsTold older
      → AreBehind start (issue_of ds n banks start older).bus (issue_of ds n banks start older).p (all_uses ds n banks start older)
  unfolding issue_of all_uses uses_behind
  segment-behind [] all = opening-behind
  segment-behind (x ∷ older) all =
      entry-behind start ds n (issue_of ds n banks start older) x.entry x.side x.reads (all_uses ds n banks start older)
      (All-head IsTold x older all).side (segment-behind older (All-tail IsTold x older all))

  -- the ticks of the issue state are in their order
  pub issue-order : (older : List Told) → (start ≤ (issue_of ds n banks start older).p) × ((issue_of ds n banks start older).p ≤ (issue_of ds n banks start older).c)
  unfolding issue_of issue_after_entry tick_c tick_p preparation_tick tick_a address_tick
  issue-order [] = (omega arith, omega arith)
  issue-order (x ∷ older) =
      let f = issue_of ds n banks start older in
      let at = issue-order older in
      (omega (arith, at), omega (arith, ready-after ds n f x.entry))

  -- the bus is free of the reads of all rows except the last when the last one is prepared
  pub deep-free : (x : Told) (older : List Told) → (issue_of ds n banks start older).bus.free ≤ (issue_of ds n banks start (x ∷ older)).p
  unfolding issue_of issue_after_entry tick_p preparation_tick tick_a address_tick
  deep-free x older = omega arith
