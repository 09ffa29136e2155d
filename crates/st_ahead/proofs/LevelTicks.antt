-- Levels at a tick: which of them are completed, how many there are, and C of the issue state after them.
use Rattle.st_ahead.proofs.Common.{◌≡◌, ℕ, zero, suc, ◌+◌, ◌*◌, ◌<◌, ◌≤◌, List, [], ◌∷◌, length, Option, None, refl, sym, ◌∙◌, ap, arith, All, IfSome, All-nil, All-cons, All-head, All-tail, Machine, IsMachine, prediction, AreDelaysUpTo, IsTight, row_of_entry, issue_after_entry, tick_c, IssueState, tight-after, Level, issue_behind, entry, entry-ranges, prediction-machine, AreLevels, PlannedRow, levels-issue, after-c}
use Rattle.st_rows.proofs.Stages.{c-within}

module _ (ds : List ℕ) (n : ℕ) where
  -- ---- one entry

  pub done-later : (t : Option ℕ) (s : Machine) (f : IssueState) → IsMachine s → IfSome t (λ i. i < 64) → f.c < (row_of_entry ds n f (entry t s)).c
  unfolding row_of_entry tick_c
  done-later t s f m some = omega (arith, (entry-ranges t s m some).costs.0)

  -- ---- the issue state after several entries

  behind-later : (k : ℕ) (t : Option ℕ) (s : Machine) (f : IssueState) → IsMachine s → IfSome t (λ i. i < 64)
      → f.c + k ≤ (issue_behind ds n k t s f).c
  unfolding issue_behind
  behind-later zero t s f m some = omega arith
  behind-later (suc k) t s f m some =
      omega (
        arith,
        after-c ds n f (entry t s),
        done-later t s f m some,
        behind-later k None (prediction t s) (issue_after_entry ds n f (entry t s)) (prediction-machine t s m some) tt,
      )

  pub behind-soon : (k : ℕ) (t : Option ℕ) (s : Machine) (f : IssueState) → AreDelaysUpTo 255 ds → IsMachine s → IfSome t (λ i. i < 64) → IsTight 255 f
      → (issue_behind ds n k t s f).c ≤ f.c + 16576 * k
  unfolding issue_behind issue_after_entry
  behind-soon zero t s f are m some tight = omega arith
  behind-soon (suc k) t s f are m some tight =
      let e = entry t s in
      let range = entry-ranges t s m some in
      omega (
        arith,
        c-within 255 ds are f e range tight n,
        behind-soon k None (prediction t s) (issue_after_entry ds n f e) are (prediction-machine t s m some) tt (tight-after 255 ds are n f e range tight),
      )

  same-place : (j k : ℕ) (t : Option ℕ) (s : Machine) (f : IssueState) → IsMachine s → IfSome t (λ i. i < 64)
      → issue_behind ds n j t s f ≡ issue_behind ds n k t s f → j ≡ k
  unfolding issue_behind
  same-place zero zero t s f m some same = refl
  same-place zero (suc k) t s f m some same =
      let c = ap (λ (g : IssueState). g.c) same in
      absurd (omega (
        arith,
        c,
        after-c ds n f (entry t s),
        done-later t s f m some,
        behind-later k None (prediction t s) (issue_after_entry ds n f (entry t s)) (prediction-machine t s m some) tt,
      ))
  same-place (suc j) zero t s f m some same =
      let c = ap (λ (g : IssueState). g.c) same in
      absurd (omega (
        arith,
        c,
        after-c ds n f (entry t s),
        done-later t s f m some,
        behind-later j None (prediction t s) (issue_after_entry ds n f (entry t s)) (prediction-machine t s m some) tt,
      ))
  same-place (suc j) (suc k) t s f m some same =
      ap suc (same-place j k None (prediction t s) (issue_after_entry ds n f (entry t s)) (prediction-machine t s m some) tt same)

  -- ---- levels between two issue states, with any operands

  module _ (a b : ℕ) where
    pub same-count : (t : Option ℕ) (s : Machine) (f last : IssueState) (ring more : List Level) (plans rows : List PlannedRow) → IsMachine s
        → IfSome t (λ i. i < 64) → AreLevels ds n a t s f last ring plans → AreLevels ds n b t s f last more rows
        → length more ≡ length ring
    same-count t s f last ring more plans rows m some g h =
        same-place (length more) (length ring) t s f m some
        (sym (levels-issue ds n b t s f last more rows h) ∙ levels-issue ds n a t s f last ring plans g)

    pub prepared-still : (now : ℕ) (t : Option ℕ) (s : Machine) (f last : IssueState) (ring more : List Level) (plans rows : List PlannedRow)
        → AreLevels ds n a t s f last ring plans → AreLevels ds n b t s f last more rows → length more ≡ length ring
        → All (λ level. level.p < now) ring → All (λ level. level.p < now) more
    unfolding AreLevels
    prepared-still now t s f last ring [] plans rows g h same each = All-nil (λ (level : Level). level.p < now)
    prepared-still now t s f last [] (x ∷ xs) plans rows g h same each = absurd (omega (arith, same))
    prepared-still now t s f last (l ∷ ls) (x ∷ xs) [] rows g h same each = absurd g
    prepared-still now t s f last (l ∷ ls) (x ∷ xs) (q ∷ qs) [] g h same each = absurd h
    prepared-still now t s f last (l ∷ ls) (x ∷ xs) (q ∷ qs) (r ∷ rs) g h same each =
        let early : l.p < now = All-head (λ (level : Level). level.p < now) l ls each in
        let one : l.p ≡ (row_of_entry ds n f (entry t s)).p = g.0.p in
        let two : x.p ≡ (row_of_entry ds n f (entry t s)).p = h.0.p in
        All-cons (λ (level : Level). level.p < now) x xs (omega arith)
        (prepared-still now None (prediction t s) (issue_after_entry ds n f (entry t s)) last ls xs qs rs g.1 h.1 (omega (arith, same))
        (All-tail (λ (level : Level). level.p < now) l ls each))

  -- ---- if the first level completes later, all do

  pub done-after : (tick now : ℕ) (t : Option ℕ) (s : Machine) (f last : IssueState) (ring : List Level) (plans : List PlannedRow) → IsMachine s
      → IfSome t (λ i. i < 64) → AreLevels ds n tick t s f last ring plans → now < (row_of_entry ds n f (entry t s)).c → All (λ q. now < q.c) plans
  unfolding AreLevels
  done-after tick now t s f last ring [] m some h late = All-nil (λ (q : PlannedRow). now < q.c)
  done-after tick now t s f last [] (q ∷ qs) m some h late = absurd h
  done-after tick now t s f last (level ∷ levels) (q ∷ qs) m some h late =
      let c : q.c ≡ (row_of_entry ds n f (entry t s)).c = h.0.c in
      let machine = prediction-machine t s m some in
      All-cons (λ (r : PlannedRow). now < r.c) q qs (omega arith)
      (done-after tick now None (prediction t s) (issue_after_entry ds n f (entry t s)) last levels qs machine tt h.1
      (omega (arith, after-c ds n f (entry t s), done-later None (prediction t s) (issue_after_entry ds n f (entry t s)) machine tt)))
