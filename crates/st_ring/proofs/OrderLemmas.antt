-- Levels are prepared and completed in their order.
use Rattle.st_ring.proofs.Common.{◌≡◌, ℕ, ◌+◌, ◌<◌, ◌≤◌, true, false, List, [], ◌∷◌, length, All, Option, None, refl, sym, ◌∙◌, ap, arith, IfSome, eqb-true, eqb-false, All-nil, All-head, All-cons, Machine, IsMachine, prediction, IsEntryInTime, row_of_entry, issue_after_entry, Entry, IssueState, Level, entry, prediction-machine, AreLevels, is_oldest_due, PlannedRow}

after-p : (ds : List ℕ) (n : ℕ) (f : IssueState) (e : Entry) → (issue_after_entry ds n f e).p ≡ (row_of_entry ds n f e).p
unfolding issue_after_entry row_of_entry
after-p ds n f e = refl

pub after-c : (ds : List ℕ) (n : ℕ) (f : IssueState) (e : Entry) → (issue_after_entry ds n f e).c ≡ (row_of_entry ds n f e).c
unfolding issue_after_entry row_of_entry
after-c ds n f e = refl

-- ---- preparation

module _ (ds : List ℕ) (n tick : ℕ) (later : (f : IssueState) (e : Entry) → f.p < (row_of_entry ds n f e).p) where
  issue-later : (t : Option ℕ) (s : Machine) (f last : IssueState) (ring : List Level) (plans : List PlannedRow)
      → AreLevels ds n tick t s f last ring plans → f.p ≤ last.p
  unfolding AreLevels
  issue-later t s f last [] [] h = let same : last.p ≡ f.p = ap (λ (g : IssueState). g.p) h in omega arith
  issue-later t s f last [] (q ∷ qs) h = absurd h
  issue-later t s f last (level ∷ levels) [] h = absurd h
  issue-later t s f last (level ∷ levels) (q ∷ qs) h =
      let e = entry t s in
      let rest : (issue_after_entry ds n f e).p ≤ last.p = issue-later None (prediction t s) (issue_after_entry ds n f e) last levels qs h.1 in
      let here : f.p < (row_of_entry ds n f e).p = later f e in
      let same = after-p ds n f e in
      omega arith

  pub prepared-order : (b : ℕ) (t : Option ℕ) (s : Machine) (f last : IssueState) (ring : List Level) (plans : List PlannedRow)
      → AreLevels ds n tick t s f last ring plans → b ≤ f.p → All (λ level. (b < level.p) × (level.p ≤ last.p)) ring
  unfolding AreLevels
  prepared-order b t s f last [] [] h from = All-nil (λ (x : Level). (b < x.p) × (x.p ≤ last.p))
  prepared-order b t s f last [] (q ∷ qs) h from = absurd h
  prepared-order b t s f last (level ∷ levels) [] h from = absurd h
  prepared-order b t s f last (level ∷ levels) (q ∷ qs) h from =
      let e = entry t s in
      let is : level.p ≡ (row_of_entry ds n f e).p = h.0.p in
      let here : f.p < (row_of_entry ds n f e).p = later f e in
      let same = after-p ds n f e in
      let rest : (issue_after_entry ds n f e).p ≤ last.p = issue-later None (prediction t s) (issue_after_entry ds n f e) last levels qs h.1 in
      All-cons (λ (x : Level). (b < x.p) × (x.p ≤ last.p)) level levels (omega arith, omega arith)
      (prepared-order b None (prediction t s) (issue_after_entry ds n f e) last levels qs h.1 (omega arith))

-- ---- completion

module _ (ds : List ℕ) (n tick : ℕ) (later : (f : IssueState) (e : Entry) → IsEntryInTime e → f.c < (row_of_entry ds n f e).c)
    (ranges : (t : Option ℕ) (s : Machine) → IsMachine s → IfSome t (λ i. i < 64) → IsEntryInTime (entry t s)) where
  done-later : (t : Option ℕ) (s : Machine) (f last : IssueState) (ring : List Level) (plans : List PlannedRow) → IsMachine s
      → IfSome t (λ i. i < 64) → AreLevels ds n tick t s f last ring plans → f.c ≤ last.c
  unfolding AreLevels
  done-later t s f last [] [] m some h = let same : last.c ≡ f.c = ap (λ (g : IssueState). g.c) h in omega arith
  done-later t s f last [] (q ∷ qs) m some h = absurd h
  done-later t s f last (level ∷ levels) [] m some h = absurd h
  done-later t s f last (level ∷ levels) (q ∷ qs) m some h =
      let e = entry t s in
      let rest : (issue_after_entry ds n f e).c ≤ last.c = done-later None (prediction t s) (issue_after_entry ds n f e) last levels qs (prediction-machine t s m some) tt h.1 in
      let here : f.c < (row_of_entry ds n f e).c = later f e (ranges t s m some) in
      let same = after-c ds n f e in
      omega arith

  pub done-order : (b : ℕ) (t : Option ℕ) (s : Machine) (f last : IssueState) (ring : List Level) (plans : List PlannedRow) → IsMachine s
      → IfSome t (λ i. i < 64) → AreLevels ds n tick t s f last ring plans → b ≤ f.c → All (λ q. (b < q.c) × (q.c ≤ last.c)) plans
  unfolding AreLevels
  done-order b t s f last [] [] m some h from = All-nil (λ (q : PlannedRow). (b < q.c) × (q.c ≤ last.c))
  done-order b t s f last [] (q ∷ qs) m some h from = absurd h
  done-order b t s f last (level ∷ levels) [] m some h from = absurd h
  done-order b t s f last (level ∷ levels) (q ∷ qs) m some h from =
      let e = entry t s in
      let is : q.c ≡ (row_of_entry ds n f e).c = h.0.c in
      let here : f.c < (row_of_entry ds n f e).c = later f e (ranges t s m some) in
      let same = after-c ds n f e in
      let rest : (issue_after_entry ds n f e).c ≤ last.c = done-later None (prediction t s) (issue_after_entry ds n f e) last levels qs (prediction-machine t s m some) tt h.1 in
      All-cons (λ (x : PlannedRow). (b < x.c) × (x.c ≤ last.c)) q qs (omega arith, omega arith)
      (done-order b None (prediction t s) (issue_after_entry ds n f e) last levels qs (prediction-machine t s m some) tt h.1 (omega arith))

  pub not-done : (now : ℕ) (t : Option ℕ) (s : Machine) (f last : IssueState) (ring : List Level) (plans : List PlannedRow) → IsMachine s
      → IfSome t (λ i. i < 64) → AreLevels ds n tick t s f last ring plans → now ≤ f.c → All (λ q. now < q.c) plans
  unfolding AreLevels
  not-done now t s f last [] [] m some h from = All-nil (λ (q : PlannedRow). now < q.c)
  not-done now t s f last [] (q ∷ qs) m some h from = absurd h
  not-done now t s f last (level ∷ levels) [] m some h from = absurd h
  not-done now t s f last (level ∷ levels) (q ∷ qs) m some h from =
      let e = entry t s in
      let is : q.c ≡ (row_of_entry ds n f e).c = h.0.c in
      let here : f.c < (row_of_entry ds n f e).c = later f e (ranges t s m some) in
      let same = after-c ds n f e in
      All-cons (λ (x : PlannedRow). now < x.c) q qs (omega arith)
      (not-done now None (prediction t s) (issue_after_entry ds n f e) last levels qs (prediction-machine t s m some) tt h.1 (omega arith))

  -- if the oldest level does not complete at the next tick, none does
  pub still-waits : (at : ℕ) (t : Option ℕ) (s : Machine) (f last : IssueState) (ring : List Level) (plans : List PlannedRow) → IsMachine s
      → IfSome t (λ i. i < 64) → AreLevels ds n tick t s f last ring plans → All (λ q. at < q.c) plans
      → is_oldest_due plans (at + 1) ≡ false → All (λ q. at + 1 < q.c) plans
  unfolding AreLevels
  still-waits at t s f last [] [] m some h each due = All-nil (λ (q : PlannedRow). at + 1 < q.c)
  still-waits at t s f last [] (q ∷ qs) m some h each due = absurd h
  still-waits at t s f last (level ∷ levels) [] m some h each due = absurd h
  still-waits at t s f last (level ∷ levels) (q ∷ qs) m some h each due =
      let e = entry t s in
      let is : q.c ≡ (row_of_entry ds n f e).c = h.0.c in
      let same = after-c ds n f e in
      let before : at < q.c = All-head (λ (x : PlannedRow). at < x.c) q qs each in
      let other : q.c ≡ at + 1 → ⊥ = eqb-false q.c (at + 1) due in
      let late : at + 1 < q.c = omega (arith, other) in
      All-cons (λ (x : PlannedRow). at + 1 < x.c) q qs late
      (not-done (at + 1) None (prediction t s) (issue_after_entry ds n f e) last levels qs (prediction-machine t s m some) tt h.1 (omega arith))

pub due-row : (ds : List ℕ) (n tick now : ℕ) (t : Option ℕ) (s : Machine) (f last : IssueState) (ring : List Level) (plans : List PlannedRow)
    → AreLevels ds n tick t s f last ring plans → is_oldest_due plans now ≡ true
    → (0 < length ring) × ((row_of_entry ds n f (entry t s)).c ≡ now) × ((issue_after_entry ds n f (entry t s)).c ≡ now)
unfolding AreLevels
due-row ds n tick now t s f last [] [] h due = absurd (cc due)
due-row ds n tick now t s f last [] (q ∷ qs) h due = absurd h
due-row ds n tick now t s f last (level ∷ levels) [] h due = absurd h
due-row ds n tick now t s f last (level ∷ levels) (q ∷ qs) h due =
    let is : (row_of_entry ds n f (entry t s)).c ≡ now = sym h.0.c ∙ eqb-true q.c now due in
    (omega arith, is, after-c ds n f (entry t s) ∙ is)
