-- Lists of levels: the issue state after them, one more level, and which of them may be serializing.

use Rattle.st_ring.proofs.Common.{◌≡◌, ℕ, zero, suc, ◌<◌, ◌≤◌, List, [], ◌∷◌, ◌++◌, length, All, Option, None, refl, sym, subst, ◌∙◌, ap, ap₂, arith, lt-ltb, le-ltb, All-head, All-tail, Machine, prediction, row_of_entry, issue_after_entry, IssueState, Level, entry, predictions, table_behind, ahead, issue_behind, next_ahead, prepared_before, behind-none, IsLevel, AreLevels, oldest_issue, PlannedRow}

-- ---- as many planned rows as levels

pub levels-beside : (ds : List ℕ) (n tick : ℕ) (t : Option ℕ) (s : Machine) (f last : IssueState) (ring : List Level) (plans : List PlannedRow)
    → AreLevels ds n tick t s f last ring plans → length plans ≡ length ring
unfolding AreLevels
levels-beside ds n tick t s f last [] [] h = refl
levels-beside ds n tick t s f last [] (q ∷ qs) h = absurd h
levels-beside ds n tick t s f last (level ∷ levels) [] h = absurd h
levels-beside ds n tick t s f last (level ∷ levels) (q ∷ qs) h =
    ap suc (levels-beside ds n tick None (prediction t s) (issue_after_entry ds n f (entry t s)) last levels qs h.1)

-- ---- the issue state after the levels

pub levels-issue : (ds : List ℕ) (n tick : ℕ) (t : Option ℕ) (s : Machine) (f last : IssueState) (ring : List Level) (plans : List PlannedRow)
    → AreLevels ds n tick t s f last ring plans → last ≡ issue_behind ds n (length ring) t s f
unfolding AreLevels issue_behind
levels-issue ds n tick t s f last [] [] h = h
levels-issue ds n tick t s f last [] (q ∷ qs) h = absurd h
levels-issue ds n tick t s f last (level ∷ levels) [] h = absurd h
levels-issue ds n tick t s f last (level ∷ levels) (q ∷ qs) h =
    levels-issue ds n tick None (prediction t s) (issue_after_entry ds n f (entry t s)) last levels qs h.1

-- ---- one more level

first-level : (ds : List ℕ) (n tick : ℕ) (t k : Option ℕ) (s u : Machine) (f last : IssueState) (level : Level) (q : PlannedRow)
    → k ≡ t → u ≡ s → last ≡ f → IsLevel ds n tick k u last level q → IsLevel ds n tick t s f level q
first-level ds n tick t k s u f last level q table state issue h =
    subst (λ (i : Option ℕ). IsLevel ds n tick i s f level q) table
    (subst (λ (m : Machine). IsLevel ds n tick k m f level q) state
    (subst (λ (g : IssueState). IsLevel ds n tick k u g level q) issue h))

pub levels-append : (ds : List ℕ) (n tick : ℕ) (t k : Option ℕ) (s u : Machine) (f last : IssueState) (ring : List Level) (plans : List PlannedRow)
    (level : Level) (q : PlannedRow) → k ≡ table_behind (length ring) t → u ≡ predictions (length ring) t s
    → AreLevels ds n tick t s f last ring plans → IsLevel ds n tick k u last level q
    → AreLevels ds n tick t s f (issue_after_entry ds n last (entry k u)) (ring ++ level ∷ []) (plans ++ q ∷ [])
unfolding AreLevels predictions
levels-append ds n tick t k s u f last [] [] level q table state h new =
    let issue : last ≡ f = h in (
      first-level ds n tick t k s u f last level q table state issue new,
      ap (λ (g : IssueState). issue_after_entry ds n g (entry k u)) issue
          ∙ ap₂ (λ (i : Option ℕ) (m : Machine). issue_after_entry ds n f (entry i m)) table state,
    )
levels-append ds n tick t k s u f last [] (r ∷ rs) level q table state h new = absurd h
levels-append ds n tick t k s u f last (first ∷ levels) [] level q table state h new = absurd h
levels-append ds n tick t k s u f last (first ∷ levels) (r ∷ rs) level q table state h new = (
  h.0,
  levels-append ds n tick None k (prediction t s) u (issue_after_entry ds n f (entry t s)) last levels rs level q
      (table ∙ sym (behind-none (length levels))) state h.1 new,
)

-- ---- levels that are prepared before a tick

pub levels-prepared : (ds : List ℕ) (n tick now m : ℕ) (t k : Option ℕ) (s u : Machine) (f last : IssueState) (ring : List Level)
    (plans : List PlannedRow) → AreLevels ds n tick t s f last ring plans → All (λ level. level.p < now) ring
    → k ≡ table_behind (length ring) t → u ≡ predictions (length ring) t s → now ≤ (row_of_entry ds n last (entry k u)).p → length ring ≤ m
    → prepared_before now (ahead ds n m t s f) ≡ ahead ds n (length ring) t s f
unfolding AreLevels predictions ahead prepared_before
levels-prepared ds n tick now zero t k s u f last [] [] h each table state late more = refl
levels-prepared ds n tick now (suc m) t k s u f last [] [] h each table state late more =
    let issue : last ≡ f = h in
    let same = ap (λ (g : IssueState). (row_of_entry ds n g (entry k u)).p) issue
    ∙ ap₂ (λ (i : Option ℕ) (x : Machine). (row_of_entry ds n f (entry i x)).p) table state in
    let later : now ≤ (row_of_entry ds n f (entry t s)).p = subst (λ p. now ≤ p) same late in
    rw (le-ltb (row_of_entry ds n f (entry t s)).p now later) refl
levels-prepared ds n tick now m t k s u f last [] (q ∷ qs) h each table state late more = absurd h
levels-prepared ds n tick now m t k s u f last (level ∷ levels) [] h each table state late more = absurd h
levels-prepared ds n tick now zero t k s u f last (level ∷ levels) (q ∷ qs) h each table state late more = absurd (omega arith)
levels-prepared ds n tick now (suc m) t k s u f last (level ∷ levels) (q ∷ qs) h each table state late more =
    let here : level.p < now = All-head (λ (x : Level). x.p < now) level levels each in
    let is : level.p ≡ (row_of_entry ds n f (entry t s)).p = h.0.p in
    let before : (row_of_entry ds n f (entry t s)).p < now = omega arith in
    let rest = levels-prepared ds n tick now m None k (prediction t s) u (issue_after_entry ds n f (entry t s)) last levels qs h.1
    (All-tail (λ (x : Level). x.p < now) level levels each) (table ∙ sym (behind-none (length levels))) state late (omega arith) in
    rw (lt-ltb (row_of_entry ds n f (entry t s)).p now before) (ap (λ tail. next_ahead ds n t s f ∷ tail) rest)

pub length-ahead : (ds : List ℕ) (n k : ℕ) (t : Option ℕ) (s : Machine) (f : IssueState) → length (ahead ds n k t s f) ≡ k
unfolding ahead
length-ahead ds n zero t s f = refl
length-ahead ds n (suc k) t s f = ap suc (length-ahead ds n k None (prediction t s) (issue_after_entry ds n f (entry t s)))

-- ---- the issue state of the oldest level

pub levels-oldest : (ds : List ℕ) (n tick : ℕ) (t : Option ℕ) (s : Machine) (f last : IssueState) (ring : List Level) (plans : List PlannedRow)
    → AreLevels ds n tick t s f last ring plans → oldest_issue plans last ≡ f
unfolding AreLevels
levels-oldest ds n tick t s f last [] [] h = h
levels-oldest ds n tick t s f last [] (q ∷ qs) h = absurd h
levels-oldest ds n tick t s f last (level ∷ levels) [] h = absurd h
levels-oldest ds n tick t s f last (level ∷ levels) (q ∷ qs) h = h.0.issue
