-- Of two levels that are prepared and not completed, none is serializing.
use Rattle.st_ring.proofs.Common.{◌≡◌, ℕ, ◌<◌, ◌≤◌, ◌||◌, Bool, true, false, List, [], ◌∷◌, length, All, Option, None, refl, sym, ◌∙◌, arith, All-head, All-tail, Machine, plan, prediction, row_of_entry, issue_after_entry, Entry, IssueState, Level, entry, RunAhead, IsLevel, AreLevels, PlannedRow}

-- if an entry or the previous one is serializing, the entry is prepared after the previous one completes
abbrev pub AwaitsLast : List ℕ → ℕ → IssueState → Entry → Type 0
AwaitsLast ds n f e = (e.serial || f.serial) ≡ true → f.c < (row_of_entry ds n f e).p

neither : (a b : Bool) → ((a || b) ≡ true → ⊥) → (a ≡ false) × (b ≡ false)
neither true b not_so = absurd (not_so refl)
neither false true not_so = absurd (not_so refl)
neither false false not_so = (refl, refl)

after-serial : (ds : List ℕ) (n : ℕ) (t : Option ℕ) (s : Machine) (f : IssueState) → (issue_after_entry ds n f (entry t s)).serial ≡ (plan s t).serial
unfolding issue_after_entry entry
after-serial ds n t s f = refl

entry-serial : (t : Option ℕ) (s : Machine) → (entry t s).serial ≡ (plan s t).serial
unfolding entry
entry-serial t s = refl

after-done : (ds : List ℕ) (n : ℕ) (f : IssueState) (e : Entry) → (issue_after_entry ds n f e).c ≡ (row_of_entry ds n f e).c
unfolding issue_after_entry row_of_entry
after-done ds n f e = refl

-- if a level is prepared before the previous entry completes, neither of the two is serializing
module _ (ds : List ℕ) (n tick now : ℕ) (awaits : (f : IssueState) (e : Entry) → AwaitsLast ds n f e) where
  neither_of : (t : Option ℕ) (s : Machine) (f : IssueState) (level : Level) (q : PlannedRow) → IsLevel ds n tick t s f level q
      → level.p < now → now ≤ f.c → ((plan s t).serial ≡ false) × (f.serial ≡ false)
  neither_of t s f level q h early open_c =
      let is : level.p ≡ (row_of_entry ds n f (entry t s)).p = h.p in
      let both = neither (entry t s).serial f.serial (λ some.
      let late : f.c < (row_of_entry ds n f (entry t s)).p = awaits f (entry t s) some in omega arith) in
      (sym (entry-serial t s) ∙ both.0, both.1)

  pub behind-ahead : (t : Option ℕ) (s : Machine) (f last : IssueState) (ring : List Level) (plans : List PlannedRow)
      → AreLevels ds n tick t s f last ring plans → All (λ level. level.p < now) ring → All (λ q. now ≤ q.c) plans
      → now ≤ f.c → 1 ≤ length ring → (f.serial ≡ false) × RunAhead (length ring) t s
  unfolding AreLevels RunAhead
  behind-ahead t s f last [] plans h early late open_c some = absurd (omega arith)
  behind-ahead t s f last (level ∷ levels) [] h early late open_c some = absurd h
  behind-ahead t s f last (level ∷ []) (q ∷ qs) h early late open_c some =
      let own = neither_of t s f level q h.0 (All-head (λ (x : Level). x.p < now) level [] early) open_c in
      (own.1, (own.0, tt))
  behind-ahead t s f last (level ∷ next ∷ levels) (q ∷ qs) h early late open_c some =
      let own = neither_of t s f level q h.0 (All-head (λ (x : Level). x.p < now) level (next ∷ levels) early) open_c in
      let done : now ≤ q.c = All-head (λ (x : PlannedRow). now ≤ x.c) q qs late in
      let same : (issue_after_entry ds n f (entry t s)).c ≡ q.c = after-done ds n f (entry t s) ∙ sym h.0.c in
      let rest = behind-ahead None (prediction t s) (issue_after_entry ds n f (entry t s)) last (next ∷ levels) qs h.1
      (All-tail (λ (x : Level). x.p < now) level (next ∷ levels) early) (All-tail (λ (x : PlannedRow). now ≤ x.c) q qs late) (omega arith) (omega arith) in
      (own.1, (own.0, rest.1))

  pub two-ahead : (t : Option ℕ) (s : Machine) (f last : IssueState) (ring : List Level) (plans : List PlannedRow)
      → AreLevels ds n tick t s f last ring plans → All (λ level. level.p < now) ring → All (λ q. now ≤ q.c) plans
      → 2 ≤ length ring → RunAhead (length ring) t s
  unfolding AreLevels RunAhead
  two-ahead t s f last [] plans h early late two = absurd (omega arith)
  two-ahead t s f last (level ∷ levels) [] h early late two = absurd h
  two-ahead t s f last (level ∷ levels) (q ∷ qs) h early late two =
      let done : now ≤ q.c = All-head (λ (x : PlannedRow). now ≤ x.c) q qs late in
      let same : (issue_after_entry ds n f (entry t s)).c ≡ q.c = after-done ds n f (entry t s) ∙ sym h.0.c in
      let rest = behind-ahead None (prediction t s) (issue_after_entry ds n f (entry t s)) last levels qs h.1
      (All-tail (λ (x : Level). x.p < now) level levels early) (All-tail (λ (x : PlannedRow). now ≤ x.c) q qs late) (omega arith) (omega arith) in
      (sym (after-serial ds n t s f) ∙ rest.0, rest.1)
