-- One of the n + 1 entries ahead is not prepared in time.
use Rattle.st_causes.proofs.Common.{zero, suc, nat_lt, Option, None, All, length, get_or, take, ◌≡◌, ℕ, ◌+◌, ◌-◌, ◌≤◌, ◌<◌, max, List, inl, inr, refl, sym, subst, arith, get_or-take, cases_Bool, ltb-true, All-head, All-tail, Machine, completion_of, done_before, row_of_entry, issue_after_entry, tick_p, tick_c, preparation_tick, operands, Entry, IssueState, Ahead, ahead, entry, first_late}
use Rattle.st_exec.specs.Completion.{prediction}
use Rattle.st_rows.specs.Entries.{no_runs}
use Rattle.st_rows.specs.declared.past.Past.{Past}

module _ (ds : List ℕ) (n c : ℕ) (some : 1 ≤ n) (few : n ≤ 8) where
  prepared-late : (g : IssueState) (e : Entry) → c < done_before n g.past → c < (row_of_entry ds n g e).p
  unfolding row_of_entry tick_p preparation_tick
  prepared-late g e late = omega (arith, late)

  after-c : (g : IssueState) (e : Entry) → (issue_after_entry ds n g e).c ≡ max g.c (operands ds n g e).answered + e.cost
  unfolding issue_after_entry tick_c
  after-c g e = refl

  after-late : (g : IssueState) (e : Entry) (k j : ℕ) → 1 ≤ e.cost → c ≤ g.c → k + 1 ≤ n → ((i : ℕ) → i < k → c < completion_of g.past i) → j < k + 1
      → c < completion_of (issue_after_entry ds n g e).past j
  unfolding issue_after_entry tick_c
  after-late g e k zero cost late room all below = omega (arith, cost, late)
  after-late g e k (suc i) cost late room all below =
      let same : get_or (take 7 g.past) i (record { c = 0; writes = no_runs }) ≡ get_or g.past i (record { c = 0; writes = no_runs }) =
      get_or-take 7 g.past i _ (omega (arith, room, few, below)) in
      subst (λ (p : Past). c < p.c) (sym same) (all i (omega (arith, below)))

  begun-from : (m k : ℕ) (t : Option ℕ) (s : Machine) (g : IssueState) → k + m ≡ n → c ≤ g.c → ((i : ℕ) → i < k → c < completion_of g.past i)
      → All (λ (a : Ahead). 1 ≤ a.entry.cost) (ahead ds n (suc m) t s g) → length (first_late c (ahead ds n (suc m) t s g)) ≡ 1
  unfolding ahead first_late
  begun-from zero k t s g all_of late past costs = elim (cases_Bool (nat_lt (row_of_entry ds n g (entry t s)).p c)) [
    | inl y ↦
        let no : ⊥ = omega (arith, ltb-true _ _ y, prepared-late g (entry t s) (past (n - 1) (omega (arith, all_of, some)))) in absurd no
    | inr m ↦ rw m refl
  ]
  begun-from (suc m) k t s g all_of late past costs = elim (cases_Bool (nat_lt (row_of_entry ds n g (entry t s)).p c)) [
    | inl y ↦
        let e = entry t s in
        let next = issue_after_entry ds n g e in
        let cost : 1 ≤ e.cost = All-head (λ (a : Ahead). 1 ≤ a.entry.cost) _ (ahead ds n (suc m) None (prediction t s) next) costs in
        rw y (begun-from m (k + 1) None (prediction t s) next (omega (arith, all_of)) (omega (arith, after-c g e, late))
        (λ i below. after-late g e k i cost late (omega (arith, all_of)) past below)
        (All-tail (λ (a : Ahead). 1 ≤ a.entry.cost) _ (ahead ds n (suc m) None (prediction t s) next) costs))
    | inr no_one ↦ rw no_one refl
  ]

pub one-begun : (ds : List ℕ) (n : ℕ) (t : Option ℕ) (s : Machine) (f : IssueState) → 1 ≤ n → n ≤ 8
    → All (λ (a : Ahead). 1 ≤ a.entry.cost) (ahead ds n (suc n) t s f) → length (first_late f.c (ahead ds n (suc n) t s f)) ≡ 1
one-begun ds n t s f some few costs =
    begun-from ds n f.c some few n 0 t s f (omega arith) (omega arith) (λ i below. let no : ⊥ = omega (arith, below) in absurd no) costs
