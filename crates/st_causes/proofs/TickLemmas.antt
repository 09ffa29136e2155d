-- Lemmas on rows with lost ticks, and on the reads that waits name.
use Rattle.st_causes.proofs.Common.{zero, suc, nat_eq, nat_le, nat_lt, ◌&&◌, All, reverse, ◌≡◌, ℕ, ◌+◌, ◌≤◌, ◌<◌, ◌⊎◌, max, true, List, ◌++◌, inl, inr, refl, sym, ◌∙◌, arith, cases_Bool, and_parts, eqb-true, leb-true, lt-ltb, ltb-true, ltb-false, All-nil, All-cons, rests, row_of_entry, issue_after_entry, tick_a, tick_p, tick_c, address_tick, preparation_tick, Entry, IssueState, Moment, Standing, next_state, next_issue, ends_segment, standing_at, next_moment, next_row, entry_of_moment, charges, all_ticks, ticks_for, charges_at, charges_follow, Use, has_cause, is_cause, Turn, Bank, Storage, uses_at, words_before, ToldRow, told_from}
use Rattle.st_rows.proofs.Awaited.{ready-after}
use Rattle.st_ledger.specs.declared.charges.Stage.TheVariants.{Executing}
use Rattle.st_rows.specs.declared.uses.ReadTicks.{ReadTicks}
use Rattle.st_ledger.specs.Words.{is_read, read_of}
use Rattle.st_ledger.specs.declared.waits.Stall.{Stall}

-- ---- a read that is named is accepted by the end of the wait

cause-early : (why : Stall) (to t : ℕ) (r : ReadTicks) → t < to → has_cause why to t r ≡ true → r.accept ≤ to
unfolding has_cause
cause-early Turn to t r early is = omega (arith, early, eqb-true _ _ is)
cause-early Bank to t r early is =
    let one = and_parts (nat_le r.want t) (nat_le r.turn t && (nat_lt t r.free && nat_eq r.accept to)) is in
    let two = and_parts (nat_le r.turn t) (nat_lt t r.free && nat_eq r.accept to) one.1 in
    let at : r.accept ≡ to = eqb-true _ _ (and_parts (nat_lt t r.free) (nat_eq r.accept to) two.1).1 in
    omega (arith, at)
cause-early Storage to t r early is =
    let one = and_parts (nat_le r.accept t) (nat_lt t r.answer) is in
    omega (arith, early, leb-true _ _ one.0)

pub named-early : (why : Stall) (v to t : ℕ) (u : Use) → t < to → is_cause why v to t u ≡ true → (read_of u.supply).accept ≤ to
named-early why v to t u early is =
    cause-early why to t (read_of u.supply) early (and_parts (is_read u.supply && nat_eq u.word v) (has_cause why to t (read_of u.supply)) is).1

-- ---- a row has ticks other than those of executing if its operands are available later than the
-- previous entry completed

tests-alike : (a b c d : ℕ) → (a < b → c < d) → (c < d → a < b) → nat_lt a b ≡ nat_lt c d
tests-alike a b c d to from = elim (cases_Bool (nat_lt a b)) [
  | inl y ↦ y ∙ sym (lt-ltb c d (to (ltb-true a b y)))
  | inr m ↦ elim (cases_Bool (nat_lt c d)) [
    | inl z ↦
        let late = from (ltb-true c d z) in
        let no : ⊥ = omega (arith, late, ltb-false a b m) in absurd no
    | inr k ↦ m ∙ sym k
  ]
]

done-tick : (ds : List ℕ) (n : ℕ) (f : IssueState) (e : Entry) → (row_of_entry ds n f e).c ≡ max f.c (row_of_entry ds n f e).r + e.cost
unfolding row_of_entry tick_c
done-tick ds n f e = refl

lost : (ds : List ℕ) (n t : ℕ) (f : IssueState) (e : Entry) → t ≤ f.c → (f.c ≤ t) ⊎ (f.c ≤ (row_of_entry ds n f e).r)
    → nat_lt t (row_of_entry ds n f e).r
    ≡ nat_lt (ticks_for Executing (charges t f (row_of_entry ds n f e))) (all_ticks (charges t f (row_of_entry ds n f e)))
lost ds n t f e early late =
    let row = row_of_entry ds n f e in
    let xs = charges t f row in
    let sum = charges_follow.sum ds n t f e early in
    let cost = charges_follow.cost ds n t f e early in
    tests-alike t row.r (ticks_for Executing xs) (all_ticks xs)
    (λ some. omega (arith, some, sum, cost, done-tick ds n f e, early))
    (λ some. elim late [
      | inl at ↦ omega (arith, some, sum, cost, done-tick ds n f e, early, at)
      | inr soon ↦ omega (arith, some, sum, cost, done-tick ds n f e, early, soon)
    ])

prepared-late : (ds : List ℕ) (n : ℕ) (f : IssueState) (e : Entry) → f.p ≤ tick_p ds n f e
unfolding tick_p preparation_tick tick_a address_tick
prepared-late ds n f e = omega arith

prepared-behind : (ds : List ℕ) (n : ℕ) (f : IssueState) (e : Entry) → f.p ≤ (row_of_entry ds n f e).r
unfolding row_of_entry
prepared-behind ds n f e = omega (arith, ready-after ds n f e, prepared-late ds n f e)

-- ---- all rows of a run

next-at : (ds : List ℕ) (n : ℕ) (p : Standing) → (next_moment ds n p).issue.c ≡ (next_moment ds n p).tick
unfolding next_moment next_row row_of_entry issue_after_entry
next-at ds n p = refl

-- the issue state after a moment is that of the last entry, or opens a segment
issue-late : (ds : List ℕ) (n : ℕ) (m : Moment) (e : Entry) → m.issue.c ≡ m.tick
    → (m.tick ≤ (standing_at m).issue.c) × (((standing_at m).issue.c ≤ m.tick) ⊎ ((standing_at m).issue.c ≤ (row_of_entry ds n (standing_at m).issue e).r))
unfolding next_issue
issue-late ds n m e at = elim (cases_Bool (ends_segment m)) [
  | inl y ↦ rw y (omega arith, inr (prepared-behind ds n _ e))
  | inr k ↦ rw k (omega (arith, at), inl (omega (arith, at)))
]

row-lost : (ds : List ℕ) (n : ℕ) (m : Moment) → m.issue.c ≡ m.tick
    → nat_lt (standing_at m).tick (next_row ds n (standing_at m)).r
    ≡ nat_lt (ticks_for Executing (charges_at ds n (standing_at m))) (all_ticks (charges_at ds n (standing_at m)))
unfolding charges_at next_row
row-lost ds n m at =
    let both = issue-late ds n m (entry_of_moment (standing_at m)) at in
    lost ds n m.tick (standing_at m).issue (entry_of_moment (standing_at m)) both.0 both.1

pub each-lost : (ds : List ℕ) (n left : ℕ) (us segment : List Use) (m : Moment) → m.issue.c ≡ m.tick
    → All (λ (r : ToldRow). nat_lt r.standing.tick (next_row ds n r.standing).r
    ≡ nat_lt (ticks_for Executing (charges_at ds n r.standing)) (all_ticks (charges_at ds n r.standing))) (told_from ds n left us segment m)
unfolding told_from
each-lost ds n zero us segment m at = All-nil (λ (r : ToldRow). nat_lt r.standing.tick (next_row ds n r.standing).r
    ≡ nat_lt (ticks_for Executing (charges_at ds n r.standing)) (all_ticks (charges_at ds n r.standing)))
each-lost ds n (suc left) us segment m at =
    let P : ToldRow → Type 0 = λ (r : ToldRow). nat_lt r.standing.tick (next_row ds n r.standing).r
    ≡ nat_lt (ticks_for Executing (charges_at ds n r.standing)) (all_ticks (charges_at ds n r.standing)) in
    elim (cases_Bool (rests (next_state m))) [
      | inl y ↦ rw y (All-nil P)
      | inr k ↦
          let p = standing_at m in
          rw k (All-cons P _ _ (row-lost ds n m at)
          (each-lost ds n left (uses_at ds n p) (reverse (uses_at ds n p) ++ words_before m segment) (next_moment ds n p) (next-at ds n p)))
    ]
