-- The entries in flight that are prepared before a tick.
use Rattle.st_refine.proofs.Common.{IfSome, get_or, ◌-◌, if◌then◌else◌, nat_lt, ◌≡◌, ℕ, zero, suc, ◌+◌, ◌<◌, ◌≤◌, ◌||◌, Bool, true, false, List, [], ◌∷◌, ◌++◌, length, inl, inr, Option, None, refl, sym, subst, ◌∙◌, ap, arith, lt-ltb, le-ltb, ltb-true, false_from_ne_true, or_right, get_or-take, Machine, IsMachine, plan, prediction, row_of_entry, issue_after_entry, address_tick, preparation_tick, done_before, tick_a, tick_p, tick_c, Entry, Past, IssueState, ready-after, entry, predictions, table_behind, RunAhead, Ahead, next_ahead, ahead, issue_behind, prepared_before, entry-ranges, prediction-machine, ahead-next, behind-none, before-cases, AddsOneAtMost, after-c}
use Rattle.st_rows.specs.Entries.{no_runs}

-- ---- ticks of a row

pub p-behind : (ds : List ℕ) (n : ℕ) (f : IssueState) (e : Entry) → f.p + 2 ≤ (row_of_entry ds n f e).p
unfolding row_of_entry tick_p preparation_tick tick_a address_tick
p-behind ds n f e = omega arith

after-p : (ds : List ℕ) (n : ℕ) (f : IssueState) (e : Entry) → (issue_after_entry ds n f e).p ≡ (row_of_entry ds n f e).p
unfolding issue_after_entry row_of_entry
after-p ds n f e = refl

after-serial : (ds : List ℕ) (n : ℕ) (f : IssueState) (e : Entry) → (issue_after_entry ds n f e).serial ≡ e.serial
unfolding issue_after_entry
after-serial ds n f e = refl

-- an entry after a serializing one is prepared after its completion
alone-behind : (ds : List ℕ) (n : ℕ) (f : IssueState) (e : Entry) → f.serial ≡ true → f.c < (row_of_entry ds n f e).p
unfolding row_of_entry tick_p preparation_tick tick_a address_tick
alone-behind ds n f e alone =
    let some : (e.serial || f.serial) ≡ true = or_right e.serial f.serial alone in
    rw some (omega arith)

-- a serializing entry is prepared after the completion of the entry before it
pub alone-before : (ds : List ℕ) (n : ℕ) (f : IssueState) (e : Entry) → e.serial ≡ true → f.c < (row_of_entry ds n f e).p
unfolding row_of_entry tick_p preparation_tick tick_a address_tick
alone-before ds n f e alone = rw alone (omega arith)

-- an entry is prepared after the completion of the n-th entry before it
levels-behind : (ds : List ℕ) (n : ℕ) (f : IssueState) (e : Entry) → done_before n f.past < (row_of_entry ds n f e).p
unfolding row_of_entry tick_p preparation_tick
levels-behind ds n f e = omega arith

pub done-behind : (ds : List ℕ) (n : ℕ) (t : Option ℕ) (s : Machine) (f : IssueState) → IsMachine s → IfSome t (λ i. i < 64)
    → f.c < (row_of_entry ds n f (entry t s)).c
unfolding row_of_entry tick_c
done-behind ds n t s f m some = omega (arith, (entry-ranges t s m some).costs.0)

prepared-first : (ds : List ℕ) (n : ℕ) (t : Option ℕ) (s : Machine) (f : IssueState) → IsMachine s → IfSome t (λ i. i < 64)
    → (row_of_entry ds n f (entry t s)).p < (row_of_entry ds n f (entry t s)).c
unfolding row_of_entry tick_c
prepared-first ds n t s f m some = omega (arith, ready-after ds n f (entry t s), (entry-ranges t s m some).costs.0)

-- ---- by a test

one-if : (a : Ahead) (xs ys : List Ahead) (b c : Bool) → (b ≡ true → (c ≡ true) × AddsOneAtMost xs ys) → (b ≡ false → c ≡ true → ys ≡ [])
    → AddsOneAtMost (if b then a ∷ xs else []) (if c then a ∷ ys else [])
one-if a xs ys true true more none = elim ((more refl).1) [
  | inl same ↦ inl (ap (λ zs. a ∷ zs) same)
  | inr next ↦ inr (next.0, ap (λ zs. a ∷ zs) next.1)
]
one-if a xs ys true false more none = absurd (cc (more refl).0)
one-if a xs ys false true more none = inr (a, ap (λ zs. a ∷ zs) (none refl refl))
one-if a xs ys false false more none = inl refl

few-if : (a : Ahead) (xs : List Ahead) (k : ℕ) (b : Bool) → length xs ≤ k → length (if b then a ∷ xs else []) ≤ suc k
few-if a xs k true few = omega arith
few-if a xs k false few = omega arith

first-if : (a : Ahead) (xs : List Ahead) (b : Bool) → 1 ≤ length (if b then a ∷ xs else []) → b ≡ true
first-if a xs true some = refl
first-if a xs false some = absurd (omega (arith, some))

rest-if : (a : Ahead) (xs : List Ahead) (j : ℕ) (b : Bool) → length (if b then a ∷ xs else []) ≡ suc j → length xs ≡ j
rest-if a xs j true many = omega (arith, many)
rest-if a xs j false many = absurd (omega (arith, many))

-- ---- lists

behind-if : (now : ℕ) (xs : List Ahead) (a : Ahead) → now ≤ a.row.p → prepared_before now (xs ++ a ∷ []) ≡ prepared_before now xs
unfolding prepared_before
behind-if now [] a late = rw (le-ltb a.row.p now late) refl
behind-if now (x ∷ xs) a late = ap (λ (zs : List Ahead). if nat_lt x.row.p now then x ∷ zs else []) (behind-if now xs a late)

more-if : (a : Ahead) (xs : List Ahead) (k : ℕ) (b : Bool) → suc k < length (if b then a ∷ xs else []) → k < length xs
more-if a xs k true many = omega (arith, many)
more-if a xs k false many = absurd (omega (arith, many))

first-some : (a : Ahead) (xs : List Ahead) (b : Bool) → b ≡ true → length (if b then a ∷ xs else []) ≡ 0 → ⊥
first-some a xs true test none = omega (arith, none)
first-some a xs false test none = cc test

pub entry-free : (t : Option ℕ) (s : Machine) → (entry t s).serial ≡ false → (plan s t).serial ≡ false
unfolding entry
entry-free t s is = is

module _ (ds : List ℕ) (n : ℕ) where
  -- no entry is prepared up to the tick after the P of the issue state
  pub none-before : (now k : ℕ) (t : Option ℕ) (s : Machine) (f : IssueState) → now ≤ f.p + 2 → prepared_before now (ahead ds n k t s f) ≡ []
  unfolding ahead prepared_before
  none-before now zero t s f early = refl
  none-before now (suc k) t s f early =
      let e = entry t s in
      let late : now ≤ (row_of_entry ds n f e).p = omega (arith, p-behind ds n f e) in
      rw (le-ltb (row_of_entry ds n f e).p now late) refl

  -- at most one more entry is prepared at the next tick
  pub one-more : (now k : ℕ) (t : Option ℕ) (s : Machine) (f : IssueState)
      → AddsOneAtMost (prepared_before now (ahead ds n k t s f)) (prepared_before (now + 1) (ahead ds n k t s f))
  unfolding ahead prepared_before
  one-more now zero t s f = inl refl
  one-more now (suc k) t s f =
      let e = entry t s in
      let p = (row_of_entry ds n f e).p in
      let g = issue_after_entry ds n f e in
      one-if (next_ahead ds n t s f) (prepared_before now (ahead ds n k None (prediction t s) g)) (prepared_before (now + 1) (ahead ds n k None (prediction t s) g))
      (nat_lt p now) (nat_lt p (now + 1))
      (λ before. let early : p < now = ltb-true p now before in
      let still : p < now + 1 = omega (arith, early) in
      (lt-ltb p (now + 1) still, one-more now k None (prediction t s) g))
      (λ late at. elim (before-cases p now) [
        | inl early ↦ absurd (cc (sym late ∙ early.0))
        | inr late_one ↦ none-before (now + 1) k None (prediction t s) g (omega (arith, late_one.1, after-p ds n f e))
      ])

  pub few-before : (now k : ℕ) (t : Option ℕ) (s : Machine) (f : IssueState) → length (prepared_before now (ahead ds n k t s f)) ≤ k
  unfolding ahead prepared_before
  few-before now zero t s f = omega arith
  few-before now (suc k) t s f =
      few-if (next_ahead ds n t s f) (prepared_before now (ahead ds n k None (prediction t s) (issue_after_entry ds n f (entry t s)))) k
      (nat_lt (row_of_entry ds n f (entry t s)).p now) (few-before now k None (prediction t s) (issue_after_entry ds n f (entry t s)))

  -- the entries prepared before a tick are the first ones of the entries in flight
  pub first-ones : (j now k : ℕ) (t : Option ℕ) (s : Machine) (f : IssueState) → length (prepared_before now (ahead ds n k t s f)) ≡ j
      → prepared_before now (ahead ds n k t s f) ≡ ahead ds n j t s f
  unfolding ahead prepared_before
  first-ones zero now zero t s f many = refl
  first-ones (suc j) now zero t s f many = absurd (omega (arith, many))
  first-ones zero now (suc k) t s f many =
      none-long (if nat_lt (row_of_entry ds n f (entry t s)).p now then next_ahead ds n t s f ∷ prepared_before now (ahead ds n k None (prediction t s) (issue_after_entry ds n f (entry t s))) else []) many
    where
      none-long : (xs : List Ahead) → length xs ≡ 0 → xs ≡ []
      none-long [] e = refl
      none-long (x ∷ xs) e = absurd (omega (arith, e))
  first-ones (suc j) now (suc k) t s f many =
      let rest = prepared_before now (ahead ds n k None (prediction t s) (issue_after_entry ds n f (entry t s))) in
      let a = next_ahead ds n t s f in
      let test = nat_lt (row_of_entry ds n f (entry t s)).p now in
      let some : test ≡ true = first-if a rest test (omega (arith, many)) in
      let fewer : length rest ≡ j = rest-if a rest j test many in
      ap (λ b. if b then a ∷ rest else []) some ∙ ap (λ zs. a ∷ zs) (first-ones j now k None (prediction t s) (issue_after_entry ds n f (entry t s)) fewer)

  first-early : (now k : ℕ) (t : Option ℕ) (s : Machine) (f : IssueState) → 1 ≤ length (prepared_before now (ahead ds n k t s f))
      → (row_of_entry ds n f (entry t s)).p < now
  unfolding ahead prepared_before
  first-early now zero t s f some = absurd (omega (arith, some))
  first-early now (suc k) t s f some =
      let p = (row_of_entry ds n f (entry t s)).p in
      ltb-true p now (first-if (next_ahead ds n t s f) (prepared_before now (ahead ds n k None (prediction t s) (issue_after_entry ds n f (entry t s)))) (nat_lt p now) some)

  -- if the first entry has not completed before, only the youngest can be serializing
  run-ahead : (j now k : ℕ) (t : Option ℕ) (s : Machine) (f : IssueState) → IsMachine s → IfSome t (λ i. i < 64)
      → now ≤ (row_of_entry ds n f (entry t s)).c → length (prepared_before now (ahead ds n k t s f)) ≡ suc j → RunAhead j t s
  unfolding ahead prepared_before RunAhead
  run-ahead zero now k t s f m some late many = tt
  run-ahead (suc j) now zero t s f m some late many = absurd (omega (arith, many))
  run-ahead (suc j) now (suc k) t s f m some late many =
      let e = entry t s in
      let g = issue_after_entry ds n f e in
      let next = entry None (prediction t s) in
      let machine = prediction-machine t s m some in
      let fewer : length (prepared_before now (ahead ds n k None (prediction t s) g)) ≡ suc j =
      rest-if (next_ahead ds n t s f) (prepared_before now (ahead ds n k None (prediction t s) g)) (suc j) (nat_lt (row_of_entry ds n f e).p now) many in
      let early : (row_of_entry ds n g next).p < now = first-early now k None (prediction t s) g (omega (arith, fewer)) in
      let same : g.c ≡ (row_of_entry ds n f e).c = after-c ds n f e in
      let free : e.serial ≡ false = false_from_ne_true e.serial (λ alone.
      let behind : g.c < (row_of_entry ds n g next).p = alone-behind ds n g next (after-serial ds n f e ∙ alone) in
      omega (arith, behind, early, same, late)) in
      let later : now ≤ (row_of_entry ds n g next).c = omega (arith, late, same, done-behind ds n None (prediction t s) g machine tt) in
      (entry-free t s free, run-ahead j now k None (prediction t s) g machine tt later fewer)

  pub most-ahead : (j now k : ℕ) (t : Option ℕ) (s : Machine) (f : IssueState) → IsMachine s → IfSome t (λ i. i < 64)
      → now ≤ (row_of_entry ds n f (entry t s)).c → length (prepared_before now (ahead ds n k t s f)) ≡ j → RunAhead (j - 1) t s
  unfolding RunAhead
  most-ahead zero now k t s f m some late many = tt
  most-ahead (suc j) now k t s f m some late many =
      let fewer : j ≡ suc j - 1 = omega arith in
      subst (λ i. RunAhead i t s) fewer (run-ahead j now k t s f m some late many)

  -- the past entries of the issue state after k entries include those of an older issue state
  past-behind : (k j : ℕ) (d : Past) (t : Option ℕ) (s : Machine) (f : IssueState) → k + j < 8
      → get_or (issue_behind ds n k t s f).past (k + j) d ≡ get_or f.past j d
  unfolding issue_behind issue_after_entry
  past-behind zero j d t s f few = let place : 0 + j ≡ j = omega arith in ap (λ i. get_or f.past i d) place
  past-behind (suc k) j d t s f few =
      let place : suc k + j ≡ k + suc j = omega arith in
      let g = issue_after_entry ds n f (entry t s) in
      ap (λ i. get_or (issue_behind ds n k None (prediction t s) g).past i d) place
      ∙ past-behind k (suc j) d None (prediction t s) g (omega arith)
      ∙ get_or-take 7 f.past j d (omega arith)

  -- the n-th entry after one that completes at this tick is not prepared before it
  full-late : (k now : ℕ) (t u : Option ℕ) (s v : Machine) (f : IssueState) (e : Entry) → n ≡ suc k → n ≤ 8 → now ≤ (row_of_entry ds n f (entry t s)).c
      → now < (row_of_entry ds n (issue_behind ds n k None (prediction t s) (issue_after_entry ds n f (entry t s))) e).p
  unfolding issue_after_entry row_of_entry
  full-late k now t u s v f e more few late =
      let none : Past = record { c = 0; writes = no_runs } in
      let g = issue_after_entry ds n f (entry t s) in
      let last = issue_behind ds n k None (prediction t s) g in
      let place : n - 1 ≡ k + 0 = omega (arith, more) in
      let kept = past-behind k 0 none None (prediction t s) g (omega (arith, more, few)) in
      let c : done_before n last.past ≡ tick_c ds n f (entry t s) = ap (λ i. (get_or last.past i none).c) place ∙ ap (λ (x : Past). x.c) kept in
      omega (arith, c, late, levels-behind ds n last e)

  with-first : (k now : ℕ) (t : Option ℕ) (s : Machine) (f : IssueState) → (row_of_entry ds n f (entry t s)).p < now
      → prepared_before now (ahead ds n (suc k) t s f)
      ≡ next_ahead ds n t s f ∷ prepared_before now (ahead ds n k None (prediction t s) (issue_after_entry ds n f (entry t s)))
  unfolding ahead prepared_before
  with-first k now t s f early = rw (lt-ltb (row_of_entry ds n f (entry t s)).p now early) refl

  -- after the oldest entry completes, the others remain
  oldest-done : (k now : ℕ) (t : Option ℕ) (s : Machine) (f : IssueState) → IsMachine s → IfSome t (λ i. i < 64) → n ≡ suc k → n ≤ 8
      → (row_of_entry ds n f (entry t s)).c ≡ now
      → prepared_before now (ahead ds n (suc k) t s f)
      ≡ next_ahead ds n t s f ∷ prepared_before now (ahead ds n (suc k) None (prediction t s) (issue_after_entry ds n f (entry t s)))
  oldest-done k now t s f m some more few due =
      let e = entry t s in
      let g = issue_after_entry ds n f e in
      let u = prediction t s in
      let early : (row_of_entry ds n f e).p < now = omega (arith, due, prepared-first ds n t s f m some) in
      let last = next_ahead ds n (table_behind k None) (predictions k None u) (issue_behind ds n k None u g) in
      let late : now ≤ last.row.p = omega (arith, due, full-late k now t None s u f (entry (table_behind k None) (predictions k None u)) more few (omega (arith, due))) in
      with-first k now t s f early
      ∙ ap (λ zs. next_ahead ds n t s f ∷ zs)
      (sym (behind-if now (ahead ds n k None u g) last late) ∙ ap (prepared_before now) (sym (ahead-next ds n k None u g)))

  pub done-levels : (now : ℕ) (t : Option ℕ) (s : Machine) (f : IssueState) → IsMachine s → IfSome t (λ i. i < 64) → 1 ≤ n → n ≤ 8
      → (row_of_entry ds n f (entry t s)).c ≡ now
      → prepared_before now (ahead ds n n t s f)
      ≡ next_ahead ds n t s f ∷ prepared_before now (ahead ds n n None (prediction t s) (issue_after_entry ds n f (entry t s)))
  done-levels now t s f m some one few due =
      let more : n ≡ suc (n - 1) = omega arith in
      let g = issue_after_entry ds n f (entry t s) in
      ap (λ i. prepared_before now (ahead ds n i t s f)) more
      ∙ oldest-done (n - 1) now t s f m some more few due
      ∙ ap (λ i. next_ahead ds n t s f ∷ prepared_before now (ahead ds n i None (prediction t s) g)) (sym more)

  -- ---- the rows of the levels and of the entry after them

  pub level-early : (k now m : ℕ) (t : Option ℕ) (s : Machine) (f : IssueState) → k < length (prepared_before now (ahead ds n m t s f))
      → (row_of_entry ds n (issue_behind ds n k t s f) (entry (table_behind k t) (predictions k t s))).p < now
  unfolding ahead prepared_before issue_behind predictions
  level-early zero now m t s f few = first-early now m t s f (omega (arith, few))
  level-early (suc k) now zero t s f few = absurd (omega (arith, few))
  level-early (suc k) now (suc m) t s f few =
      let g = issue_after_entry ds n f (entry t s) in
      let u = prediction t s in
      subst (λ i. (row_of_entry ds n (issue_behind ds n k None u g) (entry i (predictions k None u))).p < now) (behind-none k)
      (level-early k now m None u g (more-if (next_ahead ds n t s f) (prepared_before now (ahead ds n m None u g)) k (nat_lt (row_of_entry ds n f (entry t s)).p now) few))

  next-late : (k now m : ℕ) (t : Option ℕ) (s : Machine) (f : IssueState) → length (prepared_before now (ahead ds n m t s f)) ≡ k → k < m
      → now ≤ (row_of_entry ds n (issue_behind ds n k t s f) (entry (table_behind k t) (predictions k t s))).p
  unfolding ahead prepared_before issue_behind predictions
  next-late k now zero t s f many few = absurd (omega (arith, few))
  next-late zero now (suc m) t s f many few = elim (before-cases (row_of_entry ds n f (entry t s)).p now) [
    | inl early ↦ absurd (first-some (next_ahead ds n t s f) (prepared_before now (ahead ds n m None (prediction t s) (issue_after_entry ds n f (entry t s)))) (nat_lt (row_of_entry ds n f (entry t s)).p now) early.0 many)
    | inr late ↦ late.1
  ]
  next-late (suc k) now (suc m) t s f many few =
      let g = issue_after_entry ds n f (entry t s) in
      let u = prediction t s in
      subst (λ i. now ≤ (row_of_entry ds n (issue_behind ds n k None u g) (entry i (predictions k None u))).p) (behind-none k)
      (next-late k now m None u g (rest-if (next_ahead ds n t s f) (prepared_before now (ahead ds n m None u g)) k (nat_lt (row_of_entry ds n f (entry t s)).p now) many)
      (omega (arith, few)))

  full-next : (k now : ℕ) (t : Option ℕ) (s : Machine) (f : IssueState) → n ≡ suc k → n ≤ 8 → now ≤ (row_of_entry ds n f (entry t s)).c
      → now ≤ (row_of_entry ds n (issue_behind ds n (suc k) t s f) (entry (table_behind (suc k) t) (predictions (suc k) t s))).p
  unfolding issue_behind
  full-next k now t s f more few late =
      omega (arith, full-late k now t None s s f (entry (table_behind (suc k) t) (predictions (suc k) t s)) more few late)

  pub behind-late : (k now : ℕ) (t : Option ℕ) (s : Machine) (f : IssueState) → 1 ≤ n → n ≤ 8 → now ≤ (row_of_entry ds n f (entry t s)).c
      → length (prepared_before now (ahead ds n n t s f)) ≡ k
      → now ≤ (row_of_entry ds n (issue_behind ds n k t s f) (entry (table_behind k t) (predictions k t s))).p
  behind-late k now t s f some few late many = elim (before-cases k n) [
    | inl room ↦ next-late k now n t s f many room.1
    | inr full ↦
        let all : k ≡ suc (n - 1) = omega (arith, full.1, many, few-before now n t s f) in
        let more : n ≡ suc (n - 1) = omega arith in
        subst (λ i. now ≤ (row_of_entry ds n (issue_behind ds n i t s f) (entry (table_behind i t) (predictions i t s))).p) (sym all)
        (full-next (n - 1) now t s f more few late)
  ]

  pub level-later : (k tick : ℕ) (t : Option ℕ) (s : Machine) (f : IssueState) → IsMachine s → IfSome t (λ i. i < 64) → tick < (row_of_entry ds n f (entry t s)).c
      → tick < (row_of_entry ds n (issue_behind ds n k t s f) (entry (table_behind k t) (predictions k t s))).c
  unfolding issue_behind predictions
  level-later zero tick t s f m some late = late
  level-later (suc k) tick t s f m some late =
      let g = issue_after_entry ds n f (entry t s) in
      let u = prediction t s in
      let machine = prediction-machine t s m some in
      subst (λ i. tick < (row_of_entry ds n (issue_behind ds n k None u g) (entry i (predictions k None u))).c) (behind-none k)
      (level-later k tick None u g machine tt (omega (arith, late, after-c ds n f (entry t s), done-behind ds n None u g machine tt)))
