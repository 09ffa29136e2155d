-- The rows of entries determine which have completed and which are levels.
use Rattle.st_refine.proofs.Common.{if◌then◌else◌, ◌-◌, ◌≡◌, ℕ, zero, suc, ◌+◌, ◌<◌, ◌≤◌, Bool, true, false, List, length, inl, inr, Option, refl, sym, subst, ◌∙◌, ap, ap₂, arith, cases_Bool, Machine, issue_after_entry, tick_c, Entry, IssueState, entry, ahead, prepared_before, table_behind, before-cases, is_owed, has_ended, Overlap, state_ahead, oldest_row, levels_of, last_tick_made, IsReached, row_before, Opening, ExternalEvents, state_after, issue_at, StandsAt}
use Rattle.st_refine.proofs.LevelLists.{done-behind, level-early, behind-late, level-later}
use Rattle.st_refine.proofs.Kept.{IsIdle, IsKept, idle-none, fresh-of, has_completed, kept, row-idle, late-fresh}
use Rattle.st_refine.proofs.SplitLemmas.{seen-machine}
use Rattle.st_refine.proofs.LentLemmas.{oldest-late}

-- ---- completed entries

issue-later : (ds : List ℕ) (n : ℕ) (f : IssueState) (e : Entry) → f.c ≤ (issue_after_entry ds n f e).c
unfolding issue_after_entry tick_c
issue-later ds n f e = omega arith

issues-rise : (ds : List ℕ) (n : ℕ) (o : Opening) (xs : List ExternalEvents) (i j : ℕ) → i ≤ j
    → (issue_at ds n o xs i).c ≤ (issue_at ds n o xs j).c
unfolding issue_at
issues-rise ds n o xs i zero few = let same : i ≡ 0 = omega (arith, few) in subst (λ k. (issue_at ds n o xs k).c ≤ o.issue.c) (sym same) (omega arith)
issues-rise ds n o xs i (suc j) few =
    let f = issue_at ds n o xs j in
    let later = issue-later ds n f (entry (table_behind j o.table) (state_after o xs j)) in
    elim (before-cases i (suc j)) [
      | inl below ↦ let before = issues-rise ds n o xs i j (omega (arith, below.1)) in omega (arith, before, later)
      | inr over ↦ let same : i ≡ suc j = omega (arith, over.1, few) in at-place i same
    ]
  where
    at-place : (k : ℕ) → k ≡ suc j → (issue_at ds n o xs k).c ≤ (issue_at ds n o xs (suc j)).c
    at-place k same = subst (λ l. (issue_at ds n o xs k).c ≤ (issue_at ds n o xs l).c) same (omega arith)

pub rows-done : (m : Overlap) (i j : ℕ) (o : Opening) (xs : List ExternalEvents) → StandsAt o xs j m → i < j
    → (issue_at m.delays m.levels o xs (suc i)).c ≤ last_tick_made m
rows-done m i j o xs is early =
    let some : 1 ≤ j = omega (arith, early) in
    omega (
      arith,
      is.done some,
      ap (λ (f : IssueState). f.c) is.issue,
      issues-rise m.delays m.levels o xs (suc i) j (omega (arith, early)),
    )

-- ---- levels

-- the oldest entry has not completed by the last tick
last-idle : (owed : Bool) (now c f : ℕ) → (if owed then now + 1 else now) ≤ c → f < c → (if owed then now else now - 1) < c
last-idle true now c f late some = omega (arith, late)
last-idle false now c f late some = omega (arith, late, some)

last-now : (owed : Bool) (now : ℕ) → (if owed then now else now - 1) ≤ now
last-now true now = omega arith
last-now false now = omega arith

oldest-behind : (m : Overlap) → IsKept m → last_tick_made m < (oldest_row m).c
unfolding oldest_row
oldest-behind m is =
    let behind = done-behind m.delays m.levels m.taken (state_ahead m) m.issue (seen-machine m is) is.indicator in
    elim (cases_Bool (has_completed m.phase)) [
      | inr none ↦ let idle : IsIdle m = idle-none m is none in
          last-idle (is_owed m.phase) m.now _ m.issue.c (omega (arith, row-idle m idle, idle.early)) behind
      | inl some ↦ omega (arith, last-now (is_owed m.phase) m.now, late-fresh m (fresh-of m is some) (has_ended m.phase) refl, behind)
    ]

pub levels-told : (m : Overlap) (made since k : ℕ) → IsReached m made since → k < length (levels_of m)
    → ((row_before k m).p < m.now) × (last_tick_made m < (row_before k m).c)
unfolding levels_of oldest_row
levels-told m made since k from few =
    let is = kept from in (
      level-early m.delays m.levels k m.now m.levels m.taken (state_ahead m) m.issue few,
      level-later m.delays m.levels k (last_tick_made m) m.taken (state_ahead m) m.issue (seen-machine m is) is.indicator (oldest-behind m is),
    )

pub next-told : (m : Overlap) (made since : ℕ) → IsReached m made since
    → (m.now ≤ (row_before (length (levels_of m)) m).p) × (last_tick_made m < (row_before (length (levels_of m)) m).c)
unfolding levels_of oldest_row
next-told m made since from =
    let is = kept from in (
      behind-late m.delays m.levels _ m.now m.taken (state_ahead m) m.issue is.some is.few (oldest-late m is) refl,
      level-later m.delays m.levels _ (last_tick_made m) m.taken (state_ahead m) m.issue (seen-machine m is) is.indicator (oldest-behind m is),
    )

pub levels-ahead : (m : Overlap) (j : ℕ) (o : Opening) (xs : List ExternalEvents) → StandsAt o xs j m → state_ahead m ≡ m.state
    → levels_of m
    ≡ prepared_before m.now (ahead m.delays m.levels m.levels (table_behind j o.table) (state_after o xs j) (issue_at m.delays m.levels o xs j))
unfolding levels_of
levels-ahead m j o xs is same =
    let at = λ (t : Option ℕ) (s : Machine) (f : IssueState). prepared_before m.now (ahead m.delays m.levels m.levels t s f) in
    ap (λ t. at t (state_ahead m) m.issue) is.table
    ∙ ap₂ (λ s f. at (table_behind j o.table) s f) (same ∙ is.state) is.issue
