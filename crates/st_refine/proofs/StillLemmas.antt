-- Signals and orders without a card do not change the view of the levels.
use Rattle.st_refine.proofs.Common.{replicate, nat_lt, nat_le, option_map, ◌-◌, if◌then◌else◌, ◌≡◌, ℕ, zero, suc, ◌<◌, ◌≤◌, Bool, true, false, List, [], ◌∷◌, ◌++◌, length, inl, inr, Option, None, Some, refl, sym, subst, ◌∙◌, ap, ap₂, arith, ltb-true, false_from_ne_true, length-map, Machine, IsMachine, state_with_signal, index_words, plan, Prepared, prediction, row_of_entry, issue_after_entry, tick_c, Entry, IssueState, entry, RunAhead, split_words, Ahead, next_ahead, ahead, prepared_before, prediction-machine, has_ended, Overlap, state_ahead, with_counter, levels_of, last_tick_made, signalled_by, MaySignal, word_before_change, level_shown, view_at_tick, LevelView, IsReached, IsStill}
use Rattle.st_prep.specs.BesideOrders.{AreAlikeBesideOrders}
use Rattle.st_prep.proofs.BesideLemmas.{plan-beside_ahead}
use Rattle.st_exec.proofs.BesideEntries.{beside-signalled}
use Rattle.st_rows.specs.declared.issue.EntryTicks.{EntryTicks}
use Rattle.st_segment.proofs.SameReading.{same-index}
use Rattle.st_segment.proofs.PassedOver.{entry-same, passed-over}
use Rattle.st_refine.proofs.LevelLists.{alone-before, entry-free}
use Rattle.st_refine.proofs.Kept.{IsKept, fresh-of, has_completed, served, kept}
use Rattle.st_refine.proofs.SplitLemmas.{seen-machine, shown-index, shown-none, shows}
use Rattle.st_refine.proofs.RefinedLemmas.{empty-levels}
use Rattle.st_ahead.proofs.Signals.{counted-alike}
use Rattle.st_ahead.proofs.SameLookahead.{prediction-same}

-- ---- entries that are prepared before the previous one completes are non-serializing

pub behind-later : (ds : List ℕ) (n now : ℕ) (f : IssueState) (e : Entry) → now ≤ f.c → now ≤ (issue_after_entry ds n f e).c
unfolding issue_after_entry tick_c
behind-later ds n now f e late = omega arith

-- a level by its plan and its row
abbrev level-by : ℕ → Prepared → EntryTicks → LevelView
level-by tick p r = record {
  address = p.place.address;
  p = r.p;
  index = option_map (λ c. c.number) p.index;
  kept = word_before_change p.index;
  ready = nat_le r.r tick;
}

-- two lists with the same test have equal views if they have when it is true
both-if : (tick : ℕ) (b : Bool) (x y : Ahead) (xs ys : List Ahead)
    → (b ≡ true → (level_shown tick x ≡ level_shown tick y) × (shows tick xs ≡ shows tick ys))
    → shows tick (if b then x ∷ xs else []) ≡ shows tick (if b then y ∷ ys else [])
both-if tick true x y xs ys same = ap₂ (λ l ls. Some l ∷ ls) (same refl).0 (same refl).1
both-if tick false x y xs ys same = refl

run-if : (b : Bool) (x : Ahead) (xs : List Ahead) (s : Machine) → (b ≡ true → RunAhead (suc (length xs)) None s)
    → RunAhead (length (if b then x ∷ xs else [])) None s
unfolding RunAhead
run-if true x xs s run = run refl
run-if false x xs s run = tt

module _ (ds : List ℕ) (n now : ℕ) where
  free-early : (s : Machine) (f : IssueState) → now ≤ f.c → nat_lt (row_of_entry ds n f (entry None s)).p now ≡ true → (plan s None).serial ≡ false
  free-early s f late early =
      let e = entry None s in
      let p : (row_of_entry ds n f e).p < now = ltb-true (row_of_entry ds n f e).p now early in
      entry-free None s (false_from_ne_true e.serial (λ alone.
      let behind : f.c < (row_of_entry ds n f e).p = alone-before ds n f e alone in
      omega (arith, behind, p, late)))

  run-all : (k : ℕ) (s : Machine) (f : IssueState) → IsMachine s → now ≤ f.c → RunAhead (length (prepared_before now (ahead ds n k None s f))) None s
  unfolding ahead prepared_before RunAhead
  run-all zero s f m late = tt
  run-all (suc k) s f m late =
      let g = issue_after_entry ds n f (entry None s) in
      run-if (nat_lt (row_of_entry ds n f (entry None s)).p now) (next_ahead ds n None s f) (prepared_before now (ahead ds n k None (prediction None s) g)) s
      (λ early. (free-early s f late early, run-all k (prediction None s) g (prediction-machine None s m tt) (behind-later ds n now f (entry None s) late)))

  shows-same : (tick k : ℕ) (s u : Machine) (f : IssueState) → IsMachine s → AreAlikeBesideOrders s u → now ≤ f.c
      → shows tick (prepared_before now (ahead ds n k None s f)) ≡ shows tick (prepared_before now (ahead ds n k None u f))
  unfolding ahead prepared_before
  shows-same tick zero s u f m alike late = refl
  shows-same tick (suc k) s u f m alike late =
      let e = entry None s in
      let g = issue_after_entry ds n f e in
      let before = λ (xs : List Ahead). prepared_before now xs in
      both-if tick (nat_lt (row_of_entry ds n f e).p now) (next_ahead ds n None s f)
      (record { state = u; table = None; issue = f; entry = e; row = row_of_entry ds n f e })
      (before (ahead ds n k None (prediction None s) g)) (before (ahead ds n k None (prediction None u) g))
      (λ early.
      let free = free-early s f late early in (
        ap (λ p. level-by tick p (row_of_entry ds n f e)) (sym (plan-beside_ahead s u None alike free)),
        shows-same tick k (prediction None s) (prediction None u) g (prediction-machine None s m tt) (prediction-same s u m alike free) (behind-later ds n now f e late),
      ))
      ∙ ap (λ (x : Entry). shows tick (if nat_lt (row_of_entry ds n f x).p now
      then record { state = u; table = None; issue = f; entry = x; row = row_of_entry ds n f x } ∷ before (ahead ds n k None (prediction None u) (issue_after_entry ds n f x))
      else [])) (sym (entry-same None s u alike))

-- ---- views

-- two machines whose levels have equal views
still-by : (m x : Overlap) → last_tick_made x ≡ last_tick_made m → shows (last_tick_made m) (levels_of m) ≡ shows (last_tick_made m) (levels_of x) → (view_at_tick x).x ≡ (view_at_tick m).x
    → IsStill m x
unfolding view_at_tick
still-by m x tick levels index =
    let many : length (levels_of x) ≡ length (levels_of m) =
    sym (length-map (levels_of x) (λ a. Some (level_shown (last_tick_made m) a)))
    ∙ ap length (sym levels) ∙ length-map (levels_of m) (λ a. Some (level_shown (last_tick_made m) a)) in
    record {
      levels =
          ap (λ t. shows t (levels_of x) ++ replicate (8 - length (levels_of x)) None) tick
          ∙ ap₂ (λ ls k. ls ++ replicate (8 - k) None) (sym levels) many;
      index = index;
    }

-- machines without levels
still-empty : (m x : Overlap) → last_tick_made x ≡ last_tick_made m → levels_of m ≡ [] → levels_of x ≡ [] → index_words x.state ≡ index_words m.state → IsStill m x
still-empty m x tick old new same =
    still-by m x tick (ap (shows (last_tick_made m)) (old ∙ sym new))
    (shown-none x (ap length new) ∙ same ∙ sym (shown-none m (ap length old)))

-- ---- after the tick of a completion

seen-alike : (m : Overlap) (u : Machine) → AreAlikeBesideOrders m.state u → AreAlikeBesideOrders (state_ahead m) (state_ahead (record m { state = u }))
unfolding state_ahead
seen-alike m u is = by-end (has_ended m.phase)
  where
    by-end : (b : Bool) → AreAlikeBesideOrders (if b then m.state else with_counter m.mispredicted m.state) (if b then u else with_counter m.mispredicted u)
    by-end true = is
    by-end false = counted-alike m.mispredicted m.state u is

still-going : (m : Overlap) (u : Machine) → IsKept m → m.taken ≡ None → m.now ≤ m.issue.c → AreAlikeBesideOrders m.state u
    → IsStill m (record m { state = u })
unfolding levels_of
still-going m u is none late alike =
    let x = record m { state = u } in
    let tick = last_tick_made m in
    let s = state_ahead m in
    let v = state_ahead x in
    let machine : IsMachine s = seen-machine m is in
    let both = seen-alike m u alike in
    let ds = m.delays in
    let n = m.levels in
    let at = λ (t : Option ℕ) (w : Machine). prepared_before m.now (ahead ds n n t w m.issue) in
    let same : shows tick (levels_of m) ≡ shows tick (levels_of x) =
    ap (λ t. shows tick (at t s)) none ∙ shows-same ds n m.now tick n s v m.issue machine both late ∙ ap (λ t. shows tick (at t v)) (sym none) in
    let many : length (levels_of x) ≡ length (levels_of m) =
    sym (length-map (levels_of x) (λ a. Some (level_shown tick a))) ∙ ap length (sym same) ∙ length-map (levels_of m) (λ a. Some (level_shown tick a)) in
    let run : RunAhead (length (levels_of m)) None s =
    subst (λ t. RunAhead (length (at t s)) None s) (sym none) (run-all ds n m.now n s m.issue machine late) in
    still-by m x refl same
    (shown-index x
    ∙ ap₂ (λ k t. split_words k t v) many none
    ∙ (passed-over (length (levels_of m)) s v machine both run).2
    ∙ ap (λ t. split_words (length (levels_of m)) t s) (sym none)
    ∙ sym (shown-index m))

pub still-done : (m : Overlap) (u : Machine) → IsKept m → has_completed m.phase ≡ true → AreAlikeBesideOrders m.state u → IsStill m (record m { state = u })
still-done m u is some alike = by-end (has_ended m.phase) refl
  where
    by-end : (b : Bool) → has_ended m.phase ≡ b → IsStill m (record m { state = u })
    by-end true over =
        let early = ((fresh-of m is some).start over).0 in
        still-empty m (record m { state = u }) refl (empty-levels m (omega (arith, early))) (empty-levels (record m { state = u }) (omega (arith, early)))
        (same-index m.state u alike)
    by-end false going =
        let fresh = fresh-of m is some in
        still-going m u is fresh.none (omega (arith, fresh.last going)) alike

-- before the first tick
still-first : (m : Overlap) (u : Machine) → m.now ≡ 0 → AreAlikeBesideOrders m.state u → IsStill m (record m { state = u })
still-first m u first alike =
    still-empty m (record m { state = u }) refl (empty-levels m (omega (arith, first))) (empty-levels (record m { state = u }) (omega (arith, first)))
    (same-index m.state u alike)

pub still-signalled : (m : Overlap) (made since i : ℕ) → IsReached m made since → MaySignal m → IsStill m (signalled_by i m)
still-signalled m made since i from may = elim may [
  | inl first ↦ still-first m (state_with_signal m.state i) first.1 (beside-signalled m.state i)
  | inr done ↦ still-done m (state_with_signal m.state i) (kept from) (served m.phase done) (beside-signalled m.state i)
]
