-- The end of a segment does not depend on signals and orders without a card.
use Rattle.st_run.proofs.Common.{if◌then◌else◌, nat_lt, ◌≡◌, ℕ, zero, suc, ◌+◌, ◌<◌, ◌≤◌, Bool, true, false, List, [], ◌∷◌, length, Option, None, refl, sym, ◌∙◌, ap, arith, ltb-true, le-ltb, false_from_ne_true, Machine, IsMachine, AreAlikeBesideOrders, prediction, LastAnswers, opening_issue, row_of_entry, issue_after_entry, address_tick, preparation_tick, tick_a, tick_p, Entry, IssueState, entry, predictions, Ahead, ahead, prepared_before, Ended, Stopped, has_ended, closing, Overlap, state_ahead, with_counter, levels_of, machine_after_segment, banks_left, MayServe, Together, IsBehindEntry, IsSince, counted-machine, ended-again}
use Rattle.st_segment.specs.Alone.{RunAhead}
use Rattle.st_segment.proofs.PredictionLemmas.{prediction-machine}
use Rattle.st_segment.proofs.PassedOver.{entry-same, passed-over}
use Rattle.st_ahead.proofs.Signals.{counted-alike}
use Rattle.st_refine.proofs.StillLemmas.{behind-later}

-- ---- entries that are prepared before the previous one completes

same-count : (b : Bool) (x y : Ahead) (xs ys : List Ahead) → (b ≡ true → length xs ≡ length ys)
    → length (if b then x ∷ xs else []) ≡ length (if b then y ∷ ys else [])
same-count true x y xs ys same = ap suc (same refl)
same-count false x y xs ys same = refl

-- the entries in flight are non-serializing
not-alone : (ds : List ℕ) (n now : ℕ) (f : IssueState) (e : Entry) → now ≤ f.c → (row_of_entry ds n f e).p < now → e.serial ≡ false
unfolding row_of_entry tick_a tick_p address_tick preparation_tick
not-alone ds n now f e late early = false_from_ne_true e.serial (λ alone. absurd (behind e.serial alone early))
  where
    behind : (b : Bool) → b ≡ true → (row_of_entry ds n f (record e { serial = b })).p < now → ⊥
    behind true is before = omega arith
    behind false is before = cc is

prediction-alike : (s u : Machine) → IsMachine s → AreAlikeBesideOrders s u → (entry None s).serial ≡ false
    → AreAlikeBesideOrders (prediction None s) (prediction None u)
unfolding entry predictions RunAhead
prediction-alike s u m alike free = (passed-over 1 s u m alike (free, tt)).1

count-alike : (ds : List ℕ) (n now k : ℕ) (s u : Machine) (f : IssueState) → IsMachine s → AreAlikeBesideOrders s u → now ≤ f.c
    → length (prepared_before now (ahead ds n k None s f)) ≡ length (prepared_before now (ahead ds n k None u f))
unfolding ahead prepared_before
count-alike ds n now zero s u f m alike late = refl
count-alike ds n now (suc k) s u f m alike late =
    let e = entry None s in
    let g = issue_after_entry ds n f e in
    let before = λ (xs : List Ahead). prepared_before now xs in
    same-count (nat_lt (row_of_entry ds n f e).p now) _ _ (before (ahead ds n k None (prediction None s) g)) (before (ahead ds n k None (prediction None u) g))
    (λ early. count-alike ds n now k (prediction None s) (prediction None u) g (prediction-machine None s m tt)
    (prediction-alike s u m alike (not-alone ds n now f e late (ltb-true (row_of_entry ds n f e).p now early)))
    (behind-later ds n now f e late))
    ∙ ap (λ (x : Entry). length (if nat_lt (row_of_entry ds n f x).p now
    then record { state = u; table = None; issue = f; entry = x; row = row_of_entry ds n f x } ∷ before (ahead ds n k None (prediction None u) (issue_after_entry ds n f x))
    else [])) (sym (entry-same None s u alike))

-- ---- the end of a segment

-- the machine in a state, with the issue state of the segment after the one that ends here
abbrev pub opened : Overlap → Machine → Overlap
opened o s = record o {
  state = s;
  issue = opening_issue (banks_left (closing o.phase)) (o.now + 1 + length (levels_of o));
  phase = Ended;
}

levels-alike : (t : Together) (u : Machine) → IsBehindEntry t → AreAlikeBesideOrders t.machine.state u
    → length (levels_of (record t.machine { state = u })) ≡ length (levels_of t.machine)
unfolding levels_of state_ahead
levels-alike t u is alike =
    let o = t.machine in
    rw (is.phase, is.table)
    (sym (count-alike o.delays o.levels o.now o.levels (with_counter o.mispredicted o.state) (with_counter o.mispredicted u) o.issue
    (counted-machine o.mispredicted o.state is.kept.scene.machine is.counter) (counted-alike o.mispredicted o.state u alike) (omega (arith, is.last))))

ended-first : (t : Together) (u : Machine) → IsBehindEntry t → AreAlikeBesideOrders t.machine.state u
    → machine_after_segment (record t.machine { state = u }) ≡ opened t.machine u
unfolding machine_after_segment
ended-first t u is alike =
    let o = t.machine in
    let v = record o { state = u } in
    ap (λ p. if has_ended p then v else opened v u) is.phase
    ∙ ap (λ k. record o { state = u; issue = opening_issue (banks_left (closing o.phase)) (o.now + 1 + k); phase = Ended }) (levels-alike t u is alike)

pub ended-behind : (t : Together) → IsBehindEntry t → machine_after_segment t.machine ≡ opened t.machine t.machine.state
unfolding machine_after_segment
ended-behind t is = ap (λ p. if has_ended p then t.machine else opened t.machine t.machine.state) is.phase

-- the machine after the end of the segment, if only signals and orders occurred
pub ended-since : (b : Together) (m : Overlap) (over : Bool) → IsBehindEntry b → IsSince b.machine over m
    → machine_after_segment m ≡ opened b.machine m.state
ended-since b m true is since =
    let same : m ≡ opened b.machine m.state = since.machine ∙ ap (λ (o : Overlap). record o { state = m.state }) (ended-behind b is) in
    ended-again m (ap (λ (o : Overlap). has_ended o.phase) same) ∙ same
ended-since b m false is since = ap machine_after_segment since.machine ∙ ended-first b m.state is (since.alike refl)

-- the current machine, by whether the segment has ended
abbrev pub by_now : Bool → Overlap → Machine → Overlap
by_now over o s = if over then opened o s else record o { state = s }

pub since-is : (b : Together) (m : Overlap) (over : Bool) → IsBehindEntry b → IsSince b.machine over m
    → m ≡ by_now over b.machine m.state
since-is b m true is since = since.machine ∙ ap (λ (o : Overlap). record o { state = m.state }) (ended-behind b is)
since-is b m false is since = since.machine

-- ---- the machine after the end

pub ended-state : (m : Overlap) → (machine_after_segment m).state ≡ m.state
unfolding machine_after_segment
ended-state m = kept (has_ended m.phase)
  where
    kept : (b : Bool) → (if b then m else opened m m.state).state ≡ m.state
    kept true = refl
    kept false = refl

pub ended-serves : (m : Overlap) → MayServe m → MayServe (machine_after_segment m)
unfolding machine_after_segment
ended-serves m may = kept (has_ended m.phase)
  where
    kept : (b : Bool) → MayServe (if b then m else opened m m.state)
    kept true = may
    kept false = refl

-- no entry is in flight right after the end of a segment
pub opening-none : (ds : List ℕ) (n k : ℕ) (t : Option ℕ) (s : Machine) (banks : LastAnswers) (start now : ℕ) → now ≤ start
    → prepared_before now (ahead ds n k t s (opening_issue banks start)) ≡ []
unfolding ahead prepared_before row_of_entry tick_a tick_p address_tick preparation_tick
opening-none ds n zero t s banks start now early = refl
opening-none ds n (suc k) t s banks start now early =
    let p = tick_p ds n (opening_issue banks start) (entry t s) in
    let late : now ≤ p = omega arith in
    rw (le-ltb p now late) refl

pub stopped-none : (o : Overlap) (s : Machine) → levels_of (record (opened o s) { phase = Stopped }) ≡ []
unfolding levels_of state_ahead
stopped-none o s = opening-none o.delays o.levels o.levels o.taken s (banks_left (closing o.phase)) (o.now + 1 + length (levels_of o)) o.now (omega arith)
