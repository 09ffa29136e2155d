-- The levels of the ring are the entries in flight, and undoing them gives the index words of the
-- state.
use Rattle.st_refine.proofs.Common.{slice_get, slice_index_or, is_some, not, nat_lt, nat_le, ◌&&◌, ◌-◌, if◌then◌else◌, ◌≡◌, ℕ, zero, suc, ◌+◌, ◌<◌, ◌≤◌, Bool, true, false, List, [], ◌∷◌, length, inl, inr, Option, None, Some, refl, sym, subst, ◌∙◌, ap, arith, cases_Bool, lt-ltb, ltb-true, FIRST_STORAGE_WORD, Machine, word, index_words, plan, Prepared, prediction, row_of_entry, issue_after_entry, IssueState, index_words_after, Kept, unwound, entry, RunAhead, predictions, table_behind, split_words, Ahead, next_ahead, ahead, issue_behind, behind-none, levels-keep, is_owed, has_ended, Overlap, state_ahead, oldest_row, levels_of, last_tick_made, IsLevelOf, AreLevelsOf, lent_index_words, view_at_tick, IsReached, state_before, table_before, issue_before, fills_at}
use Rattle.std.specs.Prelude.{◌||◌}
use Rattle.std.specs.List.{AllZip}
use Rattle.std.proofs.lemmas.Slice.Zip.{AllZip-long}
use Rattle.st_prep.specs.FewWords.{is_transmission}
use Rattle.st_rows.specs.Words.{fills}
use Rattle.st_ring.specs.declared.level.Level.{Level}
use Rattle.st_ring.proofs.Unwindings.{made-undone}
use Rattle.st_ring.specs.Slots.{fill_tick, is_there, slot_of, slots_of, IsKeptSlot as IsSlotKept}
use Rattle.st_ring.specs.Levels.{AreLevels}
use Rattle.st_ring.specs.declared.plans.PlannedRow.{PlannedRow}
use Rattle.st_refine.proofs.LevelLists.{done-behind, most-ahead}
use Rattle.st_refine.proofs.Kept.{IsIdle, IsKept, idle-none, fresh-of, has_completed, kept, row-idle, late-fresh}
use Rattle.st_refine.proofs.SplitLemmas.{seen-machine, seen-index, shown-last, levels-are}

-- ---- the ring, level by level

pub ring-count : (m : Overlap) (ring : List Level) → AreLevelsOf m ring → length ring ≡ length (levels_of m)
ring-count m ring are = sym (AllZip-long _ ring (levels_of m) are)

ring-are : (m : Overlap) (ring : List Level) → AreLevelsOf m ring
    → AllZip (IsLevelOf m.delays m.levels (last_tick_made m)) ring (ahead m.delays m.levels (length ring) m.taken (state_ahead m) m.issue)
ring-are m ring are =
    subst (λ (xs : List Ahead). AllZip (IsLevelOf m.delays m.levels (last_tick_made m)) ring xs)
    (levels-are m ∙ ap (λ k. ahead m.delays m.levels k m.taken (state_ahead m) m.issue) (sym (ring-count m ring are))) are

level-at : (ds : List ℕ) (n tick k j : ℕ) (t : Option ℕ) (s : Machine) (f : IssueState) (ring : List Level) (level : Level)
    → AllZip (IsLevelOf ds n tick) ring (ahead ds n j t s f) → slice_get ring k ≡ Some level
    → IsLevelOf ds n tick level (next_ahead ds n (table_behind k t) (predictions k t s) (issue_behind ds n k t s f))
unfolding ahead predictions issue_behind
level-at ds n tick k zero t s f [] level are there = absurd (cc there)
level-at ds n tick k zero t s f (x ∷ xs) level are there = absurd are
level-at ds n tick k (suc j) t s f [] level are there = absurd are
level-at ds n tick zero (suc j) t s f (x ∷ xs) level are there = let same : x ≡ level = cc there in subst (λ l. IsLevelOf ds n tick l (next_ahead ds n t s f)) same are.0
level-at ds n tick (suc k) (suc j) t s f (x ∷ xs) level are there =
    let u = prediction t s in
    let g = issue_after_entry ds n f (entry t s) in
    subst (λ i. IsLevelOf ds n tick level (next_ahead ds n i (predictions k None u) (issue_behind ds n k None u g))) (behind-none k)
    (level-at ds n tick k j None u g xs level are.1 there)

pub ring-level : (m : Overlap) (ring : List Level) (level : Level) (k : ℕ) → AreLevelsOf m ring → slice_get ring k ≡ Some level
    → IsLevelOf m.delays m.levels (last_tick_made m) level
    (next_ahead m.delays m.levels (table_before k m) (state_before k m) (issue_before k m))
ring-level m ring level k are there =
    level-at m.delays m.levels (last_tick_made m) k (length ring) m.taken (state_ahead m) m.issue ring level (ring-are m ring are) there

-- ---- the slots

and-parts : (a b c : Bool) (x w : ℕ) → (if a && b && c then Some x else None) ≡ Some w → (b ≡ true) × (x ≡ w)
and-parts true true true x w is = (refl, cc is)
and-parts true true false x w is = absurd (cc is)
and-parts true false c x w is = absurd (cc is)
and-parts false b c x w is = absurd (cc is)

slot-word : (ticks : List ℕ) (p : Prepared) (s : Machine) (tick k w : ℕ) → slot_of ticks p s tick k ≡ Some w
    → (k < p.reads.len) × (w ≡ word s (p.reads.first + k))
unfolding slot_of
slot-word ticks p s tick k w is =
    let both = and-parts (not (is_transmission p.instr)) (nat_lt k p.reads.len) (is_there ticks p tick (p.reads.first + k)) (word s (p.reads.first + k)) w is in
    (ltb-true k p.reads.len both.0, sym both.1)

slots-word : (ticks : List ℕ) (p : Prepared) (s : Machine) (tick k w : ℕ) → slice_index_or (slots_of ticks p s tick) k None ≡ Some w
    → (k < p.reads.len) × (w ≡ word s (p.reads.first + k))
slots-word ticks p s tick zero w is = slot-word ticks p s tick 0 w is
slots-word ticks p s tick (suc zero) w is = slot-word ticks p s tick 1 w is
slots-word ticks p s tick (suc (suc k)) w is = absurd (cc is)

pub ring-word : (m : Overlap) (ring : List Level) (level : Level) (k slot w : ℕ) → AreLevelsOf m ring → slice_get ring k ≡ Some level
    → slice_index_or level.have slot None ≡ Some w
    → (slot < level.prepared.reads.len) × (w ≡ word (state_before k m) (level.prepared.reads.first + slot))
ring-word m ring level k slot w are there has =
    let is = ring-level m ring level k are there in
    let s = state_before k m in
    subst (λ (p : Prepared). (slot < p.reads.len) × (w ≡ word s (p.reads.first + slot))) (sym is.prepared)
    (slots-word (fills_at k m) (plan s (table_before k m)) s (last_tick_made m) slot w
    (ap (λ (xs : List (Option ℕ)). slice_index_or xs slot None) (sym is.have) ∙ has))

some-if : (a b c : Bool) (x : ℕ) → a ≡ false → b ≡ true → is_some (if not a && b && c then Some x else None) ≡ c
some-if true b c x free few = absurd (cc free)
some-if false true true x free few = refl
some-if false true false x free few = refl
some-if false false c x free few = absurd (cc few)

slot-there : (ticks : List ℕ) (p : Prepared) (s : Machine) (tick k : ℕ) → is_transmission p.instr ≡ false → k < p.reads.len
    → is_some (slot_of ticks p s tick k) ≡ is_there ticks p tick (p.reads.first + k)
unfolding slot_of
slot-there ticks p s tick k free few =
    some-if (is_transmission p.instr) (nat_lt k p.reads.len) (is_there ticks p tick (p.reads.first + k)) (word s (p.reads.first + k)) free
    (lt-ltb k p.reads.len few)

slots-there : (ticks : List ℕ) (p : Prepared) (s : Machine) (tick k : ℕ) → is_transmission p.instr ≡ false → k < p.reads.len → k < 2
    → is_some (slice_index_or (slots_of ticks p s tick) k None) ≡ is_there ticks p tick (p.reads.first + k)
slots-there ticks p s tick zero free few two = slot-there ticks p s tick 0 free few
slots-there ticks p s tick (suc zero) free few two = slot-there ticks p s tick 1 free few
slots-there ticks p s tick (suc (suc k)) free few two = absurd (omega (arith, two))

-- the contents of the slot of an operand word
abbrev IsSlot : ℕ → List ℕ → ℕ → List (Option ℕ) → Prepared → Type 0
IsSlot slot ticks tick have p =
    is_transmission p.instr ≡ false → slot < p.reads.len →
    is_some (slice_index_or have slot None)
    ≡ (nat_lt (p.reads.first + slot) FIRST_STORAGE_WORD || nat_le (fill_tick ticks p (p.reads.first + slot)) tick)

pub ring-slot : (m : Overlap) (ring : List Level) (level : Level) (k slot : ℕ) → AreLevelsOf m ring → slice_get ring k ≡ Some level
    → slot < 2 → IsSlot slot (fills_at k m) (view_at_tick m).tick level.have level.prepared
ring-slot m ring level k slot are there two =
    let is = ring-level m ring level k are there in
    let s = state_before k m in
    let p = plan s (table_before k m) in
    let ticks = fills_at k m in
    subst (λ (tick : ℕ). IsSlot slot ticks tick level.have level.prepared) (sym (shown-last m))
    (subst (λ (q : Prepared). IsSlot slot ticks (last_tick_made m) level.have q) (sym is.prepared)
    (subst (λ (xs : List (Option ℕ)). IsSlot slot ticks (last_tick_made m) xs p) (sym is.have)
    (λ free few. slots-there ticks p s (last_tick_made m) slot free few two)))

-- ---- undoing

-- the planned rows of the levels
rows_of : List ℕ → ℕ → ℕ → Option ℕ → Machine → IssueState → List PlannedRow
rows_of ds n zero t s f = []
rows_of ds n (suc k) t s f =
    let r = row_of_entry ds n f (entry t s) in
    record { issue = record { marker = record {}; value = f }; r = r.r; c = r.c; fills = fills ds n f (entry t s) }
    ∷ rows_of ds n k None (prediction t s) (issue_after_entry ds n f (entry t s))

-- a slot that has its word keeps it
kept-full : (there : Option ℕ) → IsSlotKept there there
kept-full None = tt
kept-full (Some w) = refl

levels-from : (ds : List ℕ) (n tick : ℕ) (t : Option ℕ) (s : Machine) (f : IssueState) (ring : List Level)
    → AllZip (IsLevelOf ds n tick) ring (ahead ds n (length ring) t s f)
    → AreLevels ds n tick t s f (issue_behind ds n (length ring) t s f) ring (rows_of ds n (length ring) t s f)
unfolding ahead issue_behind AreLevels rows_of
levels-from ds n tick t s f [] are = refl
levels-from ds n tick t s f (x ∷ xs) are = (
  record {
    prepared = are.0.prepared;
    p = are.0.p;
    have = record { first = _; second = _; slots = are.0.have; kept_first = kept-full _; kept_second = kept-full _ };
    issue = refl;
    r = refl;
    c = refl;
    fills = refl;
  },
  levels-from ds n tick None (prediction t s) (issue_after_entry ds n f (entry t s)) xs are.1,
)

pub oldest-late : (m : Overlap) → IsKept m → m.now ≤ (oldest_row m).c
unfolding oldest_row
oldest-late m is = elim (cases_Bool (has_completed m.phase)) [
  | inr none ↦ let idle : IsIdle m = idle-none m is none in omega (arith, row-idle m idle, idle.early, made-late (is_owed m.phase) m.now)
  | inl some ↦ omega (arith, late-fresh m (fresh-of m is some) (has_ended m.phase) refl, done-behind m.delays m.levels m.taken (state_ahead m) m.issue (seen-machine m is) is.indicator)
]
  where
    made-late : (owed : Bool) (now : ℕ) → now ≤ (if owed then now + 1 else now)
    made-late true now = omega arith
    made-late false now = omega arith

pub run-levels : (m : Overlap) → IsKept m → RunAhead (length (levels_of m) - 1) m.taken (state_ahead m)
unfolding levels_of oldest_row
run-levels m is =
    most-ahead m.delays m.levels _ m.now m.levels m.taken (state_ahead m) m.issue (seen-machine m is) is.indicator (oldest-late m is) refl

index-is : (m : Overlap) (k : ℕ) → k ≡ length (levels_of m) → split_words k m.taken (state_ahead m) ≡ lent_index_words m
unfolding lent_index_words
index-is m k same = ap (λ j. split_words j m.taken (state_ahead m)) same

pub ring-undone : (m : Overlap) (ticks since : ℕ) (ring : List Level) → IsReached m ticks since → AreLevelsOf m ring
    → Kept (index_words m.state) ring × (index_words_after (index_words m.state) ring ≡ lent_index_words m) × (unwound (lent_index_words m) ring ≡ index_words m.state)
ring-undone m ticks since ring from are =
    let is = kept from in
    let many = ring-count m ring are in
    let run = subst (λ k. RunAhead (k - 1) m.taken (state_ahead m)) (sym many) (run-levels m is) in
    let levels = levels-from m.delays m.levels (last_tick_made m) m.taken (state_ahead m) m.issue ring (ring-are m ring are) in
    let keep = levels-keep m.delays m.levels (last_tick_made m) m.taken (state_ahead m) m.issue _ ring _ (index_words m.state)
    (seen-machine m is) is.indicator levels run (sym (seen-index m)) in
    let whole : index_words_after (index_words m.state) ring ≡ lent_index_words m = keep.1 ∙ index-is m (length ring) many in
    (keep.0, whole, ap (λ (x : List ℕ). unwound x ring) (sym whole) ∙ made-undone (index_words m.state) ring keep.0)

pub index-shown : (m : Overlap) → lent_index_words m ≡ (view_at_tick m).x
unfolding view_at_tick
index-shown m = refl
