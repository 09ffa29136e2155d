-- Lemmas on the part of a run that is written so far.
use Rattle.st_account.proofs.Common.{Bool, nat_lt, nat_eq, not, ◌||◌, is_some, is_none, and_parts, not-true, nat_tests, ◌≡◌, ◌≢◌, ℕ, zero, suc, ◌+◌, ◌-◌, ◌*◌, ◌^◌, ◌≤◌, ◌⊎◌, inl, inr, true, false, List, ◌++◌, length, None, refl, sym, ◌∙◌, ap, arith, MOST_INSTRUCTIONS, Machine, rests, step, interrupt, Signal, Transition, uneventful, interlude, scene_after_step, with_due_signals, with_due_orders, is_due, signal_due, Moment, Standing, next_scene, next_state, standing_at, next_row, next_moment, has_card, has_waited, ends_segment, HasTime, settled-done, row_of_entry, issue_after_entry, Stage, ticks_for, entries_from, charges_at, all_charges, Use, row_stalled, Stall, Origin, at_hand, still_by, end_lines, end_from, segment_ends, segment_end_at, segment_lines, segment_after, uses_at, words_before, lines_of_entry, last_lines, lines_from, stalled_from}
use Rattle.std.specs.Prelude.{Option, Some}
use Rattle.st_run.proofs.QuietLemmas.{none-due, none-comes}
use Rattle.st_ledger.proofs.Runs.{entries-none, entries-step, ticks_for-append}

none-is : {A : Type 0} (o : Option A) → is_none o ≡ true → o ≡ None
none-is None h = refl
none-is (Some x) h = cc

pub not-less : (n : ℕ) → nat_lt n n ≡ false
not-less n = grind (arith, nat_tests)

module _ (ds : List ℕ) (n : ℕ) where
  -- ---- the lines

  pub lines-end : (o : Machine → ℕ → Option Origin) (left k : ℕ) (b : Machine) (us : List Use) (m : Moment) → (left ≡ 0) ⊎ (rests (next_state m) ≡ true)
      → lines_from o ds n left k b us m ≡ last_lines o ds n k b m
  unfolding lines_from
  lines-end o zero k b us m end = refl
  lines-end o (suc left) k b us m (inl none) = let no : ⊥ = omega arith in absurd no
  lines-end o (suc left) k b us m (inr resting) = rw resting refl

  pub lines-on : (o : Machine → ℕ → Option Origin) (left k : ℕ) (b : Machine) (us : List Use) (m : Moment) → left ≢ 0 → rests (next_state m) ≡ false
      → lines_from o ds n left k b us m
      ≡ (segment_lines o ds n k b m ++ lines_of_entry o ds n (segment_end_at (left - 1) (next_moment ds n (standing_at m))) (words_before m us) (standing_at m))
      ++ lines_from o ds n (left - 1) (segment_after k m) (next_state m) (uses_at ds n (standing_at m)) (next_moment ds n (standing_at m))
  unfolding lines_from
  lines-on o zero k b us m some going = absurd (some refl)
  lines-on o (suc left) k b us m some going =
      let one : left ≡ suc left - 1 = omega arith in
      rw going
      (ap (λ j. (segment_lines o ds n k b m ++ lines_of_entry o ds n (segment_end_at j (next_moment ds n (standing_at m))) (words_before m us) (standing_at m))
      ++ lines_from o ds n j (segment_after k m) (next_state m) (uses_at ds n (standing_at m)) (next_moment ds n (standing_at m))) one)

  -- ---- the lines of the end

  pub end-last : (left : ℕ) (m : Moment) → (left ≡ 0) ⊎ (rests (next_state m) ≡ true) → end_from ds n left m ≡ end_lines m
  unfolding end_from
  end-last zero m end = refl
  end-last (suc left) m (inl none) = let no : ⊥ = omega arith in absurd no
  end-last (suc left) m (inr resting) = rw resting refl

  pub end-on : (left : ℕ) (m : Moment) → left ≢ 0 → rests (next_state m) ≡ false
      → end_from ds n left m ≡ end_from ds n (left - 1) (next_moment ds n (standing_at m))
  unfolding end_from
  end-on zero m some going = absurd (some refl)
  end-on (suc left) m some going =
      let one : left ≡ suc left - 1 = omega arith in
      rw going (ap (λ j. end_from ds n j (next_moment ds n (standing_at m))) one)

  -- ---- the waits

  pub waits-end : (r : Stage) (s : Stall) (left : ℕ) (us : List Use) (m : Moment) → (left ≡ 0) ⊎ (rests (next_state m) ≡ true)
      → stalled_from r s ds n left us m ≡ 0
  unfolding stalled_from
  waits-end r s zero us m end = refl
  waits-end r s (suc left) us m (inl none) = let no : ⊥ = omega arith in absurd no
  waits-end r s (suc left) us m (inr resting) = rw resting refl

  pub waits-on : (r : Stage) (s : Stall) (left : ℕ) (us : List Use) (m : Moment) → left ≢ 0 → rests (next_state m) ≡ false
      → stalled_from r s ds n left us m
      ≡ row_stalled r s (uses_at ds n (standing_at m)) (words_before m us) (charges_at ds n (standing_at m))
      + stalled_from r s ds n (left - 1) (uses_at ds n (standing_at m)) (next_moment ds n (standing_at m))
  unfolding stalled_from
  waits-on r s zero us m some going = absurd (some refl)
  waits-on r s (suc left) us m some going =
      let one : left ≡ suc left - 1 = omega arith in
      rw going
      (ap (λ j. row_stalled r s (uses_at ds n (standing_at m)) (words_before m us) (charges_at ds n (standing_at m))
      + stalled_from r s ds n j (uses_at ds n (standing_at m)) (next_moment ds n (standing_at m))) one)

  -- ---- the charges

  pub charges-end : (s : Stage) (left : ℕ) (m : Moment) → (left ≡ 0) ⊎ (rests (next_state m) ≡ true)
      → ticks_for s (all_charges ds n (entries_from ds n left m)) ≡ 0
  unfolding all_charges ticks_for
  charges-end s zero m end = rw (entries-none ds n m) refl
  charges-end s (suc left) m (inl none) = let no : ⊥ = omega arith in absurd no
  charges-end s (suc left) m (inr resting) = rw (entries-step ds n left m, resting) refl

  pub charges-on : (s : Stage) (left : ℕ) (m : Moment) → left ≢ 0 → rests (next_state m) ≡ false
      → ticks_for s (all_charges ds n (entries_from ds n left m))
      ≡ ticks_for s (charges_at ds n (standing_at m)) + ticks_for s (all_charges ds n (entries_from ds n (left - 1) (next_moment ds n (standing_at m))))
  unfolding all_charges
  charges-on s zero m some going = absurd (some refl)
  charges-on s (suc left) m some going =
      let one : left ≡ suc left - 1 = omega arith in
      rw (entries-step ds n left m, going)
      (ticks_for-append s (charges_at ds n (standing_at m)) (all_charges ds n (entries_from ds n left (next_moment ds n (standing_at m))))
      ∙ ap (λ j. ticks_for s (charges_at ds n (standing_at m)) + ticks_for s (all_charges ds n (entries_from ds n j (next_moment ds n (standing_at m))))) one)

-- ---- the events after a moment

module _ (m : Moment) (s t : Machine) (xs ys : List Signal) (ps qs : List (List ℕ)) (scene : m.scene ≡ at_hand s xs ps)
    (came : (interlude (at_hand s xs ps)).scene ≡ at_hand t ys qs) where
  pub same-done : t.done ≡ s.done
  same-done = ap (λ c. c.machine.done) (sym came) ∙ settled-done (at_hand s xs ps)

-- ---- no event comes

module _ (s : Machine) (mispredicted : Bool) (xs : List Signal) (still : still_by s mispredicted xs ≡ true) where
  record Parts : Type 0 where
    right : mispredicted ≡ false
    no_signal : signal_due s.done xs ≡ false
    reader_free : s.reader ≡ None
    printer_free : s.printer ≡ None
    no_waiting : s.waiting ≡ false
    none_taken : interrupt s ≡ None

  parts : Parts
  parts =
      let a = and_parts _ _ still in
      let b = and_parts _ _ a.0 in
      let c = and_parts _ _ b.0 in
      let d = and_parts _ _ c.0 in
      let e = and_parts _ _ d.0 in
      record {
        right = not-true mispredicted e.0;
        no_signal = not-true (signal_due s.done xs) e.1;
        reader_free = none-is s.reader d.1;
        printer_free = none-is s.printer c.1;
        no_waiting = not-true s.waiting b.1;
        none_taken = none-is (interrupt s) a.1;
      }

  module _ (cards : List (List ℕ)) where
    reader : is_due s.done s.reader ≡ false
    reader = ap (is_due s.done) parts.reader_free

    printer : is_due s.done s.printer ≡ false
    printer = ap (is_due s.done) parts.printer_free

    awake : rests s ≡ false
    awake = rw parts.no_waiting refl

    pub due-still : with_due_orders (with_due_signals (at_hand s xs cards)) ≡ uneventful (at_hand s xs cards)
    due-still = none-due (at_hand s xs cards) parts.no_signal reader printer awake

    pub waited-still : false ≡ rests (with_due_orders (with_due_signals (at_hand s xs cards))).scene.machine
    waited-still = sym (ap (λ (r : Transition). rests r.scene.machine) due-still ∙ awake)

    pub interlude-still : interlude (at_hand s xs cards) ≡ uneventful (at_hand s xs cards)
    interlude-still = none-comes (at_hand s xs cards) parts.no_signal reader printer awake

  module _ (m : Moment) (cards : List (List ℕ)) (scene : m.scene ≡ at_hand s xs cards) (predicted : m.mispredicted ≡ mispredicted) where
    same : next_scene m ≡ at_hand s xs cards
    same = ap (λ c. (interlude c).scene) scene ∙ ap (λ (r : Transition). r.scene) (interlude-still cards)

    pub going-still : rests (next_state m) ≡ false
    going-still = ap (λ c. rests c.machine) same ∙ awake cards

    no_wait : has_waited m ≡ false
    no_wait =
        ap (λ c. rests (with_due_orders (with_due_signals c)).scene.machine) scene
        ∙ sym (waited-still cards)

    no_card : has_card m ≡ false
    no_card =
        ap (λ c. nat_lt (length c.cards) (length m.scene.cards)) same
        ∙ ap (λ c. nat_lt (length cards) (length c.cards)) scene
        ∙ not-less (length cards)

    no_interrupt : is_some (interrupt (next_state m)) ≡ false
    no_interrupt = ap (λ c. is_some (interrupt c.machine)) same ∙ ap is_some parts.none_taken

    pub no-end : ends_segment m ≡ false
    unfolding ends_segment
    no-end = rw (predicted, parts.right, no_card, no_wait, no_interrupt) refl

-- if a segment ends, the entries that ran ahead are determined
pub end-looks : (left : ℕ) (s : Machine) (xs : List Signal) (cards : List (List ℕ)) (m : Moment) (mispredicted still looks : Bool)
    → m.scene ≡ at_hand s xs cards → m.mispredicted ≡ mispredicted
    → still ≡ still_by s mispredicted xs → looks ≡ (nat_eq left 0 || not still) → segment_ends left m ≡ true → looks ≡ true
end-looks left s xs cards m mispredicted true looks scene predicted is_still is_looks ends =
    is_looks
    ∙ by_test (nat_eq left 0) (rests (next_state m)) (ends_segment m) (going-still s mispredicted xs (sym is_still) m cards scene predicted)
    (no-end s mispredicted xs (sym is_still) m cards scene predicted) ends
  where
    by_test : (a b c : Bool) → b ≡ false → c ≡ false → ((a || b) || c) ≡ true → (a || false) ≡ true
    by_test true b c going none some = refl
    by_test false true c going none some = absurd (cc)
    by_test false false true going none some = absurd (cc)
    by_test false false false going none some = some
end-looks left s xs cards m mispredicted false looks scene predicted is_still is_looks ends = is_looks ∙ or-true (nat_eq left 0)
  where
    or-true : (b : Bool) → (b || true) ≡ true
    or-true true = refl
    or-true false = refl

-- the scene after the next entry
pub next-stepped : (ds : List ℕ) (n : ℕ) (m : Moment) (t u : Machine) (ys : List Signal) (qs : List (List ℕ)) → next_scene m ≡ at_hand t ys qs
    → u ≡ step t → (next_moment ds n (standing_at m)).scene ≡ at_hand u ys qs
unfolding next_moment
next-stepped ds n m t u ys qs scene made = ap scene_after_step scene ∙ ap (λ w. at_hand w ys qs) (sym made)

-- the issue state of a moment is that of the entry that completed then
pub next-at : (ds : List ℕ) (n : ℕ) (p : Standing) → (next_moment ds n p).issue.c ≡ (next_moment ds n p).tick
unfolding next_moment next_row row_of_entry issue_after_entry
next-at ds n p = refl

-- no tick is too late
pub early-tick : (m : Moment) (t d : ℕ) → m.tick ≡ t → HasTime (64 * (255 + 4)) m.tick m.scene.machine → m.scene.machine.done ≡ d → d ≤ MOST_INSTRUCTIONS
    → t ≤ 2 ^ 40
early-tick m t d is time same few =
    let bound : m.tick ≤ 16576 * m.scene.machine.done = time in
    omega (arith, bound, is, same, few)
