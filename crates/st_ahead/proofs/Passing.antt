-- Passed ticks, with completions at some of them.
use Rattle.st_ahead.proofs.Common.{nat_le, nat_lt, ◌≡◌, ℕ, zero, suc, ◌+◌, ◌-◌, ◌<◌, ◌≤◌, ◌^◌, Bool, true, false, None, refl, sym, subst, ◌∙◌, ap, arith, nat_tests, or_parts, rests, Ready, Ticked, Overlap, interrupt_due, MaySettle, is_done, machine_after_completion, machine_after_tick, machine_after_pass, machine_after_settling, answer, after_ticks, may_come_from_outside, IsPassed, ArePassed, Goes}
use Rattle.std.proofs.Common.{if◌then◌else◌}
use Rattle.st_ahead.proofs.Idling.{less-than, zero-comes, goes-passed, late-ticked}

-- ---- ticks in sequence

after-join : (j k : ℕ) (m : Overlap) → after_ticks (j + k) m ≡ after_ticks k (after_ticks j m)
unfolding after_ticks
after-join zero k m = let same : 0 + k ≡ k = omega arith in ap {A = ℕ} (λ i. after_ticks i m) same
after-join (suc j) k m =
    let same : suc j + k ≡ suc (j + k) = omega arith in
    ap {A = ℕ} (λ i. after_ticks i m) same ∙ after-join j k (machine_after_settling (machine_after_tick m))

below : (i j : ℕ) → nat_lt i j ≡ true → i < j
below i j test = grind (arith, nat_tests)

above : (i j : ℕ) → nat_lt i j ≡ false → j ≤ i
above i j test = grind (arith, nat_tests)

pub passed-join : (count j k : ℕ) (old m new : Overlap) → ArePassed count j old m → ArePassed count k m new → ArePassed count (j + k) old new
passed-join count j k old m new first second =
    record {
      each = λ i before. each-by i before (nat_lt i j) refl;
      after = second.after ∙ ap {A = Overlap} (after_ticks k) first.after ∙ sym (after-join j k old);
    }
  where
    each-by : (i : ℕ) → i < j + k → (b : Bool) → nat_lt i j ≡ b → IsPassed count (after_ticks i old)
    each-by i before true test = first.each i (below i j test)
    each-by i before false test =
        let far = above i j test in
        let same : i ≡ j + (i - j) = omega (arith, far) in
        let there : after_ticks i old ≡ after_ticks (i - j) m =
        ap {A = ℕ} (λ x. after_ticks x old) same ∙ after-join j (i - j) old ∙ ap {A = Overlap} (after_ticks (i - j)) (sym first.after) in
        subst {A = Overlap} (IsPassed count) (sym there) (second.each (i - j) (omega (arith, before, far)))

pub passed-one : (count : ℕ) (m new : Overlap) → IsPassed count m → new ≡ machine_after_settling (machine_after_tick m) → ArePassed count 1 m new
unfolding after_ticks
passed-one count m new is after = record {
  each =
      λ i before. let first : 0 ≡ i = omega (arith, before) in subst {A = ℕ} (λ x. IsPassed count (after_ticks x m)) first is;
  after = after;
}

-- without a completion the count of instructions does not matter
pub passed-any : (count k : ℕ) (old new : Overlap) → ArePassed 0 k old new → ArePassed count k old new
passed-any count k old new are = record {
  each = λ i before. record {
    goes = (are.each i before).goes;
    nothing = λ done. absurd (zero-comes (machine_after_tick (after_ticks i old)) ((are.each i before).nothing done));
  };
  after = are.after;
}

-- ---- a tick

pub ticked-settles : (m : Overlap) → MaySettle (machine_after_tick m)
unfolding machine_after_tick machine_after_completion
ticked-settles m = by (is_done m)
  where
    by : (b : Bool) → MaySettle (if b then machine_after_completion m else record m { phase = Ticked })
    by true = refl
    by false = refl

pub goes-answers : (m : Overlap) → interrupt_due m ≡ None → rests m.state ≡ false → m.mispredicted ≡ None → answer m ≡ Goes
unfolding answer
goes-answers m due awake right = rw (due, awake, right) refl

pub ticked-now : (m : Overlap) → (machine_after_tick m).now ≡ m.now
unfolding machine_after_tick machine_after_completion
ticked-now m = by (is_done m)
  where
    by : (b : Bool) → (if b then machine_after_completion m else record m { phase = Ticked }).now ≡ m.now
    by true = refl
    by false = refl

few-none : (count : ℕ) (t : Overlap) → count ≤ 2 ^ 63 → may_come_from_outside count t.state ≡ false → t.state.done < 2 ^ 63
few-none count t few none = omega (arith, less-than count t.state.done (or_parts (nat_le count t.state.done) _ none).0, few)

-- the machine after a passed tick
pub passed-keeps : (count : ℕ) (m : Overlap) → IsPassed count m → count ≤ 2 ^ 63 → m.state.done < 2 ^ 63
    → ((machine_after_settling (machine_after_tick m)).phase ≡ Ready) × ((machine_after_settling (machine_after_tick m)).now ≡ m.now + 1) × ((machine_after_settling (machine_after_tick m)).state.done < 2 ^ 63)
passed-keeps count m is few small =
    let same : machine_after_settling (machine_after_tick m) ≡ machine_after_pass (machine_after_tick m) = goes-passed (machine_after_tick m) is.goes in (
      ap (λ (x : Overlap). x.phase) same,
      ap (λ (x : Overlap). x.now) same ∙ ap (λ (k : ℕ). k + 1) (ticked-now m),
      subst {A = Overlap} (λ x. x.state.done < 2 ^ 63) (sym same) (by (is_done m) refl),
    )
  where
    by : (b : Bool) → is_done m ≡ b → (machine_after_tick m).state.done < 2 ^ 63
    by true done = few-none count (machine_after_tick m) few (is.nothing done)
    by false late = let state = ap (λ (x : Overlap). x.state.done) (late-ticked m late) in omega (arith, state, small)

-- the number of the tick grows by one with each passed tick
pub passed-now : (k count : ℕ) (m new : Overlap) → ArePassed count k m new → new.now ≡ m.now + k
unfolding after_ticks
passed-now zero count m new are = let same = ap (λ (x : Overlap). x.now) are.after in omega (arith, same)
passed-now (suc k) count m new are =
    let goes = (are.each 0 (omega arith)).goes in
    let next : (machine_after_settling (machine_after_tick m)).now ≡ m.now + 1 =
    ap (λ (x : Overlap). x.now) (goes-passed (machine_after_tick m) goes) ∙ ap (λ (x : ℕ). x + 1) (ticked-now m) in
    let rest = passed-now k count (machine_after_settling (machine_after_tick m)) new
    (record { each = λ i before. are.each (suc i) (omega (arith, before)); after = are.after }) in
    omega (arith, next, rest)
