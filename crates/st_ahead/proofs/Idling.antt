-- Ticks at which nothing happens are passed at once.
use Rattle.st_ahead.proofs.Common.{is_none, nat_le, if◌then◌else◌, ◌≡◌, ℕ, zero, suc, ◌+◌, ◌<◌, ◌≤◌, Bool, true, false, List, Option, None, Some, refl, sym, subst, ◌∙◌, ap, arith, ne_eqb, cond-false, or_parts, nat_tests, Machine, interrupt, rests, row_of_entry, IssueState, entry, Ready, Ticked, Overlap, state_ahead, oldest_row, interrupt_due, is_done, machine_after_completion, machine_after_tick, machine_after_pass, settled_by, answer_by, machine_after_settling, answer, after_ticks, may_come_from_outside, IsPassed, ArePassed, Goes}
use Rattle.st_ahead.proofs.Standing.{overlap}

-- ---- no tick

pub passed-none : (count : ℕ) (m : Overlap) → ArePassed count 0 m m
unfolding after_ticks
passed-none count m = record { each = λ i before. absurd (omega (arith, before)); after = refl }

-- ---- a machine between two ticks, with no interrupt due and not at rest

module _ (ds : List ℕ) (n : ℕ) (s : Machine) (t : Option ℕ) (f : IssueState) (due : (if is_none t then interrupt s else None) ≡ None) (awake : rests s ≡ false) where
  abbrev hazard_free : ℕ → Overlap
  hazard_free now = overlap ds n s t None f now Ready

  not-done : (now : ℕ) → now < (row_of_entry ds n f (entry t s)).c → is_done (hazard_free now) ≡ false
  unfolding state_ahead oldest_row
  not-done now late = ne_eqb (row_of_entry ds n f (entry t s)).c now (λ e. absurd (omega (arith, e)))

  goes-on : (now : ℕ) → now < (row_of_entry ds n f (entry t s)).c → answer (machine_after_tick (hazard_free now)) ≡ Goes
  unfolding machine_after_tick answer
  goes-on now late = rw (not-done now late, due, awake) refl

  next-tick : (now : ℕ) → now < (row_of_entry ds n f (entry t s)).c → machine_after_settling (machine_after_tick (hazard_free now)) ≡ hazard_free (now + 1)
  unfolding machine_after_tick machine_after_settling
  next-tick now late = rw (not-done now late, due, awake) refl

  idle-tick : (now : ℕ) → now < (row_of_entry ds n f (entry t s)).c → IsPassed 0 (hazard_free now)
  idle-tick now late = record { goes = goes-on now late; nothing = λ done. absurd (cc (sym (not-done now late) ∙ done)) }

  after-idle : (k now : ℕ) → now + k ≤ (row_of_entry ds n f (entry t s)).c → after_ticks k (hazard_free now) ≡ hazard_free (now + k)
  unfolding after_ticks
  after-idle zero now late = let same : now ≡ now + 0 = omega arith in ap hazard_free same
  after-idle (suc k) now late =
      let same : now + 1 + k ≡ now + suc k = omega arith in
      ap (after_ticks k) (next-tick now (omega arith)) ∙ after-idle k (now + 1) (omega arith) ∙ ap hazard_free same

  pub are-idle : (k now : ℕ) → now + k ≤ (row_of_entry ds n f (entry t s)).c → ArePassed 0 k (hazard_free now) (hazard_free (now + k))
  are-idle k now late = record {
    each =
        λ i before. subst (IsPassed 0) (sym (after-idle i now (omega (arith, before)))) (idle-tick (now + i) (omega (arith, before)));
    after = sym (after-idle k now late);
  }

-- ---- any machine after idle ticks

goes-by : (due : Option ℕ) (at_rest : Bool) (behind : Option ℕ) (m : Overlap) → answer_by due at_rest behind m ≡ Goes
    → settled_by due at_rest behind m ≡ machine_after_pass m
goes-by (Some i) at_rest behind m e = absurd (cc e)
goes-by None true behind m e = absurd (cc e)
goes-by None false (Some h) m e = absurd (cc e)
goes-by None false None m e = refl

pub goes-passed : (m : Overlap) → answer m ≡ Goes → machine_after_settling m ≡ machine_after_pass m
unfolding answer machine_after_settling
goes-passed m e = goes-by (interrupt_due m) (rests m.state) m.mispredicted m e

pub late-ticked : (m : Overlap) → is_done m ≡ false → machine_after_tick m ≡ record m { phase = Ticked }
unfolding machine_after_tick
late-ticked m e = cond-false (is_done m) (machine_after_completion m) (record m { phase = Ticked }) e

pub less-than : (a b : ℕ) → nat_le a b ≡ false → b < a
less-than a b test = grind (arith, nat_tests)

-- if the count is 0, an external event is always possible
pub zero-comes : (m : Overlap) → may_come_from_outside 0 m.state ≡ false → ⊥
zero-comes m none = let less = less-than 0 m.state.done (or_parts (nat_le 0 m.state.done) _ none).0 in omega (arith, less)
