-- Consequences of the tests for hazard-freedom.
use Rattle.st_sweep.proofs.Common.{◌==◌, ◌&&◌, ◌||◌, not, nat_lt, nat_le, if◌then◌else◌, is_none, IfSome, list_all, list_any, ◌≡◌, ℕ, zero, suc, ◌+◌, ◌-◌, ◌<◌, ◌≤◌, inl, inr, Bool, true, false, List, [], ◌∷◌, length, All, Option, None, Some, refl, sym, ◌∙◌, subst, arith, and_parts, or_parts, not-true, eqb-true, leb-false, cases_lt, Machine, plan, is_mispredicted, interrupt, rests, Scene, with_due_signals, with_due_orders, interlude, scene_after_step, is_among, AreEqual, IsUnwritten, IsRunUnwritten, IsHazardFree, WordRuns, above_registers, words_to_read, side_to_read, entry, are_equal, is_among_written, are_written, one_is_written, side_is_written, next_writes, next_side, is_hazard_free_entry, is_hazard_free_interlude, is_hazard_free_behind}
use Rattle.std.proofs.lemmas.List.Elements.{All-nil, All-cons}
use Rattle.st_rows.specs.declared.entry.WordRun.{WordRun}
use Rattle.st_sweep.proofs.CourseLemmas.{hazard_free-step}

-- ---- delays

each-equal : (d : ℕ) (ds : List ℕ) → list_all (λ x. x == d) ds ≡ true → All (λ x. x ≡ d) ds
each-equal d [] all = All-nil (λ x. x ≡ d)
each-equal d (x ∷ ds) all =
    let both = and_parts (x == d) (list_all (λ y. y == d) ds) all in
    All-cons (λ y. y ≡ d) x ds (eqb-true x d both.0) (each-equal d ds both.1)

pub record AreSame (ds : List ℕ) : Type 0 where
  pub delay : ℕ
  pub each : AreEqual delay ds

pub same-delays : (ds : List ℕ) → 1 ≤ length ds → are_equal ds ≡ true → AreSame ds
same-delays [] some all = absurd (omega arith)
same-delays (d ∷ ds) some all = record {
  delay = d;
  each = record { some = some; each = All-cons (λ y. y ≡ d) d ds refl (each-equal d ds all) };
}

-- ---- words that no earlier entry writes

none-writes : (earlier : List WordRuns) (w : ℕ) → list_any (is_among w) earlier ≡ false → IsUnwritten earlier w
none-writes [] w none = All-nil (λ (writes : WordRuns). is_among w writes ≡ false)
none-writes (writes ∷ earlier) w none =
    let both = or_parts (is_among w writes) (list_any (is_among w) earlier) none in
    All-cons (λ (x : WordRuns). is_among w x ≡ false) writes earlier both.0 (none-writes earlier w both.1)

unwritten : (earlier : List WordRuns) (w : ℕ) → is_among_written earlier w ≡ false → IsUnwritten earlier w
unfolding is_among_written
unwritten earlier w none = none-writes earlier w none

unwritten-in : (earlier : List WordRuns) (first n : ℕ) → are_written earlier first n ≡ false
    → (w : ℕ) → first ≤ w → w < first + n → IsUnwritten earlier w
unfolding are_written
unwritten-in earlier first zero none w least most = absurd (omega arith)
unwritten-in earlier first (suc n) none w least most =
    let both = or_parts (is_among_written earlier first) (are_written earlier (first + 1) n) none in
    elim (cases_lt first w) [
      | inl later ↦ unwritten-in earlier (first + 1) n both.1 w (omega arith) (omega arith)
      | inr here ↦
          let same : first ≡ w = omega arith in
          unwritten earlier w (subst (λ v. is_among_written earlier v ≡ false) same both.0)
    ]

abbrev run_by : Bool → ℕ → ℕ → WordRun
run_by b first n = if b then record { first = first; len = n } else record { first = 32; len = n - (32 - first) }

above-by : (b : Bool) (first n : ℕ) → nat_le 32 first ≡ b → (w : ℕ)
    → (run_by b first n).first ≤ w → w < (run_by b first n).first + (run_by b first n).len
    → (first ≤ w) × (w < first + n)
above-by true first n e w least most = (least, most)
above-by false first n e w least most =
    let low : first < 32 = leb-false 32 first e in
    (omega arith, omega arith)

run-unwritten : (earlier : List WordRuns) (first n : ℕ) → are_written earlier first n ≡ false
    → IsRunUnwritten earlier (above_registers first n)
unfolding above_registers
run-unwritten earlier first n none w least most =
    let inside = above-by (nat_le 32 first) first n refl w least most in
    unwritten-in earlier first n none w inside.0 inside.1

side-by : (earlier : List WordRuns) (b : Bool) (w : ℕ) → is_among_written earlier w ≡ false
    → IfSome (if b then Some w else None) (IsUnwritten earlier)
side-by earlier true w none = unwritten earlier w none
side-by earlier false w none = tt

side-unwritten : (earlier : List WordRuns) (side : Option ℕ) → side_is_written earlier side ≡ false
    → IfSome (side_to_read side) (IsUnwritten earlier)
unfolding side_is_written side_to_read
side-unwritten earlier None none = tt
side-unwritten earlier (Some w) none = side-by earlier (nat_le 32 w) w none

-- ---- entries

none-is : (o : Option ℕ) → is_none o ≡ true → o ≡ None
none-is None h = refl
none-is (Some i) h = cc

pub record IsHazardFreeEntry (earlier : List WordRuns) (s : Machine) : Type 0 where
  pub none : interrupt s ≡ None
  pub right : is_mispredicted (plan s (interrupt s)) s ≡ false
  pub hazard_free : IsHazardFree earlier (entry (interrupt s) s)

pub hazard_free-entry : (earlier : List WordRuns) (s : Machine) → is_hazard_free_entry earlier s ≡ true → IsHazardFreeEntry earlier s
unfolding is_hazard_free_entry one_is_written entry words_to_read
hazard_free-entry earlier s h =
    let p = plan s (interrupt s) in
    let one = are_written earlier p.reads.first p.reads.len in
    let two = are_written earlier p.reads.first2 p.reads.len2 in
    let last = and_parts _ _ h in
    let third = and_parts _ _ last.0 in
    let second = and_parts _ _ third.0 in
    let both = or_parts one two (not-true (one || two) last.1) in
    record {
      none = none-is (interrupt s) second.0;
      right = not-true (is_mispredicted p s) second.1;
      hazard_free = record {
        side = side-unwritten earlier (next_side s) (not-true (side_is_written earlier (next_side s)) third.1);
        one = run-unwritten earlier p.reads.first p.reads.len both.0;
        two = run-unwritten earlier p.reads.first2 p.reads.len2 both.1;
      };
    }

-- ---- the transition between two entries

pub record IsQuiet (c : Scene) : Type 0 where
  pub no_card : nat_lt (length (interlude c).scene.cards) (length c.cards) ≡ false
  pub no_wait : rests (interlude c).scene.machine ≡ false
      → rests (with_due_orders (with_due_signals c)).scene.machine ≡ false

awake : (after before : Bool) → (after || not before) ≡ true → after ≡ false → before ≡ false
awake true before h going = absurd (cc)
awake false before h going = not-true before h

pub quiet-is : (c : Scene) → is_hazard_free_interlude c ≡ true → IsQuiet c
unfolding is_hazard_free_interlude
quiet-is c h =
    let parts = and_parts _ _ h in
    record {
      no_card = not-true _ parts.0;
      no_wait = λ going. awake _ _ parts.1 going;
    }

-- ---- the run

pub record GoesOn (earlier : List WordRuns) (left : ℕ) (c : Scene) : Type 0 where
  pub quiet : IsQuiet c
  pub hazard_free : IsHazardFreeEntry earlier (interlude c).scene.machine
  pub rest :
      let s = (interlude c).scene.machine in
      is_hazard_free_behind ((entry (interrupt s) s).writes ∷ earlier) left (scene_after_step (interlude c).scene) ≡ true

goes_on : (rest : Bool) (entry later : Bool) → (rest || entry && later) ≡ true → rest ≡ false → (entry && later) ≡ true
goes_on true entry later h going = absurd (cc)
goes_on false entry later h going = h

pub hazard_free-goes_on : (earlier : List WordRuns) (left : ℕ) (c : Scene) → is_hazard_free_behind earlier (suc left) c ≡ true
    → rests (interlude c).scene.machine ≡ false → GoesOn earlier left c
unfolding entry
hazard_free-goes_on earlier left c h going =
    let s = (interlude c).scene.machine in
    let later = is_hazard_free_behind (next_writes s ∷ earlier) left (scene_after_step (interlude c).scene) in
    let parts = and_parts (is_hazard_free_interlude c) (rests s || is_hazard_free_entry earlier s && later) (sym (hazard_free-step earlier left c) ∙ h) in
    let both = and_parts (is_hazard_free_entry earlier s) later (goes_on (rests s) (is_hazard_free_entry earlier s) later parts.1 going) in
    record {
      quiet = quiet-is c parts.0;
      hazard_free = hazard_free-entry earlier s both.0;
      rest = both.1;
    }
