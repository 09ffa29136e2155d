-- The progress of a plain run.
use Rattle.st_sweep.proofs.Common.{◌&&◌, not, is_none, ◌≡◌, ◌≢◌, ℕ, Option, zero, suc, ◌+◌, ◌-◌, ◌≤◌, ◌⊎◌, inl, inr, Bool, true, false, List, ◌∷◌, refl, sym, ◌∙◌, ap, subst, arith, Machine, Prepared, plan, needs, decode_context, is_mispredicted, state_after_execution, interrupt, step, rests, Signal, Scene, interlude, scene_after_step, state_next, scenes, run, WordRuns, side_is_written, one_is_written, next_writes, is_hazard_free_entry, is_hazard_free_interlude, is_hazard_free_behind, AreMarks, without_cards}
use Rattle.st_bits.specs.declared.limits.TheConstants.{MOST_INSTRUCTIONS}
use Rattle.st_prep.specs.Fetch.{place_of}
use Rattle.st_exec.proofs.StepLemmas.{step-done}
use Rattle.st_run.proofs.Runs.{run-rests, run-budget, run-goes_on}
use Rattle.st_run.proofs.DoneLemmas.{settled-done}
use Rattle.st_sweep.proofs.CourseLemmas.{hazard_free-none, hazard_free-step}

-- ---- one step

-- the executed entry is the next step
pub entry-step : (s t : Machine) (taken : Option ℕ) → taken ≡ interrupt s → t ≡ state_after_execution taken s → t ≡ step s
unfolding step
entry-step s t taken is made = made ∙ ap (λ i. state_after_execution i s) is

-- the test whether the next entry is hazard-free
pub entry-hazard_free : (earlier : List WordRuns) (s : Machine) (taken : Option ℕ) (p : Prepared) (mispredicted side words : Bool) (q : Option ℕ)
    → taken ≡ interrupt s → p ≡ plan s taken → q ≡ (needs (decode_context s (place_of s taken))).index_read
    → mispredicted ≡ is_mispredicted p s → side ≡ side_is_written earlier q → words ≡ one_is_written earlier p.reads
    → (is_none taken && not mispredicted && not side && not words) ≡ is_hazard_free_entry earlier s
unfolding is_hazard_free_entry
entry-hazard_free earlier s taken p mispredicted side words q is plan_is side_is first second third =
    rw (first, second, third, side_is, plan_is, is)

-- ---- the run

-- the progress of a run: from this scene, with the given remaining budget, it ends with the count
-- last, and the whole run is hazard-free if and only if it is so far and in its rest
pub record IsSoFar (whole : Bool) (last : ℕ) (so : Bool) (left : ℕ) (s : Machine) (xs : List Signal) (written : List Bool) : Type 0 where
  pub earlier : List WordRuns
  pub marks : AreMarks earlier written
  pub hazard_free : (so && is_hazard_free_behind earlier left (without_cards s xs)) ≡ whole
  pub done : (state_next (scenes left (without_cards s xs)).last).done ≡ last
  pub few : s.done + left ≤ MOST_INSTRUCTIONS

-- hazard-freedom at the end of a run
hazard_free-ends : (earlier : List WordRuns) (left : ℕ) (c : Scene) → (left ≡ 0) ⊎ (rests (interlude c).scene.machine ≡ true)
    → is_hazard_free_behind earlier left c ≡ is_hazard_free_interlude c
hazard_free-ends earlier zero c end = hazard_free-none earlier c
hazard_free-ends earlier (suc left) c (inl none) = let no : ⊥ = omega arith in absurd no
hazard_free-ends earlier (suc left) c (inr resting) = hazard_free-step earlier left c ∙ (rw resting (and-right (is_hazard_free_interlude c)))
  where
    and-right : (b : Bool) → (b && true) ≡ b
    and-right true = refl
    and-right false = refl

done-ends : (left : ℕ) (c : Scene) → (left ≡ 0) ⊎ (rests (interlude c).scene.machine ≡ true) → (state_next (scenes left c).last).done ≡ (interlude c).scene.machine.done
unfolding run
done-ends left c (inl none) = ap (λ r. r.scene.machine.done) (run-budget left c none)
done-ends left c (inr resting) = ap (λ r. r.scene.machine.done) (run-rests left c resting)

done-goes_on : (left : ℕ) (c : Scene) → left ≢ 0 → rests (interlude c).scene.machine ≡ false
    → (state_next (scenes left c).last).done ≡ (state_next (scenes (left - 1) (scene_after_step (interlude c).scene)).last).done
unfolding run
done-goes_on left c some going = ap (λ r. r.scene.machine.done) (run-goes_on left c some going)

-- hazard-freedom of a run that continues with an entry
abbrev hazard_free_on : List WordRuns → ℕ → Scene → Bool
hazard_free_on earlier left d =
    is_hazard_free_entry earlier d.machine && is_hazard_free_behind (next_writes d.machine ∷ earlier) left (scene_after_step d)

hazard_free-goes_on : (earlier : List WordRuns) (left : ℕ) (c : Scene) → left ≢ 0 → rests (interlude c).scene.machine ≡ false
    → is_hazard_free_behind earlier left c ≡ (is_hazard_free_interlude c && hazard_free_on earlier (left - 1) (interlude c).scene)
hazard_free-goes_on earlier zero c some going = absurd (some refl)
hazard_free-goes_on earlier (suc left) c some going =
    let one : left ≡ suc left - 1 = omega arith in
    hazard_free-step earlier left c
    ∙ (rw going (ap (λ k. is_hazard_free_interlude c && hazard_free_on earlier k (interlude c).scene) one))

regroup : (a b c d : Bool) → (((a && b) && c) && d) ≡ (a && (b && (c && d)))
regroup true true c d = refl
regroup true false c d = refl
regroup false b c d = refl

module _ (whole : Bool) (last : ℕ) (hazard_free quiet : Bool) (left : ℕ) (s t : Machine) (xs ys : List Signal) (marks : List Bool)
    (is : IsSoFar whole last hazard_free left s xs marks) (came : (interlude (without_cards s xs)).scene ≡ without_cards t ys)
    (still : quiet ≡ is_hazard_free_interlude (without_cards s xs)) where
  module _ (end : (left ≡ 0) ⊎ (rests t ≡ true)) where
    at_end : (left ≡ 0) ⊎ (rests (interlude (without_cards s xs)).scene.machine ≡ true)
    at_end = subst (λ m. (left ≡ 0) ⊎ (rests m ≡ true)) (ap (λ c. c.machine) (sym came)) end

    pub ends-hazard_free : (hazard_free && quiet) ≡ whole
    ends-hazard_free = ap (λ b. hazard_free && b) (still ∙ sym (hazard_free-ends is.earlier left (without_cards s xs) at_end)) ∙ is.hazard_free

    pub ends-done : t.done ≡ last
    ends-done = ap (λ c. c.machine.done) (sym came) ∙ sym (done-ends left (without_cards s xs) at_end) ∙ is.done

  -- the run continues with an entry
  module _ (some : left ≢ 0) (going : rests t ≡ false) where
    goes_on : rests (interlude (without_cards s xs)).scene.machine ≡ false
    goes_on = ap (λ c. rests c.machine) came ∙ going

    pub few-now : t.done + left ≤ MOST_INSTRUCTIONS
    few-now =
        let same : t.done ≡ s.done = ap (λ c. c.machine.done) (sym came) ∙ settled-done (without_cards s xs) in
        omega (arith, same, is.few)

    pub next-so_far : (u : Machine) (entry now : Bool) (marks2 : List Bool) → u ≡ step t → now ≡ ((hazard_free && quiet) && entry)
        → ((earlier : List WordRuns) → AreMarks earlier marks → AreMarks (next_writes t ∷ earlier) marks2 × (entry ≡ is_hazard_free_entry earlier t))
        → IsSoFar whole last now (left - 1) u ys marks2
    next-so_far u entry now marks2 made all kept =
        let c = without_cards s xs in
        let e = is.earlier in
        let noted = kept e is.marks in
        let later = is_hazard_free_behind (next_writes t ∷ e) (left - 1) (without_cards u ys) in
        let on : hazard_free_on e (left - 1) (interlude c).scene ≡ (entry && later) =
        ap (hazard_free_on e (left - 1)) came
        ∙ ap (λ b. b && is_hazard_free_behind (next_writes t ∷ e) (left - 1) (without_cards (step t) ys)) (sym noted.1)
        ∙ ap (λ m. entry && is_hazard_free_behind (next_writes t ∷ e) (left - 1) (without_cards m ys)) (sym made) in
        record {
          earlier = next_writes t ∷ e;
          marks = noted.0;
          hazard_free =
              ap (λ b. b && later) all ∙ regroup hazard_free quiet entry later
              ∙ ap (λ b. hazard_free && (b && (entry && later))) still
              ∙ ap (λ b. hazard_free && (is_hazard_free_interlude c && b)) (sym on)
              ∙ ap (λ b. hazard_free && b) (sym (hazard_free-goes_on e left c some goes_on))
              ∙ is.hazard_free;
          done =
              ap (λ m. (state_next (scenes (left - 1) (without_cards m ys)).last).done) made
              ∙ ap (λ d. (state_next (scenes (left - 1) (scene_after_step d)).last).done) (sym came)
              ∙ sym (done-goes_on left c some goes_on)
              ∙ is.done;
          few =
              let one : u.done ≡ t.done + 1 = ap (λ m. m.done) made ∙ step-done t in
              omega (arith, one, few-now, some);
        }
