-- The recursion of a run: it ends, or a step is made.
use Rattle.st_run.proofs.Common.{flat_map, ◌≡◌, ◌≢◌, ℕ, zero, suc, ◌-◌, arith, Bool, true, false, List, [], ◌∷◌, ◌++◌, refl, ◌∙◌, ap, append_assoc, rests, Course, course, Scene, Transition, PlainEvent, Ends, interlude, happens, scene_after_step, state_next, scenes, happens_from, happens_last, run}
use Rattle.std.proofs.Common.{if◌then◌else◌}

-- ---- one step

-- the run ends after this transition
abbrev pub transition_at_end : Transition → Transition
transition_at_end r = record r {
  happened = r.happened ++ Ends r.scene.machine (rests r.scene.machine) ∷ [];
}

-- the run continues after this transition
abbrev pub goes_on : Transition → Transition → Transition
goes_on r rest =
    record rest { happened = r.happened ++ (happens r.scene.machine ++ rest.happened) }

-- the run of a course of scenes
abbrev ran : Course Scene → Transition
ran r = record {
  scene = (interlude r.last).scene;
  happened = flat_map happens_from r.before ++ happens_last r.last;
}

run-choice : (ends : Bool) (c : Scene) (r : Course Scene)
    → ran (if ends then record { before = []; last = c } else record { before = c ∷ r.before; last = r.last })
    ≡ (if ends then transition_at_end (interlude c) else goes_on (interlude c) (ran r))
run-choice true c r = refl
run-choice false c r =
    let rest = flat_map happens_from r.before in
    ap (λ (hs : List PlainEvent). record { scene = (interlude r.last).scene; happened = hs })
    (append_assoc (happens_from c) rest (happens_last r.last)
    ∙ append_assoc (interlude c).happened (happens (state_next c)) (rest ++ happens_last r.last))

pub run-step : (left : ℕ) (c : Scene)
    → run (suc left) c
    ≡ (if rests (interlude c).scene.machine then transition_at_end (interlude c) else goes_on (interlude c) (run left (scene_after_step (interlude c).scene)))
unfolding run course
run-step left c = run-choice (rests (state_next c)) c (scenes left (scene_after_step (interlude c).scene))

pub run-none : (c : Scene) → run zero c ≡ transition_at_end (interlude c)
unfolding run course
run-none c = refl

-- ---- the recursion of a run

-- a machine at rest ends the run
pub run-rests : (left : ℕ) (c : Scene) → rests (interlude c).scene.machine ≡ true → run left c ≡ transition_at_end (interlude c)
run-rests zero c h = run-none c
run-rests (suc left) c h =
    run-step left c
    ∙ ap (λ b. if b then transition_at_end (interlude c) else goes_on (interlude c) (run left (scene_after_step (interlude c).scene))) h

-- a budget that is used up ends the run
pub run-budget : (left : ℕ) (c : Scene) → left ≡ 0 → run left c ≡ transition_at_end (interlude c)
run-budget zero c h = run-none c
run-budget (suc left) c h = absurd (omega arith)

-- otherwise a step is made
goes_on-some : (k : ℕ) (c : Scene) → rests (interlude c).scene.machine ≡ false → run (suc k) c ≡ goes_on (interlude c) (run k (scene_after_step (interlude c).scene))
goes_on-some k c h =
    run-step k c
    ∙ ap (λ b. if b then transition_at_end (interlude c) else goes_on (interlude c) (run k (scene_after_step (interlude c).scene))) h

pub run-goes_on : (left : ℕ) (c : Scene) → left ≢ 0 → rests (interlude c).scene.machine ≡ false → run left c ≡ goes_on (interlude c) (run (left - 1) (scene_after_step (interlude c).scene))
run-goes_on zero c some h = absurd (some refl)
run-goes_on (suc k) c some h =
    let same : k ≡ suc k - 1 = omega arith in
    goes_on-some k c h ∙ ap (λ n. goes_on (interlude c) (run n (scene_after_step (interlude c).scene))) same
