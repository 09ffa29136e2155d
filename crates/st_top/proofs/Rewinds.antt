-- The run of the second machine, and the steps back from its end.
use Rattle.st_top.proofs.Common.{◌≡◌, ◌≢◌, ◌≤◌, ℕ, zero, suc, ◌+◌, ◌-◌, List, [], ◌∷◌, ◌++◌, Bool, true, false, length, take, refl, sym, ◌∙◌, ap, subst, arith, length-append, append_assoc, if◌then◌else◌, map, take_all, Machine, rests, Scene, Transition, interlude, scene_after_step, state_next, scenes, run, step-done, KeptStep, Steps, IsBack, states_before, back-states, Moment, next_state, moments, scenes-same, settled-done, states, Beside, IsMoved, IsStepped, IsBeside, HasMadeRun}
use Rattle.st_run.specs.Course.{Course, course}
use Rattle.st_run.proofs.Runs.{transition_at_end, run-rests, run-budget, run-goes_on}
use Rattle.st_top.proofs.Besides.{beside_settled, beside_stepped}

-- ---- the states of a run

none-states : (c : Scene) → states zero c ≡ (interlude c).scene.machine ∷ []
unfolding states course
none-states c = refl

abbrev in_course : Course Scene → List Machine
in_course r = map state_next r.before ++ state_next r.last ∷ []

states-choice : (ends : Bool) (c : Scene) (r : Course Scene)
    → in_course (if ends then record { before = []; last = c } else record { before = c ∷ r.before; last = r.last })
    ≡ (if ends then state_next c ∷ [] else state_next c ∷ in_course r)
states-choice true c r = refl
states-choice false c r = refl

states-step : (left : ℕ) (c : Scene)
    → states (suc left) c
    ≡ (if rests (interlude c).scene.machine then (interlude c).scene.machine ∷ []
    else (interlude c).scene.machine ∷ states left (scene_after_step (interlude c).scene))
unfolding states course
states-step left c = states-choice (rests (state_next c)) c (scenes left (scene_after_step (interlude c).scene))

pub states-rests : (left : ℕ) (c : Scene) → rests (interlude c).scene.machine ≡ true → states left c ≡ (interlude c).scene.machine ∷ []
states-rests zero c h = none-states c
states-rests (suc left) c h =
    let s = (interlude c).scene in
    states-step left c ∙ ap (λ b. if b then s.machine ∷ [] else s.machine ∷ states left (scene_after_step s)) h

pub states-budget : (left : ℕ) (c : Scene) → left ≡ 0 → states left c ≡ (interlude c).scene.machine ∷ []
states-budget zero c h = none-states c
states-budget (suc left) c h = absurd (omega arith)

pub states-some : (k : ℕ) (c : Scene) → rests (interlude c).scene.machine ≡ false → states (suc k) c ≡ (interlude c).scene.machine ∷ states k (scene_after_step (interlude c).scene)
states-some k c h =
    let s = (interlude c).scene in
    states-step k c ∙ ap (λ b. if b then s.machine ∷ [] else s.machine ∷ states k (scene_after_step s)) h

pub states-goes_on : (left : ℕ) (c : Scene) → left ≢ 0 → rests (interlude c).scene.machine ≡ false → states left c ≡ (interlude c).scene.machine ∷ states (left - 1) (scene_after_step (interlude c).scene)
states-goes_on zero c some h = absurd (some refl)
states-goes_on (suc k) c some h =
    let same : k ≡ suc k - 1 = omega arith in
    states-some k c h ∙ ap (λ n. (interlude c).scene.machine ∷ states n (scene_after_step (interlude c).scene)) same

-- the moments of a timed run have the states of the plain run
pub states-same : (ds : List ℕ) (n left : ℕ) (m : Moment)
    → states left m.scene ≡ map next_state (moments ds n left m).before ++ next_state (moments ds n left m).last ∷ []
unfolding states
states-same ds n left m = scenes-same ds n left m

-- ---- the progress of the run

-- the states so far, and the remaining ones
pub record StatesSoFar (back budget : ℕ) (start : Scene) (left : ℕ) (b : Beside) : Type 0 where
  pub before : List Machine
  pub all : states budget start ≡ before ++ states left b.0
  pub last : (run left b.0).scene.machine ≡ (run budget start).scene.machine
  pub counted : length before ≡ b.0.machine.done
  pub beside : IsBeside back b before

pub states_begin : (back budget : ℕ) (b : Beside) → b.0.machine.done ≡ 0 → IsBeside back b [] → StatesSoFar back budget b.0 budget b
states_begin back budget b none h = record { before = []; all = refl; last = refl; counted = sym none; beside = h }

-- the run ends
states_end : (back budget : ℕ) (start : Scene) (left : ℕ) (b d : Beside) → IsMoved b d (interlude b.0).scene
    → states left b.0 ≡ (interlude b.0).scene.machine ∷ [] → run left b.0 ≡ transition_at_end (interlude b.0)
    → StatesSoFar back budget start left b → HasMadeRun back budget start d
states_end back budget start left b d moved ends over h =
    let same : d.0 ≡ (interlude b.0).scene = moved.scene in
    record {
      before = h.before;
      all = h.all ∙ (ap (λ (ss : List Machine). h.before ++ ss) ends ∙ ap (λ (k : Scene). h.before ++ k.machine ∷ []) (sym same));
      last = ap (λ (k : Scene). k.machine) same ∙ (sym (ap (λ (r : Transition). r.scene.machine) over) ∙ h.last);
      counted = h.counted ∙ (sym (settled-done b.0) ∙ ap (λ (k : Scene). k.machine.done) (sym same));
      beside = beside_settled back b d (interlude b.0).scene h.before moved h.beside;
    }

pub states_rest : (back budget : ℕ) (start : Scene) (left : ℕ) (b d : Beside) → IsMoved b d (interlude b.0).scene
    → rests d.0.machine ≡ true → StatesSoFar back budget start left b → HasMadeRun back budget start d
states_rest back budget start left b d moved at_rest h =
    let there : rests (interlude b.0).scene.machine ≡ true = ap (λ (k : Scene). rests k.machine) (sym moved.scene) ∙ at_rest in
    states_end back budget start left b d moved (states-rests left b.0 there) (run-rests left b.0 there) h

pub states_used : (back budget : ℕ) (start : Scene) (left : ℕ) (b d : Beside) → IsMoved b d (interlude b.0).scene
    → left ≡ 0 → StatesSoFar back budget start left b → HasMadeRun back budget start d
states_used back budget start left b d moved none h =
    states_end back budget start left b d moved (states-budget left b.0 none) (run-budget left b.0 none) h

-- the run continues
pub states_next : (back budget : ℕ) (start : Scene) (left : ℕ) (b d e : Beside) → left ≢ 0 → rests d.0.machine ≡ false
    → IsMoved b d (interlude b.0).scene → IsStepped d e → StatesSoFar back budget start left b → StatesSoFar back budget start (left - 1) e
states_next back budget start left b d e some going moved step h =
    let c = b.0 in
    let s = (interlude c).scene in
    let same : d.0 ≡ s = moved.scene in
    let going_on : rests s.machine ≡ false = ap (λ (g : Scene). rests g.machine) (sym same) ∙ going in
    let here : e.0 ≡ scene_after_step s = step.scene ∙ ap scene_after_step same in
    let beside = beside_stepped back d e h.before step (beside_settled back b d s h.before moved h.beside) in
    let grown = length-append h.before (s.machine ∷ []) in
    let counted = h.counted in
    let was = settled-done c in
    let now = step-done s.machine in
    let more : length (h.before ++ s.machine ∷ []) ≡ (scene_after_step s).machine.done = omega (arith, grown, counted, was, now) in
    record {
      before = h.before ++ s.machine ∷ [];
      all = h.all ∙ (ap (λ (ss : List Machine). h.before ++ ss) (states-goes_on left c some going_on)
          ∙ (sym (append_assoc h.before (s.machine ∷ []) (states (left - 1) (scene_after_step s)))
          ∙ ap (λ (g : Scene). (h.before ++ s.machine ∷ []) ++ states (left - 1) g) (sym here)));
      last = ap (λ (g : Scene). (run (left - 1) g).scene.machine) here
          ∙ (sym (ap (λ (r : Transition). r.scene.machine) (run-goes_on left c some going_on)) ∙ h.last);
      counted = more ∙ ap (λ (g : Scene). g.machine.done) (sym here);
      beside = subst (λ (g : Scene). IsBeside back e (h.before ++ g.machine ∷ [])) same beside;
    }

-- the count of completed instructions
pub states_few : (left budget : ℕ) (b d : Beside) → IsMoved b d (interlude b.0).scene → b.0.machine.done + left ≡ budget → d.0.machine.done + left ≡ budget
states_few left budget b d moved counted =
    let same : d.0.machine.done ≡ b.0.machine.done = ap (λ (k : Scene). k.machine.done) moved.scene ∙ settled-done b.0 in
    omega (arith, same, counted)

pub states_count : (left budget : ℕ) (b d e : Beside) → left ≢ 0 → IsMoved b d (interlude b.0).scene → IsStepped d e → b.0.machine.done + left ≡ budget → e.0.machine.done + (left - 1) ≡ budget
states_count left budget b d e some moved step counted =
    let few = states_few left budget b d moved counted in
    let more : e.0.machine.done ≡ d.0.machine.done + 1 = ap (λ (k : Scene). k.machine.done) step.scene ∙ step-done d.0.machine in
    omega (arith, some, few, more)

-- ---- back to the oldest state

pub length-states_before : (ks : List KeptStep) (s : Machine) → length (states_before ks s) ≡ length ks
unfolding states_before
length-states_before [] s = refl
length-states_before (k ∷ ks) s = ap suc (length-states_before ks s)

-- the remaining states that steps back restore
pub record LeftToUndo (all : List Machine) (kept : Steps) (m : Machine) : Type 0 where
  pub left : states_before kept.kept m ++ m ∷ [] ≡ take (length kept.kept + 1) all

pub undo_begins : (kept : Steps) (m : Machine) → LeftToUndo (states_before kept.kept m ++ m ∷ []) kept m
undo_begins kept m =
    let all = states_before kept.kept m ++ m ∷ [] in
    let size : length all ≤ length kept.kept + 1 = omega (arith, length-append (states_before kept.kept m) (m ∷ []), length-states_before kept.kept m) in
    record { left = sym (take_all (length kept.kept + 1) all size) }

issue-of : (xs : List Machine) (x : Machine) (n : ℕ) (all : List Machine) → xs ++ x ∷ [] ≡ take (suc n) all → length xs ≡ n → xs ≡ take n all
issue-of [] x zero all e size = refl
issue-of [] x (suc n) all e size = absurd (omega arith)
issue-of (y ∷ ys) x zero all e size = absurd (omega arith)
issue-of (y ∷ ys) x (suc n) [] e size = absurd (cc)
issue-of (y ∷ ys) x (suc n) (z ∷ zs) e size =
    let first : y ≡ z = cc in
    let rest : ys ++ x ∷ [] ≡ take (suc n) zs = cc in
    let small : length ys ≡ n = omega arith in
    ap (λ (a : Machine). a ∷ ys) first ∙ ap (λ (bs : List Machine). z ∷ bs) (issue-of ys x n zs rest small)

-- one step is undone
pub undo_next : (all : List Machine) (a b : Steps) (s t : Machine) (r : Bool) → IsBack a b s t r → length a.kept ≢ 0 → LeftToUndo all a s → LeftToUndo all b t
undo_next all a b s t false back some h = absurd (some (ap length back.0))
undo_next all a b s t true back some h =
    let n = length b.kept + 1 in
    let size : length a.kept ≡ n = ap length back.kept ∙ length-append b.kept (back.last ∷ []) in
    let long : length (states_before a.kept s) ≡ n = length-states_before a.kept s ∙ size in
    let next : length a.kept + 1 ≡ suc n = omega (arith, size) in
    let whole : states_before a.kept s ++ s ∷ [] ≡ take (suc n) all = h.left ∙ ap (λ k. take k all) next in
    record { left = sym (back-states a b s t back) ∙ issue-of (states_before a.kept s) s n all whole long }

pub undo_fewer : (a b : Steps) (s t : Machine) (r : Bool) → IsBack a b s t r → length a.kept ≢ 0 → length b.kept + 1 ≡ length a.kept
undo_fewer a b s t false back some = absurd (some (ap length back.0))
undo_fewer a b s t true back some = sym (ap length back.kept ∙ length-append b.kept (back.last ∷ []))

-- all steps are undone
undone_all_by : (ks : List KeptStep) (m : Machine) (all : List Machine) → length ks ≡ 0 → states_before ks m ++ m ∷ [] ≡ take (length ks + 1) all → m ∷ [] ≡ take 1 all
unfolding states_before
undone_all_by [] m all none e = e
undone_all_by (k ∷ ks) m all none e = absurd (omega arith)

pub undone_all : (all : List Machine) (kept : Steps) (m : Machine) → length kept.kept ≡ 0 → LeftToUndo all kept m → m ∷ [] ≡ take 1 all
undone_all all kept m none h = undone_all_by kept.kept m all none h.left
