-- The decision between two entries.
use Rattle.st_run.proofs.Common.{IfSome, is_none, is_some, if◌then◌else◌, option_map, ◌≡◌, ◌≢◌, ℕ, ◌+◌, ◌<◌, ◌≤◌, Bool, true, false, ◌||◌, List, [], Option, None, Some, refl, sym, subst, ◌∙◌, ap, arith, Machine, IsMachine, of_choice, rests, interrupt, Signal, Scene, interlude, row_of_entry, tick_c, IsEntryInTime, AreDelaysUpTo, Entry, IssueState, entry, entry-ranges, Ready, Stopped, Overlap, state_ahead, levels_of, interrupt_due, oldest_row, machine_between_ticks, machine_after_segment, run_ended, settled_by, machine_after_pass, answer, answer_by, Moment, standing_at, next_scene, next_state, ends_segment, next_issue, next_segment, has_card, has_waited, IsScene, Together, scene_of, moment_of, AreTexts, IsBehindEntry, IsBeforeEntry, IsChoice, IsDecidedBy, IsChanged, IsLedOn, MayServe, has_ended, IsDecided, RunGoesOn, RunPhase, Before, AtEnd, Over, Decided, interrupt-below, ended-again}
use Rattle.st_ahead.specs.Calls.{machine_after_settling as settled_of}
use Rattle.st_ahead.specs.declared.events.Settled.{Settled}
use Rattle.st_run.proofs.OverlappedLemmas.{rests-quiet, rest-ends, rest-changed}
use Rattle.st_run.proofs.SceneLemmas.{settled-scene}
use Rattle.st_run.proofs.InterludeLemmas.{HasCome}
use Rattle.st_run.proofs.EndedLemmas.{opened, stopped-none, by_now, ended-since, since-is}
use Rattle.st_ahead.specs.declared.events.Settled.TheVariants as answers

-- ---- the result of a settle

-- whether the segment ends and the interrupt that is taken, unless the machine waits
abbrev pub outcome : Settled → Bool → Option (Bool × Option ℕ)
outcome answers.Goes over = Some (over, None)
outcome (answers.Interrupt i done ic dropped) over = Some (true, Some i)
outcome (answers.Mispredicted dropped) over = Some (true, None)
outcome answers.Waits over = None

outcome-by : (due behind : Option ℕ) (resting over : Bool) (m : Overlap) → (resting ≡ true → due ≡ None)
    → outcome (answer_by due resting behind m) over ≡ (if resting then None else Some ((is_some behind || over || is_some due), due))
outcome-by (Some i) None true over m none = absurd (cc (none refl))
outcome-by (Some i) (Some h) true over m none = absurd (cc (none refl))
outcome-by (Some i) None false true m none = refl
outcome-by (Some i) None false false m none = refl
outcome-by (Some i) (Some h) false over m none = refl
outcome-by None behind true over m none = refl
outcome-by None (Some h) false over m none = refl
outcome-by None None false true m none = refl
outcome-by None None false false m none = refl

outcome-is : (m : Overlap) (over : Bool)
    → outcome (answer m) over ≡ (if rests m.state then None else Some ((is_some m.mispredicted || over || is_some (interrupt_due m)), interrupt_due m))
unfolding answer
outcome-is m over = outcome-by (interrupt_due m) m.mispredicted (rests m.state) over m (rests-quiet m)

unless-some : (resting : Bool) (x y : Bool × Option ℕ) → (if resting then None else Some x) ≡ Some y → (resting ≡ false) × (y ≡ x)
unless-some resting x y same = grind arith

if-none : (resting : Bool) (x : Bool × Option ℕ) → (if resting then None else Some x) ≡ None → resting ≡ true
if-none resting x same = grind arith

abbrev IsGoing : ℕ → Bool → Overlap → Overlap → Bool × Option ℕ → Type 0
IsGoing left over m k r =
    (left ≢ 0) × (rests m.state ≡ false)
    × ((k ≡ settled_of m) × (r.1 ≡ interrupt_due m) × (r.0 ≡ (is_some m.mispredicted || over || is_some (interrupt_due m))))

-- the machine does not wait
pub chosen : (left : ℕ) (over : Bool) (old : Together) (m k : Overlap) (xs : List Signal) (cards : List (List ℕ)) (a : Settled) (r : Bool × Option ℕ)
    → record { machine = m; signals = xs; cards = cards } ≡ old → left ≢ 0
    → a ≡ answer m → k ≡ settled_of m → outcome a over ≡ Some r → IsGoing left over old.machine k r
chosen left over old m k xs cards a r view some is after picks =
    let all = unless-some (rests m.state) _ r (sym (outcome-is m over) ∙ ap (λ x. outcome x over) (sym is) ∙ picks) in
    subst {A = Together} (λ t. IsGoing left over t.machine k r) view
    (some, all.0, (after, ap (λ (p : Bool × Option ℕ). p.1) all.1, ap (λ (p : Bool × Option ℕ). p.0) all.1))

-- the machine waits
waits-rests : (m : Overlap) → answer m ≡ answers.Waits → rests m.state ≡ true
waits-rests m waits = if-none (rests m.state) _ (sym (outcome-is m false) ∙ ap (λ x. outcome x false) waits)

segment-ends : (m : Overlap) → has_ended (machine_after_segment m).phase ≡ true
unfolding machine_after_segment
segment-ends m = grind arith

module _ (old : Together) (m k : Overlap) (xs : List Signal) (cards : List (List ℕ)) (view : record { machine = m; signals = xs; cards = cards } ≡ old)
    (may : MayServe old.machine) (waits : answer m ≡ answers.Waits) (after : k ≡ settled_of m) where
  serves : MayServe m
  serves = subst {A = Together} (λ t. MayServe t.machine) (sym view) may

  changed : IsChanged true m k
  changed = rest-changed m k (waits-rests m waits) serves after

  pub waits-serves : MayServe k
  waits-serves = changed.serves serves

  pub waits-led : IsLedOn old.machine k
  waits-led = subst {A = Together} (λ t. IsLedOn t.machine k) view changed.led

  pub waits-rest : true ≡ rests old.machine.state
  waits-rest = sym (ap {A = Together} (λ t. rests t.machine.state) (sym view) ∙ waits-rests m waits)

  pub waits-ends : run_ended k ≡ run_ended old.machine
  waits-ends =
      let ended = machine_after_segment m in
      ap {A = Overlap} (λ o. run_ended o) (after ∙ rest-ends m (waits-rests m waits))
      ∙ ap {A = Overlap} (λ o. record o { phase = Stopped }) (ended-again ended (segment-ends m))
      ∙ ap {A = Together} (λ t. run_ended t.machine) view

-- ---- before the next entry

row-later : (ds : List ℕ) (n now : ℕ) (f : IssueState) (e : Entry) → IsEntryInTime e → now ≤ f.c → now + 1 ≤ (row_of_entry ds n f e).c
unfolding row_of_entry tick_c
row-later ds n now f e is late = omega (arith, is.costs.0)

-- the machine before the next entry, with the issue state f
abbrev going : Overlap → Machine → Option ℕ → IssueState → Overlap
going o s t f = record o { state = s; taken = t; issue = f; phase = Ready; mispredicted = None; now = o.now + 1 }

-- the machine between two ticks, with the pending interrupt taken
abbrev between_by : Overlap → Overlap
between_by m = machine_between_ticks m.delays m.levels m.state (interrupt m.state) m.issue m.now

going-before : (b n : Together) (s : Machine) (t : Option ℕ) (f : IssueState) → IsBehindEntry b → n.machine ≡ going b.machine s t f
    → IsScene (scene_of n) → t ≡ interrupt s → rests s ≡ false → b.machine.now ≤ f.c → IsBeforeEntry n
unfolding oldest_row state_ahead
going-before b n s t f is same scene table awake late =
    let o = b.machine in
    let state : n.machine.state ≡ s = ap (λ (m : Overlap). m.state) same in
    record {
      kept = record {
        some = subst (λ (m : Overlap). 1 ≤ m.levels) (sym same) is.kept.some;
        few = subst (λ (m : Overlap). m.levels ≤ 8) (sym same) is.kept.few;
        delays = subst (λ (m : Overlap). AreDelaysUpTo 255 m.delays) (sym same) is.kept.delays;
        scene = scene;
      };
      ready = record {
        between = subst (λ (m : Overlap). m ≡ between_by m) (sym same) (ap (λ (k : Option ℕ). going o s k f) table);
        awake = ap rests state ∙ awake;
        early =
            subst (λ (m : Overlap). m.now ≤ (oldest_row m).c) (sym same)
            (row-later o.delays o.levels o.now f (entry t s)
            (entry-ranges t s (subst IsMachine state scene.machine) (subst (λ x. IfSome x (λ i. i < 64)) (sym table) (interrupt-below s))) late);
      };
    }

now-taken : (over : Bool) (o : Overlap) (s : Machine) → (by_now over o s).taken ≡ o.taken
now-taken true o s = refl
now-taken false o s = refl

now-behind : (over : Bool) (o : Overlap) (s : Machine) → (by_now over o s).mispredicted ≡ o.mispredicted
now-behind true o s = refl
now-behind false o s = refl

going-by : (due behind : Option ℕ) (over : Bool) (o : Overlap) (s : Machine) (x : Overlap) → x ≡ by_now over o s → machine_after_segment x ≡ opened o s
    → o.taken ≡ None
    → settled_by due false behind x
    ≡ going o s due (if is_some behind || over || is_some due then (opened o s).issue else o.issue)
going-by (Some i) (Some h) over o s x now ends none = ap (λ (y : Overlap). machine_after_pass (record y { taken = Some i })) ends
going-by (Some i) None true o s x now ends none = ap (λ (y : Overlap). machine_after_pass (record y { taken = Some i })) ends
going-by (Some i) None false o s x now ends none = ap (λ (y : Overlap). machine_after_pass (record y { taken = Some i })) ends
going-by None (Some h) over o s x now ends none = ap machine_after_pass ends ∙ ap (λ t. going o s t (opened o s).issue) none
going-by None None true o s x now ends none = ap machine_after_pass now ∙ ap (λ t. going o s t (opened o s).issue) none
going-by None None false o s x now ends none = ap machine_after_pass now ∙ ap (λ t. going o s t o.issue) none

-- ---- the continuation of the run

abbrev pub IsWay : RunPhase → ℕ → Moment → Decided → Together → Type 0
IsWay turn left m d t = IsDecidedBy turn left (next_state m) d (RunGoesOn m d t) ((scene_of t ≡ next_scene m) × (levels_of t.machine ≡ []))

-- ---- whether the segment ends

ends-by : (mispredicted card waited due : Bool) → (mispredicted || (card || waited) || due) ≡ (mispredicted || card || waited || due)
ends-by true card waited due = refl
ends-by false true waited due = refl
ends-by false false waited due = refl

-- a moment, and the machine in the state after all external events
module _ (b t : Together) (text : Option (List ℕ)) (over : Bool) (is : IsBehindEntry b) (came : HasCome b t text over) where
  abbrev m : Moment
  m = moment_of b

  abbrev s : Machine
  s = t.machine.state

  state-is : s ≡ next_state m
  state-is = ap (λ (c : Scene). c.machine) came.scene

  abbrev ends : Bool
  ends = is_some b.machine.mispredicted || over || is_some (interrupt s)

  ends-is : ends ≡ ends_segment m
  unfolding ends_segment
  ends-is =
      ap (λ x. is_some b.machine.mispredicted || x || is_some (interrupt s)) came.ends
      ∙ ends-by (is_some b.machine.mispredicted) (has_card m) (has_waited m) (is_some (interrupt s))
      ∙ ap (λ (u : Machine). is_some b.machine.mispredicted || has_card m || has_waited m || is_some (interrupt u)) state-is

  -- the issue state after the decision
  abbrev issue : IssueState
  issue = if ends then next_segment m else b.machine.issue

  issue-is : issue ≡ next_issue m
  unfolding next_issue
  issue-is = ap (λ x. if x then next_segment m else m.issue) ends-is

  issue-late : b.machine.now ≤ issue.c
  issue-late = of_choice (λ (f : IssueState). b.machine.now ≤ f.c) ends (next_segment m) b.machine.issue (omega arith) (omega (arith, is.last))

  -- the machine after the external events
  now-is : t.machine ≡ by_now over b.machine s
  now-is = since-is b t.machine over is came.since

  due-is : interrupt_due t.machine ≡ interrupt s
  due-is = ap (λ (x : Overlap). if is_none x.taken then interrupt s else None) now-is ∙ ap (λ x. if is_none x then interrupt s else None) (now-taken over b.machine s ∙ is.table)

  behind-is : t.machine.mispredicted ≡ b.machine.mispredicted
  behind-is = ap (λ (x : Overlap). x.mispredicted) now-is ∙ now-behind over b.machine s

  settled-is : rests s ≡ false → settled_of t.machine ≡ going b.machine s (interrupt s) issue
  unfolding settled_of
  settled-is goes =
      ap (λ x. settled_by x (rests s) t.machine.mispredicted t.machine) due-is
      ∙ ap (λ x. settled_by (interrupt s) x t.machine.mispredicted t.machine) goes
      ∙ ap (λ x. settled_by (interrupt s) false x t.machine) behind-is
      ∙ going-by (interrupt s) b.machine.mispredicted over b.machine s t.machine now-is (ended-since b t.machine over is came.since) is.table

  -- the scene after the external events
  scene-is : (n : Together) → n ≡ record t { machine = n.machine } → n.machine.state ≡ s → scene_of n ≡ next_scene m
  scene-is n rest state =
      ap scene_of rest ∙ ap (λ u. record { machine = u; signals = t.signals; cards = t.cards }) state ∙ came.scene

  goes-on : (d : Decided) (n : Together) → n ≡ record t { machine = n.machine } → rests s ≡ false → n.machine ≡ settled_of t.machine
      → d.taken ≡ interrupt_due t.machine → d.ends ≡ (is_some t.machine.mispredicted || over || is_some (interrupt_due t.machine))
      → RunGoesOn m d n
  goes-on d n rest goes after table end =
      let same : n.machine ≡ going b.machine s (interrupt s) issue = after ∙ settled-is goes in
      let scene : scene_of n ≡ next_scene m = scene-is n rest (ap (λ (x : Overlap). x.state) same) in
      record {
        before =
            going-before b n s (interrupt s) issue is same (subst IsScene (sym scene) (settled-scene (scene_of b) is.kept.scene)) refl goes issue-late;
        standing =
            ap (λ (c : Scene). record { scene = c; tick = m.tick; issue = n.machine.issue }) scene
            ∙ ap (λ (f : IssueState). record (standing_at m) { issue = f }) (ap (λ (x : Overlap). x.issue) same ∙ issue-is);
        ends =
            end
            ∙ ap (λ x. is_some x || over || is_some (interrupt_due t.machine)) behind-is
            ∙ ap (λ x. is_some b.machine.mispredicted || over || is_some x) due-is
            ∙ ends-is;
        taken = table ∙ due-is ∙ ap interrupt state-is;
        now = ap (λ (x : Overlap). x.now) same;
      }

  stops : (n : Together) → n ≡ record t { machine = n.machine } → n.machine ≡ run_ended t.machine → (scene_of n ≡ next_scene m) × (levels_of n.machine ≡ [])
  stops n rest after =
      let same : n.machine ≡ record (opened b.machine s) { phase = Stopped } =
      after ∙ ap (λ (x : Overlap). record x { phase = Stopped }) (ended-since b t.machine over is came.since) in
      (scene-is n rest (ap (λ (x : Overlap). x.state) same), ap levels_of same ∙ stopped-none b.machine s)

  way-is : (turn : RunPhase) (left : ℕ) (d : Decided) (n : Together) → n ≡ record t { machine = n.machine }
      → IsChoice turn left over t.machine d n.machine → IsWay turn left m d n
  way-is Before left d n rest h =
      (h.0, sym (ap rests state-is) ∙ h.1, goes-on d n rest h.1 h.2.0 h.2.1 h.2.2)
  way-is (AtEnd resting) left d n rest h =
      (h.0 ∙ ap rests state-is, h.1, h.2, h.3, stops n rest h.4)
  way-is Over left d n rest h = h

  pub decided : (left : ℕ) (d : Decided) (n : Together) → n ≡ record t { machine = n.machine }
      → option_map (λ x. x.bytes) d.text ≡ text → IsChoice d.turn left over t.machine d n.machine → IsDecided left m d n
  decided left d n rest same choice = record {
    text = subst (λ x. AreTexts x (interlude (scene_of b)).happened) (sym same) came.told;
    way = way-is d.turn left d n rest choice;
  }
