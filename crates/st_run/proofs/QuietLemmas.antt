-- The transition between two entries without external events.
use Rattle.st_run.proofs.Common.{nat_lt, is_some, map, ◌≡◌, ◌≢◌, ℕ, Bool, true, false, ◌||◌, List, [], length, Option, None, refl, sym, subst, ◌∙◌, ap, arith, le-ltb, is_due, Overlap, interrupt_due, machine_after_pass, Signal, Scene, Transition, with_due_signals, with_due_orders, with_wait, interlude, uneventful, and_then, Together, scene_of, moment_of, IsBehindEntry, IsChoice, is_quiet, IsDecided, nothing_decided, OutputQueue, queued_events, rest_of, IsRun, AreInTime, TimedReportedEvent, reported_plain_event, has_waited, rests, RunPhase, Before, signal_due, not}
use Rattle.st_ahead.specs.Calls.{machine_after_settling as settled_of}
use Rattle.st_run.proofs.SignalLemmas.{due-over, wait-none}
use Rattle.st_run.proofs.InterludeLemmas.{HasCome, since-none}
use Rattle.st_run.proofs.ChoiceLemmas.{decided}
use Rattle.st_run.proofs.PartLemmas.{HasParts, left-parts}
use Rattle.st_run.proofs.LeftLemmas.{waits}
use Rattle.st_run.proofs.TickLemmas.{still-settled}
use Rattle.st_run.proofs.ProgressLemmas.{Quiet, rest-quiet, quiet-taken}

-- ---- the tests

by-orders : (c : Scene) (reader printer : Bool) → is_due c.machine.done c.machine.reader ≡ reader → is_due c.machine.done c.machine.printer ≡ printer
    → reader ≡ false → printer ≡ false → uneventful c ≡ with_due_orders c
unfolding with_due_orders
by-orders c reader printer first second a b = rw (first ∙ a, second ∙ b) refl

-- no external event is due
module _ (c : Scene) (signals : signal_due c.machine.done c.signals ≡ false) (reader : is_due c.machine.done c.machine.reader ≡ false)
    (printer : is_due c.machine.done c.machine.printer ≡ false) (awake : rests c.machine ≡ false) where
  pub none-due : with_due_orders (with_due_signals c) ≡ uneventful c
  none-due =
      ap with_due_orders (due-over c.signals c _ refl signals) ∙ sym (by-orders c false false reader printer refl refl)

  pub none-comes : interlude c ≡ uneventful c
  unfolding interlude
  none-comes = ap (λ r. and_then r with_wait) none-due ∙ wait-none c awake

-- the parts of a quiet machine
pub record QuietParts (m : Overlap) : Type 0 where
  pub reader : is_due m.state.done m.state.reader ≡ false
  pub printer : is_due m.state.done m.state.printer ≡ false
  pub right : m.mispredicted ≡ None
  pub due : interrupt_due m ≡ None
  pub awake : rests m.state ≡ false

four-none : (a b d : Bool) (mispredicted due : Option ℕ) → not ((a || b) || is_some mispredicted || is_some due || d) ≡ true
    → (a ≡ false) × (b ≡ false) × (mispredicted ≡ None) × (due ≡ None) × (d ≡ false)
four-none a b d mispredicted due quiet = grind arith

pub quiet-parts-of : (m : Overlap) → is_quiet m ≡ true → QuietParts m
quiet-parts-of m quiet =
    let all = four-none (is_due m.state.done m.state.reader) (is_due m.state.done m.state.printer) (rests m.state) m.mispredicted (interrupt_due m) quiet in
    record { reader = all.0; printer = all.1; right = all.2; due = all.3; awake = all.4 }

pub quiet-settled : (m : Overlap) → is_quiet m ≡ true → machine_after_pass m ≡ settled_of m
quiet-settled m quiet = let parts = quiet-parts-of m quiet in still-settled m parts.due parts.awake parts.right

none-over : (n : ℕ) (waited : Bool) → waited ≡ false → false ≡ (nat_lt n n || waited)
none-over n waited none = rw (none, le-ltb n n (omega arith)) refl

-- ---- the decision

module _ (left : ℕ) (b n : Together) (is : IsBehindEntry b) (some : left ≢ 0) (signals : signal_due b.machine.state.done b.signals ≡ false)
    (calm : is_quiet b.machine ≡ true) (rest : n ≡ record b { machine = n.machine }) (after : n.machine ≡ settled_of b.machine) where
  abbrev c : Scene
  c = scene_of b

  quiet : QuietParts b.machine
  quiet = quiet-parts-of b.machine calm

  came : HasCome b b None false
  came =
      let none = none-comes c signals quiet.reader quiet.printer quiet.awake in
      let waited = ap (λ (r : Transition). rests r.scene.machine) (none-due c signals quiet.reader quiet.printer quiet.awake) ∙ quiet.awake in
      record {
        scene = ap (λ (r : Transition). r.scene) (sym none);
        told = ap (λ (r : Transition). map reported_plain_event r.happened) (sym none);
        since = since-none b.machine;
        ends =
            none-over (length b.cards) (has_waited (moment_of b)) waited
            ∙ ap (λ (r : Transition). nat_lt (length r.scene.cards) (length b.cards) || has_waited (moment_of b)) (sym none);
      }

  choice : IsChoice Before left false b.machine nothing_decided n.machine
  choice = (
    some,
    quiet.awake,
    (
      after,
      sym quiet.due,
      rw (quiet.right, quiet.due) refl,
    ),
  )

  pub quiet-decided : IsDecided left (moment_of b) nothing_decided n
  quiet-decided = decided b b None false is came left nothing_decided n rest refl choice

  pub quiet-parts : HasParts b.machine n.machine
  quiet-parts = left-parts b.machine b.machine n.machine false left nothing_decided (since-none b.machine) choice

-- the parts of a machine with its external events, if none is due
module _ (left : ℕ) (old : Together) (m k : Overlap) (xs : List Signal) (cards : List (List ℕ)) (view : record { machine = m; signals = xs; cards = cards } ≡ old)
    (is : IsBehindEntry old) (some : left ≢ 0) (number : ℕ) (counted : number ≡ old.machine.state.done) (signals : signal_due number xs ≡ false)
    (quiet : is_quiet old.machine ≡ true) (after : k ≡ machine_after_pass m) where
  abbrev b : Together
  b = record { machine = m; signals = xs; cards = cards }

  abbrev n : Together
  n = record { machine = k; signals = xs; cards = cards }

  behind : IsBehindEntry b
  behind = subst {A = Together} IsBehindEntry (sym view) is

  none : signal_due m.state.done xs ≡ false
  none = ap (λ d. signal_due d xs) (ap (λ (t : Together). t.machine.state.done) view ∙ sym counted) ∙ signals

  still : is_quiet m ≡ true
  still = ap (λ (t : Together). is_quiet t.machine) view ∙ quiet

  pub passed-settles : k ≡ settled_of m
  passed-settles = after ∙ quiet-settled m still

  pub passed-decided : IsDecided left (moment_of old) nothing_decided n
  passed-decided =
      subst {A = Together} (λ t. IsDecided left (moment_of t) nothing_decided n) view
      (quiet-decided left b n behind some none still refl passed-settles)

  pub passed-parts : HasParts old.machine k
  passed-parts =
      subst {A = Together} (λ t. HasParts t.machine k) view
      (quiet-parts left b n behind some none still refl passed-settles)

-- ---- no event is pending in either case

pub none-quiet : Quiet (waits [] None None)
unfolding queued_events
none-quiet s = refl

pub quiet-rest : (turn : RunPhase) (left tick : ℕ) (snaps : List ℕ) (w : OutputQueue) (t : Together) → Quiet w
    → rest_of turn left tick snaps (waits [] None None) t ≡ rest_of turn left tick snaps w t
quiet-rest turn left tick snaps w t quiet =
    rest-quiet turn left tick snaps (waits [] None None) t none-quiet ∙ sym (rest-quiet turn left tick snaps w t quiet)

pub quiet-run : (turn : RunPhase) (left tick : ℕ) (snaps : List ℕ) (w : OutputQueue) (t : Together) → Quiet w
    → IsRun turn left tick snaps (waits [] None None) t → IsRun turn left tick snaps w t
quiet-run turn left tick snaps w t quiet is = record {
  stands = is.stands;
  taken = quiet-taken w t.machine.state _ quiet;
  in_time = subst {A = List TimedReportedEvent} AreInTime (quiet-rest turn left tick snaps w t quiet) is.in_time;
}
