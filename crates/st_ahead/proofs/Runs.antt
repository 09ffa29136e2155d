-- The look-ahead of a machine that makes ticks, with completions at some of them.
use Rattle.st_ahead.proofs.Common.{◌≡◌, ℕ, zero, suc, ◌+◌, ◌<◌, ◌≤◌, Bool, true, false, List, [], ◌∷◌, ◌++◌, Option, None, Some, refl, sym, subst, ◌∙◌, ap, arith, ◌*◌, eq-eqb, true_from_ne_false, cond-true, append-nil, All-weaker, Machine, IsMachine, plan, state_after_execution, prediction, is_mispredicted, interrupt, rests, made_before, reads_of_entry, row_of_entry, issue_after_entry, IssueState, Level, ahead, reads_before, entry, IsCompleted, Completed, ahead-rests, Overlap, state_ahead, oldest_row, interrupt_due, banks_at_its_end, machine_between_ticks, is_done, row_done, machine_after_completion, machine_after_tick, machine_after_pass, machine_after_settling, answer, answer_by, ArePassed, may_come_from_outside, is_quiet, order_is_due, or_parts, nat_le, not, is_some, ◌||◌, ◌⊎◌, inl, inr, nat_tests, Queue, queue_with, rows_in_ticks, IsAwake, GoesFrom, HasPassed, LookaheadView, IsLookahead, IsOutlook, count, IsGoing, IsDueAt, answers_before, Row, Goes, after-c, most_ticks_of_entry}
use Rattle.std.specs.Prelude.{◌-◌}
use Rattle.std.proofs.Common.{if◌then◌else◌}
use Rattle.std.specs.Option.{IfSome}
use Rattle.st_ahead.proofs.Idling.{are-idle, goes-passed, passed-none}
use Rattle.st_ahead.proofs.Passing.{passed-join, passed-one, passed-any, goes-answers}
use Rattle.st_ahead.proofs.LevelTicks.{done-after, done-later}
use Rattle.st_ahead.proofs.Settling.{lookahead-runs}
use Rattle.st_ahead.proofs.NotedRows.{queue-both, queue-none, rows-join, rows-none, row-one}
use Rattle.st_ahead.proofs.Standing.{same-answers, same-row, told}

-- ---- an entry completes at a tick

module _ (ds : List ℕ) (n now : ℕ) (t : Option ℕ) (s : Machine) (f : IssueState) (due : (row_of_entry ds n f (entry t s)).c ≡ now) where
  abbrev before : Overlap
  before = machine_between_ticks ds n s t f now

  pub is-due : is_done before ≡ true
  unfolding state_ahead oldest_row
  is-due = eq-eqb (row_of_entry ds n f (entry t s)).c now due

  pub ticked-done : machine_after_tick before ≡ machine_after_completion before
  unfolding machine_after_tick
  ticked-done = cond-true _ _ _ is-due

  module _ (right : is_mispredicted (plan s t) s ≡ false) (none : interrupt (state_after_execution t s) ≡ None) (awake : rests (state_after_execution t s) ≡ false) where
    goes-done : answer (machine_after_tick before) ≡ Goes
    unfolding machine_after_completion state_ahead
    goes-done = ap {A = Overlap} answer ticked-done ∙ goes-answers (machine_after_completion before) none awake (rw right refl)

    next-done : machine_after_settling (machine_after_tick before) ≡ machine_between_ticks ds n (state_after_execution t s) None (issue_after_entry ds n f (entry t s)) (now + 1)
    unfolding machine_after_completion state_ahead
    next-done = goes-passed (machine_after_tick before) goes-done ∙ ap {A = Overlap} machine_after_pass ticked-done

    pub one-passed : (count : ℕ) → may_come_from_outside count (state_after_execution t s) ≡ false
        → ArePassed count 1 before (machine_between_ticks ds n (state_after_execution t s) None (issue_after_entry ds n f (entry t s)) (now + 1))
    unfolding machine_after_completion state_ahead
    one-passed count nothing =
        passed-one count before _ (record {
          goes = goes-done;
          nothing = λ done. ap {A = Overlap} (λ m. may_come_from_outside count m.state) ticked-done ∙ nothing;
        }) (sym next-done)

-- a machine that continues has no interrupt due and no mispredicted branch
goes-parts : (due behind : Option ℕ) (at_rest : Bool) (m : Overlap) → answer_by due at_rest behind m ≡ Goes
    → (due ≡ None) × (at_rest ≡ false) × (behind ≡ None)
goes-parts (Some i) behind at_rest m goes = absurd (cc goes)
goes-parts None behind true m goes = absurd (cc goes)
goes-parts None (Some h) false m goes = absurd (cc goes)
goes-parts None None false m goes = (refl, refl, refl)

-- whether no order is due and the decision is to continue, by the state and branch of the completed entry
pub quiet-after : (ds : List ℕ) (n now : ℕ) (t : Option ℕ) (s x : Machine) (f : IssueState) (mispredicted : Option ℕ)
    → (row_of_entry ds n f (entry t s)).c ≡ now → x ≡ state_after_execution t s
    → mispredicted ≡ (if is_mispredicted (plan s t) s then Some (plan s t).following else None)
    → not (order_is_due x || is_some mispredicted || is_some (interrupt x) || rests x) ≡ is_quiet (machine_after_tick (machine_between_ticks ds n s t f now))
unfolding machine_after_completion state_ahead
quiet-after ds n now t s x f mispredicted due state branch = rw (state, branch) (ap {A = Overlap} is_quiet (sym (ticked-done ds n now t s f due)))

-- the decision is to continue and no order is due
pub goes-quiet : (m : Overlap) → answer m ≡ Goes → order_is_due m.state ≡ false → is_quiet m ≡ true
unfolding answer
goes-quiet m goes none =
    let parts = goes-parts (interrupt_due m) m.mispredicted (rests m.state) m goes in
    rw (none, parts.2, parts.0, parts.1) refl

reached : (count done : ℕ) (order : Bool) → count ≤ done → (nat_le count done || order) ≡ true
reached count done order most = grind (arith, nat_tests)

-- the run stops at a completion that is not quiet or reaches the count
pub stopped-comes : (ds : List ℕ) (n count now : ℕ) (t : Option ℕ) (s x : Machine) (f : IssueState) (quiet : Bool)
    → (row_of_entry ds n f (entry t s)).c ≡ now → x ≡ state_after_execution t s
    → quiet ≡ is_quiet (machine_after_tick (machine_between_ticks ds n s t f now)) → (quiet ≡ false) ⊎ (count ≤ x.done)
    → answer (machine_after_tick (machine_between_ticks ds n s t f now)) ≡ Goes → may_come_from_outside count (machine_after_tick (machine_between_ticks ds n s t f now)).state ≡ true
unfolding machine_after_completion state_ahead
stopped-comes ds n count now t s x f quiet due state is (inl still) goes =
    let m = machine_after_tick (machine_between_ticks ds n s t f now) in
    true_from_ne_false (may_come_from_outside count m.state) (λ nothing.
    let same : true ≡ false = sym (goes-quiet m goes (or_parts (nat_le count m.state.done) (order_is_due m.state) nothing).1) ∙ sym is ∙ still in
    absurd (cc same))
stopped-comes ds n count now t s x f quiet due state is (inr most) goes =
    let m = machine_after_tick (machine_between_ticks ds n s t f now) in
    let done : m.state.done ≡ x.done = ap {A = Overlap} (λ y. y.state.done) (ticked-done ds n now t s f due) ∙ ap {A = Machine} (λ y. y.done) (sym state) in
    reached count m.state.done (order_is_due m.state) (omega (arith, most, done))

-- a completion after which the run continues, by its parts
pub quiet-parts : (x : Machine) (count : ℕ) (mispredicted : Option ℕ)
    → not (order_is_due x || is_some mispredicted || is_some (interrupt x) || rests x) ≡ true → x.done < count
    → (may_come_from_outside count x ≡ false) × (mispredicted ≡ None) × (interrupt x ≡ None) × (rests x ≡ false)
quiet-parts x count mispredicted quiet few =
    parts-by (order_is_due x) (rests x) mispredicted (interrupt x) x.done count quiet few
  where
    parts-by : (order resting : Bool) (mispredicted due : Option ℕ) (done count : ℕ)
        → not (order || is_some mispredicted || is_some due || resting) ≡ true → done < count
        → ((nat_le count done || order) ≡ false) × (mispredicted ≡ None) × (due ≡ None) × (resting ≡ false)
    parts-by order resting mispredicted due done count quiet few = grind (arith, nat_tests)

-- ---- ticks without a completion

move : (ds : List ℕ) (n count k j now to at : ℕ) (t x : Option ℕ) (s u : Machine) (f g : IssueState) → k ≡ j → to ≡ at
    → ArePassed count k (machine_between_ticks ds n s t f now) (machine_between_ticks ds n u x g to) → ArePassed count j (machine_between_ticks ds n s t f now) (machine_between_ticks ds n u x g at)
move ds n count k j now to at t x s u f g same there are =
    subst (λ (i : ℕ). ArePassed count j (machine_between_ticks ds n s t f now) (machine_between_ticks ds n u x g i)) there
    (subst (λ (i : ℕ). ArePassed count i (machine_between_ticks ds n s t f now) (machine_between_ticks ds n u x g to)) same are)

-- from `now` on all ticks are passed up to a tick, not after `last`; v is the look-ahead of the state u, and k says
-- whether its next entry is a table instruction
pub record IsRunning (ds : List ℕ) (n count last now : ℕ) (t : Option ℕ) (s : Machine) (f : IssueState)
    (k : Option ℕ) (u : Machine) (v : LookaheadView) : Type 0 where
  pub tick : ℕ
  pub issue : IssueState
  pub passed : ArePassed count (tick + 1 - now) (machine_between_ticks ds n s t f now)
      (machine_between_ticks ds n u k issue (tick + 1))
  pub behind : now ≤ tick + 1
  pub soon : tick ≤ last
  pub awake : IsAwake k u
  pub going : IsGoing ds n tick tick k u issue v

pub running-idle : (ds : List ℕ) (n count last now to : ℕ) (t k : Option ℕ) (s u : Machine) (f : IssueState) (v : LookaheadView)
    (is : IsRunning ds n count last now t s f k u v) → is.tick < to → to ≤ (row_of_entry ds n is.issue (entry k u)).c
    → ArePassed count (to - now) (machine_between_ticks ds n s t f now) (machine_between_ticks ds n u k is.issue to)
running-idle ds n count last now to t k s u f v is later soon =
    let idle = are-idle ds n u k is.issue is.awake.due is.awake.goes (to - (is.tick + 1)) (is.tick + 1) (omega (arith, later, soon)) in
    move ds n count _ _ now _ _ t k s u f is.issue (omega (arith, later, is.behind)) (omega (arith, later))
    (passed-join count (is.tick + 1 - now) (to - (is.tick + 1)) _ _ _ is.passed (passed-any count (to - (is.tick + 1)) _ _ idle))

-- no entry completes in the passed ticks
pub rows-idle : (ds : List ℕ) (n count last now to : ℕ) (t k : Option ℕ) (s u : Machine) (f : IssueState) (v : LookaheadView)
    (is : IsRunning ds n count last now t s f k u v) → is.tick < to → to ≤ (row_of_entry ds n is.issue (entry k u)).c
    → rows_in_ticks (is.tick + 1 - now) (machine_between_ticks ds n s t f now) ≡ rows_in_ticks (to - now) (machine_between_ticks ds n s t f now)
rows-idle ds n count last now to t k s u f v is later soon =
    let start = machine_between_ticks ds n s t f now in
    let j = is.tick + 1 - now in
    let i = to - (is.tick + 1) in
    let same : to - now ≡ j + i = omega (arith, later, is.behind) in
    let idle = are-idle ds n u k is.issue is.awake.due is.awake.goes i (is.tick + 1) (omega (arith, later, soon)) in
    let all : rows_in_ticks (to - now) start ≡ rows_in_ticks j start =
    ap {A = ℕ} (λ x. rows_in_ticks x start) same
    ∙ rows-join j i start
    ∙ ap {A = Overlap} (λ m. rows_in_ticks j start ++ rows_in_ticks i m) (sym is.passed.after)
    ∙ ap {A = List Row} (λ xs. rows_in_ticks j start ++ xs) (rows-none i _ _ idle)
    ∙ append-nil (rows_in_ticks j start) in
    sym all

-- ---- the start

start-by : (ds : List ℕ) (n count now : ℕ) (t : Option ℕ) (s : Machine) (f : IssueState) → IsMachine s → IfSome t (λ i. i < 64) → IsAwake t s
    → ArePassed count (now - 1 + 1 - now) (machine_between_ticks ds n s t f now) (machine_between_ticks ds n s t f (now - 1 + 1))
start-by ds n count zero t s f m some awake =
    move ds n count _ _ 0 _ _ t t s s f f (omega arith) (omega arith)
    (passed-any count 1 _ _ (are-idle ds n s t f awake.due awake.goes 1 0 (omega (arith, done-later ds n t s f m some))))
start-by ds n count (suc now) t s f m some awake =
    move ds n count 0 _ (suc now) (suc now) _ t t s s f f (omega arith) (omega arith) (passed-none count (machine_between_ticks ds n s t f (suc now)))

pub running-starts : (ds : List ℕ) (n count last now : ℕ) (t : Option ℕ) (s : Machine) (f : IssueState) (v : LookaheadView)
    → GoesFrom ds n last now t s f v → IsRunning ds n count last now t s f t s v
running-starts ds n count last now t s f v is = record {
  tick = now - 1;
  issue = f;
  passed = start-by ds n count now t s f is.lookahead.outlook.machine is.lookahead.outlook.indicator is.awake;
  behind = omega arith;
  soon = omega (arith, is.soon);
  awake = is.awake;
  going = lookahead-runs ds n now t s f v is.lookahead;
}

-- the ticks are passed, and the rows of the entries that complete in them are queued
pub record IsNoting (ds : List ℕ) (n count last now : ℕ) (t : Option ℕ) (s : Machine) (f : IssueState) (k : Option ℕ) (u : Machine) (v : LookaheadView)
    (old new : Queue) : Type 0 where
  pub run : IsRunning ds n count last now t s f k u v
  pub noted : new ≡ queue_with (rows_in_ticks (run.tick + 1 - now) (machine_between_ticks ds n s t f now)) old

pub noting-starts : (ds : List ℕ) (n count last now : ℕ) (t : Option ℕ) (s : Machine) (f : IssueState) (v : LookaheadView) (q : Queue)
    → GoesFrom ds n last now t s f v → IsNoting ds n count last now t s f t s v q q
unfolding running-starts
noting-starts ds n count last now t s f v q is = record {
  run = running-starts ds n count last now t s f v is;
  noted = queue-none q ∙ ap {A = List Row} (λ xs. queue_with xs q)
      (sym (rows-none (now - 1 + 1 - now) _ _ (start-by ds n 0 now t s f is.lookahead.outlook.machine is.lookahead.outlook.indicator is.awake)));
}

-- ---- continuation after a completion

going-done : (ds : List ℕ) (n due : ℕ) (s : Machine) (f : IssueState) (v : LookaheadView) → f.c ≡ due → IsOutlook ds n (due - 1) due None s f v
    → IsGoing ds n due due None s f v
going-done ds n due s f v at is =
    let ahead_ = ahead-rests (due - 1) due (omega arith) ds n None s f v.issue v.levels is.ahead in
    let start : f.c ≤ (due + 1) + 9 = omega (arith, is.start) in
    let early : v.issue.c ≤ (due + 1) + 9 + most_ticks_of_entry * count v = omega (arith, is.early) in
    assumption (All-weaker (λ (x : Level). x.p < due) (λ x. x.p < due + 1) (λ x h. omega (arith, h)) v.levels.ring is.prepared, done-after ds n due due None s f v.issue v.levels.ring v.levels.plans is.machine tt ahead_.levels (omega (arith, at, done-later ds n None s f is.machine tt)))

mispredicted-none : (b : Bool) (h : ℕ) → (if b then Some h else None) ≡ None → b ≡ false
mispredicted-none true h e = absurd (cc e)
mispredicted-none false h e = refl

module _ (ds : List ℕ) (n count last now due : ℕ) (t k : Option ℕ) (s u x : Machine) (f : IssueState) (v w new : LookaheadView) (done : Completed)
    (is : IsRunning ds n count last now t s f k u v) (at : IsDueAt ds n is.tick last k u is.issue w due)
    (state : x ≡ state_after_execution k u) (told : IsCompleted ds n k u is.issue done) where
  pub running-on : IsOutlook ds n (due - 1) due None (prediction k u) (issue_after_entry ds n is.issue (entry k u)) new
      → may_come_from_outside count x ≡ false → done.mispredicted ≡ None → interrupt x ≡ None → rests x ≡ false
      → (is_mispredicted (plan u k) u ≡ false → prediction k u ≡ state_after_execution k u)
      → IsRunning ds n count last now t s f None x new
  running-on out nothing mispredicted none awake predicted =
      let right : is_mispredicted (plan u k) u ≡ false = mispredicted-none (is_mispredicted (plan u k) u) (plan u k).following (sym told.mispredicted ∙ mispredicted) in
      let issue = issue_after_entry ds n is.issue (entry k u) in
      let c : issue.c ≡ due = after-c ds n is.issue (entry k u) ∙ at.row_is in
      let same : prediction k u ≡ x = predicted right ∙ sym state in
      let outlook = subst (λ (m : Machine). IsOutlook ds n (due - 1) due None m issue new) same out in
      let one = one-passed ds n due k u is.issue at.row_is right (ap {A = Machine} interrupt (sym state) ∙ none) (ap {A = Machine} rests (sym state) ∙ awake) count
      (ap {A = Machine} (may_come_from_outside count) (sym state) ∙ nothing) in
      let idle = running-idle ds n count last now due t k s u f v is at.later (omega (arith, at.row_is)) in
      record {
        tick = due;
        issue = issue;
        passed =
            subst (λ (m : Machine). ArePassed count (due + 1 - now) (machine_between_ticks ds n s t f now) (machine_between_ticks ds n m None issue (due + 1))) (sym state)
            (move ds n count _ _ now _ _ t None s (state_after_execution k u) f issue (omega (arith, at.later, is.behind)) refl
            (passed-join count (due - now) 1 _ _ _ idle one));
        behind = omega (arith, at.later, is.behind);
        soon = at.soon;
        awake = record { due = none; goes = awake };
        going = going-done ds n due x issue new c outlook;
      }

pub row-between : (n : ℕ) (ds : List ℕ) (s u : Machine) (t : Option ℕ) (f : IssueState) (tick number : ℕ) (done : Completed)
    → number ≡ s.done + 1 → done.address ≡ (plan s t).place.address → done.p ≡ (row_of_entry ds n f (entry t s)).p → done.r ≡ (row_of_entry ds n f (entry t s)).r
    → told number done.address done.p done.r tick ≡ row_done (machine_between_ticks ds n s t f tick)
unfolding state_ahead oldest_row
row-between n ds s u t f tick number done counted address p r =
    same-row number done.address done.p done.r tick _ _ _ _ counted address p r

module _ (ds : List ℕ) (n count last now due : ℕ) (t k : Option ℕ) (s u x : Machine) (f : IssueState) (v w new : LookaheadView) (done : Completed)
    (is : IsRunning ds n count last now t s f k u v) (at : IsDueAt ds n is.tick last k u is.issue w due)
    (told_of : IsCompleted ds n k u is.issue done) (counted : x.done ≡ u.done + 1) where
  abbrev start : Overlap
  start = machine_between_ticks ds n s t f now

  abbrev row : Row
  row = told x.done done.address done.p done.r due

  rows-on : rows_in_ticks (is.tick + 1 - now) start ++ row ∷ [] ≡ rows_in_ticks (due + 1 - now) start
  rows-on =
      let here = machine_between_ticks ds n u k is.issue due in
      let idle = running-idle ds n count last now due t k s u f v is at.later (omega (arith, at.row_is)) in
      let same : due + 1 - now ≡ (due - now) + 1 = omega (arith, at.later, is.behind) in
      let last_row : row ∷ [] ≡ rows_in_ticks 1 here =
      ap {A = Row} (λ y. y ∷ []) (row-between n ds u x k is.issue due x.done done counted told_of.address told_of.p told_of.r)
      ∙ sym (row-one here (is-due ds n due k u is.issue at.row_is)) in
      let all : rows_in_ticks (due + 1 - now) start ≡ rows_in_ticks (is.tick + 1 - now) start ++ row ∷ [] =
      ap {A = ℕ} (λ i. rows_in_ticks i start) same
      ∙ rows-join (due - now) 1 start
      ∙ ap {A = Overlap} (λ m. rows_in_ticks (due - now) start ++ rows_in_ticks 1 m) (sym idle.after)
      ∙ ap {A = List Row} (λ xs. rows_in_ticks (due - now) start ++ xs) (sym last_row)
      ∙ ap {A = List Row} (λ xs. xs ++ row ∷ []) (sym (rows-idle ds n count last now due t k s u f v is at.later (omega (arith, at.row_is)))) in
      sym all

  -- the row of the completed entry is queued
  pub noted-on : (old mid : Queue) → mid ≡ queue_with (rows_in_ticks (is.tick + 1 - now) start) old
      → queue_with (row ∷ []) mid ≡ queue_with (rows_in_ticks (due + 1 - now) start) old
  noted-on old mid noted =
      ap {A = Queue} (queue_with (row ∷ [])) noted
      ∙ queue-both (rows_in_ticks (is.tick + 1 - now) start) (row ∷ []) old
      ∙ ap {A = List Row} (λ xs. queue_with xs old) rows-on

module _ (ds : List ℕ) (n count last now due : ℕ) (t k : Option ℕ) (s u x : Machine) (f : IssueState) (v w new : LookaheadView) (done : Completed) (old mid : Queue)
    (is : IsNoting ds n count last now t s f k u v old mid) (at : IsDueAt ds n is.run.tick last k u is.run.issue w due)
    (state : x ≡ state_after_execution k u) (told_of : IsCompleted ds n k u is.run.issue done) where
  pub noting-on : IsOutlook ds n (due - 1) due None (prediction k u) (issue_after_entry ds n is.run.issue (entry k u)) new
      → may_come_from_outside count x ≡ false → done.mispredicted ≡ None → interrupt x ≡ None → rests x ≡ false
      → (is_mispredicted (plan u k) u ≡ false → prediction k u ≡ state_after_execution k u) → x.done ≡ u.done + 1
      → (later : Queue) {row : Row} → later ≡ queue_with (row ∷ []) mid → row ≡ told x.done done.address done.p done.r due
      → IsNoting ds n count last now t s f None x new old later
  unfolding running-on
  noting-on out nothing mispredicted none awake predicted counted later {row} waits same = record {
    run = running-on ds n count last now due t k s u x f v w new done is.run at state told_of out nothing mispredicted none awake predicted;
    noted =
        waits
        ∙ ap {A = Row} (λ y. queue_with (y ∷ []) mid) same
        ∙ noted-on ds n count last now due t k s u x f v w new done is.run at told_of counted old mid is.noted;
  }

-- ---- the end

pub running-ends : (ds : List ℕ) (n count last now : ℕ) (t k : Option ℕ) (s u : Machine) (f : IssueState) (v w : LookaheadView)
    (is : IsRunning ds n count last now t s f k u v) → last < (row_of_entry ds n is.issue (entry k u)).c → IsLookahead ds n last (last + 1) k u is.issue w
    → HasPassed ds n count last now t s f k u w
running-ends ds n count last now t k s u f v w is late lookahead = record {
  issue = is.issue;
  passed = running-idle ds n count last now (last + 1) t k s u f v is (omega (arith, is.soon)) (omega (arith, late));
  awake = is.awake;
  lookahead = lookahead;
}

-- the last answers of the banks at the end of a segment
pub banks-between : (ds : List ℕ) (n now : ℕ) (t : Option ℕ) (s : Machine) (f : IssueState) (v : LookaheadView)
    → (made_before ds now (reads_of_entry ds n f (entry t s) ++ reads_before ds n now (ahead ds n (suc n) None (prediction t s) (issue_after_entry ds n f (entry t s)))) f.bus).banks.ticks
    ≡ (answers_before now v).ticks
    → banks_at_its_end (machine_between_ticks ds n s t f now) ≡ answers_before now v
unfolding state_ahead banks_at_its_end
banks-between ds n now t s f v h = same-answers _ _ h
