-- The invariant of a machine when a tick is settled.
use Rattle.st_ahead.proofs.Common.{All, is_none, is_some, if◌then◌else◌, ◌≡◌, ℕ, ◌+◌, ◌-◌, ◌<◌, ◌≤◌, ◌^◌, Bool, true, false, List, length, Option, None, Some, refl, sym, subst, ◌∙◌, ap, arith, ◌*◌, All-weaker, All-replicate, cond_both, Machine, IsMachine, pending, place_of, index_words, Place, interrupt, rests, LastAnswers, BANKS, opening_issue, IssueState, Level, oldest_issue, ahead, prepared_before, length-ahead, Phase, Ready, Ticked, Ended, Stopped, has_ended, Overlap, state_ahead, with_counter, levels_of, interrupt_due, MaySettle, MayServe, may_serve, may_settle, drop_count, machine_after_segment, run_ended, machine_after_pass, machine_after_settling, answer, settled_by, answer_by, LookaheadView, IsLookahead, IsOpened, count, is_open, IsGoing, overlap_of, phase_of, answers_before, IsBetween, IsInside, Goes, Interrupt, Mispredicted, Waits, most_ticks_of_entry, idle_banks}
use Rattle.std.specs.Prelude.{◌&&◌}
use Rattle.st_ahead.specs.Overlap.{Completed}
use Rattle.st_ahead.specs.declared.phase.Phase.{Phase as PhaseField}
use Rattle.st_ahead.proofs.Openings.{opening-lookahead}
use Rattle.st_ahead.proofs.Further.{next-sooner}
use Rattle.st_ahead.proofs.Standing.{opened-answers, opened-issue, overlap, same-field, same-fields, inside-ended, inside-between}
use Rattle.st_ahead.specs.declared.phase.Phase.TheVariants as fields

-- ---- tests

pub counted-index : (c : Option ℕ) (s : Machine) → index_words (with_counter c s) ≡ index_words s
unfolding index_words
counted-index None s = refl
counted-index (Some h) s = refl

-- ---- the end of a segment

-- the fields after the end of a segment
pub record IsEnded (m e : Overlap) : Type 0 where
  pub state : e.state ≡ m.state
  pub taken : e.taken ≡ m.taken
  pub phase : MaySettle m → e.phase ≡ Ended

-- the segment has ended, and the decision is owed
pub ended-settles : (p : Phase) → has_ended p ≡ true → may_settle p ≡ true → p ≡ Ended
ended-settles p over may = grind arith

-- where an order may take effect, the decision may be made
pub serve-settles : (p : Phase) → may_serve p ≡ true → may_settle p ≡ true
serve-settles p may = grind arith

pub ended-rest : (m e : Overlap) → e ≡ machine_after_segment m → IsEnded m e
unfolding machine_after_segment
ended-rest m e is = subst (IsEnded m) (sym is)
    (cond_both (has_ended m.phase) m _ (IsEnded m)
    (λ over. record { state = refl; taken = refl; phase = ended-settles m.phase over })
    (λ going. record { state = refl; taken = refl; phase = λ may. refl }))

due-none : (t p : Option ℕ) (i : ℕ) → (if is_none t then p else None) ≡ Some i → (t ≡ None) × (p ≡ Some i)
due-none None p i e = (refl, e)
due-none (Some j) p i e = absurd (cc e)

pub due-taken : (m : Overlap) (i : ℕ) → interrupt_due m ≡ Some i → (m.taken ≡ None) × (interrupt m.state ≡ Some i)
due-taken m i e = due-none m.taken (interrupt m.state) i e

-- ---- decisions

pub answer-interrupt : (m : Overlap) (s : Machine) (i d : ℕ) → s ≡ m.state → d ≡ drop_count m → interrupt_due m ≡ Some i
    → Interrupt i s.done s.ic d ≡ answer m
unfolding answer
answer-interrupt m s i d state count due = rw (due, state, count) refl

pub settled-interrupt : (m e x : Overlap) (i : ℕ) → e ≡ machine_after_segment m → interrupt_due m ≡ Some i → x ≡ machine_after_pass (record e { taken = Some i }) → x ≡ machine_after_settling m
unfolding machine_after_settling
settled-interrupt m e x i ends due is = rw due (is ∙ ap (λ (y : Overlap). machine_after_pass (record y { taken = Some i })) ends)

pub answer-waits : (m : Overlap) → interrupt_due m ≡ None → rests m.state ≡ true → Waits ≡ answer m
unfolding answer
answer-waits m due waits = rw (due, waits) refl

pub settled-waits : (m : Overlap) → interrupt_due m ≡ None → rests m.state ≡ true → machine_after_segment m ≡ machine_after_settling m
unfolding machine_after_settling
settled-waits m due waits = rw (due, waits) refl

answer-by-mispredicted : (p : Option ℕ) (m : Overlap) → is_some p ≡ true → Mispredicted (drop_count m) ≡ answer_by None false p m
answer-by-mispredicted (Some h) m e = refl
answer-by-mispredicted None m e = absurd (cc e)

settled-by-mispredicted : (p : Option ℕ) (m : Overlap) → is_some p ≡ true → machine_after_pass (machine_after_segment m) ≡ settled_by None false p m
settled-by-mispredicted (Some h) m e = refl
settled-by-mispredicted None m e = absurd (cc e)

pub answer-mispredicted : (m : Overlap) (d : ℕ) → d ≡ drop_count m → interrupt_due m ≡ None → rests m.state ≡ false → is_some m.mispredicted ≡ true → Mispredicted d ≡ answer m
unfolding answer
answer-mispredicted m d count due goes mispredicted = rw (due, goes, count) (answer-by-mispredicted m.mispredicted m mispredicted)

pub settled-mispredicted : (m x : Overlap) → interrupt_due m ≡ None → rests m.state ≡ false → is_some m.mispredicted ≡ true → x ≡ machine_after_pass (machine_after_segment m) → x ≡ machine_after_settling m
unfolding machine_after_settling
settled-mispredicted m x due goes mispredicted is = rw (due, goes) (is ∙ settled-by-mispredicted m.mispredicted m mispredicted)

pub answer-goes : (m : Overlap) → interrupt_due m ≡ None → rests m.state ≡ false → m.mispredicted ≡ None → Goes ≡ answer m
unfolding answer
answer-goes m due goes right = rw (due, goes, right) refl

pub settled-goes : (m x : Overlap) → interrupt_due m ≡ None → rests m.state ≡ false → m.mispredicted ≡ None → x ≡ machine_after_pass m → x ≡ machine_after_settling m
unfolding machine_after_settling
settled-goes m x due goes right is = rw (due, goes, right) is

-- ---- the flushed levels

pub levels-counted : (n : ℕ) (ds : List ℕ) (s : Machine) (t b : Option ℕ) (now : ℕ) (p : Phase) (v : LookaheadView)
    → prepared_before now (ahead ds n n t (with_counter b s) (oldest_issue v.levels.plans v.issue)) ≡ ahead ds n (count v) t (with_counter b s) (oldest_issue v.levels.plans v.issue)
    → has_ended p ≡ false → length (levels_of (overlap ds n s t b (oldest_issue v.levels.plans v.issue) now p)) ≡ count v
unfolding levels_of state_ahead
levels-counted n ds s t b now p v levels going =
    rw going (ap length levels ∙ length-ahead ds n (count v) t (with_counter b s) (oldest_issue v.levels.plans v.issue))

pub end-first : (n : ℕ) (ds : List ℕ) (s : Machine) (b : Option ℕ) (now : ℕ) (v w : LookaheadView)
    → IsInside (overlap_of n ds s None b now fields.Completed v) v → IsMachine s → count v ≤ n
    → prepared_before now (ahead ds n n None (with_counter b s) (oldest_issue v.levels.plans v.issue)) ≡ ahead ds n (count v) None (with_counter b s) (oldest_issue v.levels.plans v.issue)
    → IsOpened None s (opening_issue (answers_before now v) (now + 1 + count v)) w
    → All (λ x. x ≤ now + 1 + count v + 255) (answers_before now v).ticks
    → IsInside (overlap_of n ds s None b now fields.Ended w) w
    × (count v ≡ drop_count (overlap_of n ds s None b now fields.Completed v))
    × (overlap_of n ds s None b now fields.Ended w ≡ machine_after_segment (overlap_of n ds s None b now fields.Completed v))
unfolding drop_count machine_after_segment
end-first n ds s b now v w is m most levels opened early =
    let counted = levels-counted n ds s None b now (Completed (answers_before now v)) v levels refl in
    let banks : answers_before now w ≡ answers_before now v = opened-answers now None s (answers_before now v) (now + 1 + count v) w opened in
    let start : w.issue.c ≡ now + 1 + count v = ap (λ (f : IssueState). f.c) opened.issue in
    let few : n ≤ 8 = is.few in
    let issue = opened-issue None s (opening_issue (answers_before now v) (now + 1 + count v)) w opened in
    let between : IsBetween now None s w = record {
      machine = m;
      opened =
          subst (λ (x : LastAnswers). IsOpened None s (opening_issue x w.issue.c) w) (sym banks)
          (subst (λ (x : ℕ). IsOpened None s (opening_issue (answers_before now v) x) w) (sym start) opened);
      banks = subst (λ (x : LastAnswers). All (λ y. y ≤ w.issue.c + 255) x.ticks) (sym banks)
          (subst (λ (x : ℕ). All (λ y. y ≤ x + 255) (answers_before now v).ticks) (sym start) early);
      later = omega (arith, start);
      soon = omega (arith, start, most, few);
    } in (
      inside-ended n ds s b now w is.some few is.in_time between,
      sym counted,
      same-fields ds n s s None b b _ _ now Ended Ended refl refl (issue ∙ ap (λ k. opening_issue (answers_before now v) (now + 1 + k)) (sym counted)) refl,
    )

pub completed-lookahead : (n : ℕ) (ds : List ℕ) (s : Machine) (b : Option ℕ) (now : ℕ) (v : LookaheadView)
    → IsInside (overlap_of n ds s None b now fields.Completed v) v → IsLookahead ds n now now None (with_counter b s) (oldest_issue v.levels.plans v.issue) v
unfolding state_ahead
completed-lookahead n ds s b now v is = is.lookahead

pub ticked-lookahead : (n : ℕ) (ds : List ℕ) (s : Machine) (t b : Option ℕ) (now : ℕ) (v : LookaheadView)
    → IsInside (overlap_of n ds s t b now fields.Ticked v) v → IsLookahead ds n now now t (with_counter b s) (oldest_issue v.levels.plans v.issue) v
unfolding state_ahead
ticked-lookahead n ds s t b now v is = is.lookahead

-- the segment has already ended
pub end-again : (m : Overlap) → has_ended m.phase ≡ true → (0 ≡ drop_count m) × (m ≡ machine_after_segment m)
unfolding drop_count machine_after_segment
end-again m over = rw over (refl, refl)

-- no entry completed at the tick
pub given-up : (n : ℕ) (ds : List ℕ) (s : Machine) (t b : Option ℕ) (now : ℕ) (v w : LookaheadView)
    → IsInside (overlap_of n ds s t b now fields.Ticked v) v → IsMachine s → count v ≤ n
    → prepared_before now (ahead ds n n t (with_counter b s) (oldest_issue v.levels.plans v.issue)) ≡ ahead ds n (count v) t (with_counter b s) (oldest_issue v.levels.plans v.issue)
    → IsOpened t s (opening_issue idle_banks (now + 1 + count v)) w
    → IsInside (overlap_of n ds s t b now fields.Stopped w) w
    × (count v ≡ drop_count (overlap_of n ds s t b now fields.Ticked v))
    × (overlap_of n ds s t b now fields.Stopped w ≡ run_ended (overlap_of n ds s t b now fields.Ticked v))
unfolding drop_count machine_after_segment
given-up n ds s t b now v w is m most levels opened =
    let counted = levels-counted n ds s t b now Ticked v levels refl in
    let banks : answers_before now w ≡ idle_banks = opened-answers now t s idle_banks (now + 1 + count v) w opened in
    let start : w.issue.c ≡ now + 1 + count v = ap (λ (f : IssueState). f.c) opened.issue in
    let few : n ≤ 8 = is.few in
    let issue = opened-issue t s (opening_issue idle_banks (now + 1 + count v)) w opened in
    let between : IsBetween now t s w = record {
      machine = m;
      opened =
          subst (λ (x : LastAnswers). IsOpened t s (opening_issue x w.issue.c) w) (sym banks)
          (subst (λ (x : ℕ). IsOpened t s (opening_issue idle_banks x) w) (sym start) opened);
      banks = subst (λ (x : LastAnswers). All (λ y. y ≤ w.issue.c + 255) x.ticks) (sym banks)
          (All-replicate (λ (y : ℕ). y ≤ w.issue.c + 255) BANKS 0 (omega arith));
      later = omega (arith, start);
      soon = omega (arith, start, most, few);
    } in (
      record { some = is.some; few = few; lookahead = between; indicator = is.indicator; in_time = is.in_time; in_phase = tt },
      sym counted,
      same-fields ds n s s t b b _ _ now Stopped Stopped refl refl (issue ∙ ap (λ k. opening_issue idle_banks (now + 1 + k)) (sym counted)) refl,
    )

-- ---- phases

-- the field of a machine whose last tick completed an entry, if the segment has not ended
completed-field : (x : LastAnswers) (p : PhaseField) → may_serve (phase_of x p) ≡ true → has_ended (phase_of x p) ≡ false → p ≡ fields.Completed
completed-field x p may going = grind arith

-- a machine in a phase that its field gives
pub in-field : (n : ℕ) (ds : List ℕ) (s : Machine) (t b : Option ℕ) (now : ℕ) (p q : PhaseField) (v : LookaheadView) (m : Overlap)
    → IsInside (overlap_of n ds s t b now p v) v → overlap_of n ds s t b now p v ≡ m → p ≡ q
    → IsInside (overlap_of n ds s t b now q v) v × (overlap_of n ds s t b now q v ≡ m)
in-field n ds s t b now p q v m is view field =
    subst (λ (q : PhaseField). IsInside (overlap_of n ds s t b now q v) v × (overlap_of n ds s t b now q v ≡ m)) field (is, view)

-- a machine at whose last tick an entry completed, by its fields
pub record IsCompletedBy (n : ℕ) (ds : List ℕ) (s : Machine) (t b : Option ℕ) (now : ℕ) (v : LookaheadView) (m : Overlap) : Type 0 where
  pub none : t ≡ None
  pub inside : IsInside (overlap_of n ds s None b now fields.Completed v) v
  pub view : overlap_of n ds s None b now fields.Completed v ≡ m

pub completed : (n : ℕ) (ds : List ℕ) (s : Machine) (t b : Option ℕ) (now : ℕ) (p : PhaseField) (v : LookaheadView) (m : Overlap)
    → IsInside (overlap_of n ds s t b now p v) v → overlap_of n ds s t b now p v ≡ m → MayServe m → has_ended m.phase ≡ false → IsCompletedBy n ds s t b now v m
completed n ds s t b now p v m is view may going =
    let field = completed-field (answers_before now v) p (subst MayServe (sym view) may) (subst (λ (x : Overlap). has_ended x.phase ≡ false) (sym view) going) in
    let at = in-field n ds s t b now p fields.Completed v m is view field in
    let none = at.0.in_phase.0 in
    record {
      none = none;
      inside = subst (λ (k : Option ℕ). IsInside (overlap_of n ds s k b now fields.Completed v) v) none at.0;
      view = sym (ap (λ (k : Option ℕ). overlap_of n ds s k b now fields.Completed v) none) ∙ at.1;
    }

-- ---- the end of a run

pub stopped-inside : (n : ℕ) (ds : List ℕ) (s : Machine) (t b : Option ℕ) (now : ℕ) (p : PhaseField) (v : LookaheadView)
    → IsInside (overlap_of n ds s t b now p v) v → phase_of (answers_before now v) p ≡ Ended → IsInside (overlap_of n ds s t b now fields.Stopped v) v
stopped-inside n ds s t b now p v is over =
    let at : IsInside (overlap_of n ds s t b now fields.Ended v) v = subst (λ (q : PhaseField). IsInside (overlap_of n ds s t b now q v) v) (same-field (answers_before now v) p fields.Ended over) is in
    record { some = at.some; few = at.few; lookahead = at.lookahead; indicator = at.indicator; in_time = at.in_time; in_phase = tt }

-- ---- the next tick

-- the next segment is open
pub pass-inside : (n : ℕ) (ds : List ℕ) (s : Machine) (t b : Option ℕ) (now : ℕ) (v : LookaheadView)
    → IsInside (overlap_of n ds s t b now fields.Ended v) v
    → interrupt_due (overlap_of n ds s t b now fields.Ended v) ≡ None → rests s ≡ false
    → IsInside (overlap_of n ds s t None (now + 1) fields.Ready v) v
    × (overlap_of n ds s t None (now + 1) fields.Ready v ≡ machine_after_pass (overlap_of n ds s t b now fields.Ended v))
pass-inside n ds s t b now v is due goes =
    let between : IsBetween now t s v = is.lookahead in
    let later : now + 1 ≤ v.issue.c = between.later in
    let soon : v.issue.c ≤ now + 1 + 9 = omega (arith, between.soon) in
    let lookahead = opening-lookahead ds n now (now + 1) v.issue.c t s (answers_before now v) v between.opened between.machine is.indicator between.banks later soon in (
      inside-between n ds s t now v is.some is.few is.in_time
          (subst (λ (f : IssueState). IsLookahead ds n now (now + 1) t s f v) (sym (opened-issue t s (opening_issue (answers_before now v) v.issue.c) v between.opened)) lookahead) is.indicator due goes,
      refl,
    )

rest-not : (a : Bool) (p : Option ℕ) (i : ℕ) → p ≡ Some i → (a && is_none p) ≡ false
rest-not true (Some j) i e = refl
rest-not false (Some j) i e = refl
rest-not a None i e = absurd (cc e)

pending-of : (b : Bool) (p : Option ℕ) (i : ℕ) → (if b then p else None) ≡ Some i → p ≡ Some i
pending-of true p i e = e
pending-of false p i e = absurd (cc e)

-- an interrupt is taken
pub interrupt-taken : (n : ℕ) (ds : List ℕ) (s : Machine) (b : Option ℕ) (now : ℕ) (v w : LookaheadView) (i : ℕ)
    → IsInside (overlap_of n ds s None b now fields.Ended v) v → i < 64 → interrupt s ≡ Some i
    → {place : Place} → place ≡ place_of s (Some i) → w ≡ record v { next = record v.next { place = place } }
    → IsInside (overlap_of n ds s (Some i) None (now + 1) fields.Ready w) w
    × (overlap_of n ds s (Some i) None (now + 1) fields.Ready w ≡ machine_after_pass (record (overlap_of n ds s None b now fields.Ended v) { taken = Some i }))
interrupt-taken n ds s b now v w i is few due {place} at there =
    let x = record v { next = record v.next { place = place_of s (Some i) } } in
    let P : LookaheadView → Type 0 = λ x. IsInside (overlap_of n ds s (Some i) None (now + 1) fields.Ready x) x
    × (overlap_of n ds s (Some i) None (now + 1) fields.Ready x ≡ machine_after_pass (record (overlap_of n ds s None b now fields.Ended v) { taken = Some i })) in
    let between : IsBetween now None s v = is.lookahead in
    let o = between.opened in
    let opened : IsOpened (Some i) s (opening_issue (answers_before now v) v.issue.c) x = assumption in
    let later : now + 1 ≤ v.issue.c = between.later in
    let soon : v.issue.c ≤ now + 1 + 9 = omega (arith, between.soon) in
    let lookahead = opening-lookahead ds n now (now + 1) v.issue.c (Some i) s (answers_before now v) x opened between.machine few between.banks later soon in
    subst P (sym (there ∙ ap (λ p. record v { next = record v.next { place = p } }) at)) (
      inside-between n ds s (Some i) now x is.some is.few is.in_time
          (subst (λ (f : IssueState). IsLookahead ds n now (now + 1) (Some i) s f x) (sym (opened-issue (Some i) s (opening_issue (answers_before now v) v.issue.c) x opened)) lookahead)
          few refl (rest-not s.waiting (pending s) i (pending-of s.enabled (pending s) i due)),
      refl,
    )

-- ---- the look-ahead advances

pub lookahead-goes : (ds : List ℕ) (n now : ℕ) (t : Option ℕ) (s : Machine) (f : IssueState) (v : LookaheadView) → IsLookahead ds n now now t s f v
    → IsGoing ds n now now t s f v
lookahead-goes ds n now t s f v lookahead =
    let is = lookahead.outlook in
    let start : f.c ≤ (now + 1) + 9 = omega (arith, is.start) in
    let early : v.issue.c ≤ (now + 1) + 9 + most_ticks_of_entry * count v = omega (arith, is.early) in
    assumption (All-weaker (λ (level : Level). level.p < now) (λ level. level.p < now + 1) (λ level h. omega arith) v.levels.ring is.prepared)

-- the look-ahead before a tick that is not made
pub lookahead-runs : (ds : List ℕ) (n now : ℕ) (t : Option ℕ) (s : Machine) (f : IssueState) (v : LookaheadView) → IsLookahead ds n (now - 1) now t s f v
    → IsGoing ds n (now - 1) (now - 1) t s f v
lookahead-runs ds n now t s f v lookahead =
    let is = lookahead.outlook in
    let start : f.c ≤ (now - 1 + 1) + 9 = omega (arith, is.start) in
    let early : v.issue.c ≤ (now - 1 + 1) + 9 + most_ticks_of_entry * count v = omega (arith, is.early) in
    let late : v.next.planned ≡ true → (now - 1) ≤ v.next.formed.p = λ planned. omega (arith, is.late planned) in
    assumption (All-weaker (λ (level : Level). level.p < now) (λ level. level.p < now - 1 + 1) (λ level h. omega (arith, h)) v.levels.ring is.prepared, next-sooner (is_open v) ds n now (now - 1) t s v (omega arith) is.next)

going-by : (n : ℕ) (ds : List ℕ) (s : Machine) (t : Option ℕ) (now : ℕ) (p : PhaseField) (v : LookaheadView)
    → IsInside (overlap_of n ds s t None now p v) v → may_settle (phase_of (answers_before now v) p) ≡ true → has_ended (phase_of (answers_before now v) p) ≡ false
    → IsLookahead ds n now now t s (oldest_issue v.levels.plans v.issue) v × (now < 2 ^ 63)
unfolding state_ahead
going-by n ds s t now fields.Ready v is may going = absurd (cc may)
going-by n ds s t now fields.Ticked v is may going = (is.lookahead, is.in_time)
going-by n ds s t now fields.Completed v is may going = (is.lookahead, is.in_time)
going-by n ds s t now fields.Ended v is may going = absurd (cc going)
going-by n ds s t now fields.Stopped v is may going = absurd (cc may)

-- a machine that goes on in its segment, by its fields
pub record IsGoingBy (n : ℕ) (ds : List ℕ) (s : Machine) (t b : Option ℕ) (now : ℕ) (p : PhaseField) (v : LookaheadView) (m : Overlap) : Type 0 where
  pub right : b ≡ None
  pub inside : IsInside (overlap_of n ds s t None now p v) v
  pub view : overlap_of n ds s t None now p v ≡ m
  pub lookahead : IsLookahead ds n now now t s (oldest_issue v.levels.plans v.issue) v
  pub early : now < 2 ^ 63

pub going : (n : ℕ) (ds : List ℕ) (s : Machine) (t b : Option ℕ) (now : ℕ) (p : PhaseField) (v : LookaheadView) (m : Overlap)
    → IsInside (overlap_of n ds s t b now p v) v → overlap_of n ds s t b now p v ≡ m → MaySettle m → has_ended m.phase ≡ false → m.mispredicted ≡ None
    → IsGoingBy n ds s t b now p v m
going n ds s t b now p v m is view may goes none =
    let right : b ≡ None = ap (λ (x : Overlap). x.mispredicted) view ∙ none in
    let inside = subst (λ (k : Option ℕ). IsInside (overlap_of n ds s t k now p v) v) right is in
    let here : overlap_of n ds s t None now p v ≡ m = sym (ap (λ (k : Option ℕ). overlap_of n ds s t k now p v) right) ∙ view in
    let both = going-by n ds s t now p v inside (subst MaySettle (sym here) may) (subst (λ (x : Overlap). has_ended x.phase ≡ false) (sym here) goes) in
    record { right = right; inside = inside; view = here; lookahead = both.0; early = both.1 }

pub go-inside : (n : ℕ) (ds : List ℕ) (s : Machine) (t : Option ℕ) (now : ℕ) (p : PhaseField) (v w : LookaheadView)
    → IsInside (overlap_of n ds s t None now p v) v → now < 2 ^ 63
    → interrupt_due (overlap_of n ds s t None now p v) ≡ None → rests s ≡ false
    → IsLookahead ds n now (now + 1) t s (oldest_issue v.levels.plans v.issue) w
    → oldest_issue w.levels.plans w.issue ≡ oldest_issue v.levels.plans v.issue
    → IsInside (overlap_of n ds s t None (now + 1) fields.Ready w) w
    × (overlap_of n ds s t None (now + 1) fields.Ready w ≡ machine_after_pass (overlap_of n ds s t None now p v))
go-inside n ds s t now p v w is early due goes lookahead issue = (
  inside-between n ds s t now w is.some is.few early (subst (λ (f : IssueState). IsLookahead ds n now (now + 1) t s f w) (sym issue) lookahead) is.indicator due goes,
  same-fields ds n s s t None None _ _ (now + 1) Ready Ready refl refl issue refl,
)
