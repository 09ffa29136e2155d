-- A machine after several ticks in one call, from its fields before the call.
use Rattle.st_ahead.proofs.Common.{◌≡◌, ℕ, ◌+◌, ◌<◌, ◌≤◌, List, Option, None, Some, sym, subst, ◌∙◌, ap, arith, Machine, state_after_execution, prediction, issue_after_entry, IssueState, entry, oldest_issue, Completed, Overlap, state_ahead, with_counter, machine_between_ticks, machine_after_completion, machine_after_tick, answer, may_come_from_outside, ArePassed, StopsAt, GoesFrom, HasPassed, HasStopped, LookaheadView, IsLookahead, overlap_of, IsInside, after-c, option_map, HasRunTo, Ready, plan, is_mispredicted, is_quiet, refl, Queue, queue_with, rows_in_ticks, ticks_passed, levels_are_the_entries_ahead, steps_are_predictions, entries_count_as_one}
use Rattle.std.specs.Prelude.{◌-◌, ◌^◌, Bool}
use Rattle.st_ahead.specs.declared.phase.Phase.{Phase as PhaseField}
use Rattle.st_ahead.specs.declared.lookahead_run.Stop.{Stop}
use Rattle.st_ahead.specs.Overlap.{Completed as CompletedWith}
use Rattle.st_ahead.proofs.Runs.{is-due, ticked-done, row-between}
use Rattle.st_ahead.proofs.Standing.{ready-lookahead, same-fields, told, inside-completed, inside-between, IsReadyBy, ready, prediction-seen}
use Rattle.st_ahead.specs.declared.phase.Phase.TheVariants as fields

-- a machine with no decision owed can continue
start-inside : (n : ℕ) (ds : List ℕ) (s : Machine) (t : Option ℕ) (now last : ℕ) (v : LookaheadView)
    → IsInside (overlap_of n ds s t None now fields.Ready v) v → now ≤ last
    → GoesFrom ds n last now t s (oldest_issue v.levels.plans v.issue) v
start-inside n ds s t now last v is soon =
    record { lookahead = ready-lookahead n ds s t now v is; soon = soon; awake = record { due = is.in_phase.0.due; goes = is.in_phase.0.goes } }

-- all ticks up to `last` are passed
passed-machine : (n : ℕ) (ds : List ℕ) (s u : Machine) (t k : Option ℕ) (now last count : ℕ) (v w : LookaheadView)
    → IsInside (overlap_of n ds s t None now fields.Ready v) v → last < 2 ^ 63
    → (is : HasPassed ds n count last now t s (oldest_issue v.levels.plans v.issue) k u w) → oldest_issue w.levels.plans w.issue ≡ is.issue
    → IsInside (overlap_of n ds u k None (last + 1) fields.Ready w) w
    × ArePassed count (last + 1 - now) (overlap_of n ds s t None now fields.Ready v) (overlap_of n ds u k None (last + 1) fields.Ready w)
unfolding state_ahead
passed-machine n ds s u t k now last count v w is early by issue = (
  inside-between n ds u k last w is.some is.few early (subst (λ (g : IssueState). IsLookahead ds n last (last + 1) k u g w) (sym issue) by.lookahead)
      by.lookahead.outlook.indicator by.awake.due by.awake.goes,
  subst (λ (g : IssueState). ArePassed count (last + 1 - now) (overlap_of n ds s t None now fields.Ready v) (machine_between_ticks ds n u k g (last + 1))) (sym issue) by.passed,
)

-- an entry completes, after which an event is possible
stopped-hazard_free : (n : ℕ) (ds : List ℕ) (s u : Machine) (t : Option ℕ) (now last count tick number : ℕ) (v w : LookaheadView) (done : Completed) (quiet : Bool)
    → IsInside (overlap_of n ds s t None now fields.Ready v) v → last < 2 ^ 63
    → (is : HasStopped ds n count last now t s (oldest_issue v.levels.plans v.issue) None u w tick done quiet)
    → oldest_issue w.levels.plans w.issue ≡ issue_after_entry ds n is.issue (entry is.table is.state)
    → with_counter done.mispredicted u ≡ prediction is.table is.state → number ≡ is.state.done + 1
    → IsInside (overlap_of n ds u None done.mispredicted tick fields.Completed w) w
    × StopsAt count last (told number done.address done.p done.r tick) (overlap_of n ds s t None now fields.Ready v)
    (overlap_of n ds u None done.mispredicted tick fields.Completed w)
    × (quiet ≡ is_quiet (overlap_of n ds u None done.mispredicted tick fields.Completed w))
unfolding state_ahead machine_after_completion
stopped-hazard_free n ds s u t now last count tick number v w done quiet is early by issue predicted counted =
    let f = by.issue in
    let at = by.done_at in
    let state = machine_between_ticks ds n by.state by.table f tick in
    let new = overlap_of n ds u None done.mispredicted tick fields.Completed w in
    let after_ : new ≡ machine_after_tick state =
    same-fields ds n u (state_after_execution by.table by.state) None done.mispredicted _ _ (issue_after_entry ds n f (entry by.table by.state)) tick _ _ at.state at.told.mispredicted issue
    (ap CompletedWith (sym by.banks))
    ∙ sym (ticked-done ds n tick by.table by.state f at.due) in (
      inside-completed n ds u done.mispredicted tick w is.some is.few (omega (arith, early, by.soon))
          (subst (λ (x : Machine). IsLookahead ds n tick tick None x (oldest_issue w.levels.plans w.issue) w) (sym predicted)
          (subst (λ (g : IssueState). IsLookahead ds n tick tick None (prediction by.table by.state) g w) (sym issue) at.lookahead))
          (ap (λ (x : IssueState). x.c) issue ∙ after-c ds n f (entry by.table by.state) ∙ at.due) by.near,
      record {
        ticks = tick - now;
        before = state;
        passed = by.passed;
        done = is-due ds n tick by.table by.state f at.due;
        soon = by.soon;
        row_is = row-between n ds by.state u by.table f tick number done counted at.told.address at.told.p at.told.r;
        after = after_;
        stops = λ goes. ap {A = Overlap} (λ m. may_come_from_outside count m.state) after_ ∙ by.stops (ap {A = Overlap} answer (sym after_) ∙ goes);
      },
      by.quiet_is ∙ ap {A = Overlap} is_quiet (sym after_),
    )

stopped-machine : (n : ℕ) (ds : List ℕ) (s u : Machine) (t k : Option ℕ) (now last count tick number : ℕ) (v w : LookaheadView) (done : Completed) (quiet : Bool)
    → IsInside (overlap_of n ds s t None now fields.Ready v) v → last < 2 ^ 63
    → (is : HasStopped ds n count last now t s (oldest_issue v.levels.plans v.issue) k u w tick done quiet)
    → oldest_issue w.levels.plans w.issue ≡ issue_after_entry ds n is.issue (entry is.table is.state)
    → with_counter done.mispredicted u ≡ prediction is.table is.state → number ≡ is.state.done + 1
    → IsInside (overlap_of n ds u k done.mispredicted tick fields.Completed w) w
    × StopsAt count last (told number done.address done.p done.r tick) (overlap_of n ds s t None now fields.Ready v)
    (overlap_of n ds u k done.mispredicted tick fields.Completed w)
    × (quiet ≡ is_quiet (overlap_of n ds u k done.mispredicted tick fields.Completed w))
stopped-machine n ds s u t (Some i) now last count tick number v w done quiet is early by issue predicted counted = absurd (cc by.none_taken)
stopped-machine n ds s u t None now last count tick number v w done quiet is early by issue predicted counted =
    stopped-hazard_free n ds s u t now last count tick number v w done quiet is early by issue predicted counted

-- ---- a call, from the fields of a machine with no decision owed

module _ (n : ℕ) (ds : List ℕ) (s : Machine) (t b : Option ℕ) (now : ℕ) (p : PhaseField) (v : LookaheadView) (m : Overlap)
    (is : IsInside (overlap_of n ds s t b now p v) v) (view : overlap_of n ds s t b now p v ≡ m) (settled : m.phase ≡ Ready)
    (count last : ℕ) (soon : now ≤ last) where
  abbrev f : IssueState
  f = oldest_issue v.levels.plans v.issue

  at : IsReadyBy n ds s t b now p v m
  at = ready n ds s t b now p v m is view settled

  pub run-starts : GoesFrom ds n last now t s f v
  run-starts = start-inside n ds s t now last v at.inside soon

  module _ (k : Option ℕ) (u : Machine) (w : LookaheadView) (result : Option Stop) (early : last < 2 ^ 63) (old new : Queue)
      (ran : (f : IssueState) (now : ℕ) → GoesFrom ds n last now t s f v → HasRunTo ds n count last now t s f k u w result
      × (new ≡ queue_with (rows_in_ticks (ticks_passed last now (option_map (λ stop. stop.tick) result)) (machine_between_ticks ds n s t f now)) old)) where
    -- the rows are those of the machine before the call
    pub run-rows : (x : Option Stop) → result ≡ x → new ≡ queue_with (rows_in_ticks (ticks_passed last m.now (option_map (λ stop. stop.tick) x)) m) old
    run-rows x is =
        subst (λ (y : Option Stop). new ≡ queue_with (rows_in_ticks (ticks_passed last m.now (option_map (λ (stop : Stop). stop.tick) y)) m) old) is
        (subst {A = Overlap} (λ o. new ≡ queue_with (rows_in_ticks (ticks_passed last o.now (option_map (λ (stop : Stop). stop.tick) result)) o) old) at.view
        (ran f now run-starts).1)

    -- the call made all ticks up to `last`
    pub run-passed : result ≡ None → IsInside (overlap_of n ds u k b (last + 1) p w) w
        × ArePassed count (last + 1 - m.now) m (overlap_of n ds u k b (last + 1) p w)
    run-passed none =
        let by = subst (λ (x : Option Stop). HasRunTo ds n count last now t s f k u w x) none (ran f now run-starts).0 in
        let issue = levels_are_the_entries_ahead.oldest ds n last k u by.issue w.issue w.levels by.lookahead.outlook.ahead in
        let all = passed-machine n ds s u t k now last count v w at.inside early by issue in
        rw (at.right, at.field)
        (all.0, subst {A = Overlap} (λ o. ArePassed count (last + 1 - o.now) o (overlap_of n ds u k None (last + 1) fields.Ready w)) at.view all.1)

    -- the call made ticks up to a completion
    pub run-stopped : (stop : Stop) (number : ℕ) → result ≡ Some stop → number ≡ u.done
        → IsInside (overlap_of n ds u k stop.done.mispredicted stop.tick fields.Completed w) w
        × StopsAt count last (told number stop.done.address stop.done.p stop.done.r stop.tick) m (overlap_of n ds u k stop.done.mispredicted stop.tick fields.Completed w)
        × (stop.quiet ≡ is_quiet (overlap_of n ds u k stop.done.mispredicted stop.tick fields.Completed w))
    run-stopped stop number some numbered =
        let by = subst (λ (x : Option Stop). HasRunTo ds n count last now t s f k u w x) some (ran f now run-starts).0 in
        let of = by.done_at in
        let issue = levels_are_the_entries_ahead.oldest ds n stop.tick None (prediction by.table by.state) (issue_after_entry ds n by.issue (entry by.table by.state))
        w.issue w.levels of.lookahead.outlook.ahead in
        let predicted = prediction-seen by.table by.state u (is_mispredicted (plan by.state by.table) by.state) stop.done.mispredicted refl of.state of.told.mispredicted
        (steps_are_predictions.right by.table by.state by.machine by.indicator) (steps_are_predictions.mispredicted by.table by.state by.machine by.indicator) in
        let counted = numbered ∙ ap (λ (x : Machine). x.done) of.state ∙ entries_count_as_one (plan by.state by.table) by.state in
        let all = stopped-machine n ds s u t k now last count stop.tick number v w stop.done stop.quiet at.inside early by issue predicted counted in (
          all.0,
          subst {A = Overlap} (λ o. StopsAt count last (told number stop.done.address stop.done.p stop.done.r stop.tick) o
              (overlap_of n ds u k stop.done.mispredicted stop.tick fields.Completed w)) at.view all.1,
          all.2,
        )
