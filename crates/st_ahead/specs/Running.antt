-- The look-ahead of a machine that makes ticks, each with the decision to continue.
--
-- Proved: by their `ensures` clauses these calls do what definitions here say: `run_to`
-- (lookahead_run.rt).
-- Laws: none names a definition of this file itself.
-- Change: no page fixes these definitions, since no contract of a program unfolds to them; they
-- change together with the clauses, definitions and laws that name them. docs/inside.md describes
-- the subject.
use Rattle.std.specs.Prelude.{ℕ, ◌≡◌, ◌+◌, ◌-◌, ◌≤◌, Bool, true, false, All, List, Option, None, Some, is_none, if◌then◌else◌}
use Rattle.st_bits.specs.Indicators.{IsIndicatorIfAny}
use Rattle.st_bits.specs.declared.limits.TheConstants.{MOST_DELAY}
use Rattle.st_state.specs.Machine.{Machine, IsMachine}
use Rattle.st_exec.specs.Step.{interrupt, rests}
use Rattle.st_rows.specs.declared.issue.IssueState.{IssueState}
use Rattle.st_ring.specs.declared.levels.Completed.{Completed}
use Rattle.st_ahead.specs.Overlap.{machine_between_ticks, banks_at_its_end}
use Rattle.st_ahead.specs.Calls.{machine_after_tick, answer}
use Rattle.st_ahead.specs.RunTo.{may_come_from_outside, is_quiet, ArePassed}
use Rattle.st_ahead.specs.Forecast.{LookaheadView, IsLookahead}
use Rattle.st_ahead.specs.Ticked.{IsDoneAt}
use Rattle.st_ahead.specs.Inside.{answers_before}
use Rattle.st_ahead.specs.declared.lookahead_run.Stop.{Stop}
use Rattle.st_ahead.specs.declared.events.Settled.TheVariants.{Goes}

-- no interrupt is due, and the machine is not at rest
pub record IsAwake (t : Option ℕ) (s : Machine) : Type 0 where
  pub due : (if is_none t then interrupt s else None) ≡ None
  pub goes : rests s ≡ false

-- the machine continues from the tick `now`, which is not after `last`
pub record GoesFrom (ds : List ℕ) (n last now : ℕ) (t : Option ℕ) (s : Machine) (f : IssueState)
    (v : LookaheadView) : Type 0 where
  pub lookahead : IsLookahead ds n (now - 1) now t s f v
  pub soon : now ≤ last
  pub awake : IsAwake t s

module _ (ds : List ℕ) (n count last now : ℕ) (t : Option ℕ) (s : Machine) (f : IssueState)
    (k : Option ℕ) (u : Machine) (v : LookaheadView) where
  -- all ticks up to `last` are passed
  pub record HasPassed : Type 0 where
    pub issue : IssueState
    pub passed : ArePassed count (last + 1 - now) (machine_between_ticks ds n s t f now)
        (machine_between_ticks ds n u k issue (last + 1))
    pub awake : IsAwake k u
    pub lookahead : IsLookahead ds n last (last + 1) k u issue v

  -- the ticks before the tick `tick` are passed, and at this one an entry completes after which an
  -- event is possible; `quiet` says whether no order is due and the decision is to continue
  pub record HasStopped (tick : ℕ) (done : Completed) (quiet : Bool) : Type 0 where
    pub table : Option ℕ
    pub state : Machine
    pub issue : IssueState
    pub ahead : LookaheadView
    pub passed : ArePassed count (tick - now) (machine_between_ticks ds n s t f now)
        (machine_between_ticks ds n state table issue tick)
    pub soon : tick ≤ last
    pub none_taken : k ≡ None
    pub machine : IsMachine state
    pub indicator : IsIndicatorIfAny table
    pub done_at : IsDoneAt ds n tick table state issue ahead u v done
    pub banks : banks_at_its_end (machine_between_ticks ds n state table issue tick)
        ≡ answers_before tick v
    pub near : All (λ b. b ≤ tick + MOST_DELAY) (answers_before tick v).ticks
    pub quiet_is : quiet
        ≡ is_quiet (machine_after_tick (machine_between_ticks ds n state table issue tick))
    pub stops : let m = machine_after_tick (machine_between_ticks ds n state table issue tick) in
        answer m ≡ Goes → may_come_from_outside count m.state ≡ true

  -- a run to `last`, or to a completion after which an event is possible
  abbrev pub HasRunTo : Option Stop → Type 0
  HasRunTo None = HasPassed
  HasRunTo (Some stop) = HasStopped stop.tick stop.done stop.quiet
