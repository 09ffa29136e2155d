-- Settled ticks in sequence, up to a completion after which an event is possible.
--
-- Proved: by their `ensures` clauses these calls do what definitions here say: `run_to`
-- (machine.rt), `is_quiet` (lookahead_run.rt), `run_many` (ticking.rt of st_run), `run_until`
-- (ticking.rt of st_run).
-- Read by: definitions in Running.
-- Laws: RunsAreReached (specs/Laws.antt of st_refine).
-- Change: no page fixes these definitions, since no contract of a program unfolds to them; they
-- change together with the clauses, definitions and laws that name them. docs/inside.md describes
-- the subject.
use Rattle.std.specs.Prelude.{ℕ, zero, suc, ◌≡◌, ◌+◌, ◌-◌, ◌<◌, ◌≤◌, ◌||◌, nat_le, Bool, true, false, not, is_some, Option, None, Some}
use Rattle.st_state.specs.Machine.{Machine}
use Rattle.st_state.specs.Orders.{is_due}
use Rattle.st_exec.specs.Step.{rests}
use Rattle.st_ahead.specs.Overlap.{Overlap, interrupt_due}
use Rattle.st_ahead.specs.Calls.{is_done, row_done, machine_after_tick, machine_after_settling, answer}
use Rattle.st_ahead.specs.declared.events.Row.{Row}
use Rattle.st_ahead.specs.declared.events.Settled.TheVariants.{Goes}

-- the machine after k ticks, each of them settled
unfoldable pub after_ticks : ℕ → Overlap → Overlap
after_ticks zero m = m
after_ticks (suc k) m = after_ticks k (machine_after_settling (machine_after_tick m))

-- whether an order of the reader or the printer is due
abbrev pub order_is_due : Machine → Bool
order_is_due s = is_due s.done s.reader || is_due s.done s.printer

-- whether an external event is possible after a completion: `count` instructions are completed, or
-- an order is due
abbrev pub may_come_from_outside : ℕ → Machine → Bool
may_come_from_outside count s = nat_le count s.done || order_is_due s

-- whether no order is due and the decision is to continue
abbrev pub is_quiet : Overlap → Bool
is_quiet m = not (order_is_due m.state || is_some m.mispredicted || is_some (interrupt_due m)
    || rests m.state)

-- the decision after the next tick is to continue, and no external event is possible after an entry
-- that completes at it
pub record IsPassed (count : ℕ) (m : Overlap) : Type 0 where
  pub goes : answer (machine_after_tick m) ≡ Goes
  pub nothing : is_done m ≡ true →
      may_come_from_outside count (machine_after_tick m).state ≡ false

-- each of the next k ticks is passed, and the machine is then `new`
pub record ArePassed (count k : ℕ) (old new : Overlap) : Type 0 where
  pub each : (i : ℕ) → i < k → IsPassed count (after_ticks i old)
  pub after : new ≡ after_ticks k old

-- some ticks are passed, and at the next one, not after `last`, an entry completes. After it an
-- external event is possible, or the decision, which is still owed, is not to continue
pub record StopsAt (count last : ℕ) (row : Row) (old new : Overlap) : Type 0 where
  pub ticks : ℕ
  pub before : Overlap
  pub passed : ArePassed count ticks old before
  pub done : is_done before ≡ true
  pub soon : before.now ≤ last
  pub row_is : row ≡ row_done before
  pub after : new ≡ machine_after_tick before
  pub stops : answer new ≡ Goes → may_come_from_outside count new.state ≡ true

-- with a row, ticks are made up to its completion; without one, all ticks up to `last` are passed
abbrev pub RunsTo : ℕ → ℕ → Option Row → Overlap → Overlap → Type 0
RunsTo count last (Some row) old new = StopsAt count last row old new
RunsTo count last None old new = ArePassed count (last + 1 - old.now) old new
