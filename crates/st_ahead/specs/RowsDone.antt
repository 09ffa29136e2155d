-- The rows of completed entries, in a queue.
--
-- Proved: by their `ensures` clauses these calls do what definitions here say: `run_to`
-- (lookahead_run.rt), `run_to` (machine.rt), `put` (row_queue.rt), `run_many` (ticking.rt of
-- st_run).
-- Read by: definitions in Telling of st_run.
-- Laws: none names a definition of this file itself.
-- Change: no page fixes these definitions, since no contract of a program unfolds to them; they
-- change together with the clauses, definitions and laws that name them. docs/inside.md describes
-- the subject.
use Rattle.std.specs.Prelude.{ℕ, zero, suc, ◌+◌, ◌-◌, if◌then◌else◌, List, [], ◌∷◌, ◌++◌, length, take, Option, None, Some}
use Rattle.st_ahead.specs.Overlap.{Overlap}
use Rattle.st_ahead.specs.Calls.{is_done, row_done, machine_after_tick, machine_after_settling}
use Rattle.st_ahead.specs.declared.events.Row.{Row}

-- rows in order of completion, and how many more there is room for
pub record Queue : Type 0 where
  pub rows : List Row
  pub room : ℕ

-- the queue with these rows appended, if there is room
abbrev pub queue_with : List Row → Queue → Queue
queue_with rows q = record { rows = q.rows ++ take q.room rows; room = q.room - length rows }

-- the rows of the entries that complete in k ticks, each of them settled
unfoldable pub rows_in_ticks : ℕ → Overlap → List Row
rows_in_ticks zero m = []
rows_in_ticks (suc k) m =
    (if is_done m then row_done m ∷ [] else [])
    ++ rows_in_ticks k (machine_after_settling (machine_after_tick m))

-- the number of ticks passed from `now` on: those before the tick of the completion at which a call
-- stops, or those up to the tick `last`
abbrev pub ticks_passed : ℕ → ℕ → Option ℕ → ℕ
ticks_passed last now (Some tick) = tick - now
ticks_passed last now None = last + 1 - now
