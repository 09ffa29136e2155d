-- The effect of ticks on a machine, up to the next completion or snapshot.
--
-- Proved: by their `ensures` clauses these calls do what definitions here say: `run_many`
-- (ticking.rt), `run_until` (ticking.rt), `last_of` (ticking.rt).
-- Laws: none names a definition of this file itself.
-- Change: no page fixes these definitions, since no contract of a program unfolds to them; they
-- change together with the clauses, definitions and laws that name them. docs/timetable.md
-- describes the subject.
use Rattle.std.specs.Prelude.{ℕ, ◌≡◌, ◌+◌, ◌-◌, ◌<◌, ◌≤◌, ◌^◌, min, Option, None, Some, IfSome}
use Rattle.st_ahead.specs.Overlap.{Overlap, oldest_row}
use Rattle.st_ahead.specs.Calls.{machine_after_completion, row_done}
use Rattle.st_ahead.specs.declared.events.Row.{Row}
use Rattle.st_run.specs.Together.{Together}

-- the machine at the tick of the oldest entry's completion
abbrev pub at_completion : Overlap → Overlap
at_completion o = record o { now = (oldest_row o).c }

-- either the ticks up to that of a snapshot were made before any completion, or an entry completed
-- at the last tick and no snapshot is earlier
abbrev pub AreTicked : Option Row → Option ℕ → Overlap → Overlap → Type 0
AreTicked None None old new = ⊥
AreTicked None (Some x) old new = (x < (oldest_row old).c) × (new ≡ record old { now = x + 1 })
AreTicked (Some row) snap old new =
    IfSome snap (λ x. (oldest_row old).c ≤ x)
    × (new ≡ machine_after_completion (at_completion old))
    × (row ≡ row_done (at_completion old))

-- such ticks were made, and the signals and cards did not change
pub record AreMade (ticks : Overlap → Overlap → Type 0) (old new : Together) : Type 0 where
  pub ticked : ticks old.machine new.machine
  pub kept : new ≡ record old { machine = new.machine }

-- the last tick that may be made: that of the snapshot, or one that no run reaches
abbrev pub last_for : Option ℕ → ℕ
last_for None = 2 ^ 63 - 1
last_for (Some x) = min x (2 ^ 63 - 1)
