-- The phases of an entry: the meaning of each of its bars, with its first and its last tick.
--
-- Proved: by their `ensures` clauses these calls do what definitions here say: `first_tick`
-- (timetable.rt).
-- Read by: definitions in Moments, Timetable, Terminal of st_draw, Drawing of st_draw, and others.
-- Laws: OneExecutesAtATick (specs/Laws.antt).
-- Change: the meaning is fixed by docs/chart.md, since the contract of `st_draw::draw` unfolds to a
-- definition here. The form is free, with the proofs that unfold it.
use Rattle.std.specs.Prelude.{ℕ, ◌+◌, nat_le, nat_lt, min, max, ◌&&◌, Bool, true, false, if◌then◌else◌, List, [], ◌∷◌}
use Rattle.st_entries.specs.declared.timetable.DrawnEntry.{DrawnEntry}
use Rattle.st_entries.specs.declared.timetable.DrawnEntry.TheVariants.{Done, Dropped, Taken, Shown}

-- the tick at which a row's turn comes: its operands are available, and the row before it in the
-- report is complete; at most its own completion
abbrev pub turn_of : ℕ → ℕ → ℕ → ℕ
turn_of before ready complete = max ready (min before complete)

-- the first tick of an entry
abbrev pub first_tick : DrawnEntry → ℕ
first_tick (Done n a p r t c) = p
first_tick (Dropped a p end) = p
first_tick (Taken i t) = t
first_tick (Shown t) = t

-- the activity of an entry during some ticks
pub data Phase : Type 0 where
  WaitsForOperands : Phase
  WaitsForTurn : Phase
  Executes : Phase
  IsDropped : Phase

-- a phase of an entry: it lasts from a tick until another, at which it is over
pub record Span : Type 0 where
  pub phase : Phase
  pub from : ℕ
  pub to : ℕ

-- the phases of an entry in order; an interrupt and a snapshot are single ticks without phases
abbrev pub spans : DrawnEntry → List Span
spans (Done n a p r t c) =
    record { phase = WaitsForOperands; from = p; to = r }
    ∷ record { phase = WaitsForTurn; from = r; to = t }
    ∷ record { phase = Executes; from = t; to = c } ∷ []
spans (Dropped a p end) = record { phase = IsDropped; from = p; to = end } ∷ []
spans (Taken i t) = []
spans (Shown t) = []

-- the least width of a phase's bar: bars of executing and of dropped entries are always visible
abbrev pub least_width : Phase → ℕ
least_width WaitsForOperands = 0
least_width WaitsForTurn = 0
least_width Executes = 1
least_width IsDropped = 1

-- whether a phase is executing
abbrev pub is_executing : Phase → Bool
is_executing WaitsForOperands = false
is_executing WaitsForTurn = false
is_executing Executes = true
is_executing IsDropped = false

-- the number of phases in a list that are executing at a tick
abbrev pub executing_spans : ℕ → List Span → ℕ
executing_spans tick [] = 0
executing_spans tick (s ∷ ss) =
    (if is_executing s.phase && nat_le s.from tick && nat_lt tick s.to then 1 else 0)
    + executing_spans tick ss

-- the number of entries that execute at a tick
abbrev pub executing_at : ℕ → List DrawnEntry → ℕ
executing_at tick [] = 0
executing_at tick (e ∷ es) = executing_spans tick (spans e) + executing_at tick es
