-- The axis of a chart: the ticks that it shows, and the position of a tick on it.
--
-- Proved: by their `ensures` clauses these calls do what definitions here say: `at` (axis.rt),
-- `axis_of` (axis.rt), `highest` (axis.rt), `last_tick` (axis.rt), and others.
-- Read by: definitions in Drawing, Terminal.
-- Laws: none names a definition of this file itself.
-- Change: the meaning is fixed by docs/chart.md, since the contract of `st_draw::draw` unfolds to a
-- definition here. The form is free, with the proofs that unfold it.
use Rattle.std.specs.Prelude.{ℕ, suc, zero, ◌+◌, ◌-◌, ◌*◌, ◌/◌, ◌^◌, nat_le, min, max, if◌then◌else◌, List, [], ◌∷◌}
use Rattle.st_draw.specs.declared.axis.Axis.{Axis}
use Rattle.st_draw.specs.declared.axis.Room.{Room}
use Rattle.st_entries.specs.Phases.{first_tick}
use Rattle.st_entries.specs.declared.timetable.DrawnEntry.{DrawnEntry}
use Rattle.st_entries.specs.declared.timetable.DrawnEntry.TheVariants.{Done, Dropped, Taken, Shown}

-- the last tick of an entry
abbrev pub last_tick_of : DrawnEntry → ℕ
last_tick_of (Done n a p r t c) = c
last_tick_of (Dropped a p end) = end
last_tick_of (Taken i t) = t
last_tick_of (Shown t) = t

-- the first tick of any of the entries; the largest number if there is none
abbrev pub lowest_tick : List DrawnEntry → ℕ
lowest_tick [] = 2 ^ 64 - 1
lowest_tick (e ∷ es) = min (first_tick e) (lowest_tick es)

-- the last tick of any of the entries
abbrev pub highest_tick : List DrawnEntry → ℕ
highest_tick [] = 0
highest_tick (e ∷ es) = max (last_tick_of e) (highest_tick es)

-- the first of 1, 2, 5, 10, 20, .. times a unit that divides a span into at most five steps; the
-- unit is multiplied by ten at most `fuel` times
unfoldable pub step_from : ℕ → ℕ → ℕ → ℕ
step_from zero unit span = unit
step_from (suc fuel) unit span =
    if nat_le span (5 * unit) then unit
    else if nat_le span (10 * unit) then 2 * unit
    else if nat_le span (25 * unit) then 5 * unit
    else step_from fuel (10 * unit) span

-- the axis of entries: from the last mark before them to their last tick, and at least this number
-- of ticks long; its step is 1, 2 or 5 followed by zeros, and marks are at the multiples of the
-- step
unfoldable pub axis : List DrawnEntry → ℕ → Axis
axis entries least =
    let low = lowest_tick entries in
    let high = highest_tick entries in
    let step = step_from 20 1 (high - low) in
    let start = low / step * step in
    record { start = start; last = high; step = step; span = max least (high - start) }

-- the x of a tick: within the room, in proportion
unfoldable pub x_of_tick : Room → Axis → ℕ → ℕ
x_of_tick room axis tick = room.left + min room.width ((tick - axis.start) * room.width / axis.span)

-- the marked ticks from one on, up to the last and at most a given number of them
unfoldable pub marks_from : ℕ → ℕ → ℕ → ℕ → List ℕ
marks_from zero tick step last = []
marks_from (suc fuel) tick step last = if nat_le tick last then tick
    ∷ marks_from fuel (tick + step) step last else []

-- the marked ticks of an axis
abbrev pub marks : Axis → List ℕ
marks axis = marks_from 8 axis.start axis.step axis.last
