-- The delay of a read.
--
-- Proved: by their `ensures` clauses these calls do what definitions here say: `first_zero`
-- (delays.rt), `answer` (delays.rt), `at` (delays.rt).
-- Read by: definitions in Bank, DelayAnswers, BusTimes of st_rows.
-- Laws: DelaysAreBounded (specs/Laws.antt), ReadsAreAcceptedAtTheirTick (specs/Laws.antt).
-- Change: the meaning is fixed by docs/timetable.md, since the contracts of `st_top::stretch` and
-- `st_account::ledger` unfold to a definition here. The form is free, with the proofs that unfold
-- it.
use Rattle.std.specs.Prelude.{ℕ, ◌≤◌, ◌+◌, ◌%◌, ◌==◌, List, length, slice_index, Option}
use Rattle.std.specs.List.{position}
use Rattle.st_bits.specs.declared.limits.TheConstants.{MOST_DELAY}

-- a valid delay of a read, in ticks
abbrev pub IsDelay : ℕ → Type 0
IsDelay d = (1 ≤ d) × (d ≤ MOST_DELAY)

-- the delay of a read that is accepted at the tick: the list is cyclic, with one entry per tick
abbrev pub delay : List ℕ → ℕ → ℕ
delay list tick = slice_index list (tick % length list)

-- the tick at which a read is answered that is accepted at the tick
abbrev pub answer_tick : List ℕ → ℕ → ℕ
answer_tick list tick = tick + delay list tick

-- the place of the first zero of a list, None if there is none
abbrev pub first_zero : List ℕ → Option ℕ
first_zero list = position (λ d. d == 0) list
