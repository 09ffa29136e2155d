-- Counts that never decrease and saturate at the greatest number of their type.
--
-- Proved: by their `ensures` clauses these calls do what definitions here say: `count_fault`
-- (lib.rt), `read` (mem.rt), `write` (mem.rt), `read` (standard.rt), and others.
-- Read by: definitions in Input, Event, Lines, Memory, and others.
-- Laws: none names a definition of this file itself.
-- Change: the meaning is fixed by docs/report.md, since the contracts of `st_top::stretch` and
-- `st_account::ledger` and `st_draw::draw` unfold to a definition here. The form is free, with the
-- proofs that unfold it.
use Rattle.std.specs.Prelude.{ℕ, ◌+◌, ◌-◌, ◌^◌, ◌≤◌, min, max}

-- the greatest value of a count
abbrev pub last_count : ℕ
last_count = 2 ^ 64 - 1

-- the value of a count after n more: it saturates at the greatest value and never decreases
abbrev pub count_after : ℕ → ℕ → ℕ
count_after before n = max before (min (before + n) last_count)

-- a count has increased, or is saturated
abbrev pub HasRisen : ℕ → ℕ → Type 0
HasRisen before after = count_after before 1 ≤ after
