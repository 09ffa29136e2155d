-- One level of the look-ahead.
--
-- Proved: by their `ensures` clauses these calls do what definitions here say: `begin` (level.rt),
-- `put_word` (level.rt), `fill` (ring.rt), `get` (ring.rt), and others.
-- Read by: definitions in LevelRing, Slots.
-- Laws: none names a definition of this file itself.
-- Change: no page fixes these definitions, since no contract of a program unfolds to them; they
-- change together with the clauses, definitions and laws that name them. docs/inside.md describes
-- the subject.
use Rattle.std.specs.Prelude.{ℕ, ◌<◌, max, List, slice_set, Option, Some, IfSome}
use Rattle.st_prep.specs.declared.entries.Prepared.{Prepared}
use Rattle.st_ring.specs.declared.level.Level.{Level}

-- the level of an entry that is prepared at the tick p, with the operand words that have arrived by
-- then
abbrev pub prepared_at : Prepared → ℕ → List (Option ℕ) → Level
prepared_at entry p have = record { prepared = entry; p = p; r = p; have = have }

-- the number of the index word that a level changes is below 16
abbrev pub HasNumber : Level → Type 0
HasNumber level = IfSome level.prepared.index (λ c. c.number < 16)

-- a level with an operand word that arrived at the tick
abbrev pub level_with_word : Level → ℕ → ℕ → ℕ → Level
level_with_word level slot word tick =
    record level { r = max level.r tick; have = slice_set level.have slot (Some word) }
