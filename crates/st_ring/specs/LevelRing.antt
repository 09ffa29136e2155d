-- The eight slots of a ring of levels.
--
-- Proved: invariants and ghost fields of types name these definitions; no `ensures` clause does.
-- Laws: none names a definition of this file itself.
-- Change: no page fixes these definitions, since no contract of a program unfolds to them; they
-- change together with the clauses, definitions and laws that name them. docs/inside.md describes
-- the subject.
use Rattle.std.specs.Prelude.{◌≡◌, ℕ, ◌<◌, ◌≤◌, List, length, All}
use Rattle.st_ring.specs.declared.level.Level.{Level}
use Rattle.st_ring.specs.OneLevel.{HasNumber}

-- a ring of n levels, at most `most` of them, from the slot `head` on
pub record IsLevelRing (most head n : ℕ) (slots : List Level) : Type 0 where
  pub inside : head < 8
  pub few : n ≤ most
  pub eight : most ≤ 8
  pub whole : length slots ≡ 8
  pub numbers : All HasNumber slots
