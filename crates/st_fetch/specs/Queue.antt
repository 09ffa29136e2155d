-- The items of a ring buffer, in order.
--
-- Proved: invariants and ghost fields of types name these definitions; no `ensures` clause does.
-- Read by: definitions in Entries of st_rows.
-- Laws: none names a definition of this file itself.
-- Change: no page fixes these definitions, since no contract of a program unfolds to them; they
-- change together with the clauses, definitions and laws that name them. docs/timetable.md
-- describes the subject.
use Rattle.std.specs.Prelude.{ℕ, ◌≡◌, ◌<◌, ◌≤◌, List, ◌++◌, take, drop, length}

-- the n slots from the slot k, with wraparound
abbrev pub window : {A : Type 0} → ℕ → ℕ → List A → List A
window k n slots = take n (drop k slots ++ take k slots)

-- a ring buffer of m slots with n items, the first in the slot k
pub record IsRing {A : Type 0} (m k n : ℕ) (slots : List A) : Type 0 where
  pub inside : k < m
  pub few : n ≤ m
  pub whole : length slots ≡ m
