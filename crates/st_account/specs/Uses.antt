-- The words that two entries use.
--
-- Proved: invariants and ghost fields of types name these definitions; no `ensures` clause does.
-- Read by: definitions in Lending.
-- Laws: none names a definition of this file itself.
-- Change: no page fixes these definitions, since no contract of a program unfolds to them; they
-- change together with the clauses, definitions and laws that name them. docs/ledger.md describes
-- the subject.
use Rattle.std.specs.Prelude.{List}
use Rattle.st_rows.specs.declared.uses.Use.{Use}

-- the words of the last completed entry, and those of the entry before it
pub record UsesOfTwo : Type 0 where
  pub items : List Use
  pub before : List Use
