-- Statements whose addresses are lists of terms, regardless of how a program keeps them.
--
-- Proved: no `ensures` clause names a definition of this file.
-- Read by: definitions in Saying, WellFormed, Reading, Spots, and others.
-- Laws: none names a definition of this file itself.
-- Change: the meaning is fixed by docs/strap.md, since the contracts of `st_top::stretch` and
-- `st_account::ledger` unfold to a definition here. The form is free, with the proofs that unfold
-- it.
use Rattle.arrayvec.specs.ArrayVec.{ArrayVec}
use Rattle.st_expr.specs.declared.terms.Term.{Term}
use Rattle.st_strap.specs.declared.statement.Spot.{Spot as SpotOf}
use Rattle.st_strap.specs.declared.statement.Statement.{Statement as StatementOf}

-- an address with the index word that modifies it
abbrev pub Spot : Type 0
Spot = SpotOf (ArrayVec Term)

-- a statement whose addresses are lists of terms
abbrev pub Statement : Type 0
Statement = StatementOf (ArrayVec Term)
