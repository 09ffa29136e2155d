-- The list of words that is lent while the words of an entry are noted.
--
-- Proved: by their `ensures` clauses these calls do what definitions here say: `turn` (uses.rt).
-- Laws: none names a definition of this file itself.
-- Change: no page fixes these definitions, since no contract of a program unfolds to them; they
-- change together with the clauses, definitions and laws that name them. docs/ledger.md describes
-- the subject.
use Rattle.std.specs.Borrow.{Lends, MutBor, Fml}
use Rattle.arrayvec.specs.ArrayVec.{ArrayVec}
use Rattle.st_account.specs.Uses.{UsesOfTwo}
use Rattle.st_account.specs.contracts.uses.UsesInTurn.{the_row}
use Rattle.st_rows.specs.contracts.uses.Uses.{the_row as uses_row}
use Rattle.st_rows.specs.declared.uses.Use.{Use}

-- once r is given back, the last entry has the words that are left behind r, and the entry before
-- it has those that were the last
abbrev pub LendsNext : MutBor UsesOfTwo → MutBor (ArrayVec Use) → Fml
LendsNext two r = Lends the_row uses_row two r (λ left. record { items = left.items; before = two.now.items })
