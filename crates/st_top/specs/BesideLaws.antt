-- Two successive external events do not change the states that steps back restore, if neither does.
--
-- Proved: invariants and ghost fields of types name these definitions; no `ensures` clause does.
-- Laws: none names a definition of this file itself.
-- Change: no page fixes these definitions, since no contract of a program unfolds to them; they
-- change together with the clauses, definitions and laws that name them. docs/running.md describes
-- the subject.
use Rattle.std.proofs.Common.{◌≡◌, ◌||◌, ◌∙◌, Bool}
use Rattle.st_top.specs.declared.beside.Noted.{Noted}
use Rattle.st_top.specs.Beside.{IsKept}

pub kept-both : (a b c : Bool) (m n o : Noted) → IsKept a m n → IsKept b n o → c ≡ (a || b) →
    IsKept c m o
kept-both a b c m n o first second is = (
  second.0 ∙ first.0,
  second.1 ∙ first.1,
  λ now.
      second.2 (first.2 now),
)
