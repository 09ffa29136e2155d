-- The ticks of sums.
--
-- Proved: no `ensures` clause names a definition of this file.
-- Laws: StageSumsAddUp (specs/Laws.antt).
-- Change: no page fixes these definitions, since no contract of a program unfolds to them; they
-- change together with the clauses, definitions and laws that name them. docs/ledger.md describes
-- the subject.
use Rattle.std.specs.Prelude.{ℕ, ◌+◌, List, [], ◌∷◌}
use Rattle.st_ledger.specs.declared.totals.StageSum.{StageSum}

unfoldable pub all_summed : List StageSum → ℕ
all_summed [] = 0
all_summed (x ∷ xs) = x.ticks + all_summed xs
