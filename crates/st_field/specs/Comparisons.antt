-- The results of comparisons: the accumulator is unchanged, and the indicators show its order
-- relative to the operand.
--
-- Proved: by their `ensures` clauses these calls do what definitions here say: `compare`
-- (comparisons.rt), `compare_for_range` (comparisons.rt), `compare_if_equal` (comparisons.rt).
-- Read by: definitions in Bases.
-- Laws: none names a definition of this file itself.
-- Change: the meaning is fixed by docs/variable-fields.md, since the contracts of `st_top::stretch`
-- and `st_account::ledger` unfold to a definition here. The form is free, with the proofs that
-- unfold it.
use Rattle.std.specs.Prelude.{ℕ}
use Rattle.std.specs.declared.cmp.Ordering.{Ordering}
use Rattle.st_bits.specs.declared.storage.Ind.{Ind}
use Rattle.st_field.specs.declared.accumulator.Acc.{Acc}
use Rattle.st_field.specs.declared.comparisons.Compared.{Compared}
use Rattle.st_field.specs.declared.outcome.Done.{Done}
use Rattle.st_field.specs.Results.{done_with}

-- the result of a comparison, by its table of indicators
abbrev pub compared_by : (Ordering → ℕ → Ind) → Acc → Compared → Done
compared_by indicators_by a sides = done_with a (indicators_by sides.order sides.on)
