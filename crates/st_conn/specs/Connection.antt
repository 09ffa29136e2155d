-- The result of a connective: its bits in the destination, the counts of its bits, and the
-- indicators.
--
-- Proved: by their `ensures` clauses these calls do what definitions here say: `connective`
-- (connections.rt), `put_by` (connections.rt), `put_in_accumulator` (connections.rt).
-- Read by: definitions in Outcome of st_exec.
-- Laws: CountsAgree (specs/Laws.antt of st_laws).
-- Change: the meaning is fixed by docs/connectives.md, since the contracts of `st_top::stretch` and
-- `st_account::ledger` unfold to a definition here. The form is free, with the proofs that unfold
-- it.
use Rattle.std.specs.Prelude.{ℕ, ◌+◌, ◌*◌, ◌^◌, true, false, List, sum, Some}
use Rattle.st_bits.specs.Bits.{num}
use Rattle.st_bits.specs.declared.indicators.TheConstants.{PARTIAL_FIELD}
use Rattle.st_bits.specs.declared.operations.ConnKind.{ConnKind}
use Rattle.st_bits.specs.declared.operations.ConnKind.TheVariants.{C, Cm, Ct}
use Rattle.st_field.specs.declared.accumulator.Acc.{Acc}
use Rattle.st_field.specs.declared.outcome.Done.{Done}
use Rattle.st_field.specs.Indicators.{on_if, by_number}
use Rattle.st_field.specs.Results.{done_with}
use Rattle.st_conn.specs.Connective.{connective_bits, leading_zeros, accumulator_bits, is_one_lost}

-- the counts of leading zeros and of ones of a list of bits, in their places in word 7
abbrev pub counts_of : List ℕ → ℕ
counts_of bs = leading_zeros bs * 2 ^ 40 + sum bs * 2 ^ 13

-- the result of storing n bits, the number r: C in the accumulator, CM in the field, CT nowhere
abbrev pub put_by : ConnKind → Acc → ℕ → ℕ → ℕ → Done
put_by C a offset n r = done_with (record a { mag = num (accumulator_bits a.mag offset r n) })
    (by_number false false r (on_if (is_one_lost offset r) PARTIAL_FIELD))
put_by Cm a offset n r = record (done_with a (by_number true false r 0)) { field = Some r }
put_by Ct a offset n r = done_with a (by_number false false r 0)

-- the result of a connective of the accumulator and a field x of n bits, with its counts
abbrev pub connection : ConnKind → ℕ → Acc → ℕ → ℕ → ℕ → Done
connection kind table a offset x n = let bs : List ℕ = connective_bits table a.mag offset x n in
    record (put_by kind a offset n (num bs)) { counts = Some (counts_of bs) }
