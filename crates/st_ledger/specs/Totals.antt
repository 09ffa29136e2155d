-- The totals of the charges of each stage.
--
-- Proved: by their `ensures` clauses these calls do what definitions here say: `write_sums`
-- (totals.rt), `sums_of` (totals.rt), `add` (totals.rt), `add_part` (totals.rt), and others.
-- Read by: definitions in TallyLines of st_tally, Text of st_account, Slots of st_tally, Tally of
-- st_tally, and others.
-- Laws: StageSumsAddUp (specs/Laws.antt of st_causes).
-- Change: the meaning is fixed by docs/ledger.md, since the contract of `st_account::ledger`
-- unfolds to a definition here. The form is free, with the proofs that unfold it.
use Rattle.std.specs.Prelude.{ℕ, ◌≤◌, List, [], ◌∷◌}
use Rattle.st_ledger.specs.declared.charges.Stage.{Stage}
use Rattle.st_ledger.specs.declared.charges.Stage.TheVariants.{Restart, Instruction, Address, Index, Preparing, Operand, Executing}
use Rattle.st_ledger.specs.declared.totals.StageSum.{StageSum}
use Rattle.st_ledger.specs.declared.totals.Totals.{Totals}
use Rattle.st_ledger.specs.Lines.{sum_line}

-- the total of a stage
abbrev pub sum_at : Stage → Totals → ℕ
sum_at Restart sums = sums.restart
sum_at Instruction sums = sums.instruction
sum_at Address sums = sums.address
sum_at Index sums = sums.index
sum_at Preparing sums = sums.preparing
sum_at Operand sums = sums.operand
sum_at Executing sums = sums.executing

-- no total is greater than t
pub record AreWithin (t : ℕ) (sums : Totals) : Type 0 where
  pub restart : sums.restart ≤ t
  pub instruction : sums.instruction ≤ t
  pub address : sums.address ≤ t
  pub index : sums.index ≤ t
  pub preparing : sums.preparing ≤ t
  pub operand : sums.operand ≤ t
  pub executing : sums.executing ≤ t

-- the stages in their order
abbrev pub stages : List Stage
stages = Restart ∷ Instruction ∷ Address ∷ Index ∷ Preparing ∷ Operand ∷ Executing ∷ []

-- the totals of the stages in a list, given the ticks of each stage
abbrev pub sums_by : (Stage → ℕ) → List Stage → List StageSum
sums_by f [] = []
sums_by f (s ∷ more) = record { stage = s; ticks = f s } ∷ sums_by f more

-- the lines of totals
unfoldable pub sum_lines : List StageSum → List (List ℕ)
sum_lines [] = []
sum_lines (x ∷ xs) = sum_line x.stage x.ticks ∷ sum_lines xs
