-- The bytes of each line of the ledger, its line end included.
--
-- Proved: by their `ensures` clauses these calls do what definitions here say: `fill_charge`
-- (lines.rt), `fill_row` (lines.rt), `fill_sum` (lines.rt), `put_stage` (lines.rt), and others.
-- Read by: definitions in Totals, WaitLines of st_lines, EntryLines of st_lines, Runs of st_causes.
-- Laws: none names a definition of this file itself.
-- Change: the meaning is fixed by docs/ledger.md, since the contract of `st_account::ledger`
-- unfolds to a definition here. The form is free, with the proofs that unfold it.
use Rattle.std.specs.Prelude.{ℕ, List, ◌++◌, codes, decimal}
use Rattle.st_text.specs.Bytes.{lf}
use Rattle.st_text.specs.Numerals.{half_address}
use Rattle.st_rows.specs.declared.issue.EntryTicks.{EntryTicks}
use Rattle.st_ledger.specs.declared.charges.Charge.{Charge}
use Rattle.st_ledger.specs.declared.charges.Stage.{Stage}
use Rattle.st_ledger.specs.declared.charges.Stage.TheVariants.{Restart, Instruction, Address, Index, Preparing, Operand, Executing}

-- the name of a stage
abbrev pub stage_name : Stage → List ℕ
stage_name Restart = codes "RESTART"
stage_name Instruction = codes "INSTRUCTION"
stage_name Address = codes "ADDRESS"
stage_name Index = codes "INDEX"
stage_name Preparing = codes "PREPARING"
stage_name Operand = codes "OPERAND"
stage_name Executing = codes "EXECUTING"

-- the line of the n-th completed entry, with its address and its ticks
abbrev pub row_stage_line : ℕ → ℕ → EntryTicks → List ℕ
row_stage_line n address row =
    codes "ROW " ++ decimal n ++ codes " " ++ half_address address
    ++ codes " A " ++ decimal row.a ++ codes " P " ++ decimal row.p
    ++ codes " R " ++ decimal row.r ++ codes " C " ++ decimal row.c ++ lf

-- the line of ticks that are charged to a stage
abbrev pub charge_line : Charge → List ℕ
charge_line x =
    codes "CHARGE " ++ decimal x.from ++ codes " " ++ decimal x.to ++ codes " "
    ++ stage_name x.stage ++ lf

-- the line of the ticks of a stage in the whole run
abbrev pub sum_line : Stage → ℕ → List ℕ
sum_line stage ticks = codes "SUM " ++ stage_name stage ++ codes " " ++ decimal ticks ++ lf
