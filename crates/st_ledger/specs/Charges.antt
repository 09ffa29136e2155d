-- The charges of an entry. The tick t is the time from t - 1 to t; an entry is charged with the
-- ticks after the completion of the entry before it, up to and including its own completion.
--
-- Proved: by their `ensures` clauses these calls do what definitions here say: `add_row`
-- (totals.rt), `add_parts` (totals.rt), `add_part` (totals.rt), `add` (sums.rt), and others.
-- Read by: definitions in Ledger, Segments, Sums, Standing of st_account, and others.
-- Laws: ChargesFollow (specs/Laws.antt), ChargesAddUpToTheRun (specs/Laws.antt),
-- TicksBelongToTheirStage (specs/Laws.antt), WaitsAddUpToTheirStage (specs/WaitLaws.antt), and
-- others.
-- Change: the meaning is fixed by docs/ledger.md, since the contract of `st_account::ledger`
-- unfolds to a definition here. The form is free, with the proofs that unfold it.
use Rattle.std.specs.Prelude.{ℕ, ◌≡◌, ◌+◌, ◌-◌, ◌<◌, nat_eq, nat_lt, nat_le, Bool, if◌then◌else◌, List, [], ◌∷◌}
use Rattle.st_rows.specs.declared.issue.IssueState.{IssueState}
use Rattle.st_rows.specs.declared.issue.EntryTicks.{EntryTicks}
use Rattle.st_ledger.specs.declared.charges.Charge.{Charge}
use Rattle.st_ledger.specs.declared.charges.StagePart.{StagePart}
use Rattle.st_ledger.specs.declared.charges.Stage.{Stage}
use Rattle.st_ledger.specs.declared.charges.Stage.TheVariants.{Restart, Instruction, Address, Index, Preparing, Operand, Executing}

-- ---- the stage of a tick

-- the stage of a row at tick t, given the start of the row's segment
unfoldable pub stage_at : ℕ → EntryTicks → ℕ → Stage
stage_at start row t =
    if nat_le t start then Restart
    else if nat_lt t row.a then Instruction
    else if nat_le t row.a then Address
    else if nat_lt t row.p then Index
    else if nat_le t row.p then Preparing
    else if nat_le t row.r then Operand
    else Executing

-- ---- charges

-- the stages of a row in their order, each with its last tick
abbrev pub parts_of_row : ℕ → EntryTicks → List StagePart
parts_of_row start row =
    record { stage = Restart; end = start }
    ∷ record { stage = Instruction; end = row.a - 1 }
    ∷ record { stage = Address; end = row.a }
    ∷ record { stage = Index; end = row.p - 1 }
    ∷ record { stage = Preparing; end = row.p }
    ∷ record { stage = Operand; end = row.r }
    ∷ record { stage = Executing; end = row.c }
    ∷ []

-- the ticks after t, charged to the stages in order; a stage that ended by then has no charge
unfoldable pub charges_behind : ℕ → List StagePart → List Charge
charges_behind t [] = []
charges_behind t (x ∷ xs) =
    if nat_lt t x.end then record { from = t; to = x.end; stage = x.stage }
    ∷ charges_behind x.end xs
    else charges_behind t xs

-- the charge of a single stage after tick t; none if the stage ended by then
abbrev pub part_charges : ℕ → StagePart → List Charge
part_charges t x = if nat_lt t x.end then record { from = t; to = x.end; stage = x.stage } ∷ []
    else []

-- the charges of a row after an issue state, if the run's previous entry completed at tick t. For
-- the first entry of a segment, c of the issue state is the start of the segment. For any other
-- entry it is t, so that no tick is charged to the restart
abbrev pub charges : ℕ → IssueState → EntryTicks → List Charge
charges t f row = charges_behind t (parts_of_row f.c row)

-- ---- sums

-- the position of a stage in the order of stages
abbrev pub stage_number : Stage → ℕ
stage_number Restart = 0
stage_number Instruction = 1
stage_number Address = 2
stage_number Index = 3
stage_number Preparing = 4
stage_number Operand = 5
stage_number Executing = 6

-- whether two stages are equal
abbrev pub is_stage : Stage → Stage → Bool
is_stage s r = nat_eq (stage_number s) (stage_number r)

-- the number of ticks of a charge
abbrev pub ticks_of : Charge → ℕ
ticks_of x = x.to - x.from

-- the number of ticks of a list of charges
unfoldable pub all_ticks : List Charge → ℕ
all_ticks [] = 0
all_ticks (x ∷ xs) = ticks_of x + all_ticks xs

-- the number of ticks that a list charges to a stage
unfoldable pub ticks_for : Stage → List Charge → ℕ
ticks_for s [] = 0
ticks_for s (x ∷ xs) = (if is_stage s x.stage then ticks_of x else 0) + ticks_for s xs

-- ---- properties of charges

-- charges are consecutive and without gaps from one tick to another
unfoldable pub Follow : ℕ → ℕ → List Charge → Type 0
Follow from to [] = from ≡ to
Follow from to (x ∷ xs) = (x.from ≡ from) × (from < x.to) × Follow x.to to xs
