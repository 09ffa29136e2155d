-- The totals of waits, by the stage of their charge and by kind of wait.
--
-- Proved: by their `ensures` clauses these calls do what definitions here say: `add` (sums.rt),
-- `add_one` (sums.rt), `wait_sums` (sums.rt), `write_wait_sums` (waits.rt of st_lines), and others.
-- Read by: definitions in Waited of st_lines, Slots of st_tally, Standing of st_account, Tally of
-- st_tally, and others.
-- Laws: WaitsAddUpToTheirStage (specs/WaitLaws.antt), WaitsAreWithinTheirCharge (specs/Laws.antt),
-- IndexWordsWaitForNoTurn (specs/WaitLaws.antt), WaitsCoverTheirCharge (specs/WaitLaws.antt), and
-- others.
-- Change: the meaning is fixed by docs/ledger.md, since the contract of `st_account::ledger`
-- unfolds to a definition here. The form is free, with the proofs that unfold it.
use Rattle.std.specs.Prelude.{ℕ, ◌+◌, ◌-◌, ◌≤◌, Bool, true, false, nat_eq, if◌then◌else◌, List, [], ◌∷◌}
use Rattle.st_ledger.specs.Charges.{is_stage}
use Rattle.st_ledger.specs.declared.charges.Charge.{Charge}
use Rattle.st_ledger.specs.declared.charges.Stage.{Stage}
use Rattle.st_ledger.specs.declared.charges.Stage.TheVariants.{Restart, Instruction, Address, Index, Preparing, Operand, Executing}
use Rattle.st_rows.specs.declared.uses.Use.{Use}
use Rattle.st_ledger.specs.Waits.{charge_waits}
use Rattle.st_ledger.specs.declared.sums.Shares.{Shares}
use Rattle.st_ledger.specs.declared.sums.WaitSum.{WaitSum}
use Rattle.st_ledger.specs.declared.sums.WaitTotals.{WaitTotals}
use Rattle.st_ledger.specs.declared.waits.Stall.{Stall}
use Rattle.st_ledger.specs.declared.waits.Stall.TheVariants.{Turn, Bank, Storage}
use Rattle.st_ledger.specs.declared.waits.Wait.{Wait}

-- ---- the ticks of waits

-- the number of ticks of a list of waits
unfoldable pub all_stalled : List Wait → ℕ
all_stalled [] = 0
all_stalled (x ∷ xs) = (x.to - x.from) + all_stalled xs

-- the number of a kind of wait
abbrev pub stall_number : Stall → ℕ
stall_number Turn = 0
stall_number Bank = 1
stall_number Storage = 2

-- whether two kinds of waits are equal
abbrev pub is_stall : Stall → Stall → Bool
is_stall s r = nat_eq (stall_number s) (stall_number r)

-- the number of ticks of the waits of one kind
unfoldable pub stalled_for : Stall → List Wait → ℕ
stalled_for s [] = 0
stalled_for s (x ∷ xs) = (if is_stall s x.why then x.to - x.from else 0) + stalled_for s xs

-- the number of ticks of one kind of wait in the charges of a row in a stage, given the words that
-- the row uses and those of the row before it
unfoldable pub row_stalled : Stage → Stall → List Use → List Use → List Charge → ℕ
row_stalled r s uses before [] = 0
row_stalled r s uses before (x ∷ xs) =
    (if is_stage r x.stage then stalled_for s (charge_waits x uses before) else 0)
    + row_stalled r s uses before xs

-- ---- the totals

-- the total of one kind of wait
abbrev pub share_at : Stall → Shares → ℕ
share_at Turn shares = shares.turn
share_at Bank shares = shares.bank
share_at Storage shares = shares.storage

-- whether the charges of a stage have waits
abbrev pub is_parted : Stage → Bool
is_parted Restart = false
is_parted Instruction = true
is_parted Address = false
is_parted Index = true
is_parted Preparing = false
is_parted Operand = true
is_parted Executing = false

-- the total of one kind of wait in a stage; 0 if its charges have no waits
abbrev pub waited_at : Stage → Stall → WaitTotals → ℕ
waited_at Restart s sums = 0
waited_at Instruction s sums = share_at s sums.instruction
waited_at Address s sums = 0
waited_at Index s sums = share_at s sums.index
waited_at Preparing s sums = 0
waited_at Operand s sums = share_at s sums.operand
waited_at Executing s sums = 0

-- no total is greater than t
pub record AreSharesWithin (t : ℕ) (shares : Shares) : Type 0 where
  pub turn : shares.turn ≤ t
  pub bank : shares.bank ≤ t
  pub storage : shares.storage ≤ t

pub record AreWaitsWithin (t : ℕ) (sums : WaitTotals) : Type 0 where
  pub instruction : AreSharesWithin t sums.instruction
  pub index : AreSharesWithin t sums.index
  pub operand : AreSharesWithin t sums.operand

-- ---- the totals in the order of their lines; an index-side word never waits for a turn

abbrev pub wait_sums_by : (Stage → Stall → ℕ) → List WaitSum
wait_sums_by f =
    record { stage = Instruction; why = Turn; ticks = f Instruction Turn }
    ∷ record { stage = Instruction; why = Bank; ticks = f Instruction Bank }
    ∷ record { stage = Instruction; why = Storage; ticks = f Instruction Storage }
    ∷ record { stage = Index; why = Bank; ticks = f Index Bank }
    ∷ record { stage = Index; why = Storage; ticks = f Index Storage }
    ∷ record { stage = Operand; why = Turn; ticks = f Operand Turn }
    ∷ record { stage = Operand; why = Bank; ticks = f Operand Bank }
    ∷ record { stage = Operand; why = Storage; ticks = f Operand Storage }
    ∷ []
