-- The lines of the waits of a row, and of the cause that delayed it.
--
-- Proved: by their `ensures` clauses these calls do what definitions here say: `fill_because`
-- (waits.rt), `fill_wait` (waits.rt), `fill_wait_sum` (waits.rt), `put_reason` (waits.rt), and
-- others.
-- Read by: definitions in EntryLines, Runs of st_causes, TallyLines of st_tally, Text of
-- st_account.
-- Laws: none names a definition of this file itself.
-- Change: the meaning is fixed by docs/ledger.md, since the contract of `st_account::ledger`
-- unfolds to a definition here. The form is free, with the proofs that unfold it.
use Rattle.std.specs.Prelude.{ℕ, ◌-◌, List, [], ◌∷◌, ◌++◌, nat_lt, if◌then◌else◌, codes, decimal}
use Rattle.st_text.specs.Bytes.{lf}
use Rattle.st_banks.specs.Bank.{bank_of}
use Rattle.st_rows.specs.declared.uses.Use.{Use}
use Rattle.st_ledger.specs.Lines.{stage_name, charge_line}
use Rattle.st_ledger.specs.declared.charges.Charge.{Charge}
use Rattle.st_ledger.specs.Waits.{charge_waits}
use Rattle.st_ledger.specs.declared.because.StallCause.{StallCause}
use Rattle.st_ledger.specs.declared.because.StallCause.TheVariants.{Start, Prefetch, Earlier}
use Rattle.st_ledger.specs.declared.because.Reason.{Reason}
use Rattle.st_ledger.specs.declared.because.Reason.TheVariants.{Serial, Store, Level, Forwarding, Bus, Order}
use Rattle.st_ledger.specs.declared.sums.WaitSum.{WaitSum}
use Rattle.st_ledger.specs.declared.waits.Stall.{Stall}
use Rattle.st_ledger.specs.declared.waits.Stall.TheVariants.{Turn, Bank, Storage}
use Rattle.st_ledger.specs.declared.waits.Wait.{Wait}

-- ---- waits

-- the name of a kind of wait
abbrev pub stall_name : Stall → List ℕ
stall_name Turn = codes "TURN"
stall_name Bank = codes "BANK"
stall_name Storage = codes "STORAGE"

-- the line of a wait, a part of the ticks of a charge
abbrev pub wait_line : Wait → List ℕ
wait_line x =
    codes "WAIT " ++ decimal x.from ++ codes " " ++ decimal x.to ++ codes " " ++ stall_name x.why
    ++ codes " WORD " ++ decimal x.word ++ codes " READ " ++ decimal x.read
    ++ codes " BANK " ++ decimal (bank_of x.read) ++ lf

unfoldable pub wait_lines : List Wait → List (List ℕ)
wait_lines [] = []
wait_lines (x ∷ xs) = wait_line x ∷ wait_lines xs

-- the lines of charges, each followed by its waits, given the words that the row uses and those of
-- the row before it
unfoldable pub charged_lines : List Use → List Use → List Charge → List (List ℕ)
charged_lines uses before [] = []
charged_lines uses before (x ∷ xs) =
    (charge_line x ∷ wait_lines (charge_waits x uses before)) ++ charged_lines uses before xs

-- the line of the ticks of one kind of wait in a stage
abbrev pub wait_sum_line : WaitSum → List ℕ
wait_sum_line x =
    codes "SUM " ++ stage_name x.stage ++ codes " " ++ stall_name x.why ++ codes " "
    ++ decimal x.ticks ++ lf

unfoldable pub wait_sum_lines : List WaitSum → List (List ℕ)
wait_sum_lines [] = []
wait_sum_lines (x ∷ xs) = wait_sum_line x ∷ wait_sum_lines xs

-- ---- reasons

abbrev pub reason_name : Reason → List ℕ
reason_name Serial = codes "SERIAL"
reason_name Store = codes "STORE"
reason_name Level = codes "LEVEL"
reason_name Forwarding = codes "FORWARDING"
reason_name Bus = codes "BUS"
reason_name Order = codes "ORDER"

-- the line of the cause that delayed the n-th entry
abbrev pub because_line : ℕ → StallCause → List ℕ
because_line n (Start tick) =
    codes "BECAUSE START ROW - TICK " ++ decimal tick ++ codes " LATE -" ++ lf
because_line n (Prefetch x) =
    codes "BECAUSE PREFETCH WORD " ++ decimal x.word ++ codes " LATE " ++ decimal x.late ++ lf
because_line n (Earlier x) =
    codes "BECAUSE " ++ reason_name x.reason ++ codes " ROW " ++ decimal (n - x.back)
    ++ codes " TICK " ++ decimal x.tick ++ codes " LATE " ++ decimal x.late ++ lf

-- the lines of the cause that delayed the n-th entry, if it has a charge other than that of
-- executing: the previous entry completed before the entry's operands were available, at tick r
unfoldable pub because_lines : ℕ → ℕ → ℕ → StallCause → List (List ℕ)
because_lines n done r b = if nat_lt done r then because_line n b ∷ [] else []
