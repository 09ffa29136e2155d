-- The waits in the ticks of a charge, the last one first. Words are listed youngest first: those of
-- the row, and then those of the row before it. Older reads do not matter, because a row wants its
-- words only when the reads of the rows before the last one have been accepted.
--
-- Proved: by their `ensures` clauses these calls do what definitions here say: `acceptance`
-- (waits.rt), `add_all_turns` (waits.rt), `add_bus` (waits.rt), `add_data` (waits.rt), and others.
-- Read by: definitions in Segments, Sums, WaitLines of st_lines.
-- Laws: WaitsAreWithinTheirCharge (specs/Laws.antt), NamedReadsAreMade (specs/Laws.antt of
-- st_causes), WaitsOfARunAreTrue (specs/Laws.antt of st_causes), WaitsOfARunCoverTheirCharges
-- (specs/Laws.antt of st_causes).
-- Change: the meaning is fixed by docs/ledger.md, since the contract of `st_account::ledger`
-- unfolds to a definition here. The form is free, with the proofs that unfold it.
use Rattle.std.specs.Prelude.{ℕ, ◌+◌, max, Bool, ◌&&◌, nat_eq, nat_le, nat_lt, if◌then◌else◌, List, [], ◌∷◌, ◌++◌, take, reverse}
use Rattle.st_ledger.specs.declared.charges.Charge.{Charge}
use Rattle.st_ledger.specs.declared.charges.Stage.{Stage}
use Rattle.st_ledger.specs.declared.charges.Stage.TheVariants.{Restart, Address, Preparing, Executing, Instruction as AtInstruction, Index as AtIndex, Operand as AtOperand}
use Rattle.st_rows.specs.declared.uses.Role.{Role}
use Rattle.st_rows.specs.declared.uses.Role.TheVariants.{Instruction, Index, Operand}
use Rattle.st_rows.specs.declared.uses.Supply.{Supply}
use Rattle.st_rows.specs.declared.uses.Use.{Use}
use Rattle.st_ledger.specs.Words.{is_read, read_of, decides}
use Rattle.st_ledger.specs.declared.waits.Accepted.{Accepted}
use Rattle.st_ledger.specs.declared.waits.Stall.{Stall}
use Rattle.st_ledger.specs.declared.waits.Stall.TheVariants.{Turn, Bank, Storage}
use Rattle.st_ledger.specs.declared.waits.Wait.{Wait}

-- the wait in the ticks `from` + 1 to `to` for word w because of the read of word v; none if there
-- is no such tick
unfoldable pub wait_piece : ℕ → ℕ → Stall → ℕ → ℕ → List Wait
wait_piece from to why w v =
    if nat_lt from to then record { from = from; to = to; why = why; word = w; read = v } ∷ []
    else []

-- ---- a read

-- the acceptance of a word's read
unfoldable pub acceptance_of : Use → Accepted
acceptance_of u = record { word = u.word; tick = (read_of u.supply).accept }

-- whether a read is accepted at `from` or later and before another tick
unfoldable pub is_accepted_between : ℕ → ℕ → Supply → Bool
is_accepted_between from before s =
    is_read s && (nat_le from (read_of s).accept && nat_lt (read_of s).accept before)

-- the waits of word w from tick `from` on until the acceptance of its read: each earlier read that
-- is accepted in this time takes one tick of the bus, and in the other ticks the read that is next
-- waits for its bank
unfoldable pub turns : ℕ → ℕ → Accepted → List Use → List Wait
turns from w next [] = wait_piece from next.tick Bank w next.word
turns from w next (u ∷ older) =
    if is_accepted_between from next.tick u.supply
    then wait_piece ((acceptance_of u).tick + 1) next.tick Bank w next.word
    ++ (wait_piece (acceptance_of u).tick ((acceptance_of u).tick + 1) Turn w u.word
    ++ turns from w (acceptance_of u) older)
    else turns from w next older

-- the waits of a word after tick `from` up to the tick t at which it is answered
unfoldable pub read_waits : ℕ → ℕ → Use → List Use → List Wait
read_waits from t u older =
    wait_piece (max from (read_of u.supply).accept) t Storage u.word u.word
    ++ turns (max from (read_of u.supply).want) u.word (acceptance_of u) older

-- ---- the waits of a row

-- the waits of an operand word or the index-side word: of the first that is answered at tick t
unfoldable pub data_waits : Role → ℕ → ℕ → List Use → List Use → List Wait
data_waits role from t before [] = []
data_waits role from t before (u ∷ earlier) =
    if decides role t u earlier then read_waits from t u (earlier ++ before)
    else data_waits role from t before earlier

-- the waits of an instruction word that is held: those of its read, if that is one of the row
-- before, else storage
unfoldable pub held_waits : ℕ → ℕ → ℕ → List Use → List Wait
held_waits from t w [] = wait_piece from t Storage w w
held_waits from t w (u ∷ older) =
    if is_read u.supply && (nat_eq u.word w && nat_eq (read_of u.supply).answer t)
    then read_waits from t u older
    else held_waits from t w older

-- the waits until the acceptance of the last read of the row before, if it is accepted at tick t
unfoldable pub bus_waits : ℕ → ℕ → List Use → List Wait
bus_waits from t [] = []
bus_waits from t (u ∷ older) =
    if is_read u.supply
    then if nat_eq (read_of u.supply).accept t
    then turns (max from (read_of u.supply).want) u.word (acceptance_of u) older
    else []
    else bus_waits from t older

-- the waits of the instruction words: of the first that is answered at tick t, and before its want
-- those of the words before it
unfoldable pub fetch_waits : ℕ → ℕ → List Use → List Use → List Wait
fetch_waits from t before [] = bus_waits from t before
fetch_waits from t before (u ∷ earlier) =
    if decides Instruction t u earlier
    then if is_read u.supply
    then read_waits from t u (earlier ++ before)
    ++ fetch_waits from (read_of u.supply).want before earlier
    else held_waits from t u.word before
    else fetch_waits from t before earlier

-- ---- a charge

-- the waits of a stage in the ticks after `from` up to `to`; words are in the order of their reads,
-- and the first four include all instruction words
unfoldable pub stage_waits : Stage → ℕ → ℕ → List Use → List Use → List Wait
stage_waits AtInstruction from t uses before =
    fetch_waits from t (reverse before) (reverse (take 4 uses))
stage_waits AtIndex from t uses before = data_waits Index from t (reverse before) (reverse uses)
stage_waits AtOperand from t uses before = data_waits Operand from t (reverse before) (reverse uses)
stage_waits Restart from t uses before = []
stage_waits Address from t uses before = []
stage_waits Preparing from t uses before = []
stage_waits Executing from t uses before = []

-- the waits of a charge of a row, given the words that the row uses and those of the row before it
abbrev pub charge_waits : Charge → List Use → List Use → List Wait
charge_waits x uses before = stage_waits x.stage x.from x.to uses before
