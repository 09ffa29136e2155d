-- The effect of an operation, given its operands.
--
-- Proved: by their `ensures` clauses these calls do what definitions here say: `bit_effect`
-- (effects.rt), `branch_effect` (effects.rt), `effect_by` (effects.rt), `index_effect`
-- (effects.rt), and others.
-- Read by: definitions in Completion.
-- Laws: none names a definition of this file itself.
-- Change: the meaning is fixed by docs/machine.md, since the contracts of `st_top::stretch` and
-- `st_account::ledger` unfold to a definition here. The form is free, with the proofs that unfold
-- it.
use Rattle.std.specs.Prelude.{ℕ, zero, suc, ◌+◌, ◌*◌, ◌/◌, ◌%◌, ◌≤◌, ◌<◌, ◌^◌, ◌==◌, Bool, true, false, if◌then◌else◌, Option, Some, is_some, IfSome}
use Rattle.st_bits.specs.declared.indicators.TheConstants.{CHANNEL_BUSY_REJECT}
use Rattle.st_bits.specs.Bits.{bits}
use Rattle.st_bits.specs.Storage.{words_of_storage}
use Rattle.st_bits.specs.declared.operations.HalfOp.{HalfOp}
use Rattle.st_bits.specs.declared.operations.HalfOp.TheVariants.{Sx, Sv, Sc, Sr, Sva}
use Rattle.st_bits.specs.declared.operations.BranchOp.{BranchOp}
use Rattle.st_bits.specs.declared.operations.BranchOp.TheVariants.{Be, Bd, Bew}
use Rattle.st_format.specs.declared.instruction.Instr.{Instr}
use Rattle.st_format.specs.declared.instruction.Instr.TheVariants.{Half, Branch, Vfl, Connect, Move, BitBranch, IndBranch, StoreCounter, Transfer}
use Rattle.st_state.specs.Machine.{Machine, HasArea, word, state_with_store, state_with_bits}
use Rattle.st_bits.specs.Indicators.{indicator}
use Rattle.st_state.specs.Interrupts.{state_with_indicators, state_with_signal}
use Rattle.st_state.specs.declared.devices.Order.{Order}
use Rattle.st_prep.specs.declared.entries.Prepared.{Prepared}
use Rattle.st_exec.specs.Operand.{field_at}
use Rattle.st_exec.specs.Outcome.{shape_of, operation_outcome, connects, with_result}
use Rattle.st_exec.specs.declared.effects.Effect.{Effect}
use Rattle.st_exec.specs.declared.effects.Effect.TheVariants.{Rest, Put, Copy, Exchange, TurnOff, Enable, Wait, Give, Leave}

-- ---- the effect of each operation

-- the effect of an index store of v: into the word at e or a part of it, for SVA the half-word at e
abbrev pub index_effect : HalfOp → ℕ → ℕ → Effect
index_effect Sx e v = Put (64 * (e / 64)) 64 v
index_effect Sv e v = Put (64 * (e / 64)) 25 v
index_effect Sc e v = Put (64 * (e / 64) + 28) 18 v
index_effect Sr e v = Put (64 * (e / 64) + 46) 18 v
index_effect Sva e v = Put (32 * (e / 32)) 19 v
index_effect _ e v = Rest

-- the effect of a branch instruction: on interrupts, and whether the machine waits
abbrev pub branch_effect : BranchOp → Effect
branch_effect Be = Enable true
branch_effect Bd = Enable false
branch_effect Bew = Wait
branch_effect _ = Rest

-- the effect of a transmission: T copies n words, SWAP exchanges them
abbrev pub move_effect : Bool → ℕ → ℕ → ℕ → Effect
move_effect false from to n = Copy from to n
move_effect true from to n = Exchange from to n

-- the effect of BB on its bit, whose value is b: left unchanged, cleared, set or inverted
abbrev pub bit_effect : ℕ → ℕ → ℕ → Effect
bit_effect zero e b = Rest
bit_effect (suc zero) e b = Put e 1 0
bit_effect (suc (suc zero)) e b = Put e 1 1
bit_effect (suc (suc (suc _))) e b = Put e 1 (if b == 0 then 1 else 0)

-- the effect of BI on its indicator: the indicator is turned off if the instruction says so
abbrev pub indicator_effect : Bool → ℕ → Effect
indicator_effect false e = Rest
indicator_effect true e = TurnOff (e % 64)

-- the effect of RD and WR: an order that is due n instructions after this one
abbrev pub order_effect : Bool → ℕ → ℕ → ℕ → Effect
order_effect write e n done = Give write (record { word = e / 64; due = done + 1 + n })

-- the effect of an instruction with the effective address e in state t; v is the value it stores
unfoldable pub effect_of : Instr → ℕ → ℕ → Machine → Effect
effect_of (Half op address j i) e v t = index_effect op e v
effect_of (Branch op address i) e v t = branch_effect op
effect_of (Vfl op d u n p length byte offset address i) e v t =
    Leave (operation_outcome d op (shape_of u n length byte offset) p e t) e length
effect_of (Connect kind table p length byte offset address i) e v t =
    Leave (connects kind table p e offset length t) e length
effect_of (Move swap address i second count) e v t = move_effect swap (e / 64) (second / 2) count
effect_of (BitBranch sense change address i second) e v t = bit_effect change e (field_at t e 1)
effect_of (IndBranch sense off address i second) e v t = indicator_effect off e
effect_of (StoreCounter address i second) e v t = Put (32 * (e / 32)) 19 v
effect_of (Transfer write address i count) e v t = order_effect write e count t.done
effect_of _ e v t = Rest

-- the effect of a prepared entry in state t
abbrev pub effect : Prepared → Machine → Effect
effect p t = effect_of p.instr p.e p.value t

-- ---- the application of each effect to a state

-- the state after n words from one address are copied to another, one word at a time
unfoldable pub state_with_copy : ℕ → ℕ → ℕ → Machine → Machine
state_with_copy from to zero t = t
state_with_copy from to (suc n) t = state_with_copy (from + 1) (to + 1) n
    (state_with_store t to (word t from))

-- the state after n words at two addresses are exchanged, one word at a time
unfoldable pub state_with_exchange : ℕ → ℕ → ℕ → Machine → Machine
state_with_exchange from to zero t = t
state_with_exchange from to (suc n) t = state_with_exchange (from + 1) (to + 1) n
    (state_with_store (state_with_store t from (word t to)) to (word t from))

-- the order of the printer if the argument is true, of the reader otherwise
abbrev pub order_standing : Bool → Machine → Option Order
order_standing false t = t.reader
order_standing true t = t.printer

-- the state with this order of the printer if the Boolean is true, of the reader otherwise
abbrev pub machine_with_order : Bool → Order → Machine → Machine
machine_with_order false order t = record t { reader = Some order }
machine_with_order true order t = record t { printer = Some order }

-- the state after an order is given; a device with an order keeps that one, and CBJ is turned on
abbrev pub state_with_order : Bool → Order → Machine → Machine
state_with_order write order t =
    if is_some (order_standing write t) then state_with_signal t CHANNEL_BUSY_REJECT
    else machine_with_order write order t

-- the state after an effect
unfoldable pub carried_out : Effect → Machine → Machine
carried_out Rest t = t
carried_out (Put a n v) t = state_with_bits t a (bits n v)
carried_out (Copy from to n) t = state_with_copy from to n t
carried_out (Exchange from to n) t = state_with_exchange from to n t
carried_out (TurnOff i) t = state_with_indicators (record { on = 0; off = indicator i }) t
carried_out (Enable enabled) t = record t { enabled = enabled }
carried_out Wait t = record t { enabled = true; waiting = true }
carried_out (Give write order) t = state_with_order write order t
carried_out (Leave result a n) t = with_result result a n t

-- ---- effects that can be applied

-- a field of n bits in storage at bit address a, and a number v that fits
pub record IsField (a n v : ℕ) : Type 0 where
  pub some : 1 ≤ n
  pub few : n ≤ 64
  pub inside : a + n ≤ 64 * words_of_storage
  pub fits : v < 2 ^ n

-- two ranges of n words in storage
pub record AreRuns (from to n : ℕ) : Type 0 where
  pub from_inside : from + n ≤ words_of_storage
  pub to_inside : to + n ≤ words_of_storage

-- an effect whose addresses lie in storage and whose numbers are in range
abbrev pub CanBeDone : Effect → Type 0
CanBeDone Rest = Unit {0}
CanBeDone (Put a n v) = IsField a n v
CanBeDone (Copy from to n) = AreRuns from to n
CanBeDone (Exchange from to n) = AreRuns from to n
CanBeDone (TurnOff i) = i < 64
CanBeDone (Enable enabled) = Unit {0}
CanBeDone Wait = Unit {0}
CanBeDone (Give write order) = HasArea (Some order)
CanBeDone (Leave result a n) = IfSome result.field (IsField a n)
