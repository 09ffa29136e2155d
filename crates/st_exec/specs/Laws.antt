-- Laws of completion that are not clauses of one call.
--
-- Proved: each law has its lemma in proofs/Laws.antt, with its name in small letters.
-- Claimed: docs/CLAIMS.md names EntriesAheadLeaveTheRest, EntriesAreBounded, EntriesCountAsOne,
-- EntriesLeaveStates, and others.
-- Change: docs/promises.txt lists each law, and the gate compares the list with the laws.
use Rattle.std.specs.Prelude.{◌≡◌, ◌+◌, ◌≤◌, true, false, ℕ, Option, None}
use Rattle.st_state.specs.Machine.{Machine, IsMachine, word}
use Rattle.st_prep.specs.declared.entries.Prepared.{Prepared}
use Rattle.st_prep.specs.Alike.{AreAlike}
use Rattle.st_prep.specs.Ranges.{IsPrepared}
use Rattle.st_exec.specs.Completion.{state_after_completion, predicted_state, is_mispredicted, state_with_speculative_changes}
use Rattle.st_exec.specs.Ahead.{IsPast, is_indicator_branch, IsNotAmong}
use Rattle.st_state.specs.Interrupts.{state_with_signal}
use Rattle.st_prep.specs.BesideOrders.{AreAlikeBesideOrders}
use Rattle.st_prep.specs.SpeculativeChanges.{words_after}
use Rattle.st_prep.specs.Fetch.{index_words}
use Rattle.st_prep.specs.Plan.{state_at_entry}
use Rattle.st_exec.specs.Transfer.{read_in, printed_out}

-- An entry takes 1 to 24 ticks, and reads at most 32 operand words.
pub record EntriesAreBounded : Type 0 where
  pub some_cost : (p : Prepared) → IsPrepared p → 1 ≤ p.cost
  pub cost : (p : Prepared) → IsPrepared p → p.cost ≤ 24
  pub reads : (p : Prepared) → IsPrepared p → p.reads.len + p.reads.len2 ≤ 32

-- Each entry counts as one completed instruction.
abbrev pub EntriesCountAsOne : Type 0
EntriesCountAsOne = (p : Prepared) (s : Machine) → (state_after_completion p s).done ≡ s.done + 1

-- A non-serializing entry leaves unchanged everything by which later entries were prepared: the
-- index words after its speculative change, each word above the registers that it does not write,
-- and the rest of `IsPast`.
abbrev pub EntriesAheadLeaveTheRest : Type 0
EntriesAheadLeaveTheRest = (p : Prepared) (s : Machine) → IsPrepared p → IsMachine s → p.serial
    ≡ false
    → IsPast p s (state_after_completion p s)

-- The predicted state is the completed state unless the entry is mispredicted, and only a branch on
-- an indicator can be mispredicted.
pub record OnlyIndicatorBranchesAreMispredicted : Type 0 where
  pub right : (p : Prepared) (s : Machine) → IsPrepared p → is_mispredicted p s ≡ false
      → predicted_state p s ≡ state_after_completion p s
  pub mispredicted : (p : Prepared) (s : Machine) → IsPrepared p → is_mispredicted p s ≡ true
      → is_indicator_branch p.instr ≡ true

-- If two states differ only in word 11, so do their predicted states after a non-serializing entry,
-- and their completed states if the entry is mispredicted in neither. A branch on an indicator that
-- is taken in only one of them makes their program counters differ.
pub record IndicatorsArePassedOver : Type 0 where
  pub predicted : (p : Prepared) (s u : Machine) → IsPrepared p → IsMachine s → AreAlike s u
      → p.serial ≡ false → AreAlike (predicted_state p s) (predicted_state p u)
  pub completed : (p : Prepared) (s u : Machine) → IsPrepared p → IsMachine s → AreAlike s u
      → p.serial ≡ false → is_mispredicted p s ≡ false → is_mispredicted p u ≡ false
      → AreAlike (state_after_completion p s) (state_after_completion p u)

-- The completion of an entry keeps the invariant of the state: the size of storage, the range of
-- each word, the fixed bits of the registers, the range of the program counter, and the area of
-- each order.
abbrev pub EntriesLeaveStates : Type 0
EntriesLeaveStates = (p : Prepared) (s : Machine) → IsPrepared p → IsMachine s
    → IsMachine (state_after_completion p s)

-- The index words after the speculative change of an entry are the result of that change. This
-- includes serializing entries and table instructions, whose interrupt is taken first.
abbrev pub SpeculativeChangesLeaveTheirIndexWords : Type 0
SpeculativeChangesLeaveTheirIndexWords = (p : Prepared) (s : Machine) (t : Option ℕ) → IsPrepared p →
    IsMachine s
    → index_words (state_with_speculative_changes p (state_at_entry t s))
    ≡ words_after (index_words s) p.index

-- An entry, serializing or not, leaves each word from 32 that it does not write unchanged, in its
-- completed state and in its predicted state.
pub record EntriesLeaveWhatTheyDoNotWrite : Type 0 where
  pub completed : (p : Prepared) (s : Machine) (w : ℕ) → IsPrepared p → IsMachine s → 32 ≤ w
      → IsNotAmong w p.writes → word (state_after_completion p s) w ≡ word s w
  pub predicted : (p : Prepared) (s : Machine) (w : ℕ) → IsPrepared p → IsMachine s → 32 ≤ w
      → IsNotAmong w p.writes → word (predicted_state p s) w ≡ word s w

-- The predicted state of an entry keeps the invariant. It is the completed state with the following
-- address as program counter; for a serializing entry it is the completed state.
pub record PredictionsLeaveStates : Type 0 where
  pub machine : (p : Prepared) (s : Machine) → IsPrepared p → IsMachine s
      → IsMachine (predicted_state p s)
  pub following : (p : Prepared) (s : Machine) → p.serial ≡ false
      → (predicted_state p s).ic ≡ p.following
  pub alone : (p : Prepared) (s : Machine) → p.serial ≡ true → predicted_state p s
      ≡ state_after_completion p s
  pub rest : (p : Prepared) (s : Machine)
      → predicted_state p s ≡ record (state_after_completion p s) { ic = (predicted_state p s).ic }
  pub done : (p : Prepared) (s : Machine) → (predicted_state p s).done ≡ s.done + 1
  pub past : (p : Prepared) (s : Machine) → IsPrepared p → IsMachine s → p.serial ≡ false
      → IsPast p s (predicted_state p s)

-- If two states differ only in word 11 and in orders, so do their predicted states after a
-- non-serializing entry. Such pairs of states result from a signal, from a printer order that took
-- effect, and from a reader order without a card.
pub record OrdersArePassedOver : Type 0 where
  pub predicted : (p : Prepared) (s u : Machine) → IsPrepared p → IsMachine s
      → AreAlikeBesideOrders s u → p.serial ≡ false
      → AreAlikeBesideOrders (predicted_state p s) (predicted_state p u)
  pub printed : (s : Machine) → AreAlikeBesideOrders s (printed_out s)
  pub no_card : (s : Machine) (w : ℕ) → AreAlikeBesideOrders s (read_in s w None)
  pub signalled : (s : Machine) (i : ℕ) → AreAlikeBesideOrders s (state_with_signal s i)
  pub same : (s : Machine) → AreAlikeBesideOrders s s
  pub joined : (s t u : Machine) → AreAlikeBesideOrders s t → AreAlikeBesideOrders t u
      → AreAlikeBesideOrders s u
