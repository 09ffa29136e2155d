-- Laws of undoing that are not clauses of one call.
--
-- Proved: each law has its lemma in proofs/Laws.antt, with its name in small letters.
-- Claimed: docs/CLAIMS.md names BackUndoesForth, BacksGiveTheStatesBefore,
-- UndoingPassesRegistersOver.
-- Change: docs/promises.txt lists each law, and the gate compares the list with the laws.
use Rattle.std.specs.Prelude.{◌≡◌, ◌≢◌, ℕ, ◌≤◌, true, List, [], ◌∷◌, ◌++◌, None}
use Rattle.circular_buffer.specs.Buffer.{keep_last}
use Rattle.st_state.specs.Machine.{Machine, IsMachine}
use Rattle.st_state.specs.Interrupts.{state_with_signal}
use Rattle.st_exec.specs.Transfer.{read_in, printed_out}
use Rattle.st_exec.specs.Step.{IsStep}
use Rattle.st_exec.specs.declared.step.Step.{Step as Answer}
use Rattle.st_exec.specs.declared.step.Step.TheVariants.{Waits}
use Rattle.st_back.specs.declared.kept.KeptStep.{KeptStep}
use Rattle.st_back.specs.Between.{AreAlikeAbove}
use Rattle.st_back.specs.Steps.{Steps, IsForth, IsPut, IsBack, states_before}
use Rattle.st_back.specs.Undone.{state_undone}

-- A `back` right after a `forth` that makes a step restores the state before both. A `forth` after
-- that has the result and the state of the first one.
pub record BackUndoesForth : Type 0 where
  pub before : (a b c : Steps) (s t u : Machine) (r : Answer) → 1 ≤ a.depth → r ≢ Waits
      → IsForth a b s t r → IsBack b c t u true → u ≡ s
  pub again : (a b c : Steps) (s t u v : Machine) (r q : Answer) → 1 ≤ a.depth → r ≢ Waits
      → IsStep s t r → IsForth a b s t r → IsBack b c t u true → IsStep u v q
      → (q ≡ r) × (v ≡ t)

-- The state after undoing a step does not depend on the words below 32, the count of completed
-- instructions, the program counter, the marks and the orders. So a signal or an order without a
-- card in between has no effect on it.
pub record UndoingPassesRegistersOver : Type 0 where
  pub above : (k : KeptStep) (s t : Machine) → IsMachine s → AreAlikeAbove s t
      → state_undone k t ≡ state_undone k s
  pub signalled : (k : KeptStep) (s : Machine) (i : ℕ) → IsMachine s
      → state_undone k (state_with_signal s i) ≡ state_undone k s
  pub printed : (k : KeptStep) (s : Machine) → IsMachine s
      → state_undone k (printed_out s) ≡ state_undone k s
  pub no_card : (k : KeptStep) (s : Machine) (w : ℕ) → IsMachine s
      → state_undone k (read_in s w None) ≡ state_undone k s

-- Successive calls of `back` restore the states before the steps that were made, the last one
-- first, as many as the depth allows, for all puts and changes in between.
pub record BacksGiveTheStatesBefore : Type 0 where
  pub forth : (a b : Steps) (s t : Machine) (r : Answer) → r ≢ Waits → IsForth a b s t r
      → states_before b.kept t ≡ keep_last a.depth (states_before a.kept s ++ s ∷ [])
  pub put : (a b : Steps) (s t : Machine) (w x : ℕ) → IsPut a b s t w x
      → states_before b.kept t ≡ states_before a.kept s
  pub between : (ks : List KeptStep) (s t : Machine) → IsMachine s → AreAlikeAbove s t
      → states_before ks t ≡ states_before ks s
  pub back : (a b : Steps) (s t : Machine) → IsBack a b s t true
      → states_before a.kept s ≡ states_before b.kept t ++ t ∷ []
