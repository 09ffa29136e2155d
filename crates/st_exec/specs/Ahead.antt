-- The parts of the state that a non-serializing entry leaves unchanged, so that later entries can
-- be prepared before it completes.
--
-- Proved: no `ensures` clause names a definition of this file.
-- Read by: definitions in Changes of st_lines, Rounds of st_account, Standing of st_account.
-- Laws: EntriesAheadLeaveTheRest (specs/Laws.antt), EntriesLeaveWhatTheyDoNotWrite
-- (specs/Laws.antt), OnlyIndicatorBranchesAreMispredicted (specs/Laws.antt), PredictionsLeaveStates
-- (specs/Laws.antt).
-- Change: no page fixes these definitions, since no contract of a program unfolds to them; they
-- change together with the clauses, definitions and laws that name them. docs/machine.md describes
-- the subject.
use Rattle.std.specs.Prelude.{ℕ, ◌≡◌, ◌+◌, ◌<◌, ◌≤◌, ◌⊎◌, Bool, true, false, length}
use Rattle.st_bits.specs.declared.register.TheConstants.{COUNTS, MASK, FIRST_STORAGE_WORD}
use Rattle.st_format.specs.declared.instruction.Instr.{Instr}
use Rattle.st_format.specs.declared.instruction.Instr.TheVariants.{IndBranch}
use Rattle.st_state.specs.Machine.{Machine, word}
use Rattle.st_prep.specs.declared.entries.Words.{Words}
use Rattle.st_prep.specs.declared.entries.Prepared.{Prepared}
use Rattle.st_prep.specs.SpeculativeChanges.{words_after}
use Rattle.st_prep.specs.Fetch.{index_words}

-- word i is not in either range of the words w
pub record IsNotAmong (i : ℕ) (w : Words) : Type 0 where
  pub first : (i < w.first) ⊎ (w.first + w.len ≤ i)
  pub second : (i < w.first2) ⊎ (w.first2 + w.len2 ≤ i)

-- state t after a non-serializing entry p in state s: the index words have the speculative change;
-- each word from 32 that p does not write, the boundary register, the mask, the marks and the
-- orders are unchanged; one more instruction is completed
pub record IsPast (p : Prepared) (s t : Machine) : Type 0 where
  pub size : length t.words ≡ length s.words
  pub index : index_words t ≡ words_after (index_words s) p.index
  pub storage : (w : ℕ) → FIRST_STORAGE_WORD ≤ w → IsNotAmong w p.writes → word t w ≡ word s w
  pub low : (w : ℕ) → w < COUNTS → word t w ≡ word s w
  pub mask : word t MASK ≡ word s MASK
  pub enabled : t.enabled ≡ s.enabled
  pub waiting : t.waiting ≡ s.waiting
  pub reader : t.reader ≡ s.reader
  pub printer : t.printer ≡ s.printer
  pub done : t.done ≡ s.done + 1

-- whether the instruction is BI, a branch on an indicator
abbrev pub is_indicator_branch : Instr → Bool
is_indicator_branch (IndBranch sense off address i second) = true
is_indicator_branch _ = false
