-- Predicted steps from a state, and the index words after the speculative changes of their entries.
-- docs/machine.md ("Running ahead") says which step is predicted.
--
-- While its entries are in flight, the machine does not have these states. Definitions of st_ring,
-- st_ahead, st_refine and st_run, and clauses of levels.rt in st_ring, speak of them, so a change
-- here changes those and their proofs. Proved, in Laws.antt: each state continues from the one
-- before (`PredictionsGoOn`); if no entry is serializing, `split_words` are the index words of the
-- predicted state (`IndexWordsRunAhead`), and words 0 to 6, and words from 32 up that no entry
-- writes, stay as they are (`PredictionsLeaveTheRest`); a predicted step is the step but for the
-- counter of a mispredicted branch (`StepsArePredictions`).
--
-- Proved: by their `ensures` clauses these calls do what definitions here say: `push` (levels.rt of
-- st_ring).
-- Read by: definitions in Forecast of st_ahead, Going of st_ahead, Refined of st_refine, Levels of
-- st_ring, and others.
-- Laws: EntriesBehindAreSeen (specs/Laws.antt), IndexWordsRunAhead (specs/Laws.antt),
-- PredictionsGoOn (specs/Laws.antt), PredictionsLeaveTheRest (specs/Laws.antt), and others.
-- Change: the meaning is fixed by docs/timetable.md, since the contract of `st_top::stretch`
-- unfolds to a definition here. The form is free, with the proofs that unfold it.
use Rattle.std.specs.Prelude.{ℕ, zero, suc, List, Option, None}
use Rattle.st_state.specs.Machine.{Machine}
use Rattle.st_prep.specs.Fetch.{index_words}
use Rattle.st_prep.specs.Plan.{plan, state_at_entry}
use Rattle.st_exec.specs.Completion.{state_with_speculative_changes, prediction}

-- the state after k predicted steps, of which the first takes an interrupt, if there is one
unfoldable pub predictions : ℕ → Option ℕ → Machine → Machine
predictions zero table s = s
predictions (suc k) table s = predictions k None (prediction table s)

-- the interrupt of the entry after k others: only the first entry is a table instruction
abbrev pub table_behind : ℕ → Option ℕ → Option ℕ
table_behind zero table = table
table_behind (suc k) table = None

-- the state with the speculative change of its next entry: an index word and indicators
abbrev pub after_speculative_change : Option ℕ → Machine → Machine
after_speculative_change table s = state_with_speculative_changes (plan s table) (state_at_entry table s)

-- the index words with k entries in flight: those after the speculative changes of all k
unfoldable pub split_words : ℕ → Option ℕ → Machine → List ℕ
split_words zero table s = index_words s
split_words (suc k) table s =
    index_words (after_speculative_change (table_behind k table) (predictions k table s))
