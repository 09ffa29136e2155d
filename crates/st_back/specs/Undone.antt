-- The state after a recorded step is undone.
--
-- Proved: by their `ensures` clauses these calls do what definitions here say: `noted` (kept.rt),
-- `keep` (undoing.rt), `remove_puts` (undoing.rt), `restore` (undoing.rt), and others.
-- Read by: definitions in Steps.
-- Laws: UndoingPassesRegistersOver (specs/Laws.antt).
-- Change: no page fixes these definitions, since no contract of a program unfolds to them; they
-- change together with the clauses, definitions and laws that name them. docs/machine.md describes
-- the subject.
use Rattle.std.specs.Prelude.{ℕ, zero, suc, ◌+◌, List, slice_index, slice_set}
use Rattle.st_state.specs.Machine.{Machine, state_with_store}
use Rattle.st_prep.specs.declared.entries.Words.{Words}
use Rattle.st_exec.specs.declared.kept.Trail.{Trail}
use Rattle.st_back.specs.declared.kept.KeptStep.{KeptStep}

-- the state after n words from word w are replaced by the items of a list from place k
unfoldable pub state_with_words : ℕ → ℕ → ℕ → List ℕ → Machine → Machine
state_with_words w zero k xs s = s
state_with_words w (suc n) k xs s = state_with_words (w + 1) n (k + 1) xs
    (state_with_store s w (slice_index xs k))

-- the state after the words of both ranges are restored from a list, which has those of the second
-- range after those of the first
abbrev pub restored_words : Words → List ℕ → Machine → Machine
restored_words w xs s = state_with_words w.first2 w.len2 w.len xs
    (state_with_words w.first w.len 0 xs s)

-- the state after the first n puts are undone, the last one first
unfoldable pub unput : ℕ → List ℕ → List ℕ → Machine → Machine
unput zero places contents s = s
unput (suc n) places contents s =
    unput n places contents (state_with_store s (slice_index places n) (slice_index contents n))

-- the state with the count of completed instructions, the counter, the marks and the orders from
-- before the step
abbrev pub with_rest : Trail → Machine → Machine
with_rest t s = record s {
  done = t.done;
  ic = t.ic;
  enabled = t.enabled;
  waiting = t.waiting;
  reader = t.reader;
  printer = t.printer;
}

-- the state after a step is undone: first the puts since the step, then the words that the entry
-- wrote, then words 0 to 31, then everything outside storage
unfoldable pub state_undone : KeptStep → Machine → Machine
state_undone k s =
    with_rest k.trail
    (state_with_words 0 32 0 k.trail.registers
    (restored_words k.trail.writes k.trail.before (unput k.puts k.places k.contents s)))

-- the recorded step with one more put to word w, whose contents were x
abbrev pub step_with_word : KeptStep → ℕ → ℕ → KeptStep
step_with_word k w x = record k {
  places = slice_set k.places k.puts w;
  contents = slice_set k.contents k.puts x;
  puts = k.puts + 1;
}
