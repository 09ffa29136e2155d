-- The changes of a state that may occur between a step and its undoing.
--
-- Proved: no `ensures` clause names a definition of this file.
-- Laws: BacksGiveTheStatesBefore (specs/Laws.antt), UndoingPassesRegistersOver (specs/Laws.antt).
-- Change: no page fixes these definitions, since no contract of a program unfolds to them; they
-- change together with the clauses, definitions and laws that name them. docs/machine.md describes
-- the subject.
use Rattle.std.specs.Prelude.{ℕ, ◌≡◌, ◌≤◌, length}
use Rattle.st_state.specs.Machine.{Machine, word}

-- two states have equal words from address 32
pub record AreAlikeAbove (s t : Machine) : Type 0 where
  pub size : length t.words ≡ length s.words
  pub words : (w : ℕ) → 32 ≤ w → word t w ≡ word s w
