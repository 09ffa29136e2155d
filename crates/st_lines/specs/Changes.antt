-- The words that may change after an entry.
--
-- Proved: by their `ensures` clauses these calls do what definitions here say: `next_word`
-- (changes.rt).
-- Read by: definitions in Standing of st_account.
-- Laws: none names a definition of this file itself.
-- Change: no page fixes these definitions, since no contract of a program unfolds to them; they
-- change together with the clauses, definitions and laws that name them. docs/ledger.md describes
-- the subject.
use Rattle.std.specs.Prelude.{ℕ, ◌≡◌, ◌≢◌, ◌+◌, ◌<◌, ◌≤◌, ◌⊎◌, List, slice_index, Option, None, Some}
use Rattle.st_bits.specs.declared.limits.TheConstants.{WORDS}
use Rattle.st_exec.specs.Ahead.{IsNotAmong}
use Rattle.st_state.specs.Machine.{Machine, word}
use Rattle.st_lines.specs.declared.changes.Changeable.{Changeable}

-- word w is not in the area of a card
abbrev pub IsOutsideArea : ℕ → Option ℕ → Type 0
IsOutsideArea w None = Unit {0}
IsOutsideArea w (Some area) = (w < area) ⊎ (area + 8 ≤ w)

-- word w is not a register, the entry does not write it, and it is not in the area of the card that
-- the reader may bring
pub record IsUntouched (w : ℕ) (may : Changeable) : Type 0 where
  pub above : 32 ≤ w
  pub unwritten : IsNotAmong w may.writes
  pub beside : IsOutsideArea w may.card

-- all words of a state that may not change are those of `old`
abbrev pub AreOthersAlike : Changeable → List ℕ → Machine → Type 0
AreOthersAlike may old s =
    (v : ℕ) → v < WORDS → IsUntouched v may → slice_index old v ≡ word s v

-- the words at the last output are a copy of the state's words up to the given changes, in segment
-- k; before the first segment nothing has been written
abbrev pub IsCopyBehind : ℕ → Changeable → List ℕ → Machine → Type 0
IsCopyBehind k may old s = k ≢ 0 → AreOthersAlike may old s
