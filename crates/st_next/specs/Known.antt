-- The known part of the state before the next entry, while older entries are not completed.
--
-- Proved: no `ensures` clause names a definition of this file.
-- Read by: definitions in Going, Progress, Going of st_ahead.
-- Laws: NextEntriesAreKnown (specs/Laws.antt of st_ahead).
-- Change: no page fixes these definitions, since no contract of a program unfolds to them; they
-- change together with the clauses, definitions and laws that name them. docs/inside.md describes
-- the subject.
use Rattle.std.specs.Prelude.{ℕ, ◌≡◌, ◌≤◌, List}
use Rattle.st_bits.specs.declared.register.TheConstants.{INTERRUPT_ADDRESS, BOUNDS, FIRST_STORAGE_WORD}
use Rattle.st_state.specs.Machine.{Machine, IsMachine, word}
use Rattle.st_prep.specs.Fetch.{index_words}
use Rattle.st_rows.specs.Entries.{latest_done}
use Rattle.st_rows.specs.declared.past.Past.{Past}

-- u is a possible state before the next entry: its index words are x, and it agrees with the
-- committed state s in the interrupt address, the bounds, the flag for interrupts, and each word
-- from 32 up whose writers complete by the tick `now`
pub record IsStateBefore (now : ℕ) (past : List Past) (x : List ℕ) (s u : Machine) : Type 0 where
  pub machine : IsMachine u
  pub index : index_words u ≡ x
  pub origin : word u INTERRUPT_ADDRESS ≡ word s INTERRUPT_ADDRESS
  pub bounds : word u BOUNDS ≡ word s BOUNDS
  pub enabled : u.enabled ≡ s.enabled
  pub storage : (w : ℕ) → FIRST_STORAGE_WORD ≤ w → latest_done past w ≤ now → word u w ≡ word s w
