-- The architectural state of the machine between two instructions.
--
-- Proved: by their `ensures` clauses these calls do what definitions here say: `new` (lib.rt),
-- `word` (lib.rt), `apply` (lib.rt), `protects` (lib.rt), and others.
-- Read by: definitions in Interrupts, Boundary, Orders, View, and others.
-- Laws: EntriesRead36WordsAtMost (specs/Laws.antt of st_prep), EntriesLeaveWhatTheyDoNotWrite
-- (specs/Laws.antt of st_exec), PredictionsLeaveTheRest (specs/Laws.antt of st_segment),
-- WritersAreSeen (specs/Laws.antt of st_ring), and others.
-- Change: the meaning is fixed by docs/machine.md, since the contracts of `st_top::stretch` and
-- `st_account::ledger` unfold to a definition here. The form is free, with the proofs that unfold
-- it.
use Rattle.std.specs.Prelude.{ℕ, ◌≡◌, ◌+◌, ◌<◌, ◌≤◌, ◌^◌, Bool, false, List, length, slice_index, slice_set, Option, None, Some}
use Rattle.st_bits.specs.Bits.{all_bits, put, words_of}
use Rattle.st_bits.specs.Registers.{register_word, fixed_from}
use Rattle.st_bits.specs.Storage.{words_of_storage}
use Rattle.st_bits.specs.declared.register.TheConstants.{MASK, FIRST_STORAGE_WORD}
use Rattle.st_state.specs.declared.devices.Order.{Order}

-- the state: storage, program counter, interrupts enabled, waiting, completed instructions, orders
pub record Machine : Type 0 where
  pub words : List ℕ
  pub ic : ℕ
  pub enabled : Bool
  pub waiting : Bool
  pub done : ℕ
  pub reader : Option Order
  pub printer : Option Order

-- the contents of word w of storage
abbrev pub word : Machine → ℕ → ℕ
word s w = slice_index s.words w

-- the state with x in word w, and all else unchanged
abbrev pub with_word : Machine → ℕ → ℕ → Machine
with_word s w x = record s { words = slice_set s.words w x }

-- the state after x is written to word w; fixed bits keep their value
abbrev pub state_with_store : Machine → ℕ → ℕ → Machine
state_with_store s w x = with_word s w (register_word w x)

-- the state after the bits b are written to storage from bit address a; fixed bits keep their value
abbrev pub state_with_bits : Machine → ℕ → List ℕ → Machine
state_with_bits s a b =
    record s { words = fixed_from 0 (words_of (length s.words) (put (all_bits s.words) a b)) }

-- the initial state: storage is the image, with the fixed bits of the mask
abbrev pub opening_state : List ℕ → ℕ → Machine
opening_state image start = record {
  words = slice_set image MASK (register_word MASK 0);
  ic = start;
  enabled = false;
  waiting = false;
  done = 0;
  reader = None;
  printer = None;
}

-- the area of an order, if there is one, is eight words of storage above the registers
abbrev pub HasArea : Option Order → Type 0
HasArea None = Unit {0}
HasArea (Some order) = (FIRST_STORAGE_WORD ≤ order.word) × (order.word + 8 ≤ words_of_storage)

-- the invariant of the state
pub record IsMachine (s : Machine) : Type 0 where
  pub size : length s.words ≡ words_of_storage
  pub counter : s.ic < 2 ^ 19
  pub below : (w : ℕ) → word s w < 2 ^ 64
  pub registers : (w : ℕ) → w < FIRST_STORAGE_WORD → register_word w (word s w) ≡ word s w
  pub reader_area : HasArea s.reader
  pub printer_area : HasArea s.printer
