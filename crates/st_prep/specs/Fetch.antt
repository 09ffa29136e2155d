-- The place of the next entry of a state, and the instruction that is fetched there.
--
-- Proved: by their `ensures` clauses these calls do what definitions here say: `address`
-- (fetching.rt), `fetch_all` (fetching.rt), `fetch_on` (fetching.rt), `index_words` (fetching.rt),
-- and others.
-- Read by: definitions in Alike, Plan, Entries of st_segment, Progress of st_next, and others.
-- Laws: EntriesRead36WordsAtMost (specs/Laws.antt), EntriesWithATargetAreAlone (specs/Laws.antt),
-- InstructionWordsComeOneByOne (specs/Laws.antt), IndicatorsAreNotSeen (specs/Laws.antt), and
-- others.
-- Change: the meaning is fixed by docs/machine.md, since the contracts of `st_top::stretch` and
-- `st_account::ledger` unfold to a definition here. The form is free, with the proofs that unfold
-- it.
use Rattle.std.specs.Prelude.{ℕ, ◌+◌, ◌*◌, ◌%◌, ◌^◌, List, take, drop, Option, None, Some}
use Rattle.st_bits.specs.Bits.{part}
use Rattle.st_bits.specs.declared.register.TheConstants.{INTERRUPT_ADDRESS, FIRST_INDEX_WORD, BOUNDS}
use Rattle.st_state.specs.Machine.{Machine, word}
use Rattle.st_prep.specs.declared.entries.Place.{Place}
use Rattle.st_prep.specs.declared.entries.Fetched.{Fetched}
use Rattle.st_prep.specs.Reading.{Reading, outcome, reading_at_place}

-- the sixteen index words of a state
unfoldable pub index_words : Machine → List ℕ
index_words s = take 16 (drop FIRST_INDEX_WORD s.words)

-- ---- places

-- the address of the next instruction: for an interrupt, that of the left half of its table word
abbrev pub address_by : Option ℕ → Machine → ℕ
address_by None s = s.ic
address_by (Some i) s = 2 * ((part (word s INTERRUPT_ADDRESS) 0 18 + i) % 2 ^ 18)

-- the place of the next entry, or of the table instruction of an interrupt
unfoldable pub place_of : Machine → Option ℕ → Place
place_of s table = record { counter = s.ic; address = address_by table s; table = table }

-- ---- fetching

-- the reading of the entry at a place with these index words, as the bounds of a state allow it
abbrev pub reading_by : List ℕ → Machine → Place → Reading
reading_by x s place = reading_at_place x (word s BOUNDS) s.enabled place

-- the reading of the entry at a place in a state
abbrev pub reading_of : Machine → Place → Reading
reading_of s place = reading_by (index_words s) s place

-- the result of fetching at a place in a state
unfoldable pub words_fetched : Machine → Place → Fetched
words_fetched s place = outcome (reading_of s place) (word s)
