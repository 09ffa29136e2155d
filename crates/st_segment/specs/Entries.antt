-- The next entry of a state, as the timetable sees it.
--
-- Proved: by their `ensures` clauses these calls do what definitions here say: `above_registers`
-- (runs.rt), `side_to_read` (runs.rt), `words_to_read` (runs.rt), `words_to_write` (runs.rt), and
-- others.
-- Read by: definitions in Ahead, Alone, Going of st_next, Levels of st_ring, and others.
-- Laws: EntriesAreKnownEarly (specs/Laws.antt), EntriesAreInRange (specs/Laws.antt),
-- SignalsArePassedOver (specs/Laws.antt), LevelsAreTheEntriesAhead (specs/Laws.antt of st_ring),
-- and others.
-- Change: the meaning is fixed by docs/timetable.md, since the contracts of `st_top::stretch` and
-- `st_account::ledger` unfold to a definition here. The form is free, with the proofs that unfold
-- it.
use Rattle.std.specs.Prelude.{ℕ, ◌-◌, suc, ◌&&◌, nat_le, if◌then◌else◌, is_none, List, [], ◌∷◌, length, take, drop, Option, None, Some}
use Rattle.st_bits.specs.declared.register.TheConstants.{FIRST_STORAGE_WORD}
use Rattle.st_state.specs.Machine.{Machine, word}
use Rattle.st_prep.specs.Fetch.{place_of, reading_of, words_fetched}
use Rattle.st_prep.specs.Plan.{needs, decode_context, plan}
use Rattle.st_prep.specs.Reading.{Reading, words_read, own_words}
use Rattle.st_prep.specs.declared.entries.Needs.{Needs}
use Rattle.st_prep.specs.declared.entries.Prepared.{Prepared}
use Rattle.st_prep.specs.declared.entries.Words.{Words}
use Rattle.st_rows.specs.declared.entry.WordRun.{WordRun}
use Rattle.st_rows.specs.declared.entry.WordRuns.{WordRuns}
use Rattle.st_rows.specs.declared.entry.Entry.{Entry}
use Rattle.st_rows.specs.Entries.{no_run}

-- consecutive words, as a run
unfoldable pub run_of : List ℕ → WordRun
run_of [] = no_run
run_of (w ∷ ws) = record { first = w; len = suc (length ws) }

-- ---- the words of data

-- a run of words without the registers at its start, which make no read
unfoldable pub above_registers : ℕ → ℕ → WordRun
above_registers first n = if nat_le FIRST_STORAGE_WORD first then record { first = first; len = n }
    else record { first = FIRST_STORAGE_WORD; len = n - (FIRST_STORAGE_WORD - first) }

-- the operand words that are read from storage
unfoldable pub words_to_read : Words → WordRuns
words_to_read w =
    record { one = above_registers w.first w.len; two = above_registers w.first2 w.len2 }

-- the words that are written, registers included
abbrev pub words_to_write : Words → WordRuns
words_to_write w = record {
  one = record { first = w.first; len = w.len };
  two = record { first = w.first2; len = w.len2 };
}

-- the index-side word, if it is read from storage
unfoldable pub side_to_read : Option ℕ → Option ℕ
side_to_read None = None
side_to_read (Some w) = if nat_le FIRST_STORAGE_WORD w then Some w else None

-- ---- from the fetched and prepared entry

-- an entry of its words, those of the target of EX, its needs, its preparation, the indicator of
-- its interrupt if it is a table instruction, and the indicator of a word that may not be fetched
abbrev pub entry_with : WordRun → WordRun → Needs → Prepared → Option ℕ → Option ℕ → Entry
entry_with own target needed prepared table forbidden = record {
  own = own;
  target = target;
  side = side_to_read needed.index_read;
  reads = words_to_read prepared.reads;
  writes = words_to_write prepared.writes;
  cost = prepared.cost;
  serial = prepared.serial;
  follows = is_none table && is_none forbidden;
}

-- ---- from a state

module _ (table : Option ℕ) (s : Machine) where
  -- the reading of the next entry of a state, or of its table instruction
  abbrev pub reading_at : Reading
  reading_at = reading_of s (place_of s table)

  -- the instruction words of the entry, in order
  unfoldable pub instruction_words : List ℕ
  instruction_words = words_read reading_at (word s)

  -- the number of the entry's own instruction words, without those of the target of EX
  unfoldable pub own_count : ℕ
  own_count = own_words reading_at (word s)

  -- the next entry of a state, or its table instruction
  unfoldable pub entry : Entry
  entry = let place = place_of s table in
      let own = run_of (take own_count instruction_words) in
      let target = run_of (drop own_count instruction_words) in
      let forbidden = (words_fetched s place).fault in
      entry_with own target (needs (decode_context s place)) (plan s table) table forbidden
