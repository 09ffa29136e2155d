-- The words of runs, and the completion tick of the latest writer of a word.
--
-- Proved: by their `ensures` clauses these calls do what definitions here say: `keep_words`
-- (past.rt), `has` (entry.rt), `widened_by` (past.rt), `any` (entry.rt), and others.
-- Read by: definitions in Supplies, Levels, Rows, Uses, and others.
-- Laws: RowsAreInOrder (specs/Laws.antt), WritersAreSeen (specs/Laws.antt of st_ring),
-- InstructionWordsAreThoseOfTheRun (specs/Laws.antt of st_ahead).
-- Change: the meaning is fixed by docs/timetable.md, since the contracts of `st_top::stretch` and
-- `st_account::ledger` unfold to a definition here. The form is free, with the proofs that unfold
-- it.
use Rattle.std.specs.Prelude.{◌≡◌, ℕ, ◌<◌, ◌≤◌, true, false, All, length, ◌+◌, ◌*◌, Bool, ◌&&◌, ◌||◌, nat_lt, nat_le, if◌then◌else◌, List, [], ◌∷◌, map, get_or}
use Rattle.st_fetch.specs.Queue.{window}
use Rattle.st_rows.specs.declared.entry.WordRun.{WordRun}
use Rattle.st_rows.specs.declared.entry.WordRuns.{WordRuns}
use Rattle.st_rows.specs.declared.past.Past.{Past}
use Rattle.st_rows.specs.declared.past.Done.{Done}

-- the word w is in a run
unfoldable pub is_in : ℕ → WordRun → Bool
is_in w run = nat_le run.first w && nat_lt w (run.first + run.len)

-- the word w is in one of two runs
unfoldable pub is_among : ℕ → WordRuns → Bool
is_among w runs = is_in w runs.one || is_in w runs.two

-- the empty run
abbrev pub no_run : WordRun
no_run = record { first = 0; len = 0 }

-- two empty runs
abbrev pub no_runs : WordRuns
no_runs = record { one = no_run; two = no_run }

-- whether two runs have any word
abbrev pub has_words : WordRuns → Bool
has_words runs = nat_lt 0 runs.one.len || nat_lt 0 runs.two.len

-- one bit per entry, the lowest for the newest: whether the entry writes any word
unfoldable pub writer_bits : List Past → ℕ
writer_bits [] = 0
writer_bits (entry ∷ past) = 2 * writer_bits past + (if has_words entry.writes then 1 else 0)

-- the completion tick of the latest entry (the first in the list) that writes w, 0 if none does
unfoldable pub latest_done : List Past → ℕ → ℕ
latest_done [] w = 0
latest_done (entry ∷ past) w = if is_among w entry.writes then entry.c else latest_done past w

-- the word w is below low or not below high
abbrev pub is_outside : ℕ → ℕ → ℕ → Bool
is_outside low high w = nat_lt w low || nat_le high w

-- the content of an unused place
abbrev pub no_entry : Done
no_entry = record { c = 0; entry = record { marker = record {}; value = record { c = 0; writes = no_runs } } }

-- the entries in the places of a ring, and their completion ticks
abbrev pub entries_in : List Done → List Past
entries_in places = map (λ place. place.entry.value) places

abbrev pub ticks_in : List Done → List ℕ
ticks_in places = map (λ place. place.c) places

-- the entry in a place; past the end, one without words
abbrev pub entry_in : List Past → ℕ → Past
entry_in entries i = get_or entries i (record { c = 0; writes = no_runs })

-- a ring of eight entries with the newest one at head: their ticks, the words of those that write
-- any, one bit per entry, and bounds of all words from 32 up that they write
pub record IsEntryRing (head : ℕ) (entries : List Past) (done : List ℕ) (writes : List WordRuns) (bits low high : ℕ) : Type 0 where
  pub inside : head < 8
  pub whole : length entries ≡ 8
  pub wide : length writes ≡ 8
  pub ticks : done ≡ map (λ entry. entry.c) entries
  pub words : (i : ℕ) → i < 8 → has_words (entry_in entries i).writes ≡ true →
      get_or writes i no_runs ≡ (entry_in entries i).writes
  pub writers : bits ≡ writer_bits (window head 8 entries)
  pub bounds : (w : ℕ) → 32 ≤ w → is_outside low high w ≡ true →
      All (λ entry. is_among w entry.writes ≡ false) (window head 8 entries)
