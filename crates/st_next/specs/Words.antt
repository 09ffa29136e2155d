-- The instruction words of an entry that are requested so far.
--
-- Proved: by their `ensures` clauses these calls do what definitions here say: `ask_own`
-- (fetch_unit.rt), `ask_target` (fetch_unit.rt), `with_word` (fetch_unit.rt).
-- Read by: definitions in Progress, Told.
-- Laws: none names a definition of this file itself.
-- Change: no page fixes these definitions, since no contract of a program unfolds to them; they
-- change together with the clauses, definitions and laws that name them. docs/inside.md describes
-- the subject.
use Rattle.std.specs.Prelude.{ℕ, ◌≡◌, ◌+◌, ◌≤◌, ◌==◌, false, if◌then◌else◌, List, None}
use Rattle.st_rows.specs.Entries.{no_runs}
use Rattle.st_rows.specs.Rows.{words_tick}
use Rattle.st_rows.specs.Asked.{fetches_asked}
use Rattle.st_rows.specs.BusTimes.{Read}
use Rattle.st_rows.specs.declared.entry.WordRun.{WordRun}
use Rattle.st_rows.specs.declared.entry.Entry.{Entry}
use Rattle.st_rows.specs.declared.fetching.Fetching.{Fetching}
use Rattle.st_rows.specs.declared.issue.IssueState.{IssueState}

-- ---- the words so far: own words of the entry, and after all of these, words of its target

-- an entry with these instruction words and no other words
abbrev pub words_alone : WordRun → WordRun → Entry
words_alone own target = record {
  own = own;
  target = target;
  side = None;
  reads = no_runs;
  writes = no_runs;
  cost = 1;
  serial = false;
  follows = false;
}

-- the bus, the answers and the awaited completions after the words so far
abbrev pub words_so_far : List ℕ → IssueState → WordRun → WordRun → Fetching
words_so_far ds f own target = words_tick ds f (words_alone own target)

-- the reads of the words so far
abbrev pub asked_so_far : List ℕ → IssueState → WordRun → WordRun → List Read
asked_so_far ds f own target = fetches_asked ds f (words_alone own target)

-- the first words of a run
pub record IsStart (part whole : WordRun) : Type 0 where
  pub few : part.len ≤ whole.len
  pub first : 1 ≤ part.len → part.first ≡ whole.first
  pub none : part.len ≡ 0 → part.first ≡ 0

-- the first words of an entry; words of the target follow all its own words
pub record AreFirstWords (own target : WordRun) (e : Entry) : Type 0 where
  pub own_start : IsStart own e.own
  pub target_start : IsStart target e.target
  pub all_own : 1 ≤ target.len → own ≡ e.own

-- a run with one more word
abbrev pub run_with_word : WordRun → ℕ → WordRun
run_with_word run w = record { first = if run.len == 0 then w else run.first; len = run.len + 1 }
