-- Laws of the reads of the fetch unit.
--
-- Proved: each law has its lemma in proofs/Laws.antt, with its name in small letters.
-- Claimed: docs/CLAIMS.md names EntriesArePlannedInTime, ReadsSoFarComeFirst, ReadsSoFarGiveTheBus.
-- Change: docs/promises.txt lists each law, and the gate compares the list with the laws.
use Rattle.std.specs.Prelude.{◌≡◌, ℕ, List, [], ◌++◌, ◌≤◌, Option, true, false, ◌<◌}
use Rattle.st_state.specs.Machine.{Machine}
use Rattle.st_rows.specs.Asked.{bus_after_reads, prepared_asked}
use Rattle.st_prep.specs.Fetch.{place_of}
use Rattle.st_rows.specs.Rows.{tick_a, wanted_from, reads_of_entry}
use Rattle.st_rows.specs.declared.issue.IssueState.{IssueState}
use Rattle.st_segment.specs.Entries.{entry}
use Rattle.st_next.specs.Progress.{IsNext, Rests, reads_so_far}
use Rattle.st_next.specs.Going.{AreLeft}
use Rattle.st_next.specs.declared.fetch_unit.FetchUnit.{FetchUnit}

-- The reads requested so far are the first reads of the entry. Of a planned entry the operands and
-- the following words remain, which are requested at P (`planned`, `behind`). If the entry is not
-- planned and rests before a tick, each remaining read is requested at that tick or later
-- (`resting`).
pub record ReadsSoFarComeFirst : Type 0 where
  pub planned : (ds : List ℕ) (n : ℕ) (t : Option ℕ) (u : Machine) (f : IssueState) (next : FetchUnit) →
      IsNext ds n t u f next → next.planned ≡ true →
      reads_of_entry ds n f (entry t u) ≡ reads_so_far ds f next
      ++ prepared_asked ds n f (entry t u)
  pub behind : (ds : List ℕ) (n : ℕ) (t : Option ℕ) (u : Machine) (f : IssueState) (next : FetchUnit) →
      IsNext ds n t u f next → next.planned ≡ true →
      AreLeft ds n next.formed.p t u f next
  pub resting : (ds : List ℕ) (n now : ℕ) (t : Option ℕ) (u : Machine) (f : IssueState) (next : FetchUnit) →
      IsNext ds n t u f next → next.planned ≡ false → Rests now t u f next →
      AreLeft ds n now t u f next

-- In sequence, the reads so far give the bus of the fetch unit: the one after the words so far, or,
-- of a planned entry, after the index-side word.
abbrev pub ReadsSoFarGiveTheBus : Type 0
ReadsSoFarGiveTheBus = (ds : List ℕ) (n : ℕ) (t : Option ℕ) (u : Machine) (f : IssueState)
    (next : FetchUnit) →
    IsNext ds n t u f next → bus_after_reads ds (reads_so_far ds f next) f.bus ≡ next.words.bus

-- If an entry is not planned and rests before a tick, its address is formed after that tick. So no
-- entry is planned too late.
abbrev pub EntriesArePlannedInTime : Type 0
EntriesArePlannedInTime = (ds : List ℕ) (n now : ℕ) (t : Option ℕ) (u : Machine) (f : IssueState)
    (next : FetchUnit) →
    IsNext ds n t u f next → next.planned ≡ false → Rests now t u f next →
    now < tick_a ds f (entry t u)

-- An entry with no word requested is the next entry of every state with its place (`next`). It
-- rests before its first request tick (`rests`), and has no reads so far (`reads`).
pub record EntriesBeginAnywhere : Type 0 where
  pub next : (ds : List ℕ) (n : ℕ) (t : Option ℕ) (u : Machine) (f : IssueState) (next : FetchUnit) →
      next.place ≡ place_of u t → next.entry.own ≡ record { first = 0; len = 0 } →
      next.entry.target ≡ record { first = 0; len = 0 } →
      next.words ≡ record { bus = f.bus; answered = 0; awaited = 0 } →
      next.planned ≡ false → IsNext ds n t u f next
  pub rests : (now : ℕ) (t : Option ℕ) (u : Machine) (f : IssueState) (next : FetchUnit) →
      next.planned ≡ false → now ≤ wanted_from f → Rests now t u f next
  pub reads : (ds : List ℕ) (f : IssueState) (next : FetchUnit) → next.entry.own ≡ record { first = 0; len = 0 } →
      next.entry.target ≡ record { first = 0; len = 0 } → next.planned ≡ false →
      reads_so_far ds f next ≡ []
