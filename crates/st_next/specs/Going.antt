-- How the fetch unit advances, and the premises of its calls.
--
-- Proved: by their `ensures` clauses these calls do what definitions here say: `prepare_before`
-- (fetch_unit.rt), `prepare_own_before` (fetch_unit.rt), `advance` (fetch_unit.rt), `begin`
-- (fetch_unit.rt), and others.
-- Laws: ReadsSoFarComeFirst (specs/Laws.antt).
-- Change: no page fixes these definitions, since no contract of a program unfolds to them; they
-- change together with the clauses, definitions and laws that name them. docs/inside.md describes
-- the subject.
use Rattle.std.specs.Prelude.{ℕ, ◌≡◌, ◌+◌, ◌-◌, ◌^◌, ◌≤◌, true, List, ◌++◌, All, map, Option}
use Rattle.st_bits.specs.Indicators.{IsIndicatorIfAny}
use Rattle.st_bits.specs.declared.limits.TheConstants.{MOST_DELAY}
use Rattle.st_state.specs.Machine.{Machine, word}
use Rattle.st_prep.specs.declared.entries.Fetched.{Fetched}
use Rattle.st_prep.specs.declared.entries.Prepared.{Prepared as Plan}
use Rattle.st_prep.specs.declared.entries.Fetching.{Fetching as Given}
use Rattle.st_prep.specs.declared.entries.Fetching.TheVariants.{Found}
use Rattle.st_prep.specs.Fetch.{reading_by}
use Rattle.st_prep.specs.Plan.{decode_context_of, needs, plan}
use Rattle.st_prep.specs.Reading.{left_after, fetching_of}
use Rattle.st_rows.specs.Asked.{bus_after_reads}
use Rattle.st_rows.specs.BusTimes.{Read}
use Rattle.st_rows.specs.Notes.{log_after_reads}
use Rattle.st_rows.specs.Ranges.{IsTight, IsFetchingWithin, ArePastWithin}
use Rattle.st_rows.specs.Rows.{wanted_from, reads_of_entry}
use Rattle.st_rows.specs.declared.entry.Entry.{Entry}
use Rattle.st_rows.specs.declared.fetching.Fetching.{Fetching}
use Rattle.st_rows.specs.declared.issue.IssueState.{IssueState}
use Rattle.st_rows.specs.declared.log.Made.{Made}
use Rattle.st_segment.specs.Alone.{words_of_run}
use Rattle.st_segment.specs.Entries.{entry, entry_with}
use Rattle.st_next.specs.Known.{IsStateBefore}
use Rattle.st_next.specs.Progress.{IsNext, Rests, reads_so_far, preparation_without_side}
use Rattle.st_next.specs.declared.fetch_unit.FetchUnit.{FetchUnit}
use Rattle.st_next.specs.declared.fetch_unit.Advance.{Advance}
use Rattle.st_next.specs.declared.fetch_unit.Advance.TheVariants.{Asked, Waits, Prepared}

-- the ticks of an issue state lie close together and are early enough
pub record IsIssueInTime (f : IssueState) : Type 0 where
  pub tight : IsTight MOST_DELAY f
  pub early : f.c ≤ 2 ^ 63 + 2 ^ 20

-- for every state before the entry, the known facts stay true, and then nothing more can be known
-- before the tick `later`; the state s has the words whose writers complete by the tick `now`
pub record GoesOnTo (ds : List ℕ) (n now : ℕ) (f : IssueState) (x : List ℕ) (s : Machine)
    (before after : FetchUnit) (later : ℕ) : Type 0 where
  pub each : (t : Option ℕ) (u : Machine) → IsIndicatorIfAny t → IsStateBefore now f.past x s u
      → IsNext ds n t u f before → IsNext ds n t u f after × Rests later t u f after

-- the new reads follow those so far, on the bus of the fetch unit, and are noted in the log
pub record IsReadFurther (ds : List ℕ) (f : IssueState) (before after : FetchUnit)
    (log new : List Made) : Type 0 where
  pub added : List Read
  pub so_far : reads_so_far ds f after ≡ reads_so_far ds f before ++ added
  pub bus : after.words.bus ≡ bus_after_reads ds added before.words.bus
  pub kept : new ≡ log_after_reads ds added before.words.bus log

-- the ticks of the words so far and of the issue state leave room for one more read
pub record IsEarly (f : IssueState) (words : Fetching) : Type 0 where
  pub room : IsFetchingWithin (2 ^ 64 - 512) words
  pub before : ArePastWithin (2 ^ 64 - 512) f.past
  pub wanted : wanted_from f ≤ 2 ^ 64 - 512
  pub done : f.c ≤ 2 ^ 64 - 512

-- the entry as the timetable sees it, from its words, its needs and its preparation
abbrev pub as_entry : FetchUnit → Entry
as_entry next = entry_with next.entry.own next.entry.target next.needs next.prepared next.place.table
    next.fetched.value.fault

-- the fetch unit with a fetched instruction, prepared without the index-side word
abbrev pub prepared_as : Fetched → List ℕ → Machine → FetchUnit → FetchUnit
prepared_as fd x s next =
    let v = decode_context_of next.place fd x s in
    let m = record next { fetched = record { marker = record {}; value = fd }; needs = needs v; prepared = preparation_without_side v } in
    record m { entry = as_entry m }

-- the next word to read, or the fetched instruction, by the contents in s of the words so far
abbrev pub given_so_far : List ℕ → Machine → FetchUnit → Given
given_so_far x s next = fetching_of (left_after (reading_by x s next.place)
    (map (word s) (words_of_run next.entry.own ++ words_of_run next.entry.target)))

-- the words so far contain all of the entry, their writers complete by the tick `now`, and the
-- entry is prepared without its index-side word
pub record IsPreparedBy (now : ℕ) (x : List ℕ) (s : Machine) (next : FetchUnit) : Type 0 where
  pub found : given_so_far x s next ≡ Found next.fetched.value
  pub done : next.words.awaited ≤ now
  pub prepared : next ≡ prepared_as next.fetched.value x s next

-- the number of words requested so far
abbrev pub count_so_far : FetchUnit → ℕ
count_so_far next = next.entry.own.len + next.entry.target.len

-- the effect of requesting the next word, of waiting up to the tick `due`, or of preparing the entry
unfoldable pub AdvancesTo : List ℕ → ℕ → IssueState → List ℕ → Machine → FetchUnit → FetchUnit → ℕ → Advance → Type 0
AdvancesTo ds n f x s before after due Asked =
    GoesOnTo ds n (due - 1) f x s before after 0 × (count_so_far after ≡ count_so_far before + 1)
AdvancesTo ds n f x s before after due Waits = GoesOnTo ds n (due - 1) f x s before after due
AdvancesTo ds n f x s before after due Prepared =
    GoesOnTo ds n (due - 1) f x s before after 0 × IsPreparedBy (due - 1) x s after

-- p is the plan of every possible state before a planned entry, at the tick of its preparation
abbrev pub IsPlanAtItsTick : List ℕ → Machine → FetchUnit → Plan → Type 0
IsPlanAtItsTick x s next p = (ds : List ℕ) (n now : ℕ) (f : IssueState) (t : Option ℕ) (u : Machine) →
    IsIndicatorIfAny t → IsStateBefore now f.past x s u → IsNext ds n t u f next →
    now ≡ next.formed.p → ((entry t u).serial ≡ true → u ≡ s) → p ≡ plan u t

-- the reads so far are the first ones of the entry, and the others are requested at the tick `want`
-- or later
pub record AreLeft (ds : List ℕ) (n want : ℕ) (t : Option ℕ) (u : Machine) (f : IssueState)
    (next : FetchUnit) : Type 0 where
  pub rest : List Read
  pub reads : reads_of_entry ds n f (entry t u) ≡ reads_so_far ds f next ++ rest
  pub late : All (λ (r : Read). want ≤ r.want) rest
