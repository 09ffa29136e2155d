-- The look-ahead of a machine: its levels, the issue state after them, the log of reads, and the
-- fetch unit.
--
-- Proved: by their `ensures` clauses these calls do what definitions here say: `end`
-- (lookahead.rt), `give_up` (lookahead.rt), `fill` (lookahead_tick.rt), `tick` (lookahead_tick.rt),
-- and others.
-- Read by: definitions in Going, Inside, Running, Ticked, and others.
-- Laws: InstructionWordsAreThoseOfTheRun (specs/Laws.antt), LookaheadsAreLevels (specs/Laws.antt),
-- OpenLevelsRunAhead (specs/Laws.antt), OpeningsLookAhead (specs/Laws.antt), and others.
-- Change: no page fixes these definitions, since no contract of a program unfolds to them; they
-- change together with the clauses, definitions and laws that name them. docs/inside.md describes
-- the subject.
use Rattle.std.specs.Prelude.{ℕ, ◌≡◌, ◌+◌, ◌*◌, ◌≤◌, ◌<◌, Bool, true, false, not, ◌||◌, ◌==◌, List, [], ◌++◌, length, All, flat_map, Option}
use Rattle.st_bits.specs.Indicators.{IsIndicatorIfAny}
use Rattle.st_bits.specs.declared.limits.TheConstants.{MOST_DELAY}
use Rattle.st_state.specs.Machine.{Machine, IsMachine}
use Rattle.st_prep.specs.Fetch.{index_words, place_of}
use Rattle.st_rows.specs.Notes.{IsLogged}
use Rattle.st_rows.specs.Ranges.{IsTight, most_ticks_of_entry}
use Rattle.st_rows.specs.Rows.{reads_of_entry}
use Rattle.st_rows.specs.BusTimes.{Read}
use Rattle.st_rows.specs.declared.issue.IssueState.{IssueState}
use Rattle.st_rows.specs.declared.log.Made.{Made}
use Rattle.st_segment.specs.Ahead.{Ahead, ahead}
use Rattle.st_segment.specs.Predictions.{predictions, table_behind}
use Rattle.st_ring.specs.Levels.{LevelsView, AreAhead, AreFull, AreNotDone}
use Rattle.st_next.specs.Progress.{IsUnread, IsNext, Rests, reads_so_far}
use Rattle.st_next.specs.declared.fetch_unit.FetchUnit.{FetchUnit}

-- the view of the look-ahead
pub record LookaheadView : Type 0 where
  pub levels : LevelsView
  pub issue : IssueState
  pub log : List Made
  pub next : FetchUnit

-- the reads of the next k entries
abbrev pub asked_ahead : List ℕ → ℕ → ℕ → Option ℕ → Machine → IssueState → List Read
asked_ahead ds n k t s f =
    flat_map (λ (a : Ahead). reads_of_entry ds n a.issue a.entry) (ahead ds n k t s f)

-- whether the next entry can be known: there is no level, or the youngest is not serializing
abbrev pub is_open : LookaheadView → Bool
is_open v = (length v.levels.ring == 0) || not v.issue.serial

-- the number of levels
abbrev pub count : LookaheadView → ℕ
count v = length v.levels.ring

-- the fetch unit is at the entry after the levels; after a serializing level nothing is known of it
abbrev pub IsNextIf : Bool → List ℕ → ℕ → ℕ → Option ℕ → Machine → LookaheadView → Type 0
IsNextIf true ds n now t s v =
    IsNext ds n (table_behind (count v) t) (predictions (count v) t s) v.issue v.next
    × Rests now (table_behind (count v) t) (predictions (count v) t s) v.issue v.next
IsNextIf false ds n now t s v = IsUnread v.issue.bus v.next

-- the reads from the issue state f on: those of the levels, and those requested so far for the next
-- entry
abbrev pub reads_ahead : List ℕ → ℕ → Option ℕ → Machine → IssueState → LookaheadView → List Read
reads_ahead ds n t s f v = asked_ahead ds n (count v) t s f ++ reads_so_far ds v.issue v.next

-- v is the look-ahead of the state s, with the issue state f of the oldest uncompleted entry, and t
-- is the indicator if this is a table instruction. Levels are prepared before `now` and complete
-- after `tick`; their slots have no word that arrives after `tick`. The next entry is prepared at
-- `first` or later, and nothing more of it can be known before `rest`.
pub record IsForecast (ds : List ℕ) (n tick now first rest : ℕ) (t : Option ℕ) (s : Machine)
    (f : IssueState) (v : LookaheadView) : Type 0 where
  pub machine : IsMachine s
  pub indicator : IsIndicatorIfAny t
  pub ahead : AreAhead ds n tick t s f v.issue v.levels
  pub prepared : All (λ level. level.p < now) v.levels.ring
  pub not_done : AreNotDone tick v.levels
  pub oldest : IsTight MOST_DELAY f
  pub tight : IsTight MOST_DELAY v.issue
  pub start : f.c ≤ now + 9
  pub early : v.issue.c ≤ now + 9 + most_ticks_of_entry * count v
  pub next : IsNextIf (is_open v) ds n rest t s v
  pub late : v.next.planned ≡ true → first ≤ v.next.formed.p
  pub logged : IsLogged ds f.bus.free (reads_ahead ds n t s f v) f.bus v.log

module _ (ds : List ℕ) (n tick now : ℕ) (t : Option ℕ) (s : Machine) (f : IssueState)
    (v : LookaheadView) where
  -- the levels are the entries that are prepared before `now`
  abbrev pub IsOutlook : Type 0
  IsOutlook = IsForecast ds n tick now now now t s f v

  -- `IsOutlook`, and the slots of the levels have all words that arrive by `tick`
  pub record IsLookahead : Type 0 where
    pub outlook : IsOutlook
    pub full : AreFull ds n tick t s f v.levels.ring

-- the look-ahead at the opening of a segment, without levels
pub record IsOpened (t : Option ℕ) (s : Machine) (f : IssueState) (v : LookaheadView) : Type 0 where
  pub ring : v.levels.ring ≡ []
  pub plans : v.levels.plans ≡ []
  pub index : v.levels.x ≡ index_words s
  pub issue : v.issue ≡ f
  pub log : v.log ≡ []
  pub place : v.next.place ≡ place_of s t
  pub next : IsUnread f.bus v.next
