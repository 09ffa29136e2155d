-- The look-ahead between the steps of an advance.
--
-- Proved: by their `ensures` clauses these calls do what definitions here say: `go_to`
-- (lookahead_going.rt), `is_next_before` (lookahead_going.rt), `plan_before` (lookahead_going.rt),
-- `push` (lookahead_going.rt).
-- Laws: PlannedEntriesBecomeLevels (specs/Laws.antt).
-- Change: no page fixes these definitions, since no contract of a program unfolds to them; they
-- change together with the clauses, definitions and laws that name them. docs/inside.md describes
-- the subject.
use Rattle.std.specs.Prelude.{ℕ, ◌≡◌, ◌+◌, ◌-◌, ◌^◌, ◌≤◌, ◌<◌, true, List, Option, None, Some}
use Rattle.st_bits.specs.Indicators.{IsIndicatorIfAny}
use Rattle.st_state.specs.Machine.{Machine}
use Rattle.st_rows.specs.Ranges.{IsEntryInTime}
use Rattle.st_rows.specs.Rows.{row_of_entry}
use Rattle.st_rows.specs.declared.issue.IssueState.{IssueState}
use Rattle.st_segment.specs.Entries.{entry}
use Rattle.st_segment.specs.Predictions.{predictions, table_behind}
use Rattle.st_segment.specs.Alone.{RunAhead}
use Rattle.st_next.specs.Known.{IsStateBefore}
use Rattle.st_next.specs.Progress.{IsNext}
use Rattle.st_ahead.specs.Forecast.{LookaheadView, IsForecast, IsOutlook, count}

-- a planned entry has its P at the tick `due` or later, or after the tick `last`
abbrev pub WaitsFor : ℕ → ℕ → LookaheadView → Type 0
WaitsFor due last v = v.next.planned ≡ true → v.next.formed.p < due → v.next.formed.p ≤ last → ⊥

module _ (ds : List ℕ) (n : ℕ) where
  -- entries are prepared and completed up to the tick `now`, and nothing more of the next one can
  -- be known before the tick `rest`
  abbrev pub IsGoing : ℕ → ℕ → Option ℕ → Machine → IssueState → LookaheadView → Type 0
  IsGoing now rest t s f v = IsForecast ds n now (now + 1) now rest t s f v

  -- `IsGoing` holds for some indicator and issue state
  pub record Goes (now rest : ℕ) (s : Machine) (v : LookaheadView) : Type 0 where
    pub table : Option ℕ
    pub issue : IssueState
    pub going : IsGoing now rest table s issue v

  -- the look-ahead has advanced to some tick, not after `last`
  pub record Reaches (last : ℕ) (s : Machine) (v : LookaheadView) : Type 0 where
    pub tick : ℕ
    pub goes : Goes tick tick s v
    pub soon : tick ≤ last

  module _ (since last : ℕ) (t : Option ℕ) (s : Machine) (f : IssueState) (v : LookaheadView) where
    -- the look-ahead with t and f has advanced to some tick from `since` to `last`
    pub record GoesUpTo : Type 0 where
      pub tick : ℕ
      pub going : IsGoing tick tick t s f v
      pub behind : since ≤ tick
      pub soon : tick ≤ last

    -- the oldest entry completes at the tick `due`, after `since` and not after `last`, and the
    -- look-ahead has advanced to the tick before
    pub record IsDueAt (due : ℕ) : Type 0 where
      pub later : since < due
      pub soon : due ≤ last
      pub some : 1 ≤ count v
      pub row_is : (row_of_entry ds n f (entry t s)).c ≡ due
      pub lookahead : IsOutlook ds n (due - 1) due t s f v

    -- the look-ahead has advanced to the completion of the oldest entry, or over the tick `last`
    abbrev pub HasGone : Option ℕ → Type 0
    HasGone (Some due) = IsDueAt due
    HasGone None = IsOutlook ds n last (last + 1) t s f v

  -- the next entry becomes a level at this tick, its P: no level is serializing, and there is room;
  -- if the entry is serializing, all entries before it are completed
  pub record BecomesLevel (now : ℕ) (t : Option ℕ) (s : Machine) (f : IssueState)
      (v : LookaheadView) : Type 0 where
    pub run : RunAhead (count v) t s
    pub before : IsStateBefore now v.issue.past v.levels.x s (predictions (count v) t s)
    pub is_next : IsNext ds n (table_behind (count v) t) (predictions (count v) t s) v.issue v.next
    pub indicator : IsIndicatorIfAny (table_behind (count v) t)
    pub range : IsEntryInTime v.next.entry
    pub alone : v.next.entry.serial ≡ true → predictions (count v) t s ≡ s
    pub room : count v < n
    pub early : v.issue.c ≤ 2 ^ 63 + 2 ^ 18
