-- Laws of levels that are the entries in flight after a state.
--
-- Proved: each law has its lemma in proofs/Laws.antt, with its name in small letters.
-- Change: docs/promises.txt lists each law, and the gate compares the list with the laws.
use Rattle.std.specs.Prelude.{◌≡◌, ℕ, ◌+◌, ◌<◌, ◌≤◌, true, false, List, [], length, All, Option, None}
use Rattle.st_bits.specs.Indicators.{IsIndicatorIfAny}
use Rattle.st_state.specs.Machine.{Machine, IsMachine, word}
use Rattle.st_prep.specs.Fetch.{index_words}
use Rattle.st_prep.specs.BesideOrders.{AreAlikeBesideOrders}
use Rattle.st_rows.specs.Entries.{latest_done}
use Rattle.st_rows.specs.Rows.{row_of_entry, issue_after_entry}
use Rattle.st_rows.specs.declared.issue.IssueState.{IssueState}
use Rattle.st_segment.specs.Entries.{entry}
use Rattle.st_segment.specs.Predictions.{predictions, table_behind}
use Rattle.st_segment.specs.Ahead.{ahead, issue_behind, prepared_before}
use Rattle.st_segment.specs.Alone.{RunAhead, is_word_written}
use Rattle.st_ring.specs.Levels.{LevelsView, AreAhead, AreNotDone, is_oldest_due, oldest_issue}

-- The last issue state is the one after all levels (`issue`), and the oldest level is issued from
-- the first one (`oldest`). If all levels are prepared before a tick, and the next entry is not,
-- the levels are the entries that are prepared before it (`prepared`).
pub record LevelsAreTheEntriesAhead : Type 0 where
  pub issue : (ds : List ℕ) (n tick : ℕ) (t : Option ℕ) (s : Machine) (f last : IssueState)
      (v : LevelsView) →
      AreAhead ds n tick t s f last v → last ≡ issue_behind ds n (length v.ring) t s f
  pub oldest : (ds : List ℕ) (n tick : ℕ) (t : Option ℕ) (s : Machine) (f last : IssueState)
      (v : LevelsView) →
      AreAhead ds n tick t s f last v → oldest_issue v.plans last ≡ f
  pub prepared : (ds : List ℕ) (n tick now m : ℕ) (t : Option ℕ) (s : Machine)
      (f last : IssueState) (v : LevelsView) →
      AreAhead ds n tick t s f last v → All (λ level. level.p < now) v.ring →
      let k = length v.ring in
      now ≤ (row_of_entry ds n last (entry (table_behind k t) (predictions k t s))).p → k ≤ m →
      (prepared_before now (ahead ds n m t s f) ≡ ahead ds n k t s f)
      × (length (prepared_before now (ahead ds n m t s f)) ≡ k)

-- If at least two levels are prepared before a tick and none completes before it, none is
-- serializing: a serializing entry, and the entry after it, await the completion before them.
abbrev pub LevelsThatAreNotDoneRunAhead : Type 0
LevelsThatAreNotDoneRunAhead = (ds : List ℕ) (n tick now : ℕ) (t : Option ℕ) (s : Machine)
    (f last : IssueState)
    (v : LevelsView) →
    AreAhead ds n tick t s f last v → All (λ level. level.p < now) v.ring →
    All (λ q. now ≤ q.c) v.plans →
    2 ≤ length v.ring → RunAhead (length v.ring) t s

-- The entries that an issue state records, after at most eight uncompleted levels, show the words
-- that these levels write: if the latest writer of a word has completed, no level writes it
-- (`written`, `last`), and the predicted state has the word of the state (`words`).
pub record WritersAreSeen : Type 0 where
  pub written : (ds : List ℕ) (n tick now j w : ℕ) (t : Option ℕ) (s : Machine)
      (f last : IssueState) (v : LevelsView) →
      AreAhead ds n tick t s f last v → AreNotDone now v → j ≤ length v.ring → length v.ring ≤ 8 →
      latest_done (issue_behind ds n j t s f).past w ≤ now → is_word_written j t s w ≡ false
  pub last : (ds : List ℕ) (n tick now w : ℕ) (t : Option ℕ) (s : Machine) (f last : IssueState)
      (v : LevelsView) →
      AreAhead ds n tick t s f last v → AreNotDone now v → length v.ring ≤ 8 →
      latest_done last.past w ≤ now → is_word_written (length v.ring) t s w ≡ false
  pub words : (ds : List ℕ) (n tick now w : ℕ) (t : Option ℕ) (s : Machine) (f last : IssueState)
      (v : LevelsView) →
      IsMachine s → IsIndicatorIfAny t →
      AreAhead ds n tick t s f last v → AreNotDone now v → length v.ring ≤ 8 → 32 ≤ w →
      latest_done last.past w ≤ now → word (predictions (length v.ring) t s) w ≡ word s w

-- After a signal, or an order without a card, levels that are not serializing are still the entries
-- in flight.
abbrev pub LevelsPassSignalsOver : Type 0
LevelsPassSignalsOver = (ds : List ℕ) (n tick : ℕ) (s u : Machine) (f last : IssueState)
    (v : LevelsView) →
    IsMachine s →
    AreAlikeBesideOrders s u → RunAhead (length v.ring) None s →
    AreAhead ds n tick None s f last v →
    AreAhead ds n tick None u f last v

-- Levels are prepared in order, up to P of the last issue state, and complete in order, up to its
-- C. No level completes before the oldest one, whose C is that of the issue state after it.
pub record LevelsComeInOrder : Type 0 where
  pub prepared : (ds : List ℕ) (n tick : ℕ) (t : Option ℕ) (s : Machine) (f last : IssueState)
      (v : LevelsView) →
      AreAhead ds n tick t s f last v → All (λ level. (f.p < level.p) ×
      (level.p ≤ last.p)) v.ring
  pub completed : (ds : List ℕ) (n tick : ℕ) (t : Option ℕ) (s : Machine) (f last : IssueState)
      (v : LevelsView) →
      IsMachine s → IsIndicatorIfAny t → AreAhead ds n tick t s f last v →
      All (λ q. (f.c < q.c) × (q.c ≤ last.c)) v.plans
  pub behind : (ds : List ℕ) (n tick now : ℕ) (t : Option ℕ) (s : Machine) (f last : IssueState)
      (v : LevelsView) →
      IsMachine s → IsIndicatorIfAny t → AreAhead ds n tick t s f last v → now ≤ f.c →
      AreNotDone now v
  pub waits : (ds : List ℕ) (n tick now : ℕ) (t : Option ℕ) (s : Machine) (f last : IssueState)
      (v : LevelsView) →
      IsMachine s → IsIndicatorIfAny t → AreAhead ds n tick t s f last v → AreNotDone now v →
      is_oldest_due v.plans (now + 1) ≡ false → AreNotDone (now + 1) v
  pub due : (ds : List ℕ) (n tick now : ℕ) (t : Option ℕ) (s : Machine) (f last : IssueState)
      (v : LevelsView) →
      AreAhead ds n tick t s f last v → is_oldest_due v.plans now ≡ true →
      (0 < length v.ring) × ((row_of_entry ds n f (entry t s)).c ≡ now) ×
      ((issue_after_entry ds n f (entry t s)).c ≡ now)

-- Without levels nothing is in flight: the last issue state is the first one, and the index words
-- are those of the state.
pub record NothingIsAheadWithoutLevels : Type 0 where
  pub none : (ds : List ℕ) (n tick : ℕ) (t : Option ℕ) (s : Machine) (f : IssueState)
      (x : List ℕ) →
      x ≡ index_words s → AreAhead ds n tick t s f f (record { ring = []; plans = []; x = x })
  pub only : (ds : List ℕ) (n tick : ℕ) (t : Option ℕ) (s : Machine) (f last : IssueState)
      (v : LevelsView) →
      AreAhead ds n tick t s f last v → length v.ring ≡ 0 → (last ≡ f) × (v.x ≡ index_words s)
