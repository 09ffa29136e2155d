-- Laws of the look-ahead.
--
-- Proved: each law has its lemma in proofs/Laws.antt, with its name in small letters.
-- Claimed: docs/CLAIMS.md names InstructionWordsAreThoseOfTheRun, TheBanksAreLeft.
-- Change: docs/promises.txt lists each law, and the gate compares the list with the laws.
use Rattle.std.specs.Prelude.{◌≡◌, ℕ, ◌+◌, ◌<◌, ◌≤◌, ◌^◌, true, List, ◌++◌, map, Option, All, suc, None}
use Rattle.st_bits.specs.Indicators.{IsIndicatorIfAny}
use Rattle.st_bits.specs.declared.limits.TheConstants.{MOST_DELAY}
use Rattle.st_state.specs.Machine.{Machine, IsMachine, word}
use Rattle.st_prep.specs.Fetch.{place_of, words_fetched as fetched_at}
use Rattle.st_rows.specs.Entries.{latest_done}
use Rattle.st_rows.specs.Ranges.{AreDelaysUpTo}
use Rattle.st_rows.specs.declared.issue.IssueState.{IssueState}
use Rattle.st_segment.specs.Predictions.{predictions, table_behind}
use Rattle.st_segment.specs.Alone.{RunAhead, words_of_run}
use Rattle.st_ring.specs.Levels.{AreAhead, AreNotDone}
use Rattle.st_next.specs.Known.{IsStateBefore}
use Rattle.st_ahead.specs.Forecast.{LookaheadView, IsLookahead, is_open, count, IsOutlook, IsOpened}
use Rattle.st_ahead.specs.Going.{IsGoing, BecomesLevel}
use Rattle.st_banks.specs.declared.answers.LastAnswers.{LastAnswers}
use Rattle.st_prep.specs.BesideOrders.{AreAlikeBesideOrders}
use Rattle.st_exec.specs.Completion.{prediction}
use Rattle.st_rows.specs.Asked.{made_before}
use Rattle.st_rows.specs.Notes.{answers_left}
use Rattle.st_rows.specs.Rows.{opening_issue, row_of_entry, issue_after_entry, reads_of_entry}
use Rattle.st_segment.specs.Entries.{entry}
use Rattle.st_segment.specs.Ahead.{ahead, prepared_before, reads_before}

-- If the next entry can be known, no level is serializing.
abbrev pub OpenLevelsRunAhead : Type 0
OpenLevelsRunAhead = (ds : List ℕ) (n now : ℕ) (t : Option ℕ) (s : Machine) (f : IssueState)
    (v : LookaheadView) →
    AreAhead ds n now t s f v.issue v.levels → All (λ level. level.p < now + 1) v.levels.ring →
    AreNotDone now v.levels → is_open v ≡ true → RunAhead (count v) t s

-- Without a serializing level, the state has the known part of the state before the next entry.
abbrev pub NextEntriesAreKnown : Type 0
NextEntriesAreKnown = (ds : List ℕ) (n tick now : ℕ) (t : Option ℕ) (s : Machine) (f : IssueState)
    (v : LookaheadView) →
    IsMachine s → IsIndicatorIfAny t → AreAhead ds n tick t s f v.issue v.levels →
    AreNotDone now v.levels → count v ≤ 8 → RunAhead (count v) t s →
    IsStateBefore now v.issue.past v.levels.x s (predictions (count v) t s)

-- A planned entry becomes a level at its P.
abbrev pub PlannedEntriesBecomeLevels : Type 0
PlannedEntriesBecomeLevels = (ds : List ℕ) (n now : ℕ) (t : Option ℕ) (s : Machine) (f : IssueState)
    (v : LookaheadView) →
    1 ≤ n → n ≤ 8 → AreDelaysUpTo MOST_DELAY ds → count v ≤ n → now < 2 ^ 63 →
    IsGoing ds n now (now + 1) t s f v → v.next.planned ≡ true → v.next.formed.p ≡ now →
    BecomesLevel ds n now t s f v

-- An instruction word, held or in flight, has at its use the content of the predicted run. At a
-- tick by which the writers of a word have completed, the state and the predicted state before the
-- next entry agree in it (`held`). So they agree in the requested words of the next entry, which is
-- then decoded from them (`words`). A planned entry is fetched as in the predicted state
-- (`fetched`).
pub record InstructionWordsAreThoseOfTheRun : Type 0 where
  pub held : (ds : List ℕ) (n now w : ℕ) (t : Option ℕ) (s : Machine) (f : IssueState)
      (v : LookaheadView) →
      count v ≤ 8 → IsLookahead ds n now now t s f v → is_open v ≡ true → 32 ≤ w →
      latest_done v.issue.past w ≤ now →
      word s w ≡ word (predictions (count v) t s) w
  pub words : (ds : List ℕ) (n now : ℕ) (t : Option ℕ) (s : Machine) (f : IssueState)
      (v : LookaheadView) →
      count v ≤ 8 → IsLookahead ds n now now t s f v → is_open v ≡ true →
      v.next.words.awaited ≤ now →
      let words = words_of_run v.next.entry.own ++ words_of_run v.next.entry.target in
      map (word s) words ≡ map (word (predictions (count v) t s)) words
  pub fetched : (ds : List ℕ) (n tick now : ℕ) (t : Option ℕ) (s : Machine) (f : IssueState)
      (v : LookaheadView) →
      IsLookahead ds n tick now t s f v → v.next.planned ≡ true →
      let u = predictions (count v) t s in
      v.next.fetched.value ≡ fetched_at u (place_of u (table_behind (count v) t))

-- The opening of a segment is a look-ahead at each tick up to the start of the segment.
abbrev pub OpeningsLookAhead : Type 0
OpeningsLookAhead = (ds : List ℕ) (n tick now start : ℕ) (t : Option ℕ) (s : Machine)
    (banks : LastAnswers) (v : LookaheadView) →
    IsOpened t s (opening_issue banks start) v → IsMachine s → IsIndicatorIfAny t →
    All (λ b. b ≤ start + MOST_DELAY) banks.ticks → now ≤ start → start ≤ now + 9 →
    IsLookahead ds n tick now t s (opening_issue banks start) v

-- A signal, and an order without a card, preserve the look-ahead after a completion (`lookahead`),
-- and an opening (`opening`).
pub record SignalsLeaveLookaheads : Type 0 where
  pub lookahead : (ds : List ℕ) (n tick now : ℕ) (s u : Machine) (f : IssueState) (v : LookaheadView) →
      1 ≤ n → n ≤ 8 → AreDelaysUpTo MOST_DELAY ds → IsLookahead ds n tick now None s f v →
      AreNotDone now v.levels → f.c ≡ now →
      IsMachine u → AreAlikeBesideOrders s u → IsLookahead ds n tick now None u f v
  pub opening : (t : Option ℕ) (s u : Machine) (f : IssueState) (v : LookaheadView) →
      IsOpened t s f v → AreAlikeBesideOrders s u → IsOpened t u f v

-- The levels are the entries that are prepared before the tick.
abbrev pub LookaheadsAreLevels : Type 0
LookaheadsAreLevels = (ds : List ℕ) (n tick now : ℕ) (t : Option ℕ) (s : Machine) (f : IssueState)
    (v : LookaheadView) →
    1 ≤ n → n ≤ 8 → AreDelaysUpTo MOST_DELAY ds → now ≤ tick + 1 → count v ≤ n →
    IsLookahead ds n tick now t s f v →
    prepared_before now (ahead ds n n t s f) ≡ ahead ds n (count v) t s f

-- At the completion of the oldest entry, undoing the reads that are accepted then or later gives
-- the last answers of the banks after the other reads of this entry and of the entries after it.
-- These answers are at most 255 ticks later.
abbrev pub TheBanksAreLeft : Type 0
TheBanksAreLeft = (ds : List ℕ) (n tick now : ℕ) (t : Option ℕ) (s : Machine) (f : IssueState)
    (v : LookaheadView) →
    1 ≤ n → n ≤ 8 → AreDelaysUpTo MOST_DELAY ds → now ≡ tick + 1 → count v ≤ n → 1 ≤ count v →
    IsOutlook ds n tick now t s f v →
    (row_of_entry ds n f (entry t s)).c ≡ now →
    ((made_before ds now (reads_of_entry ds n f (entry t s) ++ reads_before ds n now
    (ahead ds n (suc n) None (prediction t s) (issue_after_entry ds n f (entry t s)))) f.bus).banks.ticks
    ≡ answers_left now v.log v.next.words.bus.banks.ticks)
    × All (λ b. b ≤ now + MOST_DELAY) (answers_left now v.log v.next.words.bus.banks.ticks)
