-- Laws of the entries in flight: of the next entry of a state, and of those after it by predicted
-- steps, in which a branch on an indicator is not taken. docs/timetable.md has the rules.
--
-- All are proved, in proofs/Laws.antt. None speaks of code: that the machine has these entries in
-- flight is proved in st_ring (`AreAhead`) and st_ahead. Proofs of st_next, st_ring, st_ahead,
-- st_refine, st_run, st_account and st_causes use the laws or their lemmas, except
-- `EntriesBehindAreSeen`, which docs/CLAIMS.md names with four others. A changed statement changes
-- docs/promises.txt.
--
-- Proved: each law has its lemma in proofs/Laws.antt, with its name in small letters.
-- Claimed: docs/CLAIMS.md names EntriesBehindAreSeen, IndexWordsRunAhead, PredictionsLeaveTheRest,
-- SignalsArePassedOver, and others.
-- Change: docs/promises.txt lists each law, and the gate compares the list with the laws.
use Rattle.std.specs.Prelude.{◌≡◌, ℕ, suc, ◌<◌, ◌≤◌, true, false, ◌++◌, [], ◌∷◌, List, Option, None}
use Rattle.std.specs.List.{AllZip}
use Rattle.st_bits.specs.Indicators.{IsIndicatorIfAny}
use Rattle.st_state.specs.Machine.{Machine, IsMachine, word}
use Rattle.st_prep.specs.declared.entries.Place.{Place}
use Rattle.st_prep.specs.SpeculativeChanges.{words_after}
use Rattle.st_prep.specs.Fetch.{index_words, place_of, reading_by, reading_of, words_fetched}
use Rattle.st_prep.specs.Plan.{decode_context_of, decode_context, needs, plan, prepared_entry, IsSeen}
use Rattle.st_prep.specs.BesideOrders.{AreAlikeBesideOrders}
use Rattle.st_exec.specs.Completion.{state_after_execution, prediction, is_mispredicted}
use Rattle.st_rows.specs.Ranges.{IsEntryInTime}
use Rattle.st_rows.specs.Asked.{own_reads}
use Rattle.st_rows.specs.declared.issue.IssueState.{IssueState}
use Rattle.st_segment.specs.Entries.{instruction_words, own_count, side_to_read, words_to_read, words_to_write, entry}
use Rattle.st_segment.specs.Predictions.{predictions, table_behind, split_words}
use Rattle.st_segment.specs.Ahead.{next_ahead, ahead, issue_behind}
use Rattle.st_segment.specs.Alone.{RunAhead, is_word_written, words_of_run, IsSameAhead}

-- The next entry of a state is in the ranges of the timetable, has at most 36 reads of its own, and
-- its instruction words are two runs of words.
pub record EntriesAreInRange : Type 0 where
  pub ranges : (t : Option ℕ) (s : Machine) → IsMachine s → IsIndicatorIfAny t →
      IsEntryInTime (entry t s)
  pub reads : (t : Option ℕ) (s : Machine) → IsMachine s → IsIndicatorIfAny t →
      own_reads (entry t s) ≤ 36
  pub words : (t : Option ℕ) (s : Machine) →
      instruction_words t s ≡ words_of_run (entry t s).own ++ words_of_run (entry t s).target
  pub own : (t : Option ℕ) (s : Machine) → own_count t s ≡ (entry t s).own.len

-- Predicted steps lead to valid states, and each one continues from the state before it.
pub record PredictionsGoOn : Type 0 where
  pub machine : (k : ℕ) (t : Option ℕ) (s : Machine) → IsMachine s → IsIndicatorIfAny t →
      IsMachine (predictions k t s)
  pub state : (k : ℕ) (t : Option ℕ) (s : Machine) →
      predictions (suc k) t s ≡ prediction (table_behind k t) (predictions k t s)
  pub next : (ds : List ℕ) (n k : ℕ) (t : Option ℕ) (s : Machine) (f : IssueState) →
      ahead ds n (suc k) t s f
      ≡ ahead ds n k t s f ++ next_ahead ds n (table_behind k t) (predictions k t s)
      (issue_behind ds n k t s f) ∷ []
  pub issue : (ds : List ℕ) (n k : ℕ) (t : Option ℕ) (s : Machine) (f : IssueState) →
      issue_behind ds n (suc k) t s f ≡ issue_behind ds n 1 (table_behind k t) (predictions k t s)
      (issue_behind ds n k t s f)

-- The index words with k + 1 speculative changes are those of the k-th predicted state with the
-- last change (`change`). Without a serializing entry, k changes give those of this state
-- (`state`).
pub record IndexWordsRunAhead : Type 0 where
  pub change : (k : ℕ) (t : Option ℕ) (s : Machine) → IsMachine s → IsIndicatorIfAny t →
      split_words (suc k) t s
      ≡ words_after (index_words (predictions k t s)) (plan (predictions k t s) (table_behind k t)).index
  pub state : (k : ℕ) (t : Option ℕ) (s : Machine) → IsMachine s → IsIndicatorIfAny t →
      RunAhead k t s → index_words (predictions k t s) ≡ split_words k t s

-- Entries that are not serializing leave words 0 to 6, the flag for interrupts, and each word from
-- 32 up that none of them writes. The counter after such an entry is its following address.
pub record PredictionsLeaveTheRest : Type 0 where
  pub low : (k : ℕ) (t : Option ℕ) (s : Machine) (w : ℕ) → IsMachine s → IsIndicatorIfAny t →
      RunAhead k t s → w < 7 → word (predictions k t s) w ≡ word s w
  pub enabled : (k : ℕ) (t : Option ℕ) (s : Machine) → IsMachine s → IsIndicatorIfAny t →
      RunAhead k t s → (predictions k t s).enabled ≡ s.enabled
  pub storage : (k : ℕ) (t : Option ℕ) (s : Machine) (w : ℕ) → IsMachine s →
      IsIndicatorIfAny t →
      32 ≤ w → is_word_written k t s w ≡ false → word (predictions k t s) w ≡ word s w
  pub counter : (k : ℕ) (t : Option ℕ) (s : Machine) →
      (plan (predictions k t s) (table_behind k t)).serial ≡ false →
      (predictions (suc k) t s).ic ≡ (plan (predictions k t s) (table_behind k t)).following

-- The entry after k entries that are not serializing is fetched by the index words with their early
-- changes, and by the bounds and the flag of the state; its decode context has these.
pub record EntriesBehindAreSeen : Type 0 where
  pub reading : (k : ℕ) (t : Option ℕ) (s : Machine) (p : Place) → IsMachine s →
      IsIndicatorIfAny t →
      RunAhead k t s →
      reading_of (predictions k t s) p ≡ reading_by (split_words k t s) s p
  pub seen : (k : ℕ) (t : Option ℕ) (s : Machine) → IsMachine s → IsIndicatorIfAny t →
      RunAhead k t s → let u = predictions k t s in let p = place_of u (table_behind k t) in
      (decode_context u p ≡ decode_context_of p (words_fetched u p) (split_words k t s) s)
      × IsSeen u (decode_context_of p (words_fetched u p) (split_words k t s) s)

-- All of an entry but its index change and its indicators is known without its index-side word.
abbrev pub EntriesAreKnownEarly : Type 0
EntriesAreKnownEarly = (t : Option ℕ) (s : Machine) (q : Option ℕ) → let v = decode_context s (place_of s t)
    in let p = prepared_entry v q in
    ((entry t s).reads ≡ words_to_read p.reads) × ((entry t s).writes ≡ words_to_write p.writes)
    × ((entry t s).cost ≡ p.cost) × ((entry t s).serial ≡ p.serial)
    × ((entry t s).side ≡ side_to_read (needs v).index_read)
    × ((plan s t).following ≡ p.following) × ((plan s t).reads ≡ p.reads)
    × ((plan s t).instr ≡ p.instr)

-- A step is the predicted one, except for the counter after a mispredicted branch.
pub record StepsArePredictions : Type 0 where
  pub right : (t : Option ℕ) (s : Machine) → IsMachine s → IsIndicatorIfAny t →
      is_mispredicted (plan s t) s ≡ false → prediction t s ≡ state_after_execution t s
  pub mispredicted : (t : Option ℕ) (s : Machine) → IsMachine s → IsIndicatorIfAny t →
      is_mispredicted (plan s t) s ≡ true → prediction t s ≡ record
      (state_after_execution t s) { ic = (plan s t).following }
  pub alone : (t : Option ℕ) (s : Machine) → (plan s t).serial ≡ true →
      (is_mispredicted (plan s t) s ≡ false) × (prediction t s ≡ state_after_execution t s)

-- A signal, and an order without a card, leave the next entry as the timetable sees it. They also
-- leave the entries after it, with their rows and index words, up to a serializing one.
pub record SignalsArePassedOver : Type 0 where
  pub entry : (t : Option ℕ) (s u : Machine) → AreAlikeBesideOrders s u → entry t u ≡ entry t s
  pub same : (k : ℕ) (s u : Machine) → IsMachine s → AreAlikeBesideOrders s u → RunAhead k None s →
      RunAhead k None u × AreAlikeBesideOrders (predictions k None s) (predictions k None u)
      × (split_words k None u ≡ split_words k None s)
  pub rows : (ds : List ℕ) (n k : ℕ) (s u : Machine) (f : IssueState) → IsMachine s →
      AreAlikeBesideOrders s u →
      RunAhead k None s → AllZip IsSameAhead (ahead ds n (suc k) None s f)
      (ahead ds n (suc k) None u f)
  pub plans : (s u : Machine) → AreAlikeBesideOrders s u → (plan s None).serial ≡ false →
      plan u None ≡ plan s None
