-- Signals, and orders without a card, leave the entries in flight unchanged.
use Rattle.st_segment.proofs.Common.{◌≡◌, ◌≢◌, ℕ, zero, suc, ◌+◌, false, List, get_or, length, Option, None, Some, refl, sym, subst, ◌∙◌, ap, get_or-set_other, length-set, Machine, IsMachine, with_word, state_with_store, AreAlikeBesideOrders, Prepared, index_words, plan, plan-prepared, with_change, state_with_speculative_changes, predicted_state, prediction, predicted-machine, row_of_entry, issue_after_entry, IssueState, entry, predictions, table_behind, after_speculative_change, split_words, next_ahead, ahead, RunAhead, IsSameAhead}
use Rattle.std.specs.List.{AllZip}
use Rattle.st_bits.specs.Registers.{register_word}
use Rattle.st_prep.specs.declared.entries.IndexChange.{IndexChange}
use Rattle.st_prep.proofs.BesideLemmas.{plan-beside_ahead}
use Rattle.st_exec.proofs.AlikeStates.{same-set}
use Rattle.st_exec.proofs.BesideEntries.{predicted-beside}
use Rattle.st_rows.specs.declared.entry.Entry.{Entry}
use Rattle.st_segment.proofs.KnownEarly.{entry-seen}
use Rattle.st_segment.proofs.SameReading.{same-index, same-decode_context, same-instruction}

-- ---- the next entry

pub entry-same : (t : Option ℕ) (s u : Machine) → AreAlikeBesideOrders s u → entry t u ≡ entry t s
unfolding entry
entry-same t s u h =
    let words = same-instruction s u t h in
    entry-seen t u None ∙ rw (words.0, words.1, same-decode_context s u t h) (sym (entry-seen t s None))

pub plan-same : (s u : Machine) → AreAlikeBesideOrders s u → (plan s None).serial ≡ false → plan u None ≡ plan s None
plan-same s u h free = plan-beside_ahead s u None h free

-- ---- speculative changes

with-words : (s u : Machine) (vs ws : List ℕ) → AreAlikeBesideOrders s u → length ws ≡ length vs
    → ((w : ℕ) → w ≢ 11 → get_or ws w 0 ≡ get_or vs w 0)
    → AreAlikeBesideOrders (record s { words = vs }) (record u { words = ws })
with-words s u vs ws h size e = record {
  size = size;
  words = e;
  ic = h.ic;
  enabled = h.enabled;
  waiting = h.waiting;
  done = h.done;
}

stored-same : (s u : Machine) (w x : ℕ) → AreAlikeBesideOrders s u → AreAlikeBesideOrders (state_with_store s w x) (state_with_store u w x)
stored-same s u w x h =
    with-words s u _ _ h (length-set u.words w (register_word w x) ∙ h.size ∙ sym (length-set s.words w (register_word w x)))
    (λ i other. same-set s.words u.words w (register_word w x) i h.size (h.words i other))

-- for any new indicators
indicators-same : (s u : Machine) (x y : ℕ) → AreAlikeBesideOrders s u
    → AreAlikeBesideOrders (with_word s 11 x) (with_word u 11 y)
indicators-same s u x y h =
    with-words s u _ _ h (length-set u.words 11 y ∙ h.size ∙ sym (length-set s.words 11 x))
    (λ i other. get_or-set_other u.words 11 i y 0 other ∙ h.words i other ∙ sym (get_or-set_other s.words 11 i x 0 other))

change-same : (c : Option IndexChange) (s u : Machine) → AreAlikeBesideOrders s u
    → AreAlikeBesideOrders (with_change c s) (with_change c u)
change-same None s u h = h
change-same (Some c) s u h = stored-same s u (16 + c.number) c.word h

early-same : (p : Prepared) (s u : Machine) → AreAlikeBesideOrders s u → AreAlikeBesideOrders (state_with_speculative_changes p s) (state_with_speculative_changes p u)
unfolding state_with_speculative_changes
early-same p s u h = indicators-same _ _ _ _ (change-same p.index s u h)

-- ---- predictions

prediction-machine : (s : Machine) → IsMachine s → IsMachine (prediction None s)
prediction-machine s m = predicted-machine (plan s None) s (plan-prepared s None m tt) m

prediction-same : (s u : Machine) → IsMachine s → AreAlikeBesideOrders s u → (plan s None).serial ≡ false
    → AreAlikeBesideOrders (prediction None s) (prediction None u)
prediction-same s u m h free =
    subst (λ (p : Prepared). AreAlikeBesideOrders (prediction None s) (predicted_state p u)) (sym (plan-same s u h free))
    (predicted-beside (plan s None) s u (plan-prepared s None m tt) m h free)

predictions-same : (k : ℕ) (s u : Machine) → IsMachine s → AreAlikeBesideOrders s u → RunAhead k None s
    → AreAlikeBesideOrders (predictions k None s) (predictions k None u)
unfolding predictions RunAhead
predictions-same zero s u m h run = h
predictions-same (suc k) s u m h run =
    predictions-same k (prediction None s) (prediction None u) (prediction-machine s m) (prediction-same s u m h run.0) run.1

run-same : (k : ℕ) (s u : Machine) → IsMachine s → AreAlikeBesideOrders s u → RunAhead k None s → RunAhead k None u
unfolding RunAhead
run-same zero s u m h run = tt
run-same (suc k) s u m h run = (
  ap (λ (p : Prepared). p.serial) (plan-same s u h run.0) ∙ run.0,
  run-same k (prediction None s) (prediction None u) (prediction-machine s m) (prediction-same s u m h run.0) run.1,
)

-- the last of k + 1 entries that are not serializing
run-last : (k : ℕ) (s : Machine) → RunAhead (suc k) None s
    → RunAhead k None s × ((plan (predictions k None s) None).serial ≡ false)
unfolding predictions RunAhead
run-last zero s run = (tt, run.0)
run-last (suc k) s run = let rest = run-last k (prediction None s) run.1 in ((run.0, rest.0), rest.1)

-- ---- index words

none-behind : (k : ℕ) → table_behind k None ≡ None
none-behind zero = refl
none-behind (suc k) = refl

split-last : (k : ℕ) (s : Machine)
    → split_words (suc k) None s ≡ index_words (state_with_speculative_changes (plan (predictions k None s) None) (predictions k None s))
unfolding split_words
split-last k s = ap (λ t. index_words (after_speculative_change t (predictions k None s))) (none-behind k)

split-same : (k : ℕ) (s u : Machine) → IsMachine s → AreAlikeBesideOrders s u → RunAhead k None s
    → split_words k None u ≡ split_words k None s
unfolding split_words
split-same zero s u m h run = same-index s u h
split-same (suc k) s u m h run =
    let last = run-last k s run in
    let v = predictions k None s in
    let w = predictions k None u in
    let same : AreAlikeBesideOrders v w = predictions-same k s u m h last.0 in
    let planned : plan w None ≡ plan v None = plan-same v w same last.1 in
    split-last k u
    ∙ ap (λ (p : Prepared). index_words (state_with_speculative_changes p w)) planned
    ∙ same-index (state_with_speculative_changes (plan v None) v) (state_with_speculative_changes (plan v None) w) (early-same (plan v None) v w same)
    ∙ sym (split-last k s)

pub passed-over : (k : ℕ) (s u : Machine) → IsMachine s → AreAlikeBesideOrders s u → RunAhead k None s
    → RunAhead k None u × AreAlikeBesideOrders (predictions k None s) (predictions k None u)
    × (split_words k None u ≡ split_words k None s)
passed-over k s u m h run = (run-same k s u m h run, predictions-same k s u m h run, split-same k s u m h run)

-- ---- rows

next-same : (ds : List ℕ) (n : ℕ) (s u : Machine) (f : IssueState) → AreAlikeBesideOrders s u
    → IsSameAhead (next_ahead ds n None s f) (next_ahead ds n None u f)
next-same ds n s u f h =
    let same = entry-same None s u h in
    record {
      state = h;
      rest = ap {A = Entry} (λ e. record { state = u; table = None; issue = f; entry = e; row = row_of_entry ds n f e }) same;
    }

pub rows-same : (ds : List ℕ) (n k : ℕ) (s u : Machine) (f : IssueState) → IsMachine s → AreAlikeBesideOrders s u
    → RunAhead k None s → AllZip IsSameAhead (ahead ds n (suc k) None s f) (ahead ds n (suc k) None u f)
unfolding ahead RunAhead
rows-same ds n zero s u f m h run = (next-same ds n s u f h, tt)
rows-same ds n (suc k) s u f m h run = (
  next-same ds n s u f h,
  subst
      (λ e.
      AllZip IsSameAhead (ahead ds n (suc k) None (prediction None s) (issue_after_entry ds n f (entry None s)))
      (ahead ds n (suc k) None (prediction None u) (issue_after_entry ds n f e)))
      (sym (entry-same None s u h))
      (rows-same ds n k (prediction None s) (prediction None u) (issue_after_entry ds n f (entry None s)) (prediction-machine s m)
      (prediction-same s u m h run.0) run.1),
)
