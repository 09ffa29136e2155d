-- Lemmas on the last completed entry as a row of the tables.
use Rattle.st_account.proofs.Common.{Bool, if◌then◌else◌, nat_eq, option_map, nat_tests, append-nil, ◌≡◌, ◌≢◌, ℕ, zero, suc, ◌+◌, ◌≤◌, ◌<◌, ◌^◌, true, false, List, [], ◌∷◌, ◌++◌, refl, sym, ◌∙◌, ap, subst, arith, Machine, AreDelaysUpTo, IsTight, IsEntryInTime, row_of_entry, issue_after_entry, Entry, IssueState, EntryTicks, Use, entry, level_wait, EntryDone, Why, Origin, StallCause, AreTablesWithin, IsInOrder, TalliedRow, IsTally, Tables, Last, CountAs, done_kept, kept_rows, IsOrdered, IsTallyReady, AddsKeptRow}
use Rattle.std.specs.Prelude.{length, Option}
use Rattle.st_rows.proofs.Laws.{rows_are_in_order, completions_are_bounded}
use Rattle.st_tally.proofs.Alike.{tally-alike, entries-alike}
use Rattle.st_account.proofs.EntryLemmas.{IsCompleted}
use Rattle.st_account.proofs.StallLemmas.{row-reach}

pub kept-rows-none : (k : ℕ) (l : Last) (end : Option ℕ) (w : Why) → k ≡ 0 → kept_rows k l end w ≡ []
unfolding kept_rows
kept-rows-none k l end w none = rw none refl

pub kept-rows-some : (k : ℕ) (l : Last) (end : Option ℕ) (w : Why) → k ≢ 0
    → kept_rows k l end w ≡ record { done = done_kept l end; why = w; uses = l.uses.items; before = l.uses.before } ∷ []
unfolding kept_rows
kept-rows-some zero l end w some = absurd (some refl)
kept-rows-some (suc k) l end w some = rw (not-zero k) refl
  where
    not-zero : (k : ℕ) → nat_eq (suc k) 0 ≡ false
    not-zero k = grind (arith, nat_tests)

-- the row does not depend on the issue state of the next entry
kept-rows-same : (k : ℕ) (l j : Last) (end : Option ℕ) (w : Why) → j ≡ record l { issue = j.issue; past = j.past } → kept_rows k j end w ≡ kept_rows k l end w
unfolding kept_rows
kept-rows-same k l j end w same = ap (λ x. kept_rows k x end w) same

-- the row counts as one with another cause and another origin, if the card is the same, and the cause where the entry lost ticks
pub row-counts : (k : ℕ) (l : Last) (end : Option ℕ) (w : Why) (origin : Option Origin) (why : StallCause) (rows : List TalliedRow) → k ≢ 0
    → option_map (λ (o : Origin). o.card) l.done.origin ≡ option_map (λ (o : Origin). o.card) origin → (l.done.before < l.done.row.ticks.r → l.done.because ≡ why)
    → (record { done = record (done_kept l end) { origin = origin; because = why }; why = w; uses = l.uses.items; before = l.uses.before } ∷ []) ≡ rows
    → CountAs (kept_rows k l end w) rows
row-counts k l end w origin why rows some card same is zs t tally =
    subst (λ ys. IsTally (zs ++ ys) t) is
    (tally-alike zs _ _ (entries-alike (done_kept l end) w l.uses.items l.uses.before origin why card same) t
    (subst (λ ys. IsTally (zs ++ ys) t) (kept-rows-some k l end w some) tally))

-- ---- before a row is added

pub ready-same : (k : ℕ) (l j : Last) (t : Tables) → j ≡ record l { issue = j.issue; past = j.past } → IsTallyReady k l t → IsTallyReady k j t
ready-same k l j t same h =
    subst (λ x. IsTallyReady k x t) (sym same) (record {
      ordered = λ some.
          let o = h.ordered some in
          record { order = record { later = o.order.later; ready = o.order.ready; early = o.order.early; reach = o.order.reach }; at = o.at; wait = o.wait };
      first = h.first;
      within = h.within;
      ticks = h.ticks;
    })

pub order-is : (k : ℕ) (l : Last) (end : Option ℕ) (t : Tables) (d : EntryDone) → k ≢ 0 → IsTallyReady k l t → d ≡ done_kept l end → IsInOrder d
order-is k l end t d some h is =
    let o = h.ordered some in
    subst IsInOrder (sym is) (record { later = o.order.later; ready = o.order.ready; early = o.order.early; reach = o.order.reach })

pub ticks-fit : (k : ℕ) (l : Last) (end : Option ℕ) (t : Tables) (d : EntryDone) → k ≢ 0 → IsTallyReady k l t → d ≡ done_kept l end
    → t.level_ticks + d.row.level_wait < 2 ^ 64
ticks-fit k l end t d some h is =
    let wait : d.row.level_wait ≡ l.done.row.level_wait = ap (λ (x : EntryDone). x.row.level_wait) is in
    omega (arith, wait, h.ticks, (h.ordered some).wait)

pub within-is : (k : ℕ) (l : Last) (end : Option ℕ) (t : Tables) (d : EntryDone) → IsTallyReady k l t → d ≡ done_kept l end → AreTablesWithin d.before t
within-is k l end t d h is = subst (λ (x : EntryDone). AreTablesWithin x.before t) (sym is) h.within

-- ---- a row is added

pub row-none : (k : ℕ) (l : Last) (end : Option ℕ) (w : Why) (t : Tables) → k ≡ 0 → IsTallyReady k l t → AddsKeptRow k l end w t t
row-none k l end w t none h = record {
  tally = λ xs is. subst (λ ys. IsTally ys t) (sym (ap (λ ys. xs ++ ys) (kept-rows-none k l end w none) ∙ append-nil xs)) is;
  size = refl;
  ticks = omega arith;
  within = h.first none;
}

pub row-some : (k : ℕ) (l : Last) (end : Option ℕ) (w : Why) (us bs : List Use) (d : EntryDone) (old new : Tables) → k ≢ 0 → IsTallyReady k l old → d ≡ done_kept l end
    → us ≡ l.uses.items → bs ≡ l.uses.before
    → ((xs : List TalliedRow) → IsTally xs old → IsTally (xs ++ record { done = d; why = w; uses = us; before = bs } ∷ []) new)
    → length new.cards.items ≡ length old.cards.items → new.level_ticks ≡ old.level_ticks + d.row.level_wait → AreTablesWithin d.row.ticks.c new
    → AddsKeptRow k l end w old new
row-some k l end w us bs d old new some h is used earlier tally size ticks within =
    let o = h.ordered some in
    let wait : d.row.level_wait ≡ l.done.row.level_wait = ap (λ (x : EntryDone). x.row.level_wait) is in
    record {
      tally = λ xs told.
          subst (λ ys. IsTally (xs ++ ys) new)
          (ap (λ (x : EntryDone). record { done = x; why = w; uses = us; before = bs } ∷ []) is
          ∙ ap (λ vs. record { done = done_kept l end; why = w; uses = vs; before = bs } ∷ []) used
          ∙ ap (λ vs. record { done = done_kept l end; why = w; uses = l.uses.items; before = vs } ∷ []) earlier
          ∙ sym (kept-rows-some k l end w some))
          (tally xs told);
      size = size;
      ticks = omega (arith, ticks, wait, o.wait);
      within = subst (λ t. AreTablesWithin t new) (ap (λ (x : EntryDone). x.row.ticks.c) is ∙ o.at) within;
    }

pub row-same : (k : ℕ) (l j : Last) (end until : Option ℕ) (w : Why) (old new : Tables) → j ≡ record l { issue = j.issue; past = j.past } → end ≡ until
    → AddsKeptRow k j end w old new → AddsKeptRow k l until w old new
row-same k l j end until w old new same is h = record {
  tally = λ xs told.
      subst (λ ys. IsTally (xs ++ ys) new) (kept-rows-same k l j end w same ∙ ap (λ e. kept_rows k l e w) is) (h.tally xs told);
  size = h.size;
  ticks = subst (λ (x : Last). new.level_ticks ≤ old.level_ticks + x.tick) same h.ticks;
  within = subst (λ (x : Last). AreTablesWithin x.tick new) same h.within;
}

-- at most eight entries are dropped
pub few-more : (ends : Bool) (old new j found : ℕ) → j ≡ found → found ≤ 8 → new ≡ old + (if ends then j else 0) → new ≤ old + 8
few-more true old new j found is few more = omega (arith, is, few, more)
few-more false old new j found is few more = omega (arith, more)

-- ---- the end of the entry's segment does not matter

abbrev pub ended : Option ℕ → Last → Last
ended e l = record l { done = record l.done { end = e } }

pub ready-ended : (e : Option ℕ) (k : ℕ) (l : Last) (t : Tables) → IsTallyReady k l t → IsTallyReady k (ended e l) t
ready-ended e k l t h = record {
  ordered = λ some.
      let o = h.ordered some in
      record { order = record { later = o.order.later; ready = o.order.ready; early = o.order.early; reach = o.order.reach }; at = o.at; wait = o.wait };
  first = h.first;
  within = h.within;
  ticks = h.ticks;
}

pub row-ended : (e : Option ℕ) (k : ℕ) (l : Last) (end : Option ℕ) (w : Why) (old new : Tables) → AddsKeptRow k (ended e l) end w old new
    → AddsKeptRow k l end w old new
unfolding kept_rows
row-ended e k l end w old new h = record { tally = λ xs told. h.tally xs told; size = h.size; ticks = h.ticks; within = h.within }

-- ---- the next entry

bounded : (ds : List ℕ) → AreDelaysUpTo 255 ds → (n : ℕ) (f : IssueState) (e : Entry) → IsEntryInTime e → IsTight 255 f → f.c ≤ 2 ^ 63 → (row_of_entry ds n f e).c < 2 ^ 64
unfolding row_of_entry issue_after_entry
bounded ds are n f e fits tight early = omega (arith, completions_are_bounded.bound 255 n ds f e are fits tight, early)

pub entry-ordered : (ds : List ℕ) → AreDelaysUpTo 255 ds → (n : ℕ) (s : Machine) (l j : Last) (taken : Option ℕ) → l.tick ≤ l.issue.c → l.issue.c ≤ 2 ^ 63 → IsTight 255 l.issue
    → IsEntryInTime (entry taken s) → IsCompleted ds n s l taken j.done j.uses.items → j.tick ≡ j.done.row.ticks.c → IsOrdered j
unfolding level_wait
entry-ordered ds are n s l j taken early soon tight fits h at =
    let e = entry taken s in
    let r : j.done.row.ticks.r ≡ (row_of_entry ds n l.issue e).r = ap (λ (x : EntryTicks). x.r) h.ticks in
    let c : j.done.row.ticks.c ≡ (row_of_entry ds n l.issue e).c = ap (λ (x : EntryTicks). x.c) h.ticks in
    let done = rows_are_in_order.done ds n l.issue e fits in
    let ready = rows_are_in_order.ready ds n l.issue e in
    let level = rows_are_in_order.levels ds n l.issue e in
    record {
      order = record {
        later = omega (arith, h.since, early, c, done.1);
        ready = omega (arith, r, c, done.0);
        early = omega (arith, c, bounded ds are n l.issue e fits tight soon);
        reach = row-reach h early at ∙ at;
      };
      at = sym at;
      wait = omega (arith, h.wait, at, c, done.0, ready, level);
    }
