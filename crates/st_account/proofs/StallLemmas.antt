-- Lemmas on the waits of the last entry and their totals.
use Rattle.st_account.proofs.Common.{if◌then◌else◌, nat_eq, All, ◌≡◌, ◌≢◌, ℕ, zero, suc, ◌+◌, ◌≤◌, false, List, [], Option, refl, sym, ◌∙◌, ap, subst, arith, cond_both, nat_tests, All-nil, EntryDone, Machine, EntryTicks, entry, parts_of_row, charges_behind, all_ticks, Stage, Restart, Instruction, Address, Index, Preparing, Operand, Executing, Use, AreSharesWithin, AreWaitsWithin, share_at, waited_at, row_stalled, IsReadInTime, WaitTotals, Stall, Turn, Bank, Storage, Last, charges_kept, kept_stalled, IsWaiting, AddsKeptWaits}
use Rattle.std.proofs.Common.{Bool}
use Rattle.st_ledger.proofs.Rows.{row-sum}
use Rattle.st_ledger.specs.declared.sums.Shares.{Shares}
use Rattle.st_ledger.specs.declared.charges.Charge.{Charge}
use Rattle.st_ledger.proofs.AddedWaits.{shares-later}
use Rattle.st_lines.specs.Waited.{AddsWaits}
use Rattle.st_account.proofs.EntryLemmas.{IsCompleted}

-- ---- totals

pub waits-later : (t u : ℕ) (sums : WaitTotals) → t ≤ u → AreWaitsWithin t sums → AreWaitsWithin u sums
waits-later t u sums late is = record {
  instruction = shares-later t u sums.instruction late is.instruction;
  index = shares-later t u sums.index late is.index;
  operand = shares-later t u sums.operand late is.operand;
}

share-none : (a : Shares) (s : Stall) → AreSharesWithin 0 a → share_at s a ≡ 0
share-none a Turn is = omega (arith, is.turn)
share-none a Bank is = omega (arith, is.bank)
share-none a Storage is = omega (arith, is.storage)

pub waited-none : (sums : WaitTotals) (r : Stage) (s : Stall) → AreWaitsWithin 0 sums → waited_at r s sums ≡ 0
waited-none sums Restart s is = refl
waited-none sums Instruction s is = share-none sums.instruction s is.instruction
waited-none sums Address s is = refl
waited-none sums Index s is = share-none sums.index s is.index
waited-none sums Preparing s is = refl
waited-none sums Operand s is = share-none sums.operand s is.operand
waited-none sums Executing s is = refl

-- ---- the waits of the last entry

pub kept-stalled-none : (r : Stage) (s : Stall) (k : ℕ) (l : Last) → k ≡ 0 → kept_stalled r s k l ≡ 0
unfolding kept_stalled
kept-stalled-none r s k l none = rw none refl

pub kept-stalled-some : (r : Stage) (s : Stall) (k : ℕ) (l : Last) → k ≢ 0
    → kept_stalled r s k l ≡ row_stalled r s l.uses.items l.uses.before (charges_behind l.done.before (parts_of_row l.done.start l.done.row.ticks))
unfolding kept_stalled
kept-stalled-some r s zero l some = absurd (some refl)
kept-stalled-some r s (suc k) l some = rw (not-zero k) refl
  where
    not-zero : (k : ℕ) → nat_eq (suc k) 0 ≡ false
    not-zero k = grind (arith, nat_tests)

-- the waits before the first entry
pub waiting-none : (l : Last) (sums : WaitTotals) → AreWaitsWithin 0 sums → l.tick ≡ 0 → l.uses.items ≡ [] → l.uses.before ≡ [] → l.done.before ≡ 0
    → l.done.start ≡ 0 → l.done.row.ticks ≡ record { a = 0; p = 0; r = 0; c = 0 } → IsWaiting l sums
unfolding charges_behind all_ticks
waiting-none l sums none tick unused before done start ticks = record {
  uses = rw unused (All-nil IsReadInTime);
  before = rw before (All-nil IsReadInTime);
  reach = rw (done, start, ticks, tick) refl;
  within = waits-later 0 l.done.before sums (omega arith) none;
}

-- the waits do not depend on the issue state of the next entry
pub waiting-same : (l k : Last) (t u : WaitTotals) → k ≡ record l { issue = k.issue; past = k.past } → u ≡ t → IsWaiting l t → IsWaiting k u
waiting-same l k t u same is h =
    subst (λ x. IsWaiting x u) (sym same) (record {
      uses = h.uses;
      before = h.before;
      reach = h.reach;
      within = subst (AreWaitsWithin l.done.before) (sym is) h.within;
    })

kept-stalled-same : (r : Stage) (s : Stall) (k : ℕ) (l j : Last) → j ≡ record l { issue = j.issue; past = j.past } → kept_stalled r s k j ≡ kept_stalled r s k l
unfolding kept_stalled
kept-stalled-same r s k l j same = ap (kept_stalled r s k) same

pub reach-within : (l : Last) (sums new : WaitTotals) → IsWaiting l sums → AreWaitsWithin l.done.before new → AreWaitsWithin l.tick new
reach-within l sums new is within = waits-later l.done.before l.tick new (omega (arith, is.reach)) within

pub adds-none : (k : ℕ) (l : Last) (sums : WaitTotals) → k ≡ 0 → IsWaiting l sums → AddsKeptWaits k l sums sums
adds-none k l sums none is = record {
  within = reach-within l sums sums is is.within;
  sums = λ r s parted. omega (arith, kept-stalled-none r s k l none);
}

pub adds-some : (k : ℕ) (l : Last) (us bs : List Use) (old new : WaitTotals) → k ≢ 0 → l.done.before + all_ticks (charges_kept l) ≡ l.tick
    → us ≡ l.uses.items → bs ≡ l.uses.before → AddsWaits us bs l.done.before (charges_kept l) old new → AddsKeptWaits k l old new
adds-some k l us bs old new some reach used earlier is = record {
  within = subst (λ t. AreWaitsWithin t new) reach is.within;
  sums = λ r s parted.
      is.sums r s parted
      ∙ ap (λ xs. waited_at r s old + row_stalled r s xs bs (charges_kept l)) used
      ∙ ap (λ xs. waited_at r s old + row_stalled r s l.uses.items xs (charges_kept l)) earlier
      ∙ ap (λ n. waited_at r s old + n) (sym (kept-stalled-some r s k l some));
}

-- the totals of waits do not depend on the issue state of the next entry
pub adds-same : (k : ℕ) (l o : Last) (t u new : WaitTotals) → o ≡ record l { issue = o.issue; past = o.past } → t ≡ u
    → AddsKeptWaits k o t new → AddsKeptWaits k l u new
adds-same k l o t u new same is h = record {
  within = subst (λ (x : Last). AreWaitsWithin x.tick new) same h.within;
  sums = λ r s parted.
      h.sums r s parted
      ∙ ap (λ (x : WaitTotals). waited_at r s x + kept_stalled r s k o) is
      ∙ ap (λ n. waited_at r s u + n) (kept-stalled-same r s k l o same);
}

-- ---- the next entry

module _ {ds : List ℕ} {n : ℕ} {s : Machine} {l : Last} {taken : Option ℕ} {j : EntryDone} {us : List Use} (h : IsCompleted ds n s l taken j us) where
  pub row-reach : {tick : ℕ} → l.tick ≤ l.issue.c → tick ≡ j.row.ticks.c → j.before + all_ticks (charges_behind j.before (parts_of_row j.start j.row.ticks)) ≡ tick
  row-reach early at =
      rw (h.since, h.opened, h.ticks) (row-sum ds n l.tick l.issue (entry taken s) early)
      ∙ ap (λ (x : EntryTicks). x.c) (sym h.ticks)
      ∙ sym at

-- the waits of an entry, by its words, those of the previous one and its charges
pub row-stalled : (stage : Stage) (why : Stall) {us vs bs old : List Use} {xs ys : List Charge} → us ≡ vs → bs ≡ old → xs ≡ ys
    → row_stalled stage why us bs xs ≡ row_stalled stage why vs old ys
row-stalled stage why used earlier charged = rw (used, earlier, charged) refl

-- the words of the last entry, none if a segment ends, are in time
pub words-read : (ends : Bool) (old us new : List Use) → us ≡ old → new ≡ (if ends then [] else us) → All IsReadInTime old → All IsReadInTime new
words-read ends old us new same is h =
    subst (All IsReadInTime) (sym (is ∙ ap (λ vs. if ends then [] else vs) same))
    (cond_both ends [] old (All IsReadInTime) (λ ended. All-nil IsReadInTime) (λ going. h))
