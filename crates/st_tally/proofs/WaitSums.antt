-- Lemmas on the waits of an entry and their sums.
use Rattle.st_tally.proofs.Common.{◌≡◌, ℕ, ◌+◌, ◌-◌, ◌≤◌, ◌<◌, ◌^◌, List, [], ◌∷◌, refl, arith, cond_both, Use, is_stage, all_ticks, Charge, Stage, Restart, Instruction, Address, Index, Preparing, Operand, Executing, all_stalled, stalled_for, is_stall, row_stalled, share_at, waited_at, AreSharesWithin, AreWaitsWithin, AreWordsInTime, Shares, WaitTotals, Stall, Turn, Bank, Storage, CanAddShares, CanAddWaits, both_shares, both_waits}
use Rattle.st_ledger.specs.Waits.{charge_waits}
use Rattle.st_ledger.specs.declared.waits.Wait.{Wait}
use Rattle.st_ledger.proofs.Laws.{waits_are_within_their_charge}

-- ---- the waits of an entry have at most as many ticks as its charges

stalled-most : (s : Stall) (xs : List Wait) → stalled_for s xs ≤ all_stalled xs
unfolding stalled_for all_stalled
stalled-most s [] = omega arith
stalled-most s (x ∷ xs) =
    cond_both (is_stall s x.why) (x.to - x.from) 0 (λ n. n + stalled_for s xs ≤ (x.to - x.from) + all_stalled xs)
    (λ same. omega (arith, stalled-most s xs))
    (λ other. omega (arith, stalled-most s xs))

pub row-most : (r : Stage) (s : Stall) (uses before : List Use) (xs : List Charge) → AreWordsInTime uses → AreWordsInTime before
    → row_stalled r s uses before xs ≤ all_ticks xs
unfolding row_stalled all_ticks
row-most r s uses before [] used earlier = omega arith
row-most r s uses before (x ∷ xs) used earlier =
    let one : stalled_for s (charge_waits x uses before) ≤ x.to - x.from =
    omega (arith, stalled-most s (charge_waits x uses before), waits_are_within_their_charge x uses before used.each earlier.each) in
    let more : row_stalled r s uses before xs ≤ all_ticks xs = row-most r s uses before xs used earlier in
    cond_both (is_stage r x.stage) (stalled_for s (charge_waits x uses before)) 0
    (λ n. n + row_stalled r s uses before xs ≤ (x.to - x.from) + all_ticks xs)
    (λ same. omega (arith, one, more))
    (λ other. omega (arith, more))

share-most : (t : ℕ) (a : Shares) (s : Stall) → AreSharesWithin t a → share_at s a ≤ t
share-most t a Turn is = is.turn
share-most t a Bank is = is.bank
share-most t a Storage is = is.storage

-- ---- no waits

share-none : (a : Shares) (s : Stall) → AreSharesWithin 0 a → share_at s a ≡ 0
share-none a s is = omega (arith, share-most 0 a s is)

pub waited-none : (sums : WaitTotals) (r : Stage) (s : Stall) → AreWaitsWithin 0 sums → waited_at r s sums ≡ 0
waited-none sums Restart s is = refl
waited-none sums Instruction s is = share-none sums.instruction s is.instruction
waited-none sums Address s is = refl
waited-none sums Index s is = share-none sums.index s is.index
waited-none sums Preparing s is = refl
waited-none sums Operand s is = share-none sums.operand s is.operand
waited-none sums Executing s is = refl

-- ---- the sums of two lists of waits

shares-fit : (t u : ℕ) (a b : Shares) → t + u < 2 ^ 64 → AreSharesWithin t a → AreSharesWithin u b → CanAddShares a b
shares-fit t u a b few is more = record {
  turn = omega (arith, few, is.turn, more.turn);
  bank = omega (arith, few, is.bank, more.bank);
  storage = omega (arith, few, is.storage, more.storage);
}

pub waits-fit : (t u : ℕ) (a b : WaitTotals) → t + u < 2 ^ 64 → AreWaitsWithin t a → AreWaitsWithin u b → CanAddWaits a b
waits-fit t u a b few is more = record {
  instruction = shares-fit t u a.instruction b.instruction few is.instruction more.instruction;
  index = shares-fit t u a.index b.index few is.index more.index;
  operand = shares-fit t u a.operand b.operand few is.operand more.operand;
}

both-share-at : (s : Stall) (a b : Shares) → share_at s (both_shares a b) ≡ share_at s a + share_at s b
both-share-at Turn a b = refl
both-share-at Bank a b = refl
both-share-at Storage a b = refl

pub both-at : (r : Stage) (s : Stall) (a b : WaitTotals) → waited_at r s (both_waits a b) ≡ waited_at r s a + waited_at r s b
both-at Restart s a b = refl
both-at Instruction s a b = both-share-at s a.instruction b.instruction
both-at Address s a b = refl
both-at Index s a b = both-share-at s a.index b.index
both-at Preparing s a b = refl
both-at Operand s a b = both-share-at s a.operand b.operand
both-at Executing s a b = refl
