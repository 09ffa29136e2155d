-- Lemmas on the ticks that waits add to the totals.
use Rattle.st_ledger.proofs.Common.{Bool, if◌then◌else◌, ◌≡◌, ℕ, ◌+◌, ◌-◌, ◌≤◌, ◌<◌, true, false, List, [], ◌∷◌, ap, arith, cond_both, Stall, Turn, Bank, Storage, Wait, all_stalled, stalled_for, is_stall, share_at, AreSharesWithin}
use Rattle.st_ledger.specs.declared.sums.Shares.{Shares}

stalled-most : (s : Stall) (xs : List Wait) → stalled_for s xs ≤ all_stalled xs
unfolding stalled_for all_stalled
stalled-most s [] = omega arith
stalled-most s (x ∷ xs) =
    cond_both (is_stall s x.why) (x.to - x.from) 0 (λ n. n + stalled_for s xs ≤ (x.to - x.from) + all_stalled xs)
    (λ same. omega (arith, stalled-most s xs))
    (λ other. omega (arith, stalled-most s xs))

pub shares-later : (t u : ℕ) (a : Shares) → t ≤ u → AreSharesWithin t a → AreSharesWithin u a
shares-later t u a late is = record {
  turn = omega (arith, late, is.turn);
  bank = omega (arith, late, is.bank);
  storage = omega (arith, late, is.storage);
}

pub shares-more : (t u : ℕ) (a b : Shares) (xs : List Wait) → t + all_stalled xs ≤ u → AreSharesWithin t a
    → ((s : Stall) → share_at s b ≡ share_at s a + stalled_for s xs) → AreSharesWithin u b
shares-more t u a b xs few is sums = record {
  turn = omega (arith, few, is.turn, sums Turn, stalled-most Turn xs);
  bank = omega (arith, few, is.bank, sums Bank, stalled-most Bank xs);
  storage = omega (arith, few, is.storage, sums Storage, stalled-most Storage xs);
}

-- one wait is added, and there is room for the others
at-most : (b : Bool) (d : ℕ) → (if b then d else 0) ≤ d
at-most true d = omega arith
at-most false d = omega arith

pub one-more : (s : Stall) (n m : ℕ) (x : Wait) (xs waits : List Wait) (k : ℕ) → waits ≡ x ∷ xs
    → m ≡ n + (if is_stall s x.why then x.to - x.from else 0) → n + all_stalled waits < k → m + all_stalled xs < k
unfolding all_stalled
one-more s n m x xs waits k is more few = omega (arith, ap all_stalled is, more, few, at-most (is_stall s x.why) (x.to - x.from))
