-- Lemmas on one round of the run's loop.
use Rattle.st_account.proofs.Common.{Bool, ◌||◌, nat_eq, if◌then◌else◌, nat_tests, ◌≡◌, ◌≢◌, ℕ, zero, suc, ◌+◌, ◌-◌, ◌≤◌, ◌⊎◌, inl, inr, true, false, List, refl, ap, arith, rests, Moment, next_state, standing_at, next_moment, begins_segment, segment_after, uses_at, words_before, stalled_from, Stage, Restart, Instruction, Address, Index, Preparing, Operand, Executing, Totals, ticks_for, entries_from, charges_at, all_charges, sum_at, AreWithin, Use, row_stalled, Stall}
use Rattle.st_account.proofs.RunLemmas.{waits-end, waits-on, charges-end, charges-on}

-- ---- numbers of a round

pub sums-none : (sums : Totals) (s : Stage) (n : ℕ) → AreWithin 0 sums → sum_at s sums + n ≡ n
sums-none sums Restart n is = omega (arith, is.restart)
sums-none sums Instruction n is = omega (arith, is.instruction)
sums-none sums Address n is = omega (arith, is.address)
sums-none sums Index n is = omega (arith, is.index)
sums-none sums Preparing n is = omega (arith, is.preparing)
sums-none sums Operand n is = omega (arith, is.operand)
sums-none sums Executing n is = omega (arith, is.executing)

after-most : (b : Bool) (k : ℕ) → (if b then k + 1 else k) ≤ k + 1
after-most true k = omega arith
after-most false k = omega arith

pub number-next : (k next : ℕ) (m : Moment) (d e : ℕ) → next ≡ segment_after k m → k ≤ d → e ≡ d + 1 → next ≤ e
number-next k next m d e is few one = omega (arith, is, few, one, after-most (begins_segment k m) k)

-- after the first entry there is a segment
pub number-some : (k next : ℕ) (m : Moment) → next ≡ segment_after k m → next ≢ 0
number-some zero next m is = λ none. omega (arith, is, none)
number-some (suc k) next m is = λ none. omega (arith, is, none, least (begins_segment (suc k) m))
  where
    least : (b : Bool) → 1 ≤ (if b then suc k + 1 else suc k)
    least true = omega arith
    least false = omega arith

-- a run that does not end has a remaining budget
pub left-some : (left : ℕ) (resting : Bool) → (nat_eq left 0 || resting) ≡ false → left ≢ 0
left-some zero resting going = absurd (cc)
left-some (suc left) resting going = λ none. omega (arith, none)

pub rests-not : (left resting : Bool) → (left || resting) ≡ false → resting ≡ false
rests-not true resting going = absurd (cc)
rests-not false resting going = going

-- a run that ends has no remaining budget, or rests
pub ends-one : (left : ℕ) (resting : Bool) → (nat_eq left 0 || resting) ≡ true → (left ≡ 0) ⊎ (resting ≡ true)
ends-one zero resting end = inl refl
ends-one (suc left) true end = inr refl
ends-one (suc left) false end = grind (arith, nat_tests)

pub sums-next : (ds : List ℕ) (n left : ℕ) (m : Moment) (s : Stage) (a b total : ℕ) → left ≢ 0 → rests (next_state m) ≡ false
    → a + ticks_for s (all_charges ds n (entries_from ds n left m)) ≡ total → b ≡ a + ticks_for s (charges_at ds n (standing_at m))
    → b + ticks_for s (all_charges ds n (entries_from ds n (left - 1) (next_moment ds n (standing_at m)))) ≡ total
sums-next ds n left m s a b total some going so_far more =
    let on = charges-on ds n s left m some going in
    omega (arith, so_far, more, on)

pub sums-end : (ds : List ℕ) (n left : ℕ) (m : Moment) (s : Stage) (a total : ℕ) → (left ≡ 0) ⊎ (rests (next_state m) ≡ true)
    → a + ticks_for s (all_charges ds n (entries_from ds n left m)) ≡ total → a ≡ total
sums-end ds n left m s a total end so_far = omega (arith, so_far, charges-end ds n s left m end)

pub waits-next : (ds : List ℕ) (n left : ℕ) (us us' : List Use) (m : Moment) (r : Stage) (s : Stall) (a k b k' total : ℕ) → left ≢ 0 → rests (next_state m) ≡ false
    → a + (k + stalled_from r s ds n left us m) ≡ total → b ≡ a + k
    → k' ≡ row_stalled r s (uses_at ds n (standing_at m)) (words_before m us) (charges_at ds n (standing_at m)) → us' ≡ uses_at ds n (standing_at m)
    → b + (k' + stalled_from r s ds n (left - 1) us' (next_moment ds n (standing_at m))) ≡ total
waits-next ds n left us us' m r s a k b k' total some going so_far more kept is =
    let on = waits-on ds n r s left us m some going in
    let same = ap (λ xs. stalled_from r s ds n (left - 1) xs (next_moment ds n (standing_at m))) is in
    omega (arith, so_far, more, kept, on, same)

pub waits-last : (ds : List ℕ) (n left : ℕ) (us : List Use) (m : Moment) (r : Stage) (s : Stall) (a k b total : ℕ) → (left ≡ 0) ⊎ (rests (next_state m) ≡ true)
    → a + (k + stalled_from r s ds n left us m) ≡ total → b ≡ a + k → b ≡ total
waits-last ds n left us m r s a k b total end so_far more = omega (arith, so_far, more, waits-end ds n r s left us m end)
