-- The words of a run are checked in order.
use Rattle.st_prep.proofs.Common.{◌≡◌, ℕ, zero, suc, ◌+◌, ◌≤◌, Bool, true, false, Option, None, Some, is_some, refl, ap, arith, Access, forbidden_by, forbidden_run}

-- an empty run is not forbidden
pub run-none : (b : ℕ) (en : Bool) (a : Access) (w n : ℕ) → n ≡ 0 → forbidden_run b en a w n ≡ None
unfolding forbidden_run
run-none b en a w zero e = refl
run-none b en a w (suc n) e = absurd (omega arith)

-- the first word is forbidden
pub run-found : (b : ℕ) (en : Bool) (a : Access) (w n : ℕ) (r : Option ℕ) → 1 ≤ n → r ≡ forbidden_by b en a w
    → is_some r ≡ true → forbidden_run b en a w n ≡ r
unfolding forbidden_run
run-found b en a w zero r some e h = absurd (omega arith)
run-found b en a w (suc n) None some e h = cc
run-found b en a w (suc n) (Some i) some e h = rw (← e) refl

-- the first word is not forbidden
pub run-next : (b : ℕ) (en : Bool) (a : Access) (w n m : ℕ) (r : Option ℕ) → n ≡ m + 1 → r ≡ forbidden_by b en a w
    → is_some r ≡ false → forbidden_run b en a w n ≡ forbidden_run b en a (w + 1) m
unfolding forbidden_run
run-next b en a w zero m r some e h = absurd (omega arith)
run-next b en a w (suc n) m (Some i) some e h = cc
run-next b en a w (suc n) m None some e h =
    let same : n ≡ m = omega arith in rw (← e) (ap (forbidden_run b en a (w + 1)) same)
