-- A step and its prediction.
use Rattle.st_segment.proofs.Common.{◌≡◌, ℕ, ◌<◌, Bool, true, false, not, ◌&&◌, if◌then◌else◌, Option, refl, ap, IfSome, Machine, IsMachine, Prepared, state_at_entry, plan, plan-prepared, state_with_speculative_changes, is_taken, state_after_completion, state_after_execution, predicted_state, prediction, is_mispredicted, predicted-alone}
use Rattle.st_exec.proofs.AheadLemmas.{predicted-right}

-- the first part of a conjunction that holds
first-false : (a b c : Bool) → (not a && not b && c) ≡ true → a ≡ false
first-false false b c h = refl
first-false true b c h = cc

-- a serializing entry is not mispredicted
mispredicted-ahead : (p : Prepared) (s : Machine) → is_mispredicted p s ≡ true → p.serial ≡ false
unfolding is_mispredicted
mispredicted-ahead p s h = first-false p.serial p.suppressed _ h

alone-right : (p : Prepared) (s : Machine) → p.serial ≡ true → is_mispredicted p s ≡ false
unfolding is_mispredicted
alone-right p s e =
    ap (λ b. not b && not p.suppressed && is_taken p.instr p.e (state_with_speculative_changes p (state_at_entry p.place.table s))) e

predicted-mispredicted : (p : Prepared) (s : Machine) → p.serial ≡ false
    → predicted_state p s ≡ record (state_after_completion p s) { ic = p.following }
unfolding predicted_state
predicted-mispredicted p s e = ap (λ b. if b then state_after_completion p s else record (state_after_completion p s) { ic = p.following }) e

pub prediction-right : (t : Option ℕ) (s : Machine) → IsMachine s → IfSome t (λ i. i < 64)
    → is_mispredicted (plan s t) s ≡ false → prediction t s ≡ state_after_execution t s
prediction-right t s m some right = predicted-right (plan s t) s (plan-prepared s t m some) right

pub prediction-mispredicted : (t : Option ℕ) (s : Machine) → IsMachine s → IfSome t (λ i. i < 64)
    → is_mispredicted (plan s t) s ≡ true → prediction t s ≡ record (state_after_execution t s) { ic = (plan s t).following }
prediction-mispredicted t s m some mispredicted = predicted-mispredicted (plan s t) s (mispredicted-ahead (plan s t) s mispredicted)

pub prediction-alone : (t : Option ℕ) (s : Machine) → (plan s t).serial ≡ true
    → (is_mispredicted (plan s t) s ≡ false) × (prediction t s ≡ state_after_execution t s)
prediction-alone t s e = (alone-right (plan s t) s e, predicted-alone (plan s t) s e)
