-- Each predicted step continues from the state before it.
use Rattle.st_segment.proofs.Common.{◌≡◌, ℕ, zero, suc, ◌<◌, List, [], ◌∷◌, ◌++◌, Option, None, refl, ◌∙◌, ap, IfSome, Machine, IsMachine, plan, plan-prepared, prediction, predicted-machine, issue_after_entry, IssueState, entry, predictions, table_behind, next_ahead, ahead, issue_behind}

-- ---- the table instruction

-- only the first entry is a table instruction
pub behind-none : (k : ℕ) → table_behind k None ≡ None
behind-none zero = refl
behind-none (suc k) = refl

pub behind-indicator : (k : ℕ) (t : Option ℕ) → IfSome t (λ i. i < 64) → IfSome (table_behind k t) (λ i. i < 64)
behind-indicator zero t some = some
behind-indicator (suc k) t some = tt

-- ---- states

pub prediction-machine : (t : Option ℕ) (s : Machine) → IsMachine s → IfSome t (λ i. i < 64) → IsMachine (prediction t s)
prediction-machine t s m some = predicted-machine (plan s t) s (plan-prepared s t m some) m

pub predictions-machine : (k : ℕ) (t : Option ℕ) (s : Machine) → IsMachine s → IfSome t (λ i. i < 64)
    → IsMachine (predictions k t s)
unfolding predictions
predictions-machine zero t s m some = m
predictions-machine (suc k) t s m some = predictions-machine k None (prediction t s) (prediction-machine t s m some) tt

pub predictions-next : (k : ℕ) (t : Option ℕ) (s : Machine)
    → predictions (suc k) t s ≡ prediction (table_behind k t) (predictions k t s)
unfolding predictions
predictions-next zero t s = refl
predictions-next (suc k) t s =
    let u = predictions k None (prediction t s) in
    predictions-next k None (prediction t s) ∙ ap (λ i. prediction i u) (behind-none k)

-- ---- rows

pub ahead-next : (ds : List ℕ) (n k : ℕ) (t : Option ℕ) (s : Machine) (f : IssueState)
    → ahead ds n (suc k) t s f
    ≡ ahead ds n k t s f ++ next_ahead ds n (table_behind k t) (predictions k t s) (issue_behind ds n k t s f) ∷ []
unfolding ahead issue_behind predictions
ahead-next ds n zero t s f = refl
ahead-next ds n (suc k) t s f =
    let s' = prediction t s in
    let f' = issue_after_entry ds n f (entry t s) in
    let u = predictions k None s' in
    let g = issue_behind ds n k None s' f' in
    ap (λ rest. next_ahead ds n t s f ∷ rest)
    (ahead-next ds n k None s' f'
    ∙ ap (λ i. ahead ds n k None s' f' ++ next_ahead ds n i u g ∷ []) (behind-none k))

pub issue-next : (ds : List ℕ) (n k : ℕ) (t : Option ℕ) (s : Machine) (f : IssueState)
    → issue_behind ds n (suc k) t s f
    ≡ issue_behind ds n 1 (table_behind k t) (predictions k t s) (issue_behind ds n k t s f)
unfolding issue_behind predictions
issue-next ds n zero t s f = refl
issue-next ds n (suc k) t s f =
    let s' = prediction t s in
    let f' = issue_after_entry ds n f (entry t s) in
    let u = predictions k None s' in
    let g = issue_behind ds n k None s' f' in
    issue-next ds n k None s' f' ∙ ap (λ i. issue_behind ds n 1 i u g) (behind-none k)
