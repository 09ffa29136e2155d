-- Whether the oldest entry completes at a tick.
use Rattle.st_ahead.proofs.Common.{◌≡◌, ◌≢◌, ℕ, zero, suc, ◌+◌, ◌<◌, ◌≤◌, Bool, true, false, List, [], ◌∷◌, length, Option, refl, arith, All, nat_lt, ◌==◌, if◌then◌else◌, eq-eqb, ltb-false, All-head, Machine, word, plan, state_after_execution, predicted_state, prediction, AreDelaysUpTo, IsEntryInTime, IsTight, row_of_entry, Entry, IssueState, later-r, later-c, Level, Ahead, ahead, prepared_before, entry, AreLevels, is_oldest_due, PlannedRow}

-- ---- a level that is not due

not-both : (b : Bool) → b ≡ false → b ≡ true → ⊥
not-both true e g = cc e
not-both false e g = cc g

pub due-later : (ds : List ℕ) (n tick now : ℕ) (t : Option ℕ) (s : Machine) (f last : IssueState) (ring : List Level) (plans : List PlannedRow)
    → AreLevels ds n tick t s f last ring plans → All (λ q. tick < q.c) plans → is_oldest_due plans now ≡ false → now ≡ tick + 1 → 1 ≤ length ring
    → now < (row_of_entry ds n f (entry t s)).c
unfolding AreLevels
due-later ds n tick now t s f last [] plans h each due next some = absurd (omega (arith, some))
due-later ds n tick now t s f last (level ∷ levels) [] h each due next some = absurd h
due-later ds n tick now t s f last (level ∷ levels) (q ∷ qs) h each due next some =
    let c : q.c ≡ (row_of_entry ds n f (entry t s)).c = h.0.c in
    let late : tick < q.c = All-head (λ (r : PlannedRow). tick < r.c) q qs each in
    let other : q.c ≢ now = λ same. not-both (q.c == now) due (eq-eqb q.c now same) in
    omega (arith, other)

-- ---- no level

not-first : (b : Bool) (a : Ahead) (rest : List Ahead) → (if b then a ∷ rest else []) ≡ [] → b ≡ false
not-first true a rest e = absurd (cc e)
not-first false a rest e = refl

pub none-prepared : (ds : List ℕ) (n m k now : ℕ) (t : Option ℕ) (s : Machine) (f : IssueState) → 1 ≤ m → k ≡ 0
    → prepared_before now (ahead ds n m t s f) ≡ ahead ds n k t s f → now ≤ (row_of_entry ds n f (entry t s)).p
unfolding ahead prepared_before
none-prepared ds n zero k now t s f some empty h = absurd (omega (arith, some))
none-prepared ds n (suc m) (suc k) now t s f some empty h = absurd (omega (arith, empty))
none-prepared ds n (suc m) zero now t s f some empty h =
    let late : nat_lt (row_of_entry ds n f (entry t s)).p now ≡ false = not-first _ _ _ h in
    ltb-false (row_of_entry ds n f (entry t s)).p now late

pub done-behind : (ds : List ℕ) (n : ℕ) (f : IssueState) (e : Entry) → AreDelaysUpTo 255 ds → IsEntryInTime e → IsTight 255 f → (row_of_entry ds n f e).p < (row_of_entry ds n f e).c
unfolding row_of_entry
done-behind ds n f e are range tight = omega (arith, later-r 255 ds are n f e range tight, (later-c 255 ds are n f e range tight).1)

pub unprepared : (ds : List ℕ) (n k now : ℕ) (t : Option ℕ) (s : Machine) (f : IssueState) → 1 ≤ n → k ≡ 0 → AreDelaysUpTo 255 ds → IsEntryInTime (entry t s)
    → IsTight 255 f → prepared_before now (ahead ds n n t s f) ≡ ahead ds n k t s f → (row_of_entry ds n f (entry t s)).c ≢ now
unprepared ds n k now t s f some empty are range tight h = λ due.
    let p = none-prepared ds n n k now t s f some empty h in
    absurd (omega (arith, due, p, done-behind ds n f (entry t s) are range tight))

-- ---- a prediction

words-of : (b : Bool) (s : Machine) (h w : ℕ) → word s w ≡ word (if b then s else record s { ic = h }) w
words-of true s h w = refl
words-of false s h w = refl

pub prediction-words : (t : Option ℕ) (s : Machine) (w : ℕ) → word (state_after_execution t s) w ≡ word (prediction t s) w
unfolding predicted_state
prediction-words t s w = words-of (plan s t).serial (state_after_execution t s) (plan s t).following w
