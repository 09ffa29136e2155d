-- The look-ahead advances to a later tick: to P of the next entry, or to the last tick.
use Rattle.st_ahead.proofs.Common.{All, nat_le, if◌then◌else◌, ◌≡◌, ℕ, zero, suc, ◌+◌, ◌<◌, ◌≤◌, Bool, true, false, List, [], ◌∷◌, length, Option, None, Some, refl, sym, subst, ◌∙◌, arith, ◌*◌, leb-true, leb-false, All-nil, All-head, All-weaker, Machine, IsMachine, AreDelaysUpTo, most_ticks_of_entry, row_of_entry, IssueState, Level, entry, ahead, prepared_before, entry-ranges, AreLevels, due_of, PlannedRow, levels-beside, done-order, ahead-rests, LookaheadView, IsLookahead, IsOutlook, count, is_open, IsGoing, HasGone, WaitsFor}
use Rattle.std.specs.Prelude.{◌-◌, ◌^◌}
use Rattle.std.specs.Option.{IfSome}
use Rattle.st_ahead.proofs.Due.{done-behind}
use Rattle.st_ahead.proofs.Further.{next-planned, next-sooner}
use Rattle.st_ahead.proofs.LevelTicks.{done-after, done-later}
use Rattle.st_ahead.proofs.TickCases.{none-prepared}
use Rattle.st_ahead.proofs.TickCases as cases

-- ---- the tick at which the oldest level completes

All-first : (f last : IssueState) (q : PlannedRow) (qs : List PlannedRow) → All (λ (x : PlannedRow). (f.c < x.c) × (x.c ≤ last.c)) (q ∷ qs) → (f.c < q.c) × (q.c ≤ last.c)
All-first f last q qs each = All-head (λ (x : PlannedRow). (f.c < x.c) × (x.c ≤ last.c)) q qs each

module _ (ds : List ℕ) (n tick : ℕ) where
  pub before-due : (now : ℕ) (t : Option ℕ) (s : Machine) (f last : IssueState) (ring : List Level) (plans : List PlannedRow) → IsMachine s
      → IfSome t (λ i. i < 64) → AreLevels ds n tick t s f last ring plans → now < due_of plans → All (λ q. now < q.c) plans
  unfolding AreLevels
  before-due now t s f last ring [] m some h late = All-nil (λ (q : PlannedRow). now < q.c)
  before-due now t s f last [] (q ∷ qs) m some h late = absurd h
  before-due now t s f last (level ∷ levels) (q ∷ qs) m some h late =
      let c : q.c ≡ (row_of_entry ds n f (entry t s)).c = h.0.c in
      let first : now < q.c = late in
      done-after ds n tick now t s f last (level ∷ levels) (q ∷ qs) m some h (omega arith)

  pub due-row : (t : Option ℕ) (s : Machine) (f last : IssueState) (ring : List Level) (plans : List PlannedRow)
      → AreLevels ds n tick t s f last ring plans → 1 ≤ length ring → due_of plans ≡ (row_of_entry ds n f (entry t s)).c
  unfolding AreLevels
  due-row t s f last [] plans h some = absurd (omega (arith, some))
  due-row t s f last (level ∷ levels) [] h some = absurd h
  due-row t s f last (level ∷ levels) (q ∷ qs) h some = h.0.c

  pub due-some : (t : Option ℕ) (s : Machine) (f last : IssueState) (ring : List Level) (plans : List PlannedRow)
      → AreLevels ds n tick t s f last ring plans → due_of plans < 2 ^ 64 - 1 → 1 ≤ length ring
  unfolding AreLevels
  due-some t s f last [] [] h early = absurd (omega (arith, early))
  due-some t s f last [] (q ∷ qs) h early = absurd h
  due-some t s f last (level ∷ levels) plans h early = omega arith

  due-late : (t : Option ℕ) (s : Machine) (f last : IssueState) (ring : List Level) (plans : List PlannedRow)
      → AreLevels ds n tick t s f last ring plans → All (λ q. tick < q.c) plans → 1 ≤ length ring → (due : ℕ) → due ≡ due_of plans → tick < due
  unfolding AreLevels
  due-late t s f last [] plans h late some due is = absurd (omega (arith, some))
  due-late t s f last (level ∷ levels) [] h late some due is = absurd h
  due-late t s f last (level ∷ levels) (q ∷ qs) h late some due is =
      let first : tick < q.c = All-head (λ (x : PlannedRow). tick < x.c) q qs late in
      let same : due ≡ q.c = is in
      omega (arith, first, same)

  -- the youngest level does not complete before the oldest one
  pub due-last : (t : Option ℕ) (s : Machine) (f last : IssueState) (ring : List Level) (plans : List PlannedRow) → IsMachine s
      → IfSome t (λ i. i < 64) → AreLevels ds n tick t s f last ring plans → 1 ≤ length ring → due_of plans ≤ last.c
  due-last t s f last ring plans m some h one =
      due-below f last plans (done-order ds n tick (λ g e r. done-behind ds n g e r) entry-ranges f.c t s f last ring plans m some h (omega arith))
      (omega (arith, one, levels-beside ds n tick t s f last ring plans h))
    where
      due-below : (f last : IssueState) (plans : List PlannedRow) → All (λ q. (f.c < q.c) × (q.c ≤ last.c)) plans → 1 ≤ length plans → due_of plans ≤ last.c
      due-below f last [] each one = absurd (omega (arith, one))
      due-below f last (q ∷ qs) each one = let first = All-first f last q qs each in omega (arith, first)

-- the oldest level does not complete at tick 0
pub due-first : (ds : List ℕ) (n tick due : ℕ) (t : Option ℕ) (s : Machine) (f : IssueState) (v : LookaheadView) → IsGoing ds n tick tick t s f v
    → due ≡ due_of v.levels.plans → 1 ≤ due
due-first ds n tick due t s f v is at =
    first-by v.levels.plans is.not_done at
  where
    first-by : (plans : List PlannedRow) → All (λ q. tick < q.c) plans → due ≡ due_of plans → 1 ≤ due
    first-by [] late same = omega (arith, same)
    first-by (q ∷ qs) late same = let here : tick < q.c = All-head (λ (x : PlannedRow). tick < x.c) q qs late in omega (arith, here, same)

-- ---- to the next preparation

pub going-at : (ds : List ℕ) (n tick rest now later : ℕ) (t : Option ℕ) (s : Machine) (f : IssueState) (v : LookaheadView) → tick ≤ now → now < due_of v.levels.plans
    → v.next.planned ≡ true → v.next.formed.p ≡ now → IsGoing ds n tick rest t s f v → IsGoing ds n now later t s f v
going-at ds n tick rest now later t s f v behind before planned due is =
    let ahead_ = ahead-rests tick now behind ds n t s f v.issue v.levels is.ahead in
    let start : f.c ≤ (now + 1) + 9 = omega (arith, is.start, behind) in
    let early : v.issue.c ≤ (now + 1) + 9 + most_ticks_of_entry * count v = omega (arith, is.early, behind) in
    let late : v.next.planned ≡ true → now ≤ v.next.formed.p = λ yes. omega (arith, due) in
    assumption (All-weaker (λ (x : Level). x.p < tick + 1) (λ x. x.p < now + 1) (λ x h. omega (arith, h, behind)) v.levels.ring is.prepared, before-due ds n now now t s f v.issue v.levels.ring v.levels.plans is.machine is.indicator ahead_.levels before, next-planned (is_open v) ds n rest later t s v planned is.next)

-- ---- to the last tick: the next entry is not prepared before it

going-gone : (ds : List ℕ) (n tick rest now : ℕ) (t : Option ℕ) (s : Machine) (f : IssueState) (v : LookaheadView) → tick ≤ now → now < due_of v.levels.plans
    → now + 1 ≤ rest → (v.next.planned ≡ true → now < v.next.formed.p) → IsGoing ds n tick rest t s f v → IsOutlook ds n now (now + 1) t s f v
going-gone ds n tick rest now t s f v behind before known late is =
    let ahead_ = ahead-rests tick now behind ds n t s f v.issue v.levels is.ahead in
    let start : f.c ≤ (now + 1) + 9 = omega (arith, is.start, behind) in
    let early : v.issue.c ≤ (now + 1) + 9 + most_ticks_of_entry * count v = omega (arith, is.early, behind) in
    let late : v.next.planned ≡ true → (now + 1) ≤ v.next.formed.p = λ planned. omega (arith, late planned) in
    assumption (All-weaker (λ (x : Level). x.p < tick + 1) (λ x. x.p < now + 1) (λ x h. omega (arith, h, behind)) v.levels.ring is.prepared, before-due ds n now now t s f v.issue v.levels.ring v.levels.plans is.machine is.indicator ahead_.levels before, next-sooner (is_open v) ds n rest (now + 1) t s v known is.next)

waits-late : (due last now p : ℕ) → (p < due → p ≤ last → ⊥) → now < due → now ≤ last → now < p
waits-late due last now p waits before early = omega (arith, by-contra)
  where
    by-contra : p ≤ now → ⊥
    by-contra low = waits (omega (arith, low, before)) (omega (arith, low, early))

gone-due : (ds : List ℕ) (n since tick last due : ℕ) (t : Option ℕ) (s : Machine) (f : IssueState) (v : LookaheadView) → since ≤ tick → tick ≤ last → last < 2 ^ 63
    → due ≡ due_of v.levels.plans → due ≤ last → WaitsFor due last v → IsGoing ds n tick due t s f v → HasGone ds n since last t s f v (Some due)
gone-due ds n since tick last due t s f v behind soon early is_due before waits is =
    let some = due-some ds n tick t s f v.issue v.levels.ring v.levels.plans is.ahead.levels (omega (arith, is_due, before, early)) in
    let c = due-row ds n tick t s f v.issue v.levels.ring v.levels.plans is.ahead.levels some in
    let first = done-later ds n t s f is.machine is.indicator in
    let at : due - 1 + 1 ≡ due = omega (arith, is_due, c, first) in
    let late : tick < due = due-late ds n tick t s f v.issue v.levels.ring v.levels.plans is.ahead.levels is.not_done some due is_due in
    record {
      later = omega (arith, behind, late);
      soon = before;
      some = some;
      row_is = sym c ∙ sym is_due;
      lookahead =
          subst (λ (x : ℕ). IsOutlook ds n (due - 1) x t s f v) at
          (going-gone ds n tick due (due - 1) t s f v (omega (arith, late)) (omega (arith, is_due, at)) (omega (arith, at))
          (λ planned. waits-late due last (due - 1) v.next.formed.p (waits planned) (omega (arith, at)) (omega (arith, before))) is);
    }

gone-far : (ds : List ℕ) (n since tick last due : ℕ) (t : Option ℕ) (s : Machine) (f : IssueState) (v : LookaheadView) → tick ≤ last
    → due ≡ due_of v.levels.plans → last < due → WaitsFor due last v → IsGoing ds n tick due t s f v → HasGone ds n since last t s f v None
gone-far ds n since tick last due t s f v soon is_due before waits is =
    going-gone ds n tick due last t s f v soon (omega (arith, is_due, before)) (omega (arith, before))
    (λ planned. waits-late due last last v.next.formed.p (waits planned) before (omega arith)) is

pub gone-by : (b : Bool) (ds : List ℕ) (n since tick last due : ℕ) (t : Option ℕ) (s : Machine) (f : IssueState) (v : LookaheadView) → nat_le due last ≡ b → since ≤ tick → tick ≤ last
    → last < 2 ^ 63 → due ≡ due_of v.levels.plans → WaitsFor due last v → IsGoing ds n tick due t s f v
    → HasGone ds n since last t s f v (if b then Some due else None)
gone-by true ds n since tick last due t s f v e behind soon early is_due waits is =
    gone-due ds n since tick last due t s f v behind soon early is_due (leb-true due last e) waits is
gone-by false ds n since tick last due t s f v e behind soon early is_due waits is =
    gone-far ds n since tick last due t s f v soon is_due (leb-false due last e) waits is

-- if the oldest entry completes after `last`, all ticks up to `last` are passed
pub gone-on : (o : Option ℕ) (ds : List ℕ) (n since last : ℕ) (t : Option ℕ) (s : Machine) (f : IssueState) (v : LookaheadView) → last < (row_of_entry ds n f (entry t s)).c
    → HasGone ds n since last t s f v o → IsOutlook ds n last (last + 1) t s f v
gone-on None ds n since last t s f v late h = h
gone-on (Some due) ds n since last t s f v late h = absurd (omega (arith, late, h.soon, h.row_is))

-- ---- with slots filled

pub outlook-of : (ds : List ℕ) (n tick now : ℕ) (t : Option ℕ) (s : Machine) (f : IssueState) (v : LookaheadView) → IsLookahead ds n tick now t s f v
    → IsOutlook ds n tick now t s f v
outlook-of ds n tick now t s f v is = is.outlook

-- ---- the oldest entry completes later

oldest-by : (ds : List ℕ) (n tick now k : ℕ) (t : Option ℕ) (s : Machine) (f : IssueState) (v : LookaheadView) → count v ≡ k → 1 ≤ n → AreDelaysUpTo 255 ds → tick ≤ now
    → IsLookahead ds n tick now t s f v → prepared_before now (ahead ds n n t s f) ≡ ahead ds n (count v) t s f → tick < (row_of_entry ds n f (entry t s)).c
oldest-by ds n tick now zero t s f v none some are soon is levels =
    let p = none-prepared ds n n (count v) now t s f some none levels in
    omega (arith, p, soon, cases.done-behind ds n f (entry t s) are (entry-ranges t s is.outlook.machine is.outlook.indicator) is.outlook.oldest)
oldest-by ds n tick now (suc k) t s f v one some are soon is levels =
    due-late ds n tick t s f v.issue v.levels.ring v.levels.plans is.outlook.ahead.levels is.outlook.not_done (omega (arith, one)) (row_of_entry ds n f (entry t s)).c
    (sym (due-row ds n tick t s f v.issue v.levels.ring v.levels.plans is.outlook.ahead.levels (omega (arith, one))))

pub oldest-late : (ds : List ℕ) (n tick now : ℕ) (t : Option ℕ) (s : Machine) (f : IssueState) (v : LookaheadView) → 1 ≤ n → AreDelaysUpTo 255 ds → tick ≤ now
    → IsLookahead ds n tick now t s f v → prepared_before now (ahead ds n n t s f) ≡ ahead ds n (count v) t s f → tick < (row_of_entry ds n f (entry t s)).c
oldest-late ds n tick now t s f v some are soon is levels = oldest-by ds n tick now (count v) t s f v refl some are soon is levels

-- ---- no entry becomes a level at a tick

pub lookahead-rests : (ds : List ℕ) (n now : ℕ) (t : Option ℕ) (s : Machine) (f : IssueState) (v : LookaheadView) → v.next.planned ≡ true → now < v.next.formed.p
    → IsLookahead ds n now now t s f v → IsLookahead ds n now (now + 1) t s f v
lookahead-rests ds n now t s f v planned late lookahead =
    let is = lookahead.outlook in
    let start : f.c ≤ (now + 1) + 9 = omega (arith, is.start) in
    let early : v.issue.c ≤ (now + 1) + 9 + most_ticks_of_entry * count v = omega (arith, is.early) in
    let late : v.next.planned ≡ true → (now + 1) ≤ v.next.formed.p = λ yes. omega (arith, late) in
    record { outlook = assumption (All-weaker (λ (x : Level). x.p < now) (λ x. x.p < now + 1) (λ x h. omega (arith, h)) v.levels.ring is.prepared, next-planned (is_open v) ds n now (now + 1) t s v planned is.next); full = lookahead.full }
