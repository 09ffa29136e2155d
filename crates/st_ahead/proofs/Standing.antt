-- The invariant of a machine, from one moment to the next.
use Rattle.st_ahead.proofs.Common.{All, is_none, replicate, if◌then◌else◌, IfSome, ◌≡◌, ℕ, ◌+◌, ◌-◌, ◌<◌, ◌≤◌, ◌^◌, zero, suc, Bool, true, false, List, [], ◌∷◌, ◌++◌, length, Option, None, Some, refl, sym, subst, ◌∙◌, ap, arith, eq-eqb, ne_eqb, and_left, cond-true, cond-false, All-head, All-replicate, Machine, IsMachine, pending, LastAnswers, BANKS, plan, state_after_execution, prediction, is_mispredicted, interrupt, rests, opening_issue, row_of_entry, issue_after_entry, reads_of_entry, IssueState, entry, ahead, reads_before, made_before, answers_left, Row, oldest_issue, Completed, PlannedRow, Level, Phase, Ready, Ticked, Ended, Stopped, Overlap, machine_at_start, state_ahead, with_counter, oldest_row, banks_at_its_end, interrupt_due, is_done, row_done, machine_after_completion, machine_after_tick, LookaheadView, IsLookahead, IsOpened, IsTicked, IsDoneAt, overlap_of, phase_of, answers_before, IsBetween, IsInside, after-c}
use Rattle.st_ahead.specs.Overlap.{Completed as CompletedWith}
use Rattle.st_ahead.specs.declared.phase.Phase.{Phase as PhaseField}
use Rattle.st_ahead.proofs.Openings.{opening-lookahead}
use Rattle.st_ahead.specs.declared.phase.Phase.TheVariants as fields

-- ---- tests

pub off-if : (b : Bool) (x : Option ℕ) → b ≡ false → (if b then x else None) ≡ None
off-if false x e = refl
off-if true x e = absurd (cc e)

-- ---- equal machines

abbrev pub overlap : List ℕ → ℕ → Machine → Option ℕ → Option ℕ → IssueState → ℕ → Phase → Overlap
overlap ds n s t b f now phase = record {
  delays = ds;
  levels = n;
  state = s;
  taken = t;
  mispredicted = b;
  issue = f;
  now = now;
  phase = phase;
}

pub same-fields : (ds : List ℕ) (n : ℕ) (s u : Machine) (t : Option ℕ) (b c : Option ℕ) (f g : IssueState) (now : ℕ) (x y : Phase)
    → s ≡ u → b ≡ c → f ≡ g → x ≡ y → overlap ds n s t b f now x ≡ overlap ds n u t c g now y
same-fields ds n s u t b c f g now x y state behind issue phase = rw (state, behind, issue, phase) refl

-- a row
abbrev pub told : ℕ → ℕ → ℕ → ℕ → ℕ → Row
told number address p r c = record { number = number; address = address; p = p; r = r; c = c }

-- ---- issue states

pub opened-issue : (t : Option ℕ) (s : Machine) (f : IssueState) (v : LookaheadView) → IsOpened t s f v → oldest_issue v.levels.plans v.issue ≡ f
opened-issue t s f v is = subst (λ (plans : List PlannedRow). oldest_issue plans v.issue ≡ f) (sym is.plans) is.issue

-- the log and the bus determine the last answers of the banks
pub answers-same : (now : ℕ) (v w : LookaheadView) → w.log ≡ v.log → w.next.words ≡ v.next.words → answers_before now w ≡ answers_before now v
answers-same now v w log words = rw (log, words) refl

-- at an opening there is no read to undo
pub opened-answers : (now : ℕ) (t : Option ℕ) (s : Machine) (banks : LastAnswers) (start : ℕ) (v : LookaheadView) → IsOpened t s (opening_issue banks start) v
    → answers_before now v ≡ banks
unfolding answers_left
opened-answers now t s banks start v is = rw (is.log, is.next.3) refl

-- ---- a machine and its look-ahead

-- after a completion, with the decision owed
pub inside-completed : (n : ℕ) (ds : List ℕ) (s : Machine) (b : Option ℕ) (now : ℕ) (v : LookaheadView) → 1 ≤ n → n ≤ 8 → now < 2 ^ 63
    → IsLookahead ds n now now None (with_counter b s) (oldest_issue v.levels.plans v.issue) v → (oldest_issue v.levels.plans v.issue).c ≡ now
    → All (λ x. x ≤ now + 255) (answers_before now v).ticks → IsInside (overlap_of n ds s None b now fields.Completed v) v
unfolding state_ahead
inside-completed n ds s b now v some few early lookahead last near =
    record { some = some; few = few; lookahead = lookahead; indicator = tt; in_time = early; in_phase = (refl, last, near) }

-- the segment has ended
pub inside-ended : (n : ℕ) (ds : List ℕ) (s : Machine) (b : Option ℕ) (now : ℕ) (v : LookaheadView) → 1 ≤ n → n ≤ 8 → now < 2 ^ 63
    → IsBetween now None s v → IsInside (overlap_of n ds s None b now fields.Ended v) v
inside-ended n ds s b now v some few early between =
    record { some = some; few = few; lookahead = between; indicator = tt; in_time = early; in_phase = refl }

-- between two ticks, after the first one
pub inside-between : (n : ℕ) (ds : List ℕ) (s : Machine) (t : Option ℕ) (now : ℕ) (v : LookaheadView) → 1 ≤ n → n ≤ 8 → now < 2 ^ 63
    → IsLookahead ds n now (now + 1) t s (oldest_issue v.levels.plans v.issue) v → IfSome t (λ i. i < 64)
    → interrupt_due (overlap_of n ds s t None (now + 1) fields.Ready v) ≡ None → rests s ≡ false
    → IsInside (overlap_of n ds s t None (now + 1) fields.Ready v) v
unfolding state_ahead
inside-between n ds s t now v some few early lookahead indicator due goes = record {
  some = some;
  few = few;
  lookahead = let last : now ≡ now + 1 - 1 = omega arith in subst (λ (x : ℕ). IsLookahead ds n x (now + 1) t s (oldest_issue v.levels.plans v.issue) v) last lookahead;
  indicator = indicator;
  in_time = omega (arith, early);
  in_phase = (record { due = due; goes = goes; right = refl }, λ first. absurd (omega (arith, first)));
}

-- ---- before the first tick

pub started-inside : (n : ℕ) (ds : List ℕ) (s : Machine) (v : LookaheadView) → 1 ≤ n → n ≤ 8 → IsMachine s → s.enabled ≡ false → s.waiting ≡ false
    → IsOpened None s (opening_issue (record { ticks = replicate BANKS 0 }) 0) v
    → IsInside (overlap_of n ds s None None 0 fields.Ready v) v × (overlap_of n ds s None None 0 fields.Ready v ≡ machine_at_start ds n s)
unfolding state_ahead
started-inside n ds s v some few m enabled waiting is =
    let banks : LastAnswers = record { ticks = replicate BANKS 0 } in
    let issue = opened-issue None s (opening_issue banks 0) v is in
    let lookahead = opening-lookahead ds n 0 0 0 None s banks v is m tt (All-replicate (λ (b : ℕ). b ≤ 0 + 255) BANKS 0 (omega arith)) (omega arith) (omega arith) in (
      record {
        some = some;
        few = few;
        lookahead = subst (λ (f : IssueState). IsLookahead ds n 0 0 None s f v) (sym issue) lookahead;
        indicator = tt;
        in_time = omega arith;
        in_phase = (
          record { due = off-if s.enabled (pending s) enabled; goes = and_left s.waiting (is_none (pending s)) waiting; right = refl },
          λ first. record { enabled = enabled; waiting = waiting; taken = refl; start = ap (λ (g : IssueState). g.c) issue },
        );
      },
      same-fields ds n s s None None None _ _ 0 Ready Ready refl refl issue refl,
    )

-- ---- between two ticks

-- the phase determines the field
abbrev field-of : Phase → PhaseField
field-of Ready = fields.Ready
field-of Ticked = fields.Ticked
field-of (CompletedWith banks) = fields.Completed
field-of Ended = fields.Ended
field-of Stopped = fields.Stopped

field-is : (x : LastAnswers) (p : PhaseField) → field-of (phase_of x p) ≡ p
field-is x fields.Ready = refl
field-is x fields.Ticked = refl
field-is x fields.Completed = refl
field-is x fields.Ended = refl
field-is x fields.Stopped = refl

pub same-field : (x : LastAnswers) (p q : PhaseField) → phase_of x p ≡ phase_of x q → p ≡ q
same-field x p q e = sym (field-is x p) ∙ ap field-of e ∙ field-is x q

-- a ready machine, by its fields
pub record IsReadyBy (n : ℕ) (ds : List ℕ) (s : Machine) (t b : Option ℕ) (now : ℕ) (p : PhaseField) (v : LookaheadView) (m : Overlap) : Type 0 where
  pub field : p ≡ fields.Ready
  pub right : b ≡ None
  pub inside : IsInside (overlap_of n ds s t None now fields.Ready v) v
  pub view : overlap_of n ds s t None now fields.Ready v ≡ m

pub ready : (n : ℕ) (ds : List ℕ) (s : Machine) (t b : Option ℕ) (now : ℕ) (p : PhaseField) (v : LookaheadView) (m : Overlap)
    → IsInside (overlap_of n ds s t b now p v) v → overlap_of n ds s t b now p v ≡ m → m.phase ≡ Ready → IsReadyBy n ds s t b now p v m
ready n ds s t b now p v m is view e =
    let field = same-field (answers_before now v) p fields.Ready (ap (λ (x : Overlap). x.phase) view ∙ e) in
    let at : IsInside (overlap_of n ds s t b now fields.Ready v) v = subst (λ (q : PhaseField). IsInside (overlap_of n ds s t b now q v) v) field is in
    let right = at.in_phase.0.right in
    record {
      field = field;
      right = right;
      inside = subst (λ (c : Option ℕ). IsInside (overlap_of n ds s t c now fields.Ready v) v) right at;
      view = sym (ap (λ (c : Option ℕ). overlap_of n ds s t c now fields.Ready v) right) ∙ sym (ap (λ (q : PhaseField). overlap_of n ds s t b now q v) field) ∙ view;
    }

pub ready-lookahead : (n : ℕ) (ds : List ℕ) (s : Machine) (t : Option ℕ) (now : ℕ) (v : LookaheadView)
    → IsInside (overlap_of n ds s t None now fields.Ready v) v → IsLookahead ds n (now - 1) now t s (oldest_issue v.levels.plans v.issue) v
unfolding state_ahead
ready-lookahead n ds s t now v is = is.lookahead

-- a level was prepared at an earlier tick
pub not-first : (now : ℕ) (ring : List Level) → All (λ level. level.p < now) ring → 1 ≤ length ring → now ≡ now - 1 + 1
not-first now [] each some = absurd (omega (arith, some))
not-first now (level ∷ levels) each some = let early : level.p < now = All-head (λ (l : Level). l.p < now) level levels each in omega (arith, early)

-- ---- a tick

pub passed-tick : (n : ℕ) (ds : List ℕ) (s u : Machine) (t : Option ℕ) (now : ℕ) (v w : LookaheadView)
    → IsInside (overlap_of n ds s t None now fields.Ready v) v → now < 2 ^ 63
    → IsTicked ds n now t s (oldest_issue v.levels.plans v.issue) v u w None
    → oldest_issue w.levels.plans w.issue ≡ oldest_issue v.levels.plans v.issue
    → IsInside (overlap_of n ds u t None now fields.Ticked w) w
    × (is_done (overlap_of n ds s t None now fields.Ready v) ≡ false)
    × (overlap_of n ds u t None now fields.Ticked w ≡ machine_after_tick (overlap_of n ds s t None now fields.Ready v))
unfolding state_ahead oldest_row machine_after_tick
passed-tick n ds s u t now v w is early by issue =
    let f = oldest_issue v.levels.plans v.issue in
    let late : is_done (overlap_of n ds s t None now fields.Ready v) ≡ false = ne_eqb (row_of_entry ds n f (entry t s)).c now by.1 in
    let quiet = is.in_phase.0 in (
      record {
        some = is.some;
        few = is.few;
        lookahead =
            subst (λ (x : Machine). IsLookahead ds n now now t x (oldest_issue w.levels.plans w.issue) w) (sym by.0)
            (subst (λ (g : IssueState). IsLookahead ds n now now t s g w) (sym issue) by.2);
        indicator = is.indicator;
        in_time = early;
        in_phase = record {
          due = subst (λ (x : Machine). (if is_none t then interrupt x else None) ≡ None) (sym by.0) quiet.due;
          goes = subst (λ (x : Machine). rests x ≡ false) (sym by.0) quiet.goes;
          right = refl;
        };
      },
      late,
      same-fields ds n u s t None None _ f now Ticked Ticked by.0 refl issue refl ∙ sym (cond-false _ _ _ late),
    )

-- the entries in flight follow the predicted counter
pub prediction-seen : (t : Option ℕ) (s u : Machine) (b : Bool) (mispredicted : Option ℕ) → is_mispredicted (plan s t) s ≡ b
    → u ≡ state_after_execution t s → mispredicted ≡ (if b then Some (plan s t).following else None)
    → (is_mispredicted (plan s t) s ≡ false → prediction t s ≡ state_after_execution t s)
    → (is_mispredicted (plan s t) s ≡ true → prediction t s ≡ record (state_after_execution t s) { ic = (plan s t).following })
    → with_counter mispredicted u ≡ prediction t s
prediction-seen t s u true mispredicted is state told right wrong = rw (told, state) (sym (wrong is))
prediction-seen t s u false mispredicted is state told right wrong = rw (told, state) (sym (right is))

pub done-tick : (n : ℕ) (ds : List ℕ) (s u : Machine) (t : Option ℕ) (now : ℕ) (v w : LookaheadView) (done : Completed)
    → IsInside (overlap_of n ds s t None now fields.Ready v) v → now < 2 ^ 63
    → IsDoneAt ds n now t s (oldest_issue v.levels.plans v.issue) v u w done
    → oldest_issue w.levels.plans w.issue ≡ issue_after_entry ds n (oldest_issue v.levels.plans v.issue) (entry t s)
    → banks_at_its_end (overlap_of n ds s t None now fields.Ready v) ≡ answers_before now v
    → All (λ b. b ≤ now + 255) (answers_before now v).ticks
    → with_counter done.mispredicted u ≡ prediction t s
    → IsInside (overlap_of n ds u None done.mispredicted now fields.Completed w) w
    × (is_done (overlap_of n ds s t None now fields.Ready v) ≡ true)
    × (overlap_of n ds u None done.mispredicted now fields.Completed w ≡ machine_after_tick (overlap_of n ds s t None now fields.Ready v))
unfolding state_ahead oldest_row machine_after_tick machine_after_completion
done-tick n ds s u t now v w done is early by issue banks near predicted =
    let f = oldest_issue v.levels.plans v.issue in
    let due : is_done (overlap_of n ds s t None now fields.Ready v) ≡ true = eq-eqb (row_of_entry ds n f (entry t s)).c now by.due in
    let same : answers_before now w ≡ answers_before now v = answers-same now v w by.log by.bus in
    let left : CompletedWith (answers_before now w) ≡ CompletedWith (banks_at_its_end (overlap_of n ds s t None now fields.Ready v)) = ap CompletedWith (same ∙ sym banks) in (
      inside-completed n ds u done.mispredicted now w is.some is.few early
          (subst (λ (x : Machine). IsLookahead ds n now now None x (oldest_issue w.levels.plans w.issue) w) (sym predicted)
          (subst (λ (g : IssueState). IsLookahead ds n now now None (prediction t s) g w) (sym issue) by.lookahead))
          (ap (λ (x : IssueState). x.c) issue ∙ after-c ds n f (entry t s) ∙ by.due)
          (subst (λ (x : LastAnswers). All (λ b. b ≤ now + 255) x.ticks) (sym same) near),
      due,
      same-fields ds n u (state_after_execution t s) None done.mispredicted _ _ (issue_after_entry ds n f (entry t s)) now _ _ by.state by.told.mispredicted issue left
          ∙ sym (cond-true _ _ _ due),
    )

-- ---- the row of a completed entry

pub same-row : (number address p r c number' address' p' r' : ℕ) → number ≡ number' → address ≡ address' → p ≡ p' → r ≡ r'
    → told number address p r c ≡ told number' address' p' r' c
same-row number address p r c number' address' p' r' a b d e = rw (a, b, d, e) refl

pub row-tick : (n : ℕ) (ds : List ℕ) (s u : Machine) (t : Option ℕ) (now : ℕ) (v w : LookaheadView) (done : Completed)
    → IsDoneAt ds n now t s (oldest_issue v.levels.plans v.issue) v u w done → (state_after_execution t s).done ≡ s.done + 1
    → told u.done done.address done.p done.r now ≡ row_done (overlap_of n ds s t None now fields.Ready v)
unfolding state_ahead oldest_row
row-tick n ds s u t now v w done by number =
    same-row u.done done.address done.p done.r now _ _ _ _ (ap (λ (x : Machine). x.done) by.state ∙ number) by.told.address by.told.p by.told.r

-- ---- the banks

pub same-answers : (x y : LastAnswers) → x.ticks ≡ y.ticks → x ≡ y
same-answers x y h = ap (λ (ticks : List ℕ). from-ticks ticks) h
  where
    from-ticks : List ℕ → LastAnswers
    from-ticks ticks = record { ticks = ticks }

pub banks-at : (n : ℕ) (ds : List ℕ) (s : Machine) (t : Option ℕ) (now : ℕ) (v : LookaheadView)
    → (let f = oldest_issue v.levels.plans v.issue in
    (made_before ds now (reads_of_entry ds n f (entry t s) ++ reads_before ds n now (ahead ds n (suc n) None (prediction t s) (issue_after_entry ds n f (entry t s)))) f.bus).banks.ticks
    ≡ (answers_before now v).ticks)
    → banks_at_its_end (overlap_of n ds s t None now fields.Ready v) ≡ answers_before now v
unfolding state_ahead banks_at_its_end
banks-at n ds s t now v h = same-answers _ _ h

pub some-due : (k : ℕ) → (k ≡ 0 → ⊥) → 1 ≤ k
some-due zero f = absurd (f refl)
some-due (suc k) f = omega arith
