-- The view of a machine, and its lent parts.
use Rattle.st_ahead.proofs.Common.{if◌then◌else◌, IfSome, ◌≡◌, ℕ, ◌+◌, ◌≤◌, Bool, true, false, List, [], ◌∷◌, length, Option, None, sym, subst, ◌∙◌, ap, arith, Machine, prediction, opening_issue, issue_after_entry, IssueState, Level, entry, Ahead, ahead, prepared_before, split_words, oldest_issue, AreLevels, AreFull, PlannedRow, length-ahead, is_owed, Overlap, state_ahead, levels_of, last_tick_made, IsLevelOf, AreLevelsOf, lent_index_words, LookaheadView, IsLookahead, count, answers_before, overlap_of, IsBetween, IsInside}
use Rattle.std.specs.Prelude.{◌-◌, ◌<◌}
use Rattle.std.specs.List.{AllZip}
use Rattle.st_ahead.specs.declared.phase.Phase.{Phase as PhaseField}
use Rattle.st_ahead.proofs.Openings.{opening-lookahead}
use Rattle.st_ahead.proofs.Standing.{opened-issue}
use Rattle.st_ahead.specs.declared.phase.Phase.TheVariants as fields

-- ---- the look-ahead, at each moment

between-lookahead : (n : ℕ) (ds : List ℕ) (s : Machine) (t : Option ℕ) (now : ℕ) (v : LookaheadView) → IsBetween now t s v → IfSome t (λ i. i < 64)
    → IsLookahead ds n now now t s (oldest_issue v.levels.plans v.issue) v
between-lookahead n ds s t now v between indicator =
    let later : now + 1 ≤ v.issue.c = between.later in
    let lookahead = opening-lookahead ds n now now v.issue.c t s (answers_before now v) v between.opened between.machine indicator between.banks (omega (arith, later)) between.soon in
    subst (λ (f : IssueState). IsLookahead ds n now now t s f v) (sym (opened-issue t s (opening_issue (answers_before now v) v.issue.c) v between.opened)) lookahead

-- the look-ahead exists also after the end of a segment
pub lookahead-inside : (n : ℕ) (ds : List ℕ) (s : Machine) (t b : Option ℕ) (now : ℕ) (p : PhaseField) (v : LookaheadView)
    → IsInside (overlap_of n ds s t b now p v) v
    → IsLookahead ds n (last_tick_made (overlap_of n ds s t b now p v)) now t (state_ahead (overlap_of n ds s t b now p v)) (oldest_issue v.levels.plans v.issue) v
unfolding state_ahead
lookahead-inside n ds s t b now fields.Ready v is = is.lookahead
lookahead-inside n ds s t b now fields.Ticked v is = is.lookahead
lookahead-inside n ds s t b now fields.Completed v is = is.lookahead
lookahead-inside n ds s t b now fields.Ended v is = between-lookahead n ds s t now v is.lookahead is.indicator
lookahead-inside n ds s t b now fields.Stopped v is = between-lookahead n ds s t now v is.lookahead is.indicator

soon-by : (owed : Bool) (now : ℕ) → now ≤ (if owed then now else now - 1) + 1
soon-by true now = omega arith
soon-by false now = omega arith

pub soon-last : (m : Overlap) → m.now ≤ last_tick_made m + 1
soon-last m = soon-by (is_owed m.phase) m.now

-- ---- levels

pub levels-zip : (ds : List ℕ) (n tick : ℕ) (t : Option ℕ) (s : Machine) (f last : IssueState) (ring : List Level) (plans : List PlannedRow)
    → AreLevels ds n tick t s f last ring plans → AreFull ds n tick t s f ring → AllZip (IsLevelOf ds n tick) ring (ahead ds n (length ring) t s f)
unfolding AreLevels AreFull ahead
levels-zip ds n tick t s f last [] [] is full = tt
levels-zip ds n tick t s f last [] (q ∷ qs) is full = absurd is
levels-zip ds n tick t s f last (level ∷ levels) [] is full = absurd is
levels-zip ds n tick t s f last (level ∷ levels) (q ∷ qs) is full = (
  record { prepared = is.0.prepared; p = is.0.p; have = full.0 },
  levels-zip ds n tick None (prediction t s) (issue_after_entry ds n f (entry t s)) last levels qs is.1 full.1,
)

-- the levels are those of the abstract state
pub record IsShowing (m : Overlap) (v : LookaheadView) : Type 0 where
  pub lookahead : IsLookahead m.delays m.levels (last_tick_made m) m.now m.taken (state_ahead m) m.issue v
  pub levels : levels_of m ≡ ahead m.delays m.levels (count v) m.taken (state_ahead m) m.issue

pub showing : (m : Overlap) (v : LookaheadView) → IsLookahead m.delays m.levels (last_tick_made m) m.now m.taken (state_ahead m) m.issue v
    → prepared_before m.now (ahead m.delays m.levels m.levels m.taken (state_ahead m) m.issue) ≡ ahead m.delays m.levels (count v) m.taken (state_ahead m) m.issue
    → IsShowing m v
unfolding levels_of
showing m v lookahead levels = record { lookahead = lookahead; levels = levels }

pub showing-ring : (m : Overlap) (v : LookaheadView) → IsShowing m v → AreLevelsOf m v.levels.ring
showing-ring m v is =
    subst (λ (levels : List Ahead). AllZip (IsLevelOf m.delays m.levels (last_tick_made m)) v.levels.ring levels) (sym is.levels)
    (levels-zip m.delays m.levels (last_tick_made m) m.taken (state_ahead m) m.issue v.issue v.levels.ring v.levels.plans is.lookahead.outlook.ahead.levels is.lookahead.full)

pub showing-count : (m : Overlap) (v : LookaheadView) → IsShowing m v → length (levels_of m) ≡ count v
showing-count m v is = ap length is.levels ∙ length-ahead m.delays m.levels (count v) m.taken (state_ahead m) m.issue

pub showing-index : (m : Overlap) (v : LookaheadView) → IsShowing m v → v.levels.x ≡ lent_index_words m
unfolding lent_index_words
showing-index m v is = is.lookahead.outlook.ahead.index ∙ ap (λ k. split_words k m.taken (state_ahead m)) (sym (showing-count m v is))
