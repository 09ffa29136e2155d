-- A tick of a machine that is ready for it, without a completion or with one.
use Rattle.st_ahead.proofs.Common.{◌≡◌, ℕ, ◌+◌, ◌-◌, ◌<◌, ◌≤◌, ◌^◌, true, false, List, Option, None, Some, refl, sym, subst, arith, Machine, plan, prediction, is_mispredicted, AreDelaysUpTo, issue_after_entry, IssueState, entry, oldest_issue, Completed, Ready, Overlap, is_done, row_done, machine_after_tick, LookaheadView, IsLookahead, count, IsTicked, overlap_of, IsInside, levels_are_the_entries_ahead, entries_are_in_range, steps_are_predictions, entries_count_as_one}
use Rattle.st_ahead.specs.declared.phase.Phase.{Phase as PhaseField}
use Rattle.st_ahead.proofs.Gone.{outlook-of}
use Rattle.st_ahead.proofs.Standing.{ready, ready-lookahead, not-first, passed-tick, done-tick, prediction-seen, row-tick, banks-at, some-due, told}
use Rattle.st_ahead.proofs.TickCases.{unprepared}
use Rattle.st_ahead.proofs.Laws.{lookaheads_are_levels, the_banks_are_left}
use Rattle.st_ahead.specs.declared.phase.Phase.TheVariants as fields

-- the tick of the look-ahead, with the result x
abbrev pub LookaheadTicks : ℕ → ℕ → Machine → Machine → LookaheadView → LookaheadView → Option Completed → Type 0
LookaheadTicks n now s u v w x = (ds : List ℕ) (tick : ℕ) (t : Option ℕ) (f : IssueState) → 1 ≤ n → n ≤ 8 → AreDelaysUpTo 255 ds
    → IsLookahead ds n tick now t s f v → (1 ≤ count v → now ≡ tick + 1) → IsTicked ds n now t s f v u w x

module _ (n : ℕ) (ds : List ℕ) (s u : Machine) (t b : Option ℕ) (now : ℕ) (p : PhaseField) (v w : LookaheadView) (x : Option Completed) (m : Overlap)
    (is : IsInside (overlap_of n ds s t b now p v) v) (view : overlap_of n ds s t b now p v ≡ m) (settled : m.phase ≡ Ready) (early : m.now < 2 ^ 63)
    (are : AreDelaysUpTo 255 ds) (ticks : LookaheadTicks n now s u v w x) where
  -- without a completion
  pub record Passes : Type 0 where
    pub inside : IsInside (overlap_of n ds u t b now fields.Ticked w) w
    pub event : is_done m ≡ false
    pub after : overlap_of n ds u t b now fields.Ticked w ≡ machine_after_tick m

  pub passes : x ≡ None → Passes
  passes none =
      let f = oldest_issue v.levels.plans v.issue in
      let from = ready n ds s t b now p v m is view settled in
      let soon = subst (λ (o : Overlap). o.now < 2 ^ 63) (sym view) early in
      let at = ready-lookahead n ds s t now v from.inside in
      let by = subst (λ (y : Option Completed). IsTicked ds n now t s f v u w y) none
      (ticks ds (now - 1) t f is.some is.few are at (not-first now v.levels.ring at.outlook.prepared)) in
      let all = passed-tick n ds s u t now v w from.inside soon by
      (levels_are_the_entries_ahead.oldest ds n now t s f w.issue w.levels by.2.outlook.ahead) in
      record {
        inside = rw from.right all.0;
        event = subst (λ (o : Overlap). is_done o ≡ false) from.view all.1;
        after = rw from.right (subst (λ (o : Overlap). overlap_of n ds u t None now fields.Ticked w ≡ machine_after_tick o) from.view all.2);
      }

  -- with one
  pub record Completes (done : Completed) : Type 0 where
    pub inside : IsInside (overlap_of n ds u None done.mispredicted now fields.Completed w) w
    pub event : is_done m ≡ true
    pub row : told u.done done.address done.p done.r now ≡ row_done m
    pub after : overlap_of n ds u None done.mispredicted now fields.Completed w ≡ machine_after_tick m

  pub completes : (done : Completed) → x ≡ Some done → count v ≤ n → Completes done
  completes done some most =
      let f = oldest_issue v.levels.plans v.issue in
      let from = ready n ds s t b now p v m is view settled in
      let soon = subst (λ (o : Overlap). o.now < 2 ^ 63) (sym view) early in
      let at = ready-lookahead n ds s t now v from.inside in
      let by = subst (λ (y : Option Completed). IsTicked ds n now t s f v u w y) some
      (ticks ds (now - 1) t f is.some is.few are at (not-first now v.levels.ring at.outlook.prepared)) in
      let machine = at.outlook.machine in
      let indicator = at.outlook.indicator in
      let few : now ≤ now - 1 + 1 = omega arith in
      let levels = lookaheads_are_levels ds n (now - 1) now t s f v is.some is.few are few most at in
      let held = some-due (count v) (λ empty. unprepared ds n (count v) now t s f is.some empty are
      (entries_are_in_range.ranges t s machine indicator) at.outlook.oldest levels by.due) in
      let next = not-first now v.levels.ring at.outlook.prepared held in
      let left = the_banks_are_left ds n (now - 1) now t s f v is.some is.few are next most held (outlook-of ds n (now - 1) now t s f v at) by.due in
      let banks = banks-at n ds s t now v left.0 in
      let predicted = prediction-seen t s u (is_mispredicted (plan s t) s) done.mispredicted refl by.state by.told.mispredicted
      (steps_are_predictions.right t s machine indicator) (steps_are_predictions.mispredicted t s machine indicator) in
      let issue = levels_are_the_entries_ahead.oldest ds n now None (prediction t s) (issue_after_entry ds n f (entry t s)) w.issue w.levels by.lookahead.outlook.ahead in
      let all = done-tick n ds s u t now v w done from.inside soon by issue banks left.1 predicted in
      let row = row-tick n ds s u t now v w done by (entries_count_as_one (plan s t) s) in
      record {
        inside = all.0;
        event = subst (λ (o : Overlap). is_done o ≡ true) from.view all.1;
        row = subst (λ (o : Overlap). told u.done done.address done.p done.r now ≡ row_done o) from.view row;
        after = subst (λ (o : Overlap). overlap_of n ds u None done.mispredicted now fields.Completed w ≡ machine_after_tick o) from.view all.2;
      }
