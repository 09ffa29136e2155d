-- The end of a segment at a tick, with a completion or without one.
use Rattle.st_ahead.proofs.Common.{All, ◌≡◌, ℕ, ◌+◌, ◌≤◌, false, List, Option, None, sym, subst, ◌∙◌, arith, Machine, IsMachine, index_words, LastAnswers, AreDelaysUpTo, opening_issue, IssueState, oldest_issue, Ticked, has_ended, Overlap, with_counter, MayServe, drop_count, machine_after_segment, run_ended, LookaheadView, IsLookahead, IsOpened, count, overlap_of, answers_before, IsInside, idle_banks}
use Rattle.st_ahead.specs.declared.phase.Phase.{Phase as PhaseField}
use Rattle.st_ahead.proofs.Settling.{end-first, given-up, in-field, completed, completed-lookahead, ticked-lookahead, counted-index}
use Rattle.st_ahead.proofs.Standing.{same-field}
use Rattle.st_ahead.proofs.Laws.{lookaheads_are_levels}
use Rattle.st_ahead.specs.declared.phase.Phase.TheVariants as fields

-- the end of the look-ahead
abbrev pub LookaheadEnds : ℕ → ℕ → Option ℕ → Machine → LastAnswers → LookaheadView → LookaheadView → Type 0
LookaheadEnds n now table u banks v w = (ds : List ℕ) (tick : ℕ) (t : Option ℕ) (s : Machine) (f : IssueState) → IsLookahead ds n tick now t s f v
    → index_words s ≡ index_words u → IsOpened table u (opening_issue banks (now + 1 + count v)) w

module _ (n : ℕ) (ds : List ℕ) (s : Machine) (t b : Option ℕ) (now dropped : ℕ) (p : PhaseField) (v w : LookaheadView) (m : Overlap)
    (is : IsInside (overlap_of n ds s t b now p v) v) (view : overlap_of n ds s t b now p v ≡ m) (are : AreDelaysUpTo 255 ds) (machine : IsMachine s)
    (most : count v ≤ n) (counted : dropped ≡ count v) where
  -- with a completion
  pub record Ends : Type 0 where
    pub inside : IsInside (overlap_of n ds s t b now fields.Ended w) w
    pub dropped_is : dropped ≡ drop_count m
    pub after : overlap_of n ds s t b now fields.Ended w ≡ machine_after_segment m

  pub ends : MayServe m → has_ended m.phase ≡ false → LookaheadEnds n now None s (answers_before now v) v w
      → All (λ x. x ≤ now + 1 + count v + 255) (answers_before now v).ticks → Ends
  ends may going opened banks =
      let f = oldest_issue v.levels.plans v.issue in
      let u = with_counter b s in
      let from = completed n ds s t b now p v m is view may going in
      let at = completed-lookahead n ds s b now v from.inside in
      let all = end-first n ds s b now v w from.inside machine most (lookaheads_are_levels ds n now now None u f v is.some is.few are (omega arith) most at)
      (opened ds now None u f at (counted-index b s)) banks in
      record {
        inside = rw from.none all.0;
        dropped_is = subst (λ (o : Overlap). dropped ≡ drop_count o) from.view (counted ∙ all.1);
        after = rw from.none (subst (λ (o : Overlap). overlap_of n ds s None b now fields.Ended w ≡ machine_after_segment o) from.view all.2);
      }

  -- without one
  pub record GivesUp : Type 0 where
    pub inside : IsInside (overlap_of n ds s t b now fields.Stopped w) w
    pub dropped_is : dropped ≡ drop_count m
    pub after : overlap_of n ds s t b now fields.Stopped w ≡ run_ended m

  pub gives_up : m.phase ≡ Ticked → LookaheadEnds n now t s idle_banks v w → GivesUp
  gives_up none opened =
      let f = oldest_issue v.levels.plans v.issue in
      let u = with_counter b s in
      let from = in-field n ds s t b now p fields.Ticked v m is view
      (same-field _ p fields.Ticked (subst (λ (o : Overlap). o.phase ≡ Ticked) (sym view) none)) in
      let at = ticked-lookahead n ds s t b now v from.0 in
      let all = given-up n ds s t b now v w from.0 machine most (lookaheads_are_levels ds n now now t u f v is.some is.few are (omega arith) most at)
      (opened ds now t u f at (counted-index b s)) in
      record {
        inside = all.0;
        dropped_is = subst (λ (o : Overlap). dropped ≡ drop_count o) from.1 (counted ∙ all.1);
        after = subst (λ (o : Overlap). overlap_of n ds s t b now fields.Stopped w ≡ run_ended o) from.1 all.2;
      }
