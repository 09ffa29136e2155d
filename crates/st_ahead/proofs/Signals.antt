-- The invariant of a machine when a signal comes, or an order takes effect.
use Rattle.st_ahead.proofs.Common.{is_none, ◌≡◌, inl, inr, ℕ, ◌-◌, false, List, Option, None, Some, refl, sym, subst, ◌∙◌, arith, and_left, Machine, IsMachine, pending, AreAlikeBesideOrders, opening_issue, IssueState, oldest_issue, AreNotDone, state_ahead, with_counter, LookaheadView, IsLookahead, answers_before, overlap_of, IsBetween, IsInside, MayServe, MaySignal}
use Rattle.st_ahead.proofs.SameLookahead.{opened-same}
use Rattle.st_ahead.proofs.Standing.{off-if, same-field, inside-completed, inside-ended}
use Rattle.st_ahead.specs.declared.phase.Phase.{Phase as PhaseField}
use Rattle.st_ahead.specs.declared.phase.Phase.TheVariants as fields

-- ---- the predicted counter

pub counted-alike : (c : Option ℕ) (s u : Machine) → AreAlikeBesideOrders s u → AreAlikeBesideOrders (with_counter c s) (with_counter c u)
counted-alike None s u is = is
counted-alike (Some h) s u is = assumption

counted-machine : (c : Option ℕ) (s u : Machine) → IsMachine (with_counter c s) → IsMachine u → IsMachine (with_counter c u)
counted-machine None s u was is = is
counted-machine (Some h) s u was is = assumption

-- ---- the whole invariant

abbrev LooksAhead : List ℕ → ℕ → ℕ → LookaheadView → Type 0
LooksAhead ds n now v = (x y : Machine) (f : IssueState) → IsLookahead ds n now now None x f v → AreNotDone now v.levels → f.c ≡ now
    → IsMachine y → AreAlikeBesideOrders x y → IsLookahead ds n now now None y f v

before-first : (n : ℕ) (ds : List ℕ) (s u : Machine) (t b : Option ℕ) (now : ℕ) (v : LookaheadView)
    → IsInside (overlap_of n ds s t b now fields.Ready v) v → now ≡ 0 → IsMachine u → AreAlikeBesideOrders s u → LooksAhead ds n now v
    → IsInside (overlap_of n ds u t b now fields.Ready v) v
unfolding state_ahead
before-first n ds s u t (Some h) now v is start m alike on = absurd (cc is.in_phase.0.right)
before-first n ds s u (Some i) None now v is start m alike on = absurd (cc (is.in_phase.1 start).taken)
before-first n ds s u None None now v is start m alike on =
    let f = oldest_issue v.levels.plans v.issue in
    let un = is.in_phase.1 start in
    let last : now - 1 ≡ now = omega (arith, start) in
    let lookahead : IsLookahead ds n now now None s f v = subst (λ (x : ℕ). IsLookahead ds n x now None s f v) last is.lookahead in
    let next = on s u f lookahead lookahead.outlook.not_done (un.start ∙ sym start) m alike in
    let enabled : u.enabled ≡ false = alike.enabled ∙ un.enabled in
    let waiting : u.waiting ≡ false = alike.waiting ∙ un.waiting in
    record {
      some = is.some;
      few = is.few;
      lookahead = subst (λ (x : ℕ). IsLookahead ds n x now None u f v) (sym last) next;
      indicator = tt;
      in_time = is.in_time;
      in_phase = (
        record { due = off-if u.enabled (pending u) enabled; goes = and_left u.waiting (is_none (pending u)) waiting; right = refl },
        λ first. record { enabled = enabled; waiting = waiting; taken = refl; start = un.start },
      );
    }

behind-completed : (n : ℕ) (ds : List ℕ) (s u : Machine) (t b : Option ℕ) (now : ℕ) (v : LookaheadView)
    → IsInside (overlap_of n ds s t b now fields.Completed v) v → IsMachine u → AreAlikeBesideOrders s u → LooksAhead ds n now v
    → IsInside (overlap_of n ds u t b now fields.Completed v) v
unfolding state_ahead
behind-completed n ds s u (Some i) b now v is m alike on = absurd (cc is.in_phase.0)
behind-completed n ds s u None b now v is m alike on =
    let f = oldest_issue v.levels.plans v.issue in
    let lookahead : IsLookahead ds n now now None (with_counter b s) f v = is.lookahead in
    inside-completed n ds u b now v is.some is.few is.in_time
    (on (with_counter b s) (with_counter b u) f lookahead lookahead.outlook.not_done is.in_phase.1 (counted-machine b s u lookahead.outlook.machine m) (counted-alike b s u alike))
    is.in_phase.1 is.in_phase.2

behind-ended : (n : ℕ) (ds : List ℕ) (s u : Machine) (t b : Option ℕ) (now : ℕ) (v : LookaheadView)
    → IsInside (overlap_of n ds s t b now fields.Ended v) v → IsMachine u → AreAlikeBesideOrders s u
    → IsInside (overlap_of n ds u t b now fields.Ended v) v
behind-ended n ds s u (Some i) b now v is m alike = absurd (cc is.in_phase)
behind-ended n ds s u None b now v is m alike =
    let between : IsBetween now None s v = is.lookahead in
    inside-ended n ds u b now v is.some is.few is.in_time
    (assumption (opened-same None s u (opening_issue (answers_before now v) v.issue.c) v between.opened alike))

pub serve-inside : (n : ℕ) (ds : List ℕ) (s u : Machine) (t b : Option ℕ) (now : ℕ) (p : PhaseField) (v : LookaheadView)
    → IsInside (overlap_of n ds s t b now p v) v → MayServe (overlap_of n ds s t b now p v) → IsMachine u → AreAlikeBesideOrders s u → LooksAhead ds n now v
    → IsInside (overlap_of n ds u t b now p v) v
serve-inside n ds s u t b now fields.Ready v is may m alike on = absurd (cc may)
serve-inside n ds s u t b now fields.Ticked v is may m alike on = absurd (cc may)
serve-inside n ds s u t b now fields.Completed v is may m alike on = behind-completed n ds s u t b now v is m alike on
serve-inside n ds s u t b now fields.Ended v is may m alike on = behind-ended n ds s u t b now v is m alike
serve-inside n ds s u t b now fields.Stopped v is may m alike on = absurd (cc may)

pub signal-inside : (n : ℕ) (ds : List ℕ) (s u : Machine) (t b : Option ℕ) (now : ℕ) (p : PhaseField) (v : LookaheadView)
    → IsInside (overlap_of n ds s t b now p v) v → MaySignal (overlap_of n ds s t b now p v) → IsMachine u → AreAlikeBesideOrders s u → LooksAhead ds n now v
    → IsInside (overlap_of n ds u t b now p v) v
signal-inside n ds s u t b now p v is (inl turn) m alike on =
    let field = same-field (answers_before now v) p fields.Ready turn.0 in
    subst (λ (q : PhaseField). IsInside (overlap_of n ds u t b now q v) v) (sym field)
    (before-first n ds s u t b now v (subst (λ (q : PhaseField). IsInside (overlap_of n ds s t b now q v) v) field is) turn.1 m alike on)
signal-inside n ds s u t b now p v is (inr may) m alike on = serve-inside n ds s u t b now p v is may m alike on
