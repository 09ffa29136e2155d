use Rattle.st_ahead.proofs.Common.{◌≡◌, ◌+◌, ◌≤◌, length, refl, sym, ◌∙◌, ap, arith, nat_le, LevelsView, LookaheadView, due_of}
use Rattle.st_ahead.proofs.Gone.{going-at, gone-by}
use Rattle.st_ahead.proofs.lookahead.Lookahead.go_to.Goals as goal

pub entries-init : goal.entries-init
entries-init g c = record { going = c.requires.going; each = λ t f since is. is; grows = omega arith }

pub push-requires : goal.push-requires
push-requires g c =
    let ds = c.args.delays.now.list in
    let n = g.row.N in
    let s = c.args.state.now in
    let goes = c.entries.invariant.going in
    let is = c.plan_before.ensures.going goes.goes.table goes.goes.issue goes.tick goes.goes.going in
    let yes = c.is_next_before.ensures.yes c.if-not-is_next_before.false in
    let at : c.due-due.result ≡ due_of c.plan_before.new.self.levels.plans = c.due-due.ensures.tick ∙ ap (λ (v : LevelsView). due_of v.plans) (sym c.plan_before.ensures.levels) in
    let p : c.self.inside.next.formed.p ≡ c.plan_before.new.self.next.formed.p = ap (λ (v : LookaheadView). v.next.formed.p) c.self.view_is in (
      omega arith,
      (
        c.requires.some,
        (
          c.requires.few,
          (
            omega (arith, p, yes.2, c.requires.early),
            (
              record {
                table = goes.goes.table;
                issue = goes.goes.issue;
                going = going-at ds n goes.tick c.due-due.result c.self.inside.next.formed.p (c.self.inside.next.formed.p + 1) goes.goes.table s goes.goes.issue c.plan_before.new.self
                    (omega (arith, p, is.late yes.0)) (omega (arith, p, yes.1, at)) yes.0 (sym p) is;
              },
              (yes.0, sym p),
            ),
          ),
        ),
      ),
    )

pub entries-preserved : goal.entries-preserved
entries-preserved g c =
    let ds = c.args.delays.now.list in
    let n = g.row.N in
    let s = c.args.state.now in
    let goes = c.entries.invariant.going in
    let yes = c.is_next_before.ensures.yes c.if-not-is_next_before.false in
    let at : c.due-due.result ≡ due_of c.plan_before.new.self.levels.plans = c.due-due.ensures.tick ∙ ap (λ (v : LevelsView). due_of v.plans) (sym c.plan_before.ensures.levels) in
    let p : c.self.inside.next.formed.p ≡ c.plan_before.new.self.next.formed.p = ap (λ (v : LookaheadView). v.next.formed.p) c.self.view_is in
    let soon : c.self.inside.next.formed.p ≤ c.args.last = omega (arith, p, yes.2) in
    let is = c.plan_before.ensures.going goes.goes.table goes.goes.issue goes.tick goes.goes.going in
    record {
      going = record {
        tick = c.self.inside.next.formed.p;
        goes = record {
          table = goes.goes.table;
          issue = goes.goes.issue;
          going = c.push.ensures.going goes.goes.table goes.goes.issue
              (going-at ds n goes.tick c.due-due.result c.self.inside.next.formed.p (c.self.inside.next.formed.p + 1) goes.goes.table s goes.goes.issue c.plan_before.new.self
              (omega (arith, p, is.late yes.0)) (omega (arith, p, yes.1, at)) yes.0 (sym p) is);
        };
        soon = soon;
      };
      each = λ t f since given.
          let old = c.entries.invariant.each t f since given in
          let it = c.plan_before.ensures.going t f old.tick old.going in
          record {
            tick = c.self.inside.next.formed.p;
            going = c.push.ensures.going t f
                (going-at ds n old.tick c.due-due.result c.self.inside.next.formed.p (c.self.inside.next.formed.p + 1) t s f c.plan_before.new.self
                (omega (arith, p, it.late yes.0)) (omega (arith, p, yes.1, at)) yes.0 (sym p) it);
            behind = omega (arith, old.behind, p, it.late yes.0);
            soon = soon;
          };
      grows = omega (arith, c.entries.invariant.grows, c.push.ensures.count, ap (λ (v : LevelsView). length v.ring) c.plan_before.ensures.levels);
    }

pub entries-smaller : goal.entries-smaller
entries-smaller g c = omega (arith, c.push.ensures.count, c.push.ensures.few, ap (λ (v : LevelsView). length v.ring) c.plan_before.ensures.levels)

pub returns-then-not-is_next_before-clause-goes : goal.returns-then-not-is_next_before-clause-goes
returns-then-not-is_next_before-clause-goes g c = λ t f since given.
    let ds = c.args.delays.now.list in
    let n = g.row.N in
    let s = c.args.state.now in
    let old = c.entries.invariant.each t f since given in
    let is = c.plan_before.ensures.going t f old.tick old.going in
    let at : c.due-due.result ≡ due_of c.plan_before.new.self.levels.plans = c.due-due.ensures.tick ∙ ap (λ (v : LevelsView). due_of v.plans) (sym c.plan_before.ensures.levels) in
    rw c.stop_at.ensures
    (gone-by (nat_le c.due-due.result c.args.last) ds n since old.tick c.args.last c.due-due.result t s f c.plan_before.new.self refl old.behind old.soon c.requires.early at
    (c.is_next_before.ensures.no c.if-not-is_next_before.true) is)

pub returns-then-not-is_next_before-clause-before : goal.returns-then-not-is_next_before-clause-before
returns-then-not-is_next_before-clause-before g c = omega (arith, c.entries.invariant.grows, c.due-due.ensures.few)

pub returns-then-not-is_next_before-clause-few : goal.returns-then-not-is_next_before-clause-few
returns-then-not-is_next_before-clause-few g c =
    omega (arith, c.due-due.ensures.few, ap (λ (v : LevelsView). length v.ring) c.plan_before.ensures.levels)
