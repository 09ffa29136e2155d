use Rattle.st_ring.proofs.Common.{◌≡◌, ◌+◌, ◌-◌, ◌<◌, ◌≤◌, List, length, sym, subst, ap, ◌∙◌, arith, slice_get, All-weaker, Level, RunAhead, split_words, LevelsView, AreLevels, PlannedRow}
use Rattle.st_ring.proofs.FillLemmas.{levels-filled, low-by, all-next}
use Rattle.st_ring.proofs.Laws.{levels_that_are_not_done_run_ahead}
use Rattle.st_ring.proofs.levels.Levels.fill.Goals as goal

pub invariant_of-self : goal.invariant_of-self
invariant_of-self g c =
    let i = c.self.invariant in
    record {
      beside = i.beside ∙ sym c.fill_all.ensures.len;
      few = omega (arith, i.few, c.fill_all.ensures.len);
      some = i.some;
      most = i.most;
      prepared = all-next c.args.state.now c.args.now c.self.inside.ring c.self.inside.plans c.fill_all.new.ring i.prepared i.beside
          c.fill_all.ensures.len c.fill_all.ensures.levels;
    }

pub returns-clause-ahead : goal.returns-clause-ahead
returns-clause-ahead g c = λ ds n tick most t s f last are m some h behind prepared open_c agrees.
    let v = c.args.self.now in
    let new = c.fill_all.new.ring in
    let ring = ap (λ (w : LevelsView). w.ring) c.self.view_is in
    let plans = ap (λ (w : LevelsView). w.plans) c.self.view_is in
    let len : length new ≡ length v.ring = c.fill_all.ensures.len ∙ ap (λ (r : List Level). length r) ring in
    let few : length v.ring ≤ 8 = omega (arith, ap (λ (r : List Level). length r) ring, c.self.invariant.few, c.self.invariant.most) in
    let soon = All-weaker (λ (level : Level). level.p ≤ c.args.now) (λ level. level.p < c.args.now + 1) (λ level p. omega (arith, p)) v.ring prepared in
    let late = All-weaker (λ (q : PlannedRow). c.args.now < q.c) (λ q. c.args.now + 1 ≤ q.c) (λ q c_late. omega (arith, c_late)) v.plans open_c in
    let low = low-by (length v.ring) c.args.state.now t s agrees
    (λ two. levels_that_are_not_done_run_ahead ds n tick (c.args.now + 1) t s f last v h soon late two) in
    let next = levels-filled ds n tick c.args.now most c.args.state.now are behind 0 t s f last v.ring v.plans new m some h.levels open_c (omega arith)
    (λ w above early. agrees w) low
    (λ k level q at beside. c.fill_all.ensures.levels k level q (ap (λ (r : List Level). slice_get r k) ring ∙ at)
    (ap (λ (r : List PlannedRow). slice_get r k) plans ∙ beside)) len in (
      record {
        levels = subst (λ (r : List PlannedRow). AreLevels ds n c.args.now t s f last new r) (sym plans) next.0;
        index = ap (λ (w : LevelsView). w.x) c.self.view_is ∙ h.index ∙ ap (λ k. split_words k t s) (sym len);
        run_ahead = subst (λ k. RunAhead (k - 1) t s) (sym len) h.run_ahead;
      },
      next.1,
    )

pub returns-clause-few : goal.returns-clause-few
returns-clause-few g c = omega (arith, c.self.invariant.few, c.fill_all.ensures.len)
