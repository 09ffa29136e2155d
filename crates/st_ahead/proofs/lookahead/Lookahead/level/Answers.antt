use Rattle.st_ahead.proofs.Common.{get_or, map, slice_get, nat_le, option_map, ◌≡◌, ◌≤◌, List, None, Some, sym, subst, ◌∙◌, arith, Ahead, ahead, AreLevels, Level, LookaheadView, count, level_shown, word_before_change}
use Rattle.st_ahead.proofs.Views.{none-shown, some-shown, level-of, some-kept}
use Rattle.st_ahead.proofs.lookahead.Lookahead.level.Goals as goal

pub returns-then-k-len-clause-value : goal.returns-then-k-len-clause-value
returns-then-k-len-clause-value g c = λ ds n now t s f is.
    none-shown ds n c.args.tick (count c.args.self.now) c.args.k t s f
    (subst (λ (v : LookaheadView). count v ≤ c.args.k) c.self.view_is (omega (arith, c.len.ensures.value, c.if-k-len.true)))

pub returns-clause-value : goal.returns-clause-value
returns-clause-value g c = λ ds n now t s f is.
    let i = c.self.inside in
    let level = c.level-level.result.now in
    let ready = nat_le c.plan.result.now.r c.args.tick in
    let there = subst (λ (r : List Level). slice_get r c.args.k ≡ Some level) c.ring.ensures.levels c.level-level.ensures.level in
    let are = subst (λ (v : LookaheadView). AreLevels ds n now t s f v.issue v.levels.ring v.levels.plans) (sym c.self.view_is) is.levels in
    subst (λ (v : LookaheadView). Some (level-of level.prepared.place.address level.p c.number_of.result c.kept_of.result ready)
    ≡ get_or (map (λ (a : Ahead). Some (level_shown c.args.tick a)) (ahead ds n (count v) t s f)) c.args.k None) c.self.view_is
    (some-kept level.prepared.place.address level.p c.number_of.result (option_map (λ x. x.number) level.prepared.index)
    c.kept_of.result (word_before_change level.prepared.index) ready c.number_of.ensures c.kept_of.ensures
    ∙ some-shown ds n now c.args.tick c.args.k t s f i.issue i.levels.ring i.levels.plans level _ are there c.plan.ensures)
