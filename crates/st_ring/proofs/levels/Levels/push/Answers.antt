use Rattle.st_ring.proofs.Common.{◌<◌, ◌≡◌, List, [], ◌∷◌, ◌++◌, length, All, sym, subst, ap, ◌∙◌, arith, All-push, words_after, IsPrepared, Level, predictions, table_behind, LevelsView, planned_row, PlannedRow}
use Rattle.st_ring.proofs.PushLemmas.{pushed_level, pushed-level, push-ahead}
use Rattle.st_ring.proofs.levels.Levels.push.Goals as goal

pub invariant_of-self : goal.invariant_of-self
invariant_of-self g c =
    let P : Level → Type 0 = λ level. IsPrepared level.prepared in
    let i = c.self.invariant in
    let same = ap (λ (v : LevelsView). length v.ring) c.self.view_is in
    record {
      beside = omega (arith, c.push_prepared.ensures.len, c.push.ensures.len, i.beside);
      few = omega (arith, c.push_prepared.ensures.len, c.requires.room, same);
      some = i.some;
      most = i.most;
      prepared = subst (λ (r : List Level). All P r) (sym c.push_prepared.ensures.levels) (All-push P c.self.inside.ring _ i.prepared c.requires.prepared);
    }

pub returns-clause-ahead : goal.returns-clause-ahead
returns-clause-ahead g c = λ ds n tick t s f last m some h free issue form numbers ticks.
    let v = c.args.self.now in
    let u = predictions (length v.ring) t s in
    let i = table_behind (length v.ring) t in
    let p = c.args.prepared.now in
    let filled = c.args.filled.now in
    let new : LevelsView = record { ring = c.push_prepared.new.self; plans = c.push.new.self; x = c.change_index.new.x } in
    let ring : new.ring ≡ v.ring ++ pushed_level p filled ∷ [] = c.push_prepared.ensures.levels
    ∙ ap (λ (w : LevelsView). w.ring ++ pushed_level p filled ∷ []) c.self.view_is in
    let plans : new.plans ≡ v.plans ++ planned_row c.args.issue.now filled ∷ [] = c.push.ensures.rows
    ∙ ap (λ (w : LevelsView). w.plans ++ planned_row c.args.issue.now filled ∷ []) c.self.view_is in
    let x : new.x ≡ words_after v.x p.index = c.change_index.ensures
    ∙ ap (λ (w : LevelsView). words_after w.x p.index) c.self.view_is in
    push-ahead ds n tick t s f last v new (pushed_level p filled) (planned_row c.args.issue.now filled) p m some h free form
    (pushed-level ds n tick i u last p c.args.issue.now filled issue form numbers ticks)
    ring plans x

pub returns-clause-not_done : goal.returns-clause-not_done
returns-clause-not_done g c = λ now each late.
    let P : PlannedRow → Type 0 = λ q. now < q.c in
    let old = subst (λ (rows : List PlannedRow). All P rows) (sym (ap (λ (w : LevelsView). w.plans) c.self.view_is)) each in
    subst (λ (rows : List PlannedRow). All P rows) (sym c.push.ensures.rows) (All-push P c.self.inside.plans _ old late)

pub returns-clause-few : goal.returns-clause-few
returns-clause-few g c =
    omega (arith, c.push_prepared.ensures.len, c.requires.room, ap (λ (v : LevelsView). length v.ring) c.self.view_is)
