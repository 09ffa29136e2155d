use Rattle.st_ring.proofs.Common.{◌≡◌, suc, ◌-◌, None, Some, List, ◌∷◌, length, drop, All, sym, subst, ap, ap₂, ◌∙◌, arith, slice_get, if◌then◌else◌, All-tail, Machine, Prepared, index_words, plan, IsPrepared, state_after_execution, prediction, is_mispredicted, issue_after_entry, Level, entry, split_words, RunAhead, LevelsView, AreLevels, AreAhead, AreFull, PlannedRow}
use Rattle.st_exec.proofs.UnwrittenLemmas.{predicted-alone}
use Rattle.st_ring.proofs.DoneLemmas.{levels-behind, first-is, full-behind}
use Rattle.st_ring.proofs.levels.Levels.complete.Goals as goal

pub invariant_of-self : goal.invariant_of-self
invariant_of-self g c =
    let P : Level → Type 0 = λ level. IsPrepared level.prepared in
    let i = c.self.invariant in
    record {
      beside = omega (arith, c.drop_oldest.ensures.len, c.drop_first.ensures.len, i.beside);
      few = omega (arith, c.drop_oldest.ensures.len, i.few);
      some = i.some;
      most = i.most;
      prepared = rw c.drop_oldest.ensures.levels (All-tail P c.oldest-level.result.now (drop 1 c.self.inside.ring)
          (subst (λ (r : List Level). All P r) c.oldest-level.ensures.level i.prepared));
    }

pub returns : goal.returns
returns g c = λ ds n tick t s f last m some h same.
    let v = c.args.self.now in
    let level = c.oldest-level.result.now in
    let rest = c.drop_oldest.new.self in
    let q = c.get.result.now in
    let y = c.renew.new.x in
    let ring : v.ring ≡ level ∷ rest = sym (ap (λ (w : LevelsView). w.ring) c.self.view_is) ∙ c.oldest-level.ensures.level
    ∙ ap (λ (levels : List Level). level ∷ levels) (sym c.drop_oldest.ensures.levels) in
    let levels = subst (λ (r : List Level). AreLevels ds n tick t s f last r v.plans) ring h.levels in
    let first : slice_get v.plans 0 ≡ Some q = sym (ap (λ (w : LevelsView). slice_get w.plans 0) c.self.view_is) ∙ c.get.ensures in
    let is = first-is ds n tick t s f last level rest v.plans q levels first in
    let form : level.prepared ≡ plan s t = is.prepared in
    let done : c.complete_in.new.state ≡ state_after_execution t s = c.complete_in.ensures.step t (form ∙ ap (λ (u : Machine). plan u t) same)
    ∙ ap (λ (u : Machine). state_after_execution t u) (sym same) in
    let count : length v.ring ≡ suc (length rest) = ap length ring in
    let before : v.x ≡ split_words (suc (length rest)) t s = h.index ∙ ap (λ k. split_words k t s) count in
    let fewer : length v.ring - 1 ≡ length rest = omega (arith, count) in
    let free = subst (λ k. RunAhead k t s) fewer h.run_ahead in
    let plans : c.drop_first.new.self ≡ drop 1 v.plans = c.drop_first.ensures.rows ∙ ap (λ (w : LevelsView). drop 1 w.plans) c.self.view_is in
    let serial = ap (λ (p : Prepared). p.serial) form in
    let ahead = levels-behind ds n tick t s f last level rest v.plans v.x y m some levels before free
    (λ e. c.renew.ensures.stays (serial ∙ e) ∙ ap (λ (w : LevelsView). w.x) c.self.view_is)
    (λ e. c.renew.ensures.alone (serial ∙ e) ∙ ap index_words (done ∙ sym (predicted-alone (plan s t) s e))) in
    let P : List PlannedRow → Type 0 = λ rows. AreAhead ds n tick None (prediction t s) (issue_after_entry ds n f (entry t s)) last (record { ring = rest; plans = rows; x = y }) in (
      done,
      record {
        address = ap (λ (p : Prepared). p.place.address) form;
        p = is.p;
        r = is.r;
        mispredicted = c.mispredicted-mispredicted.ensures
            ∙ ap₂ (λ (p : Prepared) (u : Machine). if is_mispredicted p u then Some p.following else None) form (sym same);
      },
      subst P (sym plans) ahead,
      λ full. full-behind ds n tick t s f level rest (subst (λ (r : List Level). AreFull ds n tick t s f r) ring full),
    )
