use Rattle.st_rows.proofs.Common.{◌<◌, List, ◌∷◌, slice_index_or, ap, sym, subst, ◌∙◌, arith, window, window-oldest, window-pop, AreSettled, Made}
use Rattle.st_rows.proofs.log.Log.take_late.Goals as goal

pub returns : goal.returns
returns c =
    let q = c.self.inside in
    let is = c.self.invariant in
    let some : 0 < q.len = omega arith in
    let none : Made = record { tick = 0; before = 0; w = 0 } in (
      sym c.self.view_is ∙ window-oldest 64 q.head q.len q.notes is.inside is.few is.whole none some
          ∙ ap (λ (rest : List Made). slice_index_or q.notes q.head none ∷ rest) (sym (window-pop 64 q.head q.len q.notes is.inside is.few is.whole some)),
      omega arith,
    )

pub returns-then-self-eq0 : goal.returns-then-self-eq0
returns-then-self-eq0 c = subst (AreSettled c.args.now) (ap (λ n. window c.self.inside.head n c.self.inside.notes) (sym c.if-self-eq0.true) ∙ c.self.view_is) tt

pub returns-then-youngest-now : goal.returns-then-youngest-now
returns-then-youngest-now c =
    let q = c.self.inside in
    let is = c.self.invariant in
    let some : 0 < q.len = omega arith in
    let none : Made = record { tick = 0; before = 0; w = 0 } in
    subst (AreSettled c.args.now) (sym (window-oldest 64 q.head q.len q.notes is.inside is.few is.whole none some) ∙ c.self.view_is) (omega arith)
