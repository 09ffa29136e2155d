use Rattle.st_ring.proofs.Common.{◌≡◌, Some, sym, ap, ◌∙◌, inl, inr, arith, slice_get, cases_eq, slice_get_within, level_with_words, PlannedRow}
use Rattle.st_ring.proofs.Edits.{same-item}
use Rattle.st_ring.proofs.filling.fill_all.Goals as goal

pub filling-preserved : goal.filling-preserved
filling-preserved g c =
    let k = c.filling.k in
    let inv = c.filling.invariant in
    let row = c.get.result.now in (
      c.fill_level.ensures.len ∙ inv.0,
      λ i level q below at beside. elim (cases_eq i k) [
        | inl same ↦
            let here : slice_get c.filling.ring k ≡ Some level = inv.2 k (omega arith)
            ∙ ap (λ j. slice_get c.args.ring.now j) (sym same) ∙ at in
            let plan : slice_get c.args.plans.now k ≡ Some q = ap (λ j. slice_get c.args.plans.now j) (sym same) ∙ beside in
            ap (λ j. slice_get c.fill_level.new.ring j) same ∙ c.fill_level.ensures.levels level here
            ∙ ap (λ (p : PlannedRow). Some (level_with_words p.fills c.args.state.now c.args.now level))
            (same-item (slice_get c.args.plans.now k) row q c.get.ensures plan)
        | inr other ↦ c.fill_level.ensures.others i other ∙ inv.1 i level q (omega (arith, other)) at beside
      ],
      λ i above. c.fill_level.ensures.others i (λ e. omega (arith, e)) ∙ inv.2 i (omega arith),
    )

pub returns-clause-levels : goal.returns-clause-levels
returns-clause-levels g c = λ k level q at beside.
    let inside = slice_get_within c.args.ring.now k level at in
    c.filling.invariant.1 k level q (omega (arith, inside)) at beside
