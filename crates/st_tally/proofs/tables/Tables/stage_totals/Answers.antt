use Rattle.st_tally.proofs.Common.{length, ◌∙◌, ap, arith, sum_at, card_sum, CardSum}
use Rattle.st_tally.proofs.SlotLemmas.{slots-ticks-are}
use Rattle.st_tally.proofs.TotalLemmas.{below-zero, below-all, totals-fit, totals-next}
use Rattle.st_tally.proofs.tables.Tables.stage_totals.Goals as goal

pub cards-init : goal.cards-init
cards-init c = (omega arith, λ s. below-zero (λ j. sum_at s (card_sum c.args.self.now j).sums) (sum_at s c.args.self.now.others.sums))

pub add_stages-requires : goal.add_stages-requires
add_stages-requires c =
    totals-fit c.args.self.now c.requires c.cards.k (omega (arith, c.cards-test.true, c.len.ensures)) c.cards.sums _ c.cards.invariant.1
    (ap (λ (x : CardSum). x.sums) c.sum_at.ensures)

pub cards-preserved : goal.cards-preserved
cards-preserved c = (
  omega (arith, c.cards-test.true, c.len.ensures),
  totals-next c.args.self.now c.requires c.cards.k (omega (arith, c.cards-test.true, c.len.ensures)) c.cards.sums _ c.cards.invariant.1
      (ap (λ (x : CardSum). x.sums) c.sum_at.ensures) _ c.add_stages.ensures,
)

pub returns : goal.returns
returns c xs s is =
    c.cards.invariant.1 s
    ∙ below-all (λ j. sum_at s (card_sum c.args.self.now j).sums) (sum_at s c.args.self.now.others.sums) c.cards.k (length c.args.self.now.cards.items)
    c.cards.invariant.0 (omega (arith, c.cards-test.false, c.len.ensures))
    ∙ slots-ticks-are xs c.args.self.now s is
