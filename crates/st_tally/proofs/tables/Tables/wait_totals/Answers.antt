use Rattle.st_tally.proofs.Common.{length, ◌∙◌, ap, arith, waited_at, card_sum, CardSum}
use Rattle.st_tally.proofs.SlotLemmas.{slots-waited-are}
use Rattle.st_tally.proofs.TotalLemmas.{below-zero, below-all, waits-fit, waits-next}
use Rattle.st_tally.proofs.tables.Tables.wait_totals.Goals as goal

pub cards-init : goal.cards-init
cards-init c =
    (omega arith, λ r s parted. below-zero (λ j. waited_at r s (card_sum c.args.self.now j).waits) (waited_at r s c.args.self.now.others.waits))

pub add_found-requires : goal.add_found-requires
add_found-requires c =
    waits-fit c.args.self.now c.requires c.cards.k (omega (arith, c.cards-test.true, c.len.ensures)) c.cards.waits _ c.cards.invariant.1
    (ap (λ (x : CardSum). x.waits) c.sum_at.ensures)

pub cards-preserved : goal.cards-preserved
cards-preserved c = (
  omega (arith, c.cards-test.true, c.len.ensures),
  waits-next c.args.self.now c.requires c.cards.k (omega (arith, c.cards-test.true, c.len.ensures)) c.cards.waits _ c.cards.invariant.1
      (ap (λ (x : CardSum). x.waits) c.sum_at.ensures) _ c.add_found.ensures,
)

pub returns : goal.returns
returns c xs r s parted is =
    c.cards.invariant.1 r s parted
    ∙ below-all (λ j. waited_at r s (card_sum c.args.self.now j).waits) (waited_at r s c.args.self.now.others.waits) c.cards.k
    (length c.args.self.now.cards.items) c.cards.invariant.0 (omega (arith, c.cards-test.false, c.len.ensures))
    ∙ slots-waited-are xs c.args.self.now r s parted is
