use Rattle.st_tally.proofs.Common.{arith}
use Rattle.st_tally.proofs.LineLemmas.{cards_start, cards_next, cards_fail, cards_end}
use Rattle.st_tally.proofs.writing.write_cards.Goals as goal

pub cards-init : goal.cards-init
cards-init g c = cards_start _ c.args.tables.now

pub returns-in_err-write_slot : goal.returns-in_err-write_slot
returns-in_err-write_slot g c =
    cards_fail _ _ _ c.args.tables.now c.cards.k _ _ c.from_residual.result c.from_residual.ensures.0 c.cards.invariant (omega (arith, c.cards-test.true, c.len.ensures)) c.sum_at.ensures
    c.in_err-write_slot.ensures

pub cards-preserved : goal.cards-preserved
cards-preserved g c = cards_next _ _ _ c.args.tables.now c.cards.k _ _ c.cards.invariant (omega (arith, c.cards-test.true, c.len.ensures)) c.sum_at.ensures c.in_ok-write_slot.ensures

pub returns : goal.returns
returns g c = cards_end _ _ c.args.tables.now c.cards.k _ c.cards.invariant (omega (arith, c.cards-test.false, c.len.ensures))
