use Rattle.st_tally.proofs.Common.{arith}
use Rattle.st_tally.proofs.LineLemmas.{slot_cut, slot_cut_later, slot_then}
use Rattle.st_tally.proofs.writing.write_slot.Goals as goal

pub returns-in_err-write_card : goal.returns-in_err-write_card
returns-in_err-write_card g c =
    slot_cut _ _ c.args.card c.args.sum.now _ c.from_residual.result c.from_residual.ensures.0 (omega (arith, c.if-sum-eq0.false)) c.in_err-write_card.ensures

pub returns-in_err-write_sums : goal.returns-in_err-write_sums
returns-in_err-write_sums g c =
    slot_cut_later _ _ _ c.args.card c.args.sum.now _ _ c.from_residual-in_err-write_sums.result c.from_residual-in_err-write_sums.ensures.0
    (omega (arith, c.if-sum-eq0.false)) c.in_ok-write_card.ensures c.in_err-write_sums.ensures

pub returns : goal.returns
returns g c =
    slot_then _ _ _ _ c.args.card c.args.sum.now _ _ _ (omega (arith, c.if-sum-eq0.false)) c.in_ok-write_card.ensures c.in_ok-write_sums.ensures
    c.write_wait_sums.ensures
