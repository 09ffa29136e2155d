use Rattle.st_account.proofs.Common.{sym, ◌∙◌, sum_at, waited_at, origin_at, at_hand}
use Rattle.st_account.proofs.RowTotals.{charges-are, waits-are}
use Rattle.st_account.proofs.LedgerLemmas.{sums-is, machine-fails, run-fails, sums-fail, all-written}
use Rattle.st_account.proofs.running.write_ledger_totals.Goals as goal

pub returns-in_err-write_machine-clause-lines : goal.returns-in_err-write_machine-clause-lines
returns-in_err-write_machine-clause-lines g c =
    machine-fails _ _ c.args.ready.delays.list c.args.ready.levels c.args.controls.now.budget
    (at_hand c.args.ready.state c.args.controls.now.signals c.args.ready.cards)
    (sums-is c.args.ready.delays.list c.args.ready.levels c.args.controls.now.budget
    (at_hand c.args.ready.state c.args.controls.now.signals c.args.ready.cards)) _ _ _ (c.delays.ensures ∙ sym c.requires.delays)
    _ c.from_residual.result c.from_residual.ensures.0 c.in_err-write_machine.ensures

pub returns-in_err-add_run-clause-lines : goal.returns-in_err-add_run-clause-lines
returns-in_err-add_run-clause-lines g c =
    run-fails _ _ c.args.ready.delays.list c.args.ready.levels c.args.controls.now.budget
    (at_hand c.args.ready.state c.args.controls.now.signals c.args.ready.cards)
    (sums-is c.args.ready.delays.list c.args.ready.levels c.args.controls.now.budget
    (at_hand c.args.ready.state c.args.controls.now.signals c.args.ready.cards)) _ _ _ (c.delays.ensures ∙ sym c.requires.delays)
    _ _ _ c.from_residual-in_err-add_run.result c.from_residual-in_err-add_run.ensures.0 c.in_ok-write_machine.ensures c.in_err-add_run.ensures.lines

pub returns-in_err-write_sums-clause-lines : goal.returns-in_err-write_sums-clause-lines
returns-in_err-write_sums-clause-lines g c =
    sums-fail _ _ c.args.ready.delays.list c.args.ready.levels c.args.controls.now.budget
    (at_hand c.args.ready.state c.args.controls.now.signals c.args.ready.cards)
    (sums-is c.args.ready.delays.list c.args.ready.levels c.args.controls.now.budget
    (at_hand c.args.ready.state c.args.controls.now.signals c.args.ready.cards)) _ _ _ (c.delays.ensures ∙ sym c.requires.delays)
    _ _ _ _ c.in_ok-write_machine.ensures c.in_ok-add_run.ensures.lines c.stage_totals.result
    (charges-are (origin_at c.args.ready.origins) c.args.ready.delays.list c.args.ready.levels c.args.controls.now.budget
    (at_hand c.args.ready.state c.args.controls.now.signals c.args.ready.cards) (λ x. sum_at x c.stage_totals.result) (λ x. c.stage_totals.ensures _ x c.in_ok-add_run.ensures.tables))
    _ c.from_residual-in_err-write_sums.result c.from_residual-in_err-write_sums.ensures.0 c.in_err-write_sums.ensures

pub returns-clause-lines : goal.returns-clause-lines
returns-clause-lines g c =
    all-written _ _ c.args.ready.delays.list c.args.ready.levels c.args.controls.now.budget
    (at_hand c.args.ready.state c.args.controls.now.signals c.args.ready.cards)
    (sums-is c.args.ready.delays.list c.args.ready.levels c.args.controls.now.budget
    (at_hand c.args.ready.state c.args.controls.now.signals c.args.ready.cards)) _ _ _ (c.delays.ensures ∙ sym c.requires.delays)
    _ _ _ _ c.in_ok-write_machine.ensures c.in_ok-add_run.ensures.lines c.stage_totals.result
    (charges-are (origin_at c.args.ready.origins) c.args.ready.delays.list c.args.ready.levels c.args.controls.now.budget
    (at_hand c.args.ready.state c.args.controls.now.signals c.args.ready.cards) (λ x. sum_at x c.stage_totals.result) (λ x. c.stage_totals.ensures _ x c.in_ok-add_run.ensures.tables))
    _ _ c.write_wait_sums.result c.wait_totals.result c.in_ok-write_sums.ensures
    (waits-are (origin_at c.args.ready.origins) c.args.ready.delays.list c.args.ready.levels c.args.controls.now.budget
    (at_hand c.args.ready.state c.args.controls.now.signals c.args.ready.cards) (λ r s. waited_at r s c.wait_totals.result)
    (λ r s parted. c.wait_totals.ensures _ r s parted c.in_ok-add_run.ensures.tables)) c.write_wait_sums.ensures
