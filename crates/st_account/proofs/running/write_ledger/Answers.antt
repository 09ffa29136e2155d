use Rattle.st_account.proofs.Common.{refl, sym, ◌∙◌, ap, origin_at, lines_until, at_hand, ledger}
use Rattle.st_account.proofs.LedgerLemmas.{ledger-is, machine-fails, run-fails, sums-fail, all-written}
use Rattle.st_account.proofs.running.write_ledger.Goals as goal

pub returns-in_err-write_machine : goal.returns-in_err-write_machine
returns-in_err-write_machine g c =
    machine-fails _ _ c.args.ready.delays.list c.args.ready.levels c.args.controls.now.budget
    (at_hand c.args.ready.state c.args.controls.now.signals c.args.ready.cards)
    (ledger-is (origin_at c.args.ready.origins) c.args.ready.delays.list c.args.ready.levels c.args.controls.now.budget
    (at_hand c.args.ready.state c.args.controls.now.signals c.args.ready.cards)) _ _ _ (c.delays.ensures ∙ sym c.requires.delays)
    _ c.from_residual.result c.from_residual.ensures.0 c.in_err-write_machine.ensures

pub returns-in_err-write_run : goal.returns-in_err-write_run
unfolding lines_until
returns-in_err-write_run g c =
    run-fails _ _ c.args.ready.delays.list c.args.ready.levels c.budget.result
    (at_hand c.args.ready.state c.args.controls.now.signals c.args.ready.cards)
    (ap (λ i. ledger (origin_at c.args.ready.origins) c.args.ready.delays.list c.args.ready.levels i
    (at_hand c.args.ready.state c.args.controls.now.signals c.args.ready.cards)) (sym c.budget.ensures)
    ∙ ledger-is (origin_at c.args.ready.origins) c.args.ready.delays.list c.args.ready.levels c.budget.result
    (at_hand c.args.ready.state c.args.controls.now.signals c.args.ready.cards)) _ _ _ (c.delays.ensures ∙ sym c.requires.delays)
    _ _ _ c.from_residual-in_err-write_run.result c.from_residual-in_err-write_run.ensures.0 c.in_ok-write_machine.ensures c.in_err-write_run.ensures.lines

pub returns-in_err-write_sums : goal.returns-in_err-write_sums
unfolding lines_until
returns-in_err-write_sums g c =
    sums-fail _ _ c.args.ready.delays.list c.args.ready.levels c.budget.result
    (at_hand c.args.ready.state c.args.controls.now.signals c.args.ready.cards)
    (ap (λ i. ledger (origin_at c.args.ready.origins) c.args.ready.delays.list c.args.ready.levels i
    (at_hand c.args.ready.state c.args.controls.now.signals c.args.ready.cards)) (sym c.budget.ensures)
    ∙ ledger-is (origin_at c.args.ready.origins) c.args.ready.delays.list c.args.ready.levels c.budget.result
    (at_hand c.args.ready.state c.args.controls.now.signals c.args.ready.cards)) _ _ _ (c.delays.ensures ∙ sym c.requires.delays)
    _ _ _ _ c.in_ok-write_machine.ensures c.in_ok-write_run.ensures.lines c.write_run.new.sums
    (c.in_ok-write_run.ensures.totals refl).charged
    _ c.from_residual-in_err-write_sums.result c.from_residual-in_err-write_sums.ensures.0 c.in_err-write_sums.ensures

pub returns : goal.returns
unfolding lines_until
returns g c =
    all-written _ _ c.args.ready.delays.list c.args.ready.levels c.budget.result
    (at_hand c.args.ready.state c.args.controls.now.signals c.args.ready.cards)
    (ap (λ i. ledger (origin_at c.args.ready.origins) c.args.ready.delays.list c.args.ready.levels i
    (at_hand c.args.ready.state c.args.controls.now.signals c.args.ready.cards)) (sym c.budget.ensures)
    ∙ ledger-is (origin_at c.args.ready.origins) c.args.ready.delays.list c.args.ready.levels c.budget.result
    (at_hand c.args.ready.state c.args.controls.now.signals c.args.ready.cards)) _ _ _ (c.delays.ensures ∙ sym c.requires.delays)
    _ _ _ _ c.in_ok-write_machine.ensures c.in_ok-write_run.ensures.lines c.write_run.new.sums
    (c.in_ok-write_run.ensures.totals refl).charged
    _ _ c.write_wait_sums.result c.write_run.new.waits c.in_ok-write_sums.ensures
    (c.in_ok-write_run.ensures.totals refl).waited c.write_wait_sums.ensures
