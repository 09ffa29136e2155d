use Rattle.st_account.proofs.Common.{length, refl, ◌∙◌, ap, lines_cut, lines_then, same_lines, origin_at, table_lines, tallied_of, dropped_of, at_hand}
use Rattle.st_account.proofs.LedgerLemmas.{tables-behind}
use Rattle.st_account.proofs.running.write_ledger_sums.Goals as goal

pub write_ledger_totals-requires-clause-empty : goal.write_ledger_totals-requires-clause-empty
write_ledger_totals-requires-clause-empty g c = record { tables = c.requires.empty; why = refl; dropped = refl }

pub returns-in_err-write_ledger_totals : goal.returns-in_err-write_ledger_totals
returns-in_err-write_ledger_totals g c =
    tables-behind _ _ _ _ _ _ _ _ _ (lines_cut _ _ _ _ _ c.from_residual.result c.from_residual.ensures.0 c.in_err-write_ledger_totals.ensures.lines)

pub returns : goal.returns
returns g c =
    let rows = tallied_of (origin_at c.args.ready.origins) c.args.ready.delays.list c.args.ready.levels c.args.controls.now.budget
    (at_hand c.args.ready.state c.args.controls.now.signals c.args.ready.cards) in
    let tally = c.write_ledger_totals.new.tally in
    let dropped = dropped_of c.args.ready.delays.list c.args.ready.levels c.args.controls.now.budget
    (at_hand c.args.ready.state c.args.controls.now.signals c.args.ready.cards) in
    tables-behind _ _ _ _ _ _ _ _ _
    (lines_then _ _ _ _ (table_lines (length c.args.tables.cards.items) rows dropped) _ _ c.in_ok-write_ledger_totals.ensures.lines
    (same_lines _ _ _ _ _
    (ap (λ j. table_lines j rows tally.dropped) (c.in_ok-write_ledger_totals.ensures.places refl)
    ∙ ap (table_lines (length c.args.tables.cards.items) rows) (c.in_ok-write_ledger_totals.ensures.dropped refl))
    (c.write.ensures rows (c.in_ok-write_ledger_totals.ensures.tables refl))))
