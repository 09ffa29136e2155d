use Rattle.st_tally.proofs.Common.{lines_then, first_cut, second_cut, ap, same_lines, lines_by_heading}
use Rattle.st_tally.proofs.LineLemmas.{tables-same}
use Rattle.st_tally.proofs.tables.Tables.write.Goals as goal

pub returns-in_err-write_cards : goal.returns-in_err-write_cards
returns-in_err-write_cards g c xs is =
    same_lines _ _ _ _ _ (tables-same xs c.args.self.now c.args.dropped is)
    (first_cut _ _ _ _ _ _ c.from_residual.result c.from_residual.ensures.0 c.in_err-write_cards.ensures)

pub returns-in_err-write_each : goal.returns-in_err-write_each
returns-in_err-write_each g c xs is =
    same_lines _ _ _ _ _ (tables-same xs c.args.self.now c.args.dropped is)
    (second_cut _ _ _ _ _ _ _ _ c.from_residual-in_err-write_each.result c.from_residual-in_err-write_each.ensures.0 c.in_ok-write_cards.ensures
    (same_lines _ _ _ _ _ (ap (lines_by_heading _) c.all_headings.ensures) c.in_err-write_each.ensures))

pub returns : goal.returns
returns g c xs is =
    same_lines _ _ _ _ _ (tables-same xs c.args.self.now c.args.dropped is)
    (lines_then _ _ _ _ _ _ _
    (lines_then _ _ _ _ _ _ _ c.in_ok-write_cards.ensures (same_lines _ _ _ _ _ (ap (lines_by_heading _) c.all_headings.ensures) c.in_ok-write_each.ensures))
    c.write_counts.ensures)
