use Rattle.st_lines.proofs.Common.{refl, lines_then, lines_cut, done_entry_lines}
use Rattle.st_lines.proofs.LineLemmas.{three_then, three_cut}
use Rattle.st_lines.proofs.facts.write_done.Goals as goal

pub returns-in_err-write_row-clause-lines : goal.returns-in_err-write_row-clause-lines
unfolding done_entry_lines
returns-in_err-write_row-clause-lines g c = three_cut _ _ _ _ _ c.from_residual.result c.from_residual.ensures.0 c.in_err-write_row.ensures

pub returns-in_err-write_missed-clause-lines : goal.returns-in_err-write_missed-clause-lines
unfolding done_entry_lines
returns-in_err-write_missed-clause-lines g c =
    three_then _ _ _ _ _ _ _ c.in_ok-write_row.ensures
    (lines_cut _ _ _ _ _ _ c.from_residual-in_err-write_missed.ensures.0
    (lines_cut _ _ _ _ _ _ refl c.in_err-write_missed.ensures))

pub returns-in_err-write_facts-clause-lines : goal.returns-in_err-write_facts-clause-lines
unfolding done_entry_lines
returns-in_err-write_facts-clause-lines g c =
    three_then _ _ _ _ _ _ _ c.in_ok-write_row.ensures
    (lines_cut _ _ _ _ _ _ c.from_residual-in_err-write_facts.ensures.0
    (lines_then _ _ _ _ _ _ _ c.in_ok-write_missed.ensures c.in_err-write_facts.ensures))

pub returns-in_err-write_charged-clause-lines : goal.returns-in_err-write_charged-clause-lines
unfolding done_entry_lines
returns-in_err-write_charged-clause-lines g c =
    three_then _ _ _ _ _ _ _ c.in_ok-write_row.ensures
    (lines_then _ _ _ _ _ _ _ (lines_then _ _ _ _ _ _ _ c.in_ok-write_missed.ensures c.in_ok-write_facts.ensures)
    (lines_cut _ _ _ _ _ _ c.from_residual-in_err-write_charged.ensures.0 c.in_err-write_charged.ensures.lines))

pub returns-in_err-write_level-clause-lines : goal.returns-in_err-write_level-clause-lines
unfolding done_entry_lines
returns-in_err-write_level-clause-lines g c =
    three_then _ _ _ _ _ _ _ c.in_ok-write_row.ensures
    (lines_then _ _ _ _ _ _ _ (lines_then _ _ _ _ _ _ _ c.in_ok-write_missed.ensures c.in_ok-write_facts.ensures)
    (lines_then _ _ _ _ _ _ _ c.in_ok-write_charged.ensures.lines
    (lines_cut _ _ _ _ _ _ c.from_residual-in_err-write_level.ensures.0 c.in_err-write_level.ensures)))

pub returns-clause-lines : goal.returns-clause-lines
unfolding done_entry_lines
returns-clause-lines g c =
    three_then _ _ _ _ _ _ _ c.in_ok-write_row.ensures
    (lines_then _ _ _ _ _ _ _ (lines_then _ _ _ _ _ _ _ c.in_ok-write_missed.ensures c.in_ok-write_facts.ensures)
    (lines_then _ _ _ _ _ _ _ c.in_ok-write_charged.ensures.lines
    (lines_then _ _ _ _ _ _ _ c.in_ok-write_level.ensures c.write_because.ensures)))
