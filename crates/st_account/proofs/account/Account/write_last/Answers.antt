use Rattle.st_account.proofs.Common.{lines_then, same_lines, first_cut, second_cut}
use Rattle.st_account.proofs.BorderLemmas.{last-lines, totals-is}
use Rattle.st_account.proofs.account.Account.write_last.Goals as goal

pub returns-in_err-write_end-clause-lines : goal.returns-in_err-write_end-clause-lines
returns-in_err-write_end-clause-lines g c p is end =
    same_lines _ _ _ _ _ (last-lines p c.args.self.now is end c.requires.size c.row_number.result c.as_slice.result.now c.as_slice-2.result.now c.row_number.ensures.number c.as_slice.ensures.value c.as_slice-2.ensures.value)
    (first_cut _ _ _ _ _ _ c.from_residual.result c.from_residual.ensures.0 c.in_err-write_end.ensures)

pub returns-in_err-write_marks-clause-lines : goal.returns-in_err-write_marks-clause-lines
returns-in_err-write_marks-clause-lines g c p is end =
    same_lines _ _ _ _ _ (last-lines p c.args.self.now is end c.requires.size c.row_number.result c.as_slice.result.now c.as_slice-2.result.now c.row_number.ensures.number c.as_slice.ensures.value c.as_slice-2.ensures.value)
    (second_cut _ _ _ _ _ _ _ _ c.from_residual-in_err-write_marks.result c.from_residual-in_err-write_marks.ensures.0 c.in_ok-write_end.ensures
    c.in_err-write_marks.ensures.lines)

pub returns-clause-lines : goal.returns-clause-lines
returns-clause-lines g c p is end =
    same_lines _ _ _ _ _ (last-lines p c.args.self.now is end c.requires.size c.row_number.result c.as_slice.result.now c.as_slice-2.result.now c.row_number.ensures.number c.as_slice.ensures.value c.as_slice-2.ensures.value)
    (lines_then _ _ _ _ _ _ _
    (lines_then _ _ _ _ _ _ _ c.in_ok-write_end.ensures
    c.in_ok-write_marks.ensures.lines)
    (same_lines _ _ _ _ _ (totals-is c.args.self.now.state _ _ _ c.is_at_rest.ensures c.done_in.ensures) c.write_totals.ensures))
