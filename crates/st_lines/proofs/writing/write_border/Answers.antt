use Rattle.st_lines.proofs.Common.{nat_eq, refl, lines_then, lines_cut, marks_lines, taken_by, state_lines}
use Rattle.st_lines.proofs.LineLemmas.{first_cut, second_cut, not_both}
use Rattle.st_lines.proofs.writing.write_border.Goals as goal

pub returns-in_err-write_ended-clause-lines : goal.returns-in_err-write_ended-clause-lines
returns-in_err-write_ended-clause-lines g c = first_cut _ _ _ _ _ _ c.from_residual.result c.from_residual.ensures.0 c.in_err-write_ended.ensures

pub returns-in_err-write_ended-clause-words : goal.returns-in_err-write_ended-clause-words
returns-in_err-write_ended-clause-words g c good = not_both c.from_residual.result c.from_residual.ensures.0 good

pub returns-in_err-write_marks-clause-lines : goal.returns-in_err-write_marks-clause-lines
unfolding state_lines
returns-in_err-write_marks-clause-lines g c =
    let x = c.args.border.now in
    let b = c.args.between.now in
    second_cut _ _ _ _ _ _ _ _ c.from_residual-in_err-write_marks.result c.from_residual-in_err-write_marks.ensures.0 c.in_ok-write_ended.ensures
    (lines_cut _ _ (marks_lines b.printed.now b.k b.was c.args.old.now.items c.args.state.now) (taken_by (nat_eq b.k 0) x.taken x.done) _ _ refl
    c.in_err-write_marks.ensures.lines)

pub returns-in_err-write_marks-clause-words : goal.returns-in_err-write_marks-clause-words
returns-in_err-write_marks-clause-words g c good = not_both c.from_residual-in_err-write_marks.result c.from_residual-in_err-write_marks.ensures.0 good

pub returns-in_err-write_taken-clause-lines : goal.returns-in_err-write_taken-clause-lines
unfolding state_lines
returns-in_err-write_taken-clause-lines g c =
    let x = c.args.border.now in
    let b = c.args.between.now in
    second_cut _ _ _ _ _ _ _ _ c.from_residual-in_err-write_taken.result c.from_residual-in_err-write_taken.ensures.0 c.in_ok-write_ended.ensures
    (lines_then _ _ _ (marks_lines b.printed.now b.k b.was c.args.old.now.items c.args.state.now) (taken_by (nat_eq b.k 0) x.taken x.done) _ _
    c.in_ok-write_marks.ensures.lines c.in_err-write_taken.ensures)

pub returns-in_err-write_taken-clause-words : goal.returns-in_err-write_taken-clause-words
returns-in_err-write_taken-clause-words g c good = c.in_ok-write_marks.ensures.words refl

pub returns-clause-lines : goal.returns-clause-lines
unfolding state_lines
returns-clause-lines g c =
    let x = c.args.border.now in
    let b = c.args.between.now in
    lines_then _ _ _ _ _ _ _ (lines_then _ _ _ _ _ _ _ c.in_ok-write_ended.ensures
    (lines_then _ _ _ (marks_lines b.printed.now b.k b.was c.args.old.now.items c.args.state.now) (taken_by (nat_eq b.k 0) x.taken x.done) _ _
    c.in_ok-write_marks.ensures.lines c.in_ok-write_taken.ensures)) c.write_start.ensures

pub returns-clause-words : goal.returns-clause-words
returns-clause-words g c good = c.in_ok-write_marks.ensures.words refl
