use Rattle.st_tally.proofs.Common.{nil_from_length, reason_sum_line, reason_sum}
use Rattle.st_tally.proofs.LineLemmas.{headings_cut, headings_then, headings_none}
use Rattle.st_tally.proofs.writing.+write_each.Goals as goal

pub returns-in_err-write_reason : goal.returns-in_err-write_reason
returns-in_err-write_reason g t c =
    headings_cut _ _ (λ h. reason_sum_line h (reason_sum c.args.tables.now h)) c.args.some.now _ _ _ _ c.from_residual.ensures.0 c.in-Some.ensures.cases.0
    c.in_err-write_reason.ensures

pub returns : goal.returns
returns g t c =
    headings_then _ _ _ (λ h. reason_sum_line h (reason_sum c.args.tables.now h)) c.args.some.now _ _ _ _ c.in-Some.ensures.cases.0 c.in_ok-write_reason.ensures
    c.write_each.ensures

pub returns-in_default : goal.returns-in_default
returns-in_default g t c =
    headings_none _ (λ h. reason_sum_line h (reason_sum c.args.tables.now h)) c.args.some.now _ (nil_from_length _ c.in_default.ensures.cases)
