use Rattle.st_lines.proofs.Common.{◌∙◌, nil_from_length}
use Rattle.st_lines.proofs.LineLemmas.{put_one}
use Rattle.st_lines.proofs.WaitLemmas.{wait_sums_cut, wait_sums_then, wait_sums_none}
use Rattle.st_lines.proofs.waits.+write_each_sum.Goals as goal

pub returns-in_err-write_line : goal.returns-in_err-write_line
returns-in_err-write_line g t c =
    wait_sums_cut _ _ c.args.sums.now _ _ _ _ c.from_residual.ensures.0 c.in-Some.ensures.cases.0
    (put_one _ _ _ _ _ (c.as_bytes.ensures ∙ c.fill_wait_sum.ensures) c.in_err-write_line.ensures)

pub returns : goal.returns
returns g t c =
    wait_sums_then _ _ _ c.args.sums.now _ _ _ _ c.in-Some.ensures.cases.0
    (put_one _ _ _ _ _ (c.as_bytes.ensures ∙ c.fill_wait_sum.ensures) c.in_ok-write_line.ensures) c.write_each_sum.ensures

pub returns-in_default : goal.returns-in_default
returns-in_default g t c = wait_sums_none _ c.args.sums.now _ (nil_from_length _ c.in_default.ensures.cases)
