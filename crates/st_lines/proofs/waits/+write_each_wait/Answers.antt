use Rattle.st_lines.proofs.Common.{◌∙◌, nil_from_length}
use Rattle.st_lines.proofs.LineLemmas.{put_one}
use Rattle.st_lines.proofs.WaitLemmas.{waits_cut, waits_then, waits_none}
use Rattle.st_lines.proofs.waits.+write_each_wait.Goals as goal

pub returns-in_err-write_line : goal.returns-in_err-write_line
returns-in_err-write_line g t c =
    waits_cut _ _ c.args.waits.now _ _ _ _ c.from_residual.ensures.0 c.in-Some.ensures.cases.0
    (put_one _ _ _ _ _ (c.as_bytes.ensures ∙ c.fill_wait.ensures) c.in_err-write_line.ensures)

pub returns : goal.returns
returns g t c = waits_then _ _ _ c.args.waits.now _ _ _ _ c.in-Some.ensures.cases.0
    (put_one _ _ _ _ _ (c.as_bytes.ensures ∙ c.fill_wait.ensures) c.in_ok-write_line.ensures) c.write_each_wait.ensures

pub returns-in_default : goal.returns-in_default
returns-in_default g t c = waits_none _ c.args.waits.now _ (nil_from_length _ c.in_default.ensures.cases)
