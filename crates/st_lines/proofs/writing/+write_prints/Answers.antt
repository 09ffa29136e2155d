use Rattle.st_lines.proofs.Common.{◌∙◌, ap, nil_from_length, prt_line}
use Rattle.st_lines.proofs.LineLemmas.{prints_cut, prints_then, prints_none, put_one}
use Rattle.st_lines.proofs.writing.+write_prints.Goals as goal

pub returns-in_err-put : goal.returns-in_err-put
returns-in_err-put g t c =
    prints_cut _ _ c.args.printed.now _ _ _ _ c.from_residual.ensures.0 c.in-Some.ensures.cases.0
    (put_one _ _ _ _ _ (c.line_prt.ensures ∙ ap prt_line c.print_text.ensures.text) c.in_err-put.ensures)

pub returns : goal.returns
returns g t c =
    prints_then _ _ _ c.args.printed.now _ _ _ _ c.in-Some.ensures.cases.0
    (put_one _ _ _ _ _ (c.line_prt.ensures ∙ ap prt_line c.print_text.ensures.text) c.in_ok-put.ensures) c.write_prints.ensures

pub returns-in_default : goal.returns-in_default
returns-in_default g t c = prints_none _ c.args.printed.now _ (nil_from_length _ c.in_default.ensures.cases)
