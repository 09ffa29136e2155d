use Rattle.st_top.proofs.Common.{assembly_parts, front_lines, moment_at_end, run_report, lines_and_run}
use Rattle.st_telling.proofs.Runs.{lines_alone}
use Rattle.st_top.proofs.execution.write_output.Goals as goal

pub returns-in_err-write_front : goal.returns-in_err-write_front
returns-in_err-write_front g c = λ start is stands.
    let asked = c.args.program.now.controls in
    lines_alone _ _ (front_lines c.args.job.now.made c.args.job.now.text.now (assembly_parts c.args.program.now)) (run_report asked start) (moment_at_end asked start) _ _ _
    c.requires.moment c.from_residual.ensures.0 c.in_err-write_front.ensures

pub returns : goal.returns
returns g c = λ start is stands.
    let asked = c.args.program.now.controls in
    lines_and_run _ _ _ (front_lines c.args.job.now.made c.args.job.now.text.now (assembly_parts c.args.program.now)) (run_report asked start) (moment_at_end asked start) _ _ _
    c.in_ok-write_front.ensures (c.write_report.ensures start is stands)
