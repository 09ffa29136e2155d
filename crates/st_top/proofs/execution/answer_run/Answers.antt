use Rattle.st_top.proofs.Common.{refl, assembly_parts, front_lines, moment_at_end, output_of_run}
use Rattle.st_top.proofs.Outputs.{writes_run}
use Rattle.st_top.proofs.execution.answer_run.Goals as goal

pub returns : goal.returns
returns g c = λ start is stands.
    let asked = c.args.program.now.controls in
    writes_run _ _ (output_of_run (front_lines c.args.job.now.made c.args.job.now.text.now (assembly_parts c.args.program.now)) asked start) (moment_at_end asked start) _ _ _ refl refl refl
    (c.write_output-written.ensures start is stands) c.answer_of.ensures.done c.answer_of.ensures.ticks c.answer_of.ensures.ok c.answer_of.ensures.err
