use Rattle.st_top.proofs.Common.{[], refl, moment_at_end, output_of_run}
use Rattle.st_top.proofs.Outputs.{writes_run}
use Rattle.st_top.proofs.execution.answer_loaded.Goals as goal

pub returns : goal.returns
returns g c = λ start is stands.
    let asked = c.args.controls.now in
    writes_run _ _ (output_of_run [] asked start) (moment_at_end asked start) _ _ _ refl refl refl
    (c.write_report-written.ensures start is stands) c.answer_of.ensures.done c.answer_of.ensures.ticks c.answer_of.ensures.ok c.answer_of.ensures.err
