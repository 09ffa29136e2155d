use Rattle.st_top.proofs.Common.{List, ℕ, ◌∙◌, ap, assembly_parts, sweep_of, output_of_sweep}
use Rattle.st_top.proofs.Outputs.{writes_output}
use Rattle.st_top.proofs.Times.{keeps_sweep}
use Rattle.st_top.proofs.sweeping.execute_sweep.Goals as goal

pub returns-clause-writes : goal.returns-clause-writes
returns-clause-writes g c =
    let a = assembly_parts c.args.program.now in
    writes_output _ _ _ _ _
    (ap (output_of_sweep a.asked.delays) (c.in-Ok.ensures.value ∙ ap (λ (image : List ℕ). sweep_of image a.start a.asked) c.as_slice-words.ensures.value))
    (c.answer_swept.ensures a.asked.delays)

pub returns-clause-in_time : goal.returns-clause-in_time
returns-clause-in_time g c =
    let a = assembly_parts c.args.program.now in
    keeps_sweep c.as_slice-words.result.now a.start a.asked _ _ _ c.requires.delays c.requires.limits.delays.each c.sweep_image.ensures.scene
    (writes_output _ _ _ _ _ (ap (output_of_sweep a.asked.delays) c.in-Ok.ensures.value) (c.answer_swept.ensures a.asked.delays))
