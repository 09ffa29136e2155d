use Rattle.st_top.proofs.Common.{◌≡◌, List, ℕ, [], sym, ◌∙◌, ap, subst, Ok, Program, IsProgram, scene_at_start, output_of_run, loaded_by, KeepsTime}
use Rattle.st_top.proofs.Outputs.{loaded_is, writes_output}
use Rattle.st_top.proofs.Times.{keeps_time}
use Rattle.st_top.proofs.execution.execute_loaded.Goals as goal

pub returns-clause-writes : goal.returns-clause-writes
returns-clause-writes g c =
    let seen : Program =
    record { words = c.program.inside.words.items; start = c.program.inside.start; controls = c.program.inside.controls } in
    let same : seen ≡ c.args.program.now = c.program.view_is in
    let start = scene_at_start c.as_slice-words.result.now seen.start seen.controls [] in
    let made = c.in-Ok.ensures in
    writes_output _ _ _ _ _
    (ap (λ (words : List ℕ). output_of_run [] seen.controls (scene_at_start words seen.start seen.controls [])) c.as_slice-words.ensures.value
    ∙ (loaded_is seen ∙ ap (λ (q : Program). loaded_by (Ok q)) same))
    (c.answer_loaded.ensures start made.rest made.beside)

pub returns-clause-in_time : goal.returns-clause-in_time
returns-clause-in_time g c =
    let seen : Program =
    record { words = c.program.inside.words.items; start = c.program.inside.start; controls = c.program.inside.controls } in
    let same : seen ≡ c.args.program.now = c.program.view_is in
    let start = scene_at_start c.as_slice-words.result.now seen.start seen.controls [] in
    let made = c.in-Ok.ensures in
    let is : IsProgram seen = subst IsProgram (sym same) c.requires in
    subst (λ (q : Program). KeepsTime q.controls.delays c.answer_loaded.result) same
    (keeps_time seen.controls start _ _ [] _ is.delays is.limits.delays.each made.scene (c.answer_loaded.ensures start made.rest made.beside))
