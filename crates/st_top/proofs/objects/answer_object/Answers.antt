use Rattle.st_top.proofs.Common.{◌∙◌, ap, read_text, lines_alone, Done}
use Rattle.st_top.proofs.ObjectTexts.{object_text-lines}
use Rattle.st_top.proofs.Outputs.{writes_output}
use Rattle.st_top.proofs.objects.answer_object.Goals as goal

pub returns-in-Ok-clause-writes : goal.returns-in-Ok-clause-writes
returns-in-Ok-clause-writes g c =
    writes_output _ _ _ _ _ (ap (lines_alone Done) (object_text-lines c.args.program.now c.as_slice.result.now
    (c.as_slice.ensures.value ∙ c.in-Ok.ensures.text) c.requires (ap read_text c.as_slice.ensures.value ∙ c.in-Ok.ensures.again)))
    c.answer_text.ensures.writes
