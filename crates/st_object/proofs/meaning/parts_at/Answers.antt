use Rattle.st_object.proofs.Parts.{parts_found}
use Rattle.st_object.proofs.meaning.parts_at.Goals as goal

pub returns : goal.returns
returns c = parts_found c.args.at c.args.text.now c.cut.result c.cut.ensures.first c.cut.ensures.whole
