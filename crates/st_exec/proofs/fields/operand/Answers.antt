use Rattle.st_exec.proofs.InsideLemmas.{inside-operand}
use Rattle.st_exec.proofs.fields.operand.Goals as goal

pub operand_field-requires-clause-inside : goal.operand_field-requires-clause-inside
operand_field-requires-clause-inside c =
    inside-operand c.args.at.now.p c.args.at.now.e c.args.n c.if-at-eq1.false c.requires.few c.requires.inside
