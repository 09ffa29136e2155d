use Rattle.st_exec.proofs.Common.{sym, subst, Variable, writes_field}
use Rattle.st_exec.proofs.FieldLemmas.{OnlyIf, result-field, is_field-left}
use Rattle.st_exec.proofs.fields.operate.Goals as goal

pub returns-clause-field : goal.returns-clause-field
returns-clause-field c =
    let b = writes_field (Variable c.args.op) in
    is_field-left c.result_by.result.field b c.args.at.now.e c.args.shape.now.length
    c.requires.shape.some c.requires.shape.few c.result_by.ensures.field
    (subst (OnlyIf b) (sym c.result_by.ensures.value) (result-field c.args.is_decimal c.args.op _ _ _ _ _)) c.requires.written
