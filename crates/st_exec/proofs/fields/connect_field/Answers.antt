use Rattle.st_exec.proofs.Common.{sym, subst, Connective, writes_field}
use Rattle.st_exec.proofs.FieldLemmas.{OnlyIf, connection-field, is_field-left}
use Rattle.st_exec.proofs.fields.connect_field.Goals as goal

pub returns-clause-field : goal.returns-clause-field
returns-clause-field c =
    let h = c.args.shape.now in
    let b = writes_field (Connective h.kind) in
    is_field-left c.connective.result.field b c.args.at.now.e h.length c.requires.some c.requires.few c.connective.ensures.field
    (subst (OnlyIf b) (sym c.connective.ensures.done) (connection-field h.kind _ _ _ _ _)) c.requires.written
