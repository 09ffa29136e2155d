use Rattle.st_dis.proofs.Common.{append_assoc, arith}
use Rattle.std.proofs.lemmas.List.{append-nil}
use Rattle.st_dis.proofs.Fields.{listed_fields-none, listed_fields-last}
use Rattle.st_dis.proofs.pieces.+push_listed_fields.Goals as goal

pub returns-then-count-eq0-clause-text : goal.returns-then-count-eq0-clause-text
returns-then-count-eq0-clause-text t c =
    let none = listed_fields-none c.args.count c.args.address c.if-count-eq0.true in rw (none, append-nil)

pub returns-clause-text : goal.returns-clause-text
returns-clause-text t c =
    let last = listed_fields-last c.args.count c.args.address (omega arith) in
    rw (last, c.push_listed_field.ensures.text, c.push_listed_fields.ensures.text, append_assoc)
