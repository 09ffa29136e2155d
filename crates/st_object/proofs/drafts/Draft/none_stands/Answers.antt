use Rattle.st_object.proofs.Common.{◌&&◌, ◌+◌, not, sym, ap, ◌∙◌, arith, drop, order, none_stands, has_line}
use Rattle.st_object.proofs.Places.{none-from}
use Rattle.st_object.proofs.drafts.Draft.none_stands.Goals as goal

pub kinds-preserved : goal.kinds-preserved
kinds-preserved c =
    let next = none-from (has_line c.args.self.now) c.kinds.place c.kind_at.result c.stands.result (omega arith) c.kind_at.ensures c.stands.ensures in
    sym (ap (λ b. not b && none_stands (has_line c.args.self.now) (drop (c.kinds.place + 1) order)) c.if-stands.false) ∙ sym next ∙ c.kinds.invariant
