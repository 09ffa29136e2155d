use Rattle.st_object.proofs.Common.{◌&&◌, ◌+◌, list_all, sym, ap, ◌∙◌, arith, drop, take, order, is_met, has_line}
use Rattle.st_object.proofs.Places.{all-before}
use Rattle.st_object.proofs.drafts.Draft.are_met.Goals as goal

pub returns-then-not-is_met : goal.returns-then-not-is_met
returns-then-not-is_met c =
    let next = all-before (is_met (has_line c.args.self.now)) c.args.end c.kinds.place c.kind_at.result c.is_met.result c.requires (omega arith) c.kind_at.ensures c.is_met.ensures in
    sym (ap (λ b. b && list_all (is_met (has_line c.args.self.now)) (drop (c.kinds.place + 1) (take c.args.end order))) c.if-not-is_met.true) ∙ sym next ∙ c.kinds.invariant

pub kinds-preserved : goal.kinds-preserved
kinds-preserved c =
    let next = all-before (is_met (has_line c.args.self.now)) c.args.end c.kinds.place c.kind_at.result c.is_met.result c.requires (omega arith) c.kind_at.ensures c.is_met.ensures in
    sym (ap (λ b. b && list_all (is_met (has_line c.args.self.now)) (drop (c.kinds.place + 1) (take c.args.end order))) c.if-not-is_met.false) ∙ sym next ∙ c.kinds.invariant
