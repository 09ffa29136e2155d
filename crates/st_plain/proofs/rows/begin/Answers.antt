use Rattle.st_plain.proofs.Common.{◌∙◌, sym, ap, arith, Needs, side_to_read, side_at}
use Rattle.st_plain.proofs.UseLemmas.{put-formed, formed-used}
use Rattle.st_plain.proofs.rows.begin.Goals as goal

pub note_side-requires : goal.note_side-requires
note_side-requires c =
    let told = put-formed c.args.before.now.timing.now.delays.now.list c.args.before.now.issue.now _ _ c.args.uses.now c.plan.new.watch c.plan.ensures.entry
    c.plan.ensures.in_time c.plan.ensures.told (omega (arith, c.requires.space)) in
    omega (arith, told.1, c.requires.space)

pub returns-clause-uses : goal.returns-clause-uses
unfolding side_at
returns-clause-uses c =
    let ds = c.args.before.now.timing.now.delays.now.list in
    let f = c.args.before.now.issue.now in
    let e = c.plan.new.self.entry in
    let told = put-formed ds f e _ c.args.uses.now c.plan.new.watch c.plan.ensures.entry c.plan.ensures.in_time
    c.plan.ensures.told (omega (arith, c.requires.space)) in
    let side = ap (λ (n : Needs). n.index_read) c.plan.ensures.needs ∙ sym c.known_if-known.ensures.side in
    formed-used ds f e c.known_if-known.result.side c.args.uses.now.items c.plan.new.watch.items c.note_side.new.uses.items
    (c.plan.ensures.side ∙ ap side_to_read side) told.0 c.note_side.ensures.items

pub returns-clause-noted : goal.returns-clause-noted
returns-clause-noted c =
    let told = put-formed c.args.before.now.timing.now.delays.now.list c.args.before.now.issue.now _ _ c.args.uses.now c.plan.new.watch c.plan.ensures.entry
    c.plan.ensures.in_time c.plan.ensures.told (omega (arith, c.requires.space)) in
    omega (arith, told.1, c.note_side.ensures.room)
