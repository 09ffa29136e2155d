use Rattle.st_lines.proofs.RowWaits.{row_waits_by, ready_then}
use Rattle.st_lines.proofs.waits.add_waits.Goals as goal

pub add_part-requires-2 : goal.add_part-requires-2
add_part-requires-2 c = record {
  used = c.requires.used;
  earlier = c.requires.earlier;
  within = ready_then c.args.uses.now c.args.before.now c.later-begun.result c.later-formed.result c.later.result c.args.row.now.a _ _ _
      c.later.ensures c.later-formed.ensures c.add_part.ensures;
}

pub add_part-requires-3 : goal.add_part-requires-3
add_part-requires-3 c = record {
  used = c.requires.used;
  earlier = c.requires.earlier;
  within = ready_then c.args.uses.now c.args.before.now c.later-formed.result c.later-prepared.result c.later-2.result c.args.row.now.p _ _ _
      c.later-2.ensures c.later-prepared.ensures c.add_part-2.ensures;
}

pub returns : goal.returns
returns c =
    row_waits_by c.args.uses.now c.args.before.now c.args.from c.args.start c.args.row.now c.later-begun.result c.saturating_sub.result c.later.result
    c.later-formed.result c.saturating_sub-2.result c.later-2.result c.later-prepared.result c.args.totals.now _ _ _ c.requires.within
    c.later-begun.ensures c.saturating_sub.ensures c.add_part.ensures c.later.ensures c.later-formed.ensures c.saturating_sub-2.ensures
    c.add_part-2.ensures c.later-2.ensures c.later-prepared.ensures c.add_part-3.ensures
