use Rattle.st_ledger.proofs.Common.{◌∙◌, sym, ap, arith}
use Rattle.std.proofs.Common.{reverse}
use Rattle.st_ledger.proofs.Stands.{turns_past, turns_one, is_between-parts}
use Rattle.st_ledger.proofs.waits.+add_turns.Goals as goal

pub overflow_add-behind : goal.overflow_add-behind
overflow_add-behind t c =
    let ends = is_between-parts c.args.from c.args.next.tick c.in-Some.last.now (sym c.is_between.ensures ∙ c.if-is_between.true) in
    omega (arith, ends.1, ap (λ r. r.tick) c.acceptance-read.ensures)

pub returns-then-is_between-clause-items : goal.returns-then-is_between-clause-items
returns-then-is_between-clause-items t c older =
    turns_one c.args.from c.args.word c.args.next _ c.acceptance-read.result c.in-Some.last.now
    (reverse c.args.uses.now) (reverse c.in-Some.earlier.now) older c.args.waits.now.items c.add_piece.new.waits.items c.add_piece-then-is_between.new.waits.items _
    c.in-Some.ensures.parts (sym c.is_between.ensures ∙ c.if-is_between.true) c.acceptance-read.ensures
    c.add_piece.ensures.items c.add_piece-then-is_between.ensures.items (c.add_turns.ensures.items older)

pub returns-clause-items : goal.returns-clause-items
returns-clause-items t c older =
    turns_past c.args.from c.args.word c.args.next _ c.in-Some.last.now (reverse c.args.uses.now) (reverse c.in-Some.earlier.now) older
    c.args.waits.now.items _ c.in-Some.ensures.parts (sym c.is_between.ensures ∙ c.if-is_between.false) (c.add_turns-2.ensures.items older)
