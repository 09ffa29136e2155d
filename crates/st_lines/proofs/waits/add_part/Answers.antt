use Rattle.st_lines.proofs.Common.{◌∙◌, arith}
use Rattle.st_lines.proofs.WaitLemmas.{part_passed, part_few, part_taken}
use Rattle.st_lines.proofs.waits.add_part.Goals as goal

pub returns-then-from-part : goal.returns-then-from-part
returns-then-from-part c =
    part_passed c.args.uses.now c.args.before.now c.args.from c.args.part _ (omega (arith, c.if-from-part.true)) c.requires.within

pub add-requires-clause-few : goal.add-requires-clause-few
add-requires-clause-few c =
    part_few c.args.uses.now c.args.before.now c.args.from c.args.part _ (omega (arith, c.if-from-part.false)) c.requires.used
    c.requires.earlier (c.as_slice.ensures.value ∙ c.fill_waits.ensures)

pub returns : goal.returns
returns c =
    part_taken c.args.uses.now c.args.before.now c.args.from c.args.part c.as_slice.result.now _ _
    (omega (arith, c.if-from-part.false)) (c.as_slice.ensures.value ∙ c.fill_waits.ensures) c.add.ensures.within c.add.ensures.sums
