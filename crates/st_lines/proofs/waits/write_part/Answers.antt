use Rattle.st_lines.proofs.Common.{◌∙◌, refl, arith}
use Rattle.st_lines.proofs.LineLemmas.{put_then, put_cut}
use Rattle.st_lines.proofs.WaitLemmas.{part_left, part_passed, part_few, part_told, part_taken}
use Rattle.st_lines.proofs.waits.write_part.Goals as goal

pub returns-then-part-from-clause-lines : goal.returns-then-part-from-clause-lines
returns-then-part-from-clause-lines g c =
    part_left _ c.args.entry.now.uses.now c.args.entry.now.before.now c.args.from c.args.part _ (omega (arith, c.if-part-from.true))

pub returns-then-part-from-clause-waits : goal.returns-then-part-from-clause-waits
returns-then-part-from-clause-waits g c ok =
    part_passed c.args.entry.now.uses.now c.args.entry.now.before.now c.args.from c.args.part _ (omega (arith, c.if-part-from.true)) c.requires.within

pub add-requires-clause-few : goal.add-requires-clause-few
add-requires-clause-few g c =
    part_few c.args.entry.now.uses.now c.args.entry.now.before.now c.args.from c.args.part _ (omega (arith, c.if-part-from.false)) c.requires.used
    c.requires.earlier (c.as_slice.ensures.value ∙ c.fill_waits.ensures)

pub returns-clause-lines : goal.returns-clause-lines
returns-clause-lines g c =
    part_told _ _ c.args.entry.now.uses.now c.args.entry.now.before.now c.args.from c.args.part _ _ _ (omega (arith, c.if-part-from.false)) refl
    (c.as_slice-2.ensures.value ∙ c.fill_waits.ensures)
    (put_then _ _ _ _ _ _ _ _ _ (c.as_bytes.ensures ∙ c.fill_charge.ensures) refl c.in_ok-write_line.ensures c.write_each_wait.ensures)

pub returns-in_err-write_line-clause-lines : goal.returns-in_err-write_line-clause-lines
returns-in_err-write_line-clause-lines g c =
    part_told _ _ c.args.entry.now.uses.now c.args.entry.now.before.now c.args.from c.args.part _ _ _ (omega (arith, c.if-part-from.false)) refl refl
    (put_cut _ _ _ _ _ _ _ c.from_residual.ensures.0 (c.as_bytes.ensures ∙ c.fill_charge.ensures) c.in_err-write_line.ensures)

pub returns-clause-waits : goal.returns-clause-waits
returns-clause-waits g c ok =
    part_taken c.args.entry.now.uses.now c.args.entry.now.before.now c.args.from c.args.part c.as_slice.result.now _ _
    (omega (arith, c.if-part-from.false)) (c.as_slice.ensures.value ∙ c.fill_waits.ensures) c.add.ensures.within c.add.ensures.sums
