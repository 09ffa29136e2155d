use Rattle.st_object.proofs.Common.{refl, sym, subst, arith, pieces_of, draft_at_start, read_from, read_text, Explains, ObjectError}
use Rattle.st_object.proofs.LineByLine.{line_refused, line_added, good_line}
use Rattle.st_object.proofs.LineCounts.{few_lines}
use Rattle.st_object.proofs.reading.read.Goals as goal

pub returns-in-Refused : goal.returns-in-Refused
unfolding read_text
returns-in-Refused c =
    let bad = line_refused c.lines.draft c.lines.card c.in-Some.line.now c.lines.rest.now c.in-Some.after.now
    (read_from draft_at_start 1 (pieces_of 10 c.args.text.now)) c.in-Some.ensures.pieces c.in-Refused.ensures c.lines.invariant.same in
    subst (λ (r : ObjectError). Explains (read_text c.args.text.now) r) (sym c.refused.ensures) (bad, refl)

pub lines-preserved : goal.lines-preserved
lines-preserved c =
    let good = good_line c.lines.draft c.add_line.new.draft c.in-Some.line.now c.in-Added.ensures in
    let draft = good.kept c.lines.invariant.draft in
    record {
      draft = draft;
      counted = omega (arith, good.more, c.lines.invariant.counted);
      few = omega (arith, good.more, c.lines.invariant.counted, few_lines c.add_line.new.draft draft);
      same = line_added c.lines.draft c.add_line.new.draft c.lines.card c.in-Some.line.now c.lines.rest.now c.in-Some.after.now
          (read_from draft_at_start 1 (pieces_of 10 c.args.text.now)) c.in-Some.ensures.pieces c.in-Added.ensures c.lines.invariant.same;
    }
