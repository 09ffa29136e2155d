use Rattle.st_account.proofs.Common.{refl, sym, subst, arith, lines_cut, lines_then, same_lines, RowTelling, AddsKeptWaits}
use Rattle.st_account.proofs.BorderLemmas.{last-row, behind-same}
use Rattle.st_account.proofs.account.Account.finish.Goals as goal

pub returns-in_err-write_row-clause-lines : goal.returns-in_err-write_row-clause-lines
returns-in_err-write_row-clause-lines g c p can end =
    lines_cut _ _ _ _ _ c.from_residual.result c.from_residual.ensures.0
    (same_lines _ _ _ _ _ (last-row p c.args.self.now can.is end c.end_of-end.result c.end_of-end.ensures) c.in_err-write_row.ensures.lines)

pub returns-clause-lines : goal.returns-clause-lines
returns-clause-lines g c p can end =
    lines_then _ _ _ _ _ _ _
    (same_lines _ _ _ _ _ (last-row p c.args.self.now can.is end c.end_of-end.result c.end_of-end.ensures) c.in_ok-write_row.ensures.lines)
    (c.write_last.ensures.lines p (behind-same p c.args.self.now _ can.is) end)

pub returns-clause-waits : goal.returns-clause-waits
returns-clause-waits g c good =
    let a = c.args.self.now in
    subst (λ (w : RowTelling). AddsKeptWaits a.k a.last a.waiting.totals w.totals) (sym c.write_last.ensures.waits) (c.in_ok-write_row.ensures.waits refl)

pub write_row-requires : goal.write_row-requires
write_row-requires g c = c.requires.behind.1.run.waiting

pub write_last-requires-clause-few : goal.write_last-requires-clause-few
write_last-requires-clause-few g c = omega (arith, c.requires.behind.1.run.few)

pub write_last-requires-clause-dropped : goal.write_last-requires-clause-dropped
write_last-requires-clause-dropped g c = c.requires.behind.1.dropped

pub write_last-requires-clause-left : goal.write_last-requires-clause-left
write_last-requires-clause-left g c = c.requires.behind.1.is.unchanged c.requires.size
