use Rattle.st_account.proofs.Common.{length, refl, ◌∙◌, ap, lines_cut, lines_then, same_lines, Account}
use Rattle.st_account.proofs.BorderLemmas.{row-same, crossed}
use Rattle.st_account.proofs.NextLemmas.{next-is}
use Rattle.st_account.proofs.StallLemmas.{waiting-same, adds-same}
use Rattle.st_account.proofs.account.Account.write_to_next.Goals as goal

pub write_row-requires : goal.write_row-requires
write_row-requires g c =
    waiting-same c.args.self.now.last c.enter_next-border.new.self.last c.args.self.now.waiting.totals _ c.enter_next-border.ensures.last
    (ap (λ (x : Account). x.waiting.totals) c.enter_next-border.ensures.rest) c.requires.behind.1.run.waiting

pub returns-in_err-write_row-clause-lines : goal.returns-in_err-write_row-clause-lines
returns-in_err-write_row-clause-lines g c p can going =
    lines_cut _ _ _ _ _ c.from_residual.result c.from_residual.ensures.0
    (same_lines _ _ _ _ _
    (row-same p c.args.self.now can.is c.enter_next-border.new.self c.enter_next-border.result c.enter_next-border.ensures going c.end_of-end.result c.end_of-end.ensures)
    c.in_err-write_row.ensures.lines)

pub returns-clause-lines : goal.returns-clause-lines
returns-clause-lines g c p can going =
    let o = c.enter_next-border.new.self in
    lines_then _ _ _ _ _ _ _
    (same_lines _ _ _ _ _
    (row-same p c.args.self.now can.is o c.enter_next-border.result c.enter_next-border.ensures going c.end_of-end.result c.end_of-end.ensures)
    c.in_ok-write_row.ensures.lines)
    (same_lines _ _ _ _ _
    (crossed p c.args.self.now can.is o c.enter_next-border.result c.enter_next-border.ensures c.requires.size c.row_number.result c.as_slice.result.now c.as_slice-2.result.now
    c.row_number.ensures.number c.as_slice.ensures.value c.as_slice-2.ensures.value) c.write_border.ensures.lines)

pub returns-clause-waits : goal.returns-clause-waits
returns-clause-waits g c good =
    adds-same _ _ _ _ _ _ c.enter_next-border.ensures.last (ap (λ (x : Account). x.waiting.totals) c.enter_next-border.ensures.rest)
    (c.in_ok-write_row.ensures.waits refl)

pub returns-clause-next : goal.returns-clause-next
returns-clause-next g c p can going good =
    next-is p c.args.self.now can c.enter_next-border.new.self c.enter_next-border.result c.enter_next-border.ensures going _ refl refl refl refl refl refl refl c.clear_if.ensures
    (returns-clause-waits g c good).within

pub returns-clause-size : goal.returns-clause-size
returns-clause-size g c good = ap length (c.write_border.ensures.words good) ∙ c.row_number.ensures.machine.size
