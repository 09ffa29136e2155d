use Rattle.st_account.proofs.Common.{◌++◌, sym, ◌∙◌, ap, next_state, whole_state_lines, same_lines, no_lines, line_of_start}
use Rattle.st_account.proofs.RoundLemmas.{passed-all, passed-first, passed-none, start-is}
use Rattle.st_account.proofs.passing.pass_to_next.Goals as goal

pub returns-then-until-eq0-clause-lines : goal.returns-then-until-eq0-clause-lines
returns-then-until-eq0-clause-lines g c p can going =
    let a = c.args.account.now in
    same_lines _ _ _ _ _ (sym (passed-all p a (line_of_start a.k c.args.start.now) c.args.until c.if-until-eq0.true)) (c.write_to_next.ensures.lines p can going)

pub returns-then-until-eq1-clause-start : goal.returns-then-until-eq1-clause-start
returns-then-until-eq1-clause-start g c p can going some =
    let moved = c.skip_to_next-border.ensures.next p can going in
    start-is p c.args.account.now can.is c.skip_to_next-border.new.self.last.issue c.skip_to_next-border.new.self.k c.skip_to_next-border.result
    c.args.start.now c.keep_start.new.start c.skip_to_next-border.ensures.border moved.number moved.issue c.keep_start.ensures

pub returns-then-until-eq1-clause-lines : goal.returns-then-until-eq1-clause-lines
returns-then-until-eq1-clause-lines g c p can going =
    let a = c.args.account.now in
    let moved = c.skip_to_next-border.ensures.next p can going in
    same_lines _ _ _ _ _
    (ap (λ s. whole_state_lines s ++ line_of_start c.skip_to_next-border.new.self.k c.keep_start.new.start) (moved.state ∙ sym can.is.state)
    ∙ ap (λ ls. whole_state_lines (next_state p.moment) ++ ls)
    (start-is p a can.is c.skip_to_next-border.new.self.last.issue c.skip_to_next-border.new.self.k c.skip_to_next-border.result
    c.args.start.now c.keep_start.new.start c.skip_to_next-border.ensures.border moved.number moved.issue c.keep_start.ensures)
    ∙ sym (passed-first p a (line_of_start a.k c.args.start.now) c.args.until c.if-until-eq1.true))
    c.write_first.ensures

pub returns-then-until-eq1-clause-next : goal.returns-then-until-eq1-clause-next
returns-then-until-eq1-clause-next g c p can going good = c.skip_to_next-border.ensures.next p can going

pub returns-clause-lines : goal.returns-clause-lines
returns-clause-lines g c p can going =
    let a = c.args.account.now in
    same_lines _ _ _ _ _ (sym (passed-none p a (line_of_start a.k c.args.start.now) c.args.until c.if-until-eq0.false c.if-until-eq1.false)) (no_lines _ _)

pub returns-clause-start : goal.returns-clause-start
returns-clause-start g c p can going some =
    let moved = c.skip_to_next-border.ensures.next p can going in
    start-is p c.args.account.now can.is c.skip_to_next-border.new.self.last.issue c.skip_to_next-border.new.self.k c.skip_to_next-border.result
    c.args.start.now c.keep_start.new.start c.skip_to_next-border.ensures.border moved.number moved.issue c.keep_start.ensures

pub returns-clause-next : goal.returns-clause-next
returns-clause-next g c p can going good = c.skip_to_next-border.ensures.next p can going
