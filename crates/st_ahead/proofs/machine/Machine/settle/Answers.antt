use Rattle.st_ahead.proofs.Common.{is_none, if◌then◌else◌, None, ap, ◌∙◌, arith, interrupt, rests, machine_after_pass}
use Rattle.st_ahead.proofs.Settling.{ended-rest, answer-waits, settled-waits, answer-mispredicted, settled-mispredicted, answer-goes, settled-goes}
use Rattle.st_ahead.proofs.machine.Machine.settle.Goals as goal

pub returns-in-Waits-clause-answer : goal.returns-in-Waits-clause-answer
returns-in-Waits-clause-answer g c = answer-waits c.args.self.now c.in-Waits.ensures.0 c.in-Waits.ensures.1

pub returns-in-Waits-clause-after : goal.returns-in-Waits-clause-after
returns-in-Waits-clause-after g c = c.end.ensures.after ∙ settled-waits c.args.self.now c.in-Waits.ensures.0 c.in-Waits.ensures.1

pub pass-requires : goal.pass-requires
pass-requires g c =
    let m = c.args.self.now in
    let e = c.end-dropped.new.self in
    let is = c.in-Mispredicted.ensures in
    let rest = ended-rest m e c.end-dropped.ensures.after in
    let due = ap (λ t. if is_none t then interrupt e.state else None) rest.taken ∙ ap (λ s. if is_none m.taken then interrupt s else None) rest.state ∙ is.0 in
    (omega arith, (rest.phase c.requires.turn, (due, ap (λ s. rests s) rest.state ∙ is.1)))

pub returns-in-Mispredicted-clause-answer : goal.returns-in-Mispredicted-clause-answer
returns-in-Mispredicted-clause-answer g c =
    let is = c.in-Mispredicted.ensures in
    answer-mispredicted c.args.self.now c.end-dropped.result c.end-dropped.ensures.dropped is.0 is.1 is.2

pub returns-in-Mispredicted-clause-after : goal.returns-in-Mispredicted-clause-after
returns-in-Mispredicted-clause-after g c =
    let is = c.in-Mispredicted.ensures in
    settled-mispredicted c.args.self.now c.pass.new.self is.0 is.1 is.2 (c.pass.ensures ∙ ap (λ m. machine_after_pass m) c.end-dropped.ensures.after)

pub returns-in-Goes-clause-answer : goal.returns-in-Goes-clause-answer
returns-in-Goes-clause-answer g c = answer-goes c.args.self.now c.in-Goes.ensures.due c.in-Goes.ensures.goes c.in-Goes.ensures.right

pub returns-in-Goes-clause-after : goal.returns-in-Goes-clause-after
returns-in-Goes-clause-after g c =
    let is = c.in-Goes.ensures in
    settled-goes c.args.self.now c.go_on.new.self is.due is.goes is.right c.go_on.ensures
