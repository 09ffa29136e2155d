use Rattle.st_ahead.proofs.Common.{ℕ, List, None, subst, opening_issue, IsOpened}
use Rattle.st_ahead.proofs.Standing.{started-inside}
use Rattle.st_ahead.proofs.machine.Machine.new.Goals as goal

pub invariant_of-result : goal.invariant_of-result
invariant_of-result g c = (started-inside g.row.N c.args.delays.list c.args.state c.new-lookahead.result c.requires.some c.requires.few c.new-lookahead.ensures.machine
    c.requires.enabled c.requires.waiting
    (subst (λ (ticks : List ℕ). IsOpened None c.args.state (opening_issue (record { ticks = ticks }) 0) c.new-lookahead.result) c.new.ensures c.new-lookahead.ensures.opened)).0

pub returns-clause-value : goal.returns-clause-value
returns-clause-value g c = (started-inside g.row.N c.args.delays.list c.args.state c.new-lookahead.result c.requires.some c.requires.few c.new-lookahead.ensures.machine
    c.requires.enabled c.requires.waiting
    (subst (λ (ticks : List ℕ). IsOpened None c.args.state (opening_issue (record { ticks = ticks }) 0) c.new-lookahead.result) c.new.ensures c.new-lookahead.ensures.opened)).1
