use Rattle.st_top.proofs.Besides.{read-kept}
use Rattle.st_top.proofs.beside.NotedExternalEvents.read_in.Goals as goal

pub returns-clause-rest : goal.returns-clause-rest
returns-clause-rest c =
    let after = c.read_noted in
    read-kept c.args.self.now.state.reader c.args.self.now (record { state = after.new.machine; steps = after.new.steps }) c.args.card
    c.requires.order after.ensures.state after.ensures.depth after.ensures.states
