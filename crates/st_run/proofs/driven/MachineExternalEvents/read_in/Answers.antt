use Rattle.st_run.proofs.Common.{refl}
use Rattle.st_run.proofs.OverlappedLemmas.{read-changed, read-state}
use Rattle.st_run.proofs.driven.MachineExternalEvents.read_in.Goals as goal

pub returns-clause-state : goal.returns-clause-state
returns-clause-state g c = read-state c.args.self.now.state.reader c.args.self.now c.read_in.new.self c.args.card c.read_in.ensures.after

pub returns-clause-rest : goal.returns-clause-rest
returns-clause-rest g c =
    read-changed c.args.self.now.state.reader c.args.self.now c.read_in.new.self c.args.card refl c.requires.order c.shape_of.ensures
    c.requires.turn c.read_in.ensures.after
