use Rattle.st_run.proofs.OverlappedLemmas.{rest-changed, rest-state}
use Rattle.st_run.proofs.driven.MachineExternalEvents.rest.Goals as goal

pub returns-clause-state : goal.returns-clause-state
returns-clause-state g c = rest-state c.args.self.now c.settle.new.self c.requires.rests c.settle.ensures.after

pub returns-clause-rest : goal.returns-clause-rest
returns-clause-rest g c = rest-changed c.args.self.now c.settle.new.self c.requires.rests c.requires.turn c.settle.ensures.after
