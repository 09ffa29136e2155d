use Rattle.st_run.proofs.OverlappedLemmas.{signal-changed}
use Rattle.st_run.proofs.driven.MachineExternalEvents.signal.Goals as goal

pub returns-clause-rest : goal.returns-clause-rest
returns-clause-rest g c = signal-changed c.args.self.now c.signal.new.self c.args.indicator c.requires.known c.requires.turn c.signal.ensures
