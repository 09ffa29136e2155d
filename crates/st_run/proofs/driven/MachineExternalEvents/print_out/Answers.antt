use Rattle.st_run.proofs.OverlappedLemmas.{print-changed}
use Rattle.st_run.proofs.driven.MachineExternalEvents.print_out.Goals as goal

pub returns-clause-rest : goal.returns-clause-rest
returns-clause-rest g c = print-changed c.args.self.now c.print_out.new.self c.requires.order c.requires.turn c.print_out.ensures.after
