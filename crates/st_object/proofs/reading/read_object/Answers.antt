use Rattle.st_object.proofs.BadLines.{read_program, read_same, refused_first}
use Rattle.st_object.proofs.reading.read_object.Goals as goal

pub returns-clause-program : goal.returns-clause-program
returns-clause-program c = read_program c.args.text.now c.read.result c.read.ensures

pub returns-clause-same : goal.returns-clause-same
returns-clause-same c = read_same c.args.text.now c.read.result c.read.ensures

pub returns-clause-first : goal.returns-clause-first
returns-clause-first c = refused_first c.args.text.now c.read.result c.read.ensures
