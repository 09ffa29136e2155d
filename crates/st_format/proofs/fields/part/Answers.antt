use Rattle.std.proofs.lemmas.Nat.{mod_below, pow_pos}
use Rattle.st_format.proofs.Shifts.{run_of_half}
use Rattle.st_format.proofs.fields.part.Goals as goal

pub returns-clause-value : goal.returns-clause-value
returns-clause-value c = run_of_half c.args.half c.args.first c.args.count c.requires.inside

pub returns-clause-bound : goal.returns-clause-bound
returns-clause-bound c =
    rw (run_of_half c.args.half c.args.first c.args.count c.requires.inside) (mod_below _ _ (pow_pos c.args.count))
