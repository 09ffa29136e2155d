use Rattle.st_bits.proofs.Common.{sym, ◌∙◌, mod_below, pow_pos}
use Rattle.st_bits.proofs.BitLists.{num-field}
use Rattle.st_bits.proofs.Shifts.{run_of_word}
use Rattle.st_bits.proofs.parts.part.Goals as goal

pub returns-clause-value : goal.returns-clause-value
returns-clause-value c = run_of_word c.args.word c.args.first c.args.count c.requires.inside

pub returns-clause-field : goal.returns-clause-field
returns-clause-field c =
    run_of_word c.args.word c.args.first c.args.count c.requires.inside
    ∙ sym (num-field c.args.word c.args.first c.args.count c.requires.inside)

pub returns-clause-bound : goal.returns-clause-bound
returns-clause-bound c =
    rw (run_of_word c.args.word c.args.first c.args.count c.requires.inside) (mod_below _ _ (pow_pos c.args.count))
