use Rattle.st_prep.proofs.Common.{sym, subst, ◌∙◌, ap, change, IsPrepared, SpeculativeChange}
use Rattle.st_prep.proofs.PreparedLemmas.{changed-read, asks-entered, changed-fits}
use Rattle.st_prep.proofs.preparation.change_by_side.Goals as goal

pub returns-clause-value : goal.returns-clause-value
returns-clause-value c v other same some is =
    ap (λ (speculative : SpeculativeChange). record c.args.p.now { index = speculative.index; ind = speculative.ind })
    (c.change-speculative.ensures ∙ ap (λ x. change x c.args.p.now.instr c.args.p.now.e c.args.read) (sym same))
    ∙ changed-read v c.args.read other c.args.p.now some is

pub returns-clause-ranges : goal.returns-clause-ranges
returns-clause-ranges c v other same some is =
    subst (λ (speculative : SpeculativeChange). IsPrepared (record c.args.p.now { index = speculative.index; ind = speculative.ind })) (sym c.change-speculative.ensures)
    (changed-fits c.args.p.now c.args.x.now c.args.read c.requires (asks-entered v other c.args.p.now some is) c.fits-x c.read_shape.ensures)
