use Rattle.st_rows.proofs.Common.{List, ap, sym, ◌∙◌, answers_left, Made}
use Rattle.st_rows.proofs.NoteLemmas.{undone-late, undone-settled}
use Rattle.st_rows.proofs.log.Log.undo.Goals as goal

pub reads-preserved : goal.reads-preserved
reads-preserved c =
    let rest = c.take_late.new.self in
    ap (answers_left c.args.now rest) c.answer.ensures
    ∙ sym (undone-late c.args.now c.in-Some.read rest c.reads.banks.ticks c.in-Some.ensures.1)
    ∙ ap (λ (notes : List Made). answers_left c.args.now notes c.reads.banks.ticks) (sym c.in-Some.ensures.0)
    ∙ c.reads.invariant

pub returns : goal.returns
returns c = sym (undone-settled c.args.now c.reads.self c.reads.banks.ticks c.in_default.ensures) ∙ c.reads.invariant
