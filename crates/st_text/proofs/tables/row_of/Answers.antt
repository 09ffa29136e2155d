use Rattle.st_text.proofs.Common.{sym, ◌∙◌}
use Rattle.st_text.proofs.TableLemmas.{row_found, row_passed}
use Rattle.st_text.proofs.tables.row_of.Goals as goal

pub returns-then-eq : goal.returns-then-eq
returns-then-eq g c =
    sym (row_found c.args.word.now c.args.rows.now c.rows.row-index c.row-item.result c.rows-test.true c.row-item.is
    (sym c.eq.ensures ∙ c.if-eq.true))
    ∙ c.rows.invariant

pub rows-preserved : goal.rows-preserved
rows-preserved g c =
    sym (row_passed c.args.word.now c.args.rows.now c.rows.row-index c.row-item.result c.rows-test.true c.row-item.is
    (sym c.eq.ensures ∙ c.if-eq.false))
    ∙ c.rows.invariant
