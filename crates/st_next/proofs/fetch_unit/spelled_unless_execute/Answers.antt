use Rattle.st_next.proofs.Common.{sym, ◌∙◌, ap, is_execute}
use Rattle.st_next.proofs.fetch_unit.spelled_unless_execute.Goals as goal

pub returns-clause-plain : goal.returns-clause-plain
returns-clause-plain c =
    ap is_execute (sym c.format_of-format.ensures)
    ∙ sym (c.is_execute_format.ensures c.args.first c.args.second)
    ∙ c.if-is_execute_format.false
