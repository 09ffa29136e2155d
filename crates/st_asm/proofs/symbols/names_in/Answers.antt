use Rattle.st_asm.proofs.Common.{◌∙◌}
use Rattle.st_asm.proofs.PassLemmas.{with_first, no_items}
use Rattle.st_asm.proofs.TableLemmas.{names-named, names-unnamed, names-none}
use Rattle.st_asm.proofs.symbols.names_in.Goals as goal

pub lines-preserved-in_ok-add_name : goal.lines-preserved-in_ok-add_name
lines-preserved-in_ok-add_name c =
    let parts = with_first c.lines.rest.now c.line-item.result c.in-len1-up.len_at_least c.line-item.is in
    λ query. names-named c.lines.names _ c.in-Some.name c.line-item.result _ c.lines.rest.now parts c.in-Some.is
    c.in_ok-add_name.ensures query ∙ c.lines.invariant query

pub lines-preserved : goal.lines-preserved
lines-preserved c =
    let parts = with_first c.lines.rest.now c.line-item.result c.in-len1-up.len_at_least c.line-item.is in
    λ query. names-unnamed c.lines.names c.line-item.result _ c.lines.rest.now parts c.in_default-name.is query
    ∙ c.lines.invariant query

pub returns : goal.returns
returns c =
    λ query. names-none c.lines.names c.lines.rest.now (no_items c.lines.rest.now c.in_default.len_below) query
    ∙ c.lines.invariant query
