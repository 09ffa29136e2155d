use Rattle.std.proofs.Common.{sym, ◌∙◌, nat_eq}
use Rattle.std.specs.Cmp.Lexicographic.{pointwise}
use Rattle.indexmap.proofs.CallerLemmas.{insert_entry-new}
use Rattle.st_expr.proofs.SymbolLemmas.{nothing_there}
use Rattle.st_expr.proofs.values.define_in.Goals as goal

pub returns-in-Ok-clause-ok : goal.returns-in-Ok-clause-ok
returns-in-Ok-clause-ok c =
    let absent = nothing_there _ (sym c.contains_key.ensures ∙ c.if-contains_key.false) in
    (absent, c.in-Ok.ensures.entries ∙ insert_entry-new (λ a b. pointwise nat_eq a b) c.args.values.now c.args.name c.args.value absent)
