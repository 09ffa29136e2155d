use Rattle.st_account.proofs.Common.{refl, ◌∙◌, ap, assembly_parts, first_card}
use Rattle.st_account.proofs.FirstLemmas.{origins-are}
use Rattle.st_account.proofs.program.prepare.Goals as goal

pub returns-clause-origins : goal.returns-clause-origins
returns-clause-origins c =
    origins-are (record { cards = c.in_ok-table.table; image = c.args.program.image }) (assembly_parts c.args.program)
    (λ h. c.in_ok-table.ensures h ∙ ap (λ rows. first_card rows h) c.as_slice-3.ensures.value) refl
