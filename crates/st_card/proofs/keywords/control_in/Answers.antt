use Rattle.st_card.proofs.Common.{List, ℕ, length, ap, ◌∙◌, arith, length-take}
use Rattle.st_card.proofs.keywords.control_in.Goals as goal

pub read_numbers-requires : goal.read_numbers-requires
read_numbers-requires c =
    let columns = ap (λ (s : List ℕ). length s) c.columns.ensures in
    omega (arith, columns ∙ length-take 72 c.args.text.now)
