use Rattle.st_rows.proofs.Common.{ap, Done, Past}
use Rattle.st_rows.proofs.past.no_entry.Goals as goal

pub returns : goal.returns
returns c = ap (λ (value : Past). let place : Done = record { c = 0; entry = record { marker = record {}; value = value } } in place) c.of.ensures
