use Rattle.st_text.proofs.Common.{◌≡◌, drop}
use Rattle.st_text.specs.Tables as spec
use Rattle.st_text.proofs.tables.row_of.Given as goal

abbrev pub invariant-rows : goal.invariant-rows
invariant-rows g l =
    spec.row_of l.word (spec.rows_of (drop l.row-index l.rows)) ≡ spec.row_of l.word (spec.rows_of l.rows)
