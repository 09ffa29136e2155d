-- Proof that the tables of a run have a place for the card of each row.
use Rattle.st_run.specs.Moments.{moment_at_start}
use Rattle.st_lines.specs.declared.lines.Why.TheVariants.{Run}
use Rattle.std.proofs.Common.{[]}
use Rattle.st_account.specs.FirstCards.{origin_of}
use Rattle.st_causes.specs.CardLaws.{RowsComeFromTheCards}
use Rattle.st_causes.proofs.CardLemmas.{cards-few, origin-few, rows-few}

pub rows_come_from_the_cards : RowsComeFromTheCards
rows_come_from_the_cards cards a ds n left c sound =
    rows-few cards (origin_of a) ds n left 0 Run [] (moment_at_start c) (λ s h. origin-few cards a s h (cards-few cards a sound))
