-- Proofs of the laws of the tables of a run.
use Rattle.st_tally.specs.Laws.{CardsShareTheRows, HeadingsShareTheRowsWithReasons, HeadingsShareTheLostTicks, LostTicksAreThoseOfOtherStages}
use Rattle.st_tally.proofs.SharedRows.{cards-share, headings-share, lost-shared}
use Rattle.st_tally.proofs.LostTicks.{lost-others}

pub cards_share_the_rows : CardsShareTheRows
cards_share_the_rows f n xs each = cards-share f n xs each

pub headings_share_the_rows_with_reasons : HeadingsShareTheRowsWithReasons
headings_share_the_rows_with_reasons f xs = headings-share f xs

pub headings_share_the_lost_ticks : HeadingsShareTheLostTicks
headings_share_the_lost_ticks xs = lost-shared xs

pub lost_ticks_are_those_of_other_stages : LostTicksAreThoseOfOtherStages
lost_ticks_are_those_of_other_stages d start address ready = lost-others d start address ready
