-- The law that the tables of a run have a place for the card of each row.
--
-- Proved: each law has its lemma in proofs/CardLaws.antt, with its name in small letters.
-- Claimed: docs/CLAIMS.md names RowsComeFromTheCards.
-- Change: docs/promises.txt lists each law, and the gate compares the list with the laws.
use Rattle.std.specs.Prelude.{ℕ, ◌+◌, ◌<◌, List, All}
use Rattle.st_run.specs.Run.{Scene}
use Rattle.st_asm.specs.Assembly.{Assembly}
use Rattle.st_asm.specs.Sound.{IsAssemblySound}
use Rattle.st_tally.specs.Tally.{card_of}
use Rattle.st_account.specs.FirstCards.{origin_of}
use Rattle.st_account.specs.LedgerTables.{tallied_of}

-- Each row of the run of an assembled job comes from one of the job's cards, or from no card. So
-- the tables for these cards leave out no row (`st_tally::cards_share_the_rows`).
abbrev pub RowsComeFromTheCards : Type 0
RowsComeFromTheCards = (cards : ℕ) (a : Assembly) (ds : List ℕ) (n left : ℕ) (c : Scene) →
    IsAssemblySound cards a →
    All (λ x. card_of x < cards + 1) (tallied_of (origin_of a) ds n left c)
