-- Laws of the cards of any job.
--
-- Proved: each law has its lemma in proofs/Laws.antt, with its name in small letters.
-- Claimed: docs/CLAIMS.md names CardsStandInTheirJob.
-- Change: docs/promises.txt lists each law, and the gate compares the list with the laws.
use Rattle.std.specs.Prelude.{ℕ, List, All}
use Rattle.st_card.specs.Cards.{cards_of, IsCardOf}

-- Each card of a job lies within the job and has the kind of its text; a card without a fault has
-- only printable bytes.
abbrev pub CardsStandInTheirJob : Type 0
CardsStandInTheirJob = (job : List ℕ) → All (IsCardOf job) (cards_of job)
