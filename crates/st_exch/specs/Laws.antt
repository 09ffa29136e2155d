-- Laws of the cards in the reader of a job.
--
-- Proved: each law has its lemma in proofs/Laws.antt, with its name in small letters.
-- Change: docs/promises.txt lists each law, and the gate compares the list with the laws.
use Rattle.std.specs.Prelude.{◌≡◌, ◌<◌, ◌^◌, ℕ, List, length, All}
use Rattle.st_exch.specs.Reader.{reader_cards}

-- Each card in the reader of a job has eight words, which are below 2^64 if the job consists of
-- bytes.
pub record CardsAreEightWords : Type 0 where
  pub size : (job : List ℕ) → All (λ card. length card ≡ 8) (reader_cards job)
  pub below : (job : List ℕ) → All (λ x. x < 256) job →
      All (All (λ x. x < 2 ^ 64)) (reader_cards job)
