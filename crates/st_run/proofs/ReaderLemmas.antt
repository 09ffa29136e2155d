-- The cards of a job's reader.
use Rattle.st_run.proofs.Common.{◌≡◌, ◌<◌, ℕ, List, sym, subst, Result, Ok, Err, IfOk, IsCard}
use Rattle.std.proofs.Common.{All}
use Rattle.st_exch.proofs.CardLemmas.{cards-size, cards-below}
use Rattle.st_exch.specs.Reader.{reader_cards}

are_cards : (job : List ℕ) → All (λ x. x < 256) job → All IsCard (reader_cards job)
are_cards job bytes = λ k d lt. record { size = cards-size job k d lt; below = cards-below job bytes k d lt }

pub read_cards : {E : Type 0} (job : List ℕ) (r : Result (List (List ℕ)) E) → All (λ x. x < 256) job → IfOk r (λ cards. cards ≡ reader_cards job) → IfOk r (All IsCard)
read_cards job (Ok cards) bytes e = subst (All IsCard) (sym e) (are_cards job bytes)
read_cards job (Err x) bytes e = tt
