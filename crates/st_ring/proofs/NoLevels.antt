-- A list without levels.
use Rattle.st_ring.proofs.Common.{◌≡◌, ℕ, List, [], ◌∷◌, length, Option, refl, arith, Machine, index_words, IssueState, Level, split_words, RunAhead, AreLevels, AreAhead, PlannedRow}

pub none-ahead : (ds : List ℕ) (n tick : ℕ) (t : Option ℕ) (s : Machine) (f : IssueState) (x : List ℕ) → x ≡ index_words s
    → AreAhead ds n tick t s f f (record { ring = []; plans = []; x = x })
unfolding AreLevels split_words RunAhead
none-ahead ds n tick t s f x is = record { levels = refl; index = is; run_ahead = tt }

pub none-last : (ds : List ℕ) (n tick : ℕ) (t : Option ℕ) (s : Machine) (f last : IssueState) (ring : List Level) (plans : List PlannedRow)
    (x : List ℕ) → AreLevels ds n tick t s f last ring plans → x ≡ split_words (length ring) t s → length ring ≡ 0
    → (last ≡ f) × (x ≡ index_words s)
unfolding AreLevels split_words
none-last ds n tick t s f last [] [] x h is none = (h, is)
none-last ds n tick t s f last [] (q ∷ qs) x h is none = absurd h
none-last ds n tick t s f last (level ∷ levels) plans x h is none = absurd (omega arith)
