-- Indicators as bits of a 64-bit word.
--
-- Proved: by their `ensures` clauses these calls do what definitions here say: `indicator`
-- (storage.rt), `leftmost` (indicators.rt of st_state), `may` (lib.rt of st_state), `pending`
-- (lib.rt of st_state), and others.
-- Read by: definitions in Indicators of st_field, IndexChange of st_index, Interrupts of st_state,
-- BinaryResult of st_bin, and others.
-- Laws: EntriesRead36WordsAtMost (specs/Laws.antt of st_prep), PlansAreInRange (specs/Laws.antt of
-- st_prep), EntriesAreInRange (specs/Laws.antt of st_segment), EntriesBehindAreSeen
-- (specs/Laws.antt of st_segment), and others.
-- Change: the meaning is fixed by docs/machine.md, since the contracts of `st_top::stretch` and
-- `st_account::ledger` unfold to a definition here. The form is free, with the proofs that unfold
-- it.
use Rattle.std.specs.Prelude.{ℕ, ◌+◌, ◌-◌, ◌<◌, ◌^◌, Bool, ◌==◌, List, [], ◌∷◌, Option, IfSome}
use Rattle.st_bits.specs.Bits.{part}

-- an optional indicator number: if it is present, it is 0 to 63
abbrev pub IsIndicatorIfAny : Option ℕ → Type 0
IsIndicatorIfAny i = IfSome i (λ n. n < 64)

-- the word with only indicator n, 0 to 63, on
abbrev pub indicator : ℕ → ℕ
indicator n = 2 ^ (63 - n)

-- whether indicator n is on in the word x
abbrev pub is_on : ℕ → ℕ → Bool
is_on x n = part x n 1 == 1

-- the word with only the listed indicators on; the list has no duplicates
abbrev pub indicators : List ℕ → ℕ
indicators [] = 0
indicators (n ∷ []) = indicator n
indicators (n ∷ m ∷ ns) = indicator n + indicators (m ∷ ns)
