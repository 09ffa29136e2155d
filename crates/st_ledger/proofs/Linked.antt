-- Consecutive reads. Words are listed youngest first.
use Rattle.st_ledger.proofs.Common.{if◌then◌else◌, Use, is_read, read_of}
use Rattle.std.specs.Prelude.{ℕ, ◌≡◌, ◌≤◌, ◌+◌, max, true, List, [], ◌∷◌}

-- ---- consecutive reads, youngest first

-- the tick from which the bus is free after these words, if it was free from tick `base` on before
-- them
unfoldable pub turn_at : ℕ → List Use → ℕ
turn_at base [] = base
turn_at base (u ∷ older) = if is_read u.supply then (read_of u.supply).accept + 1
    else turn_at base older

-- the tick at which the youngest read is wanted
unfoldable pub want_at : List Use → ℕ
want_at [] = 0
want_at (u ∷ older) = if is_read u.supply then (read_of u.supply).want else want_at older

-- a word is not read, or its read has its turn directly after the older ones
pub record ComesBehind (base : ℕ) (u : Use) (older : List Use) : Type 0 where
  pub turn : is_read u.supply ≡ true → (read_of u.supply).turn ≡ turn_at base older
  pub want : is_read u.supply ≡ true → want_at older ≤ (read_of u.supply).want
  pub accept : is_read u.supply ≡ true → (read_of u.supply).accept
      ≡ max (max (read_of u.supply).want (read_of u.supply).turn) (read_of u.supply).free

unfoldable pub AreLinked : ℕ → List Use → Type 0
AreLinked base [] = Unit {0}
AreLinked base (u ∷ older) = ComesBehind base u older × AreLinked base older
