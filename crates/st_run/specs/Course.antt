-- The sequence of values of an iteration. Everything that is reported about a run is a map, a fold
-- or the last item of one.
--
-- Proved: no `ensures` clause names a definition of this file.
-- Read by: definitions in Moments, Run, StepsBack of st_top.
-- Laws: none names a definition of this file itself.
-- Change: the meaning is fixed by docs/machine.md, since the contracts of `st_top::stretch` and
-- `st_account::ledger` unfold to a definition here. The form is free, with the proofs that unfold
-- it.
use Rattle.std.specs.Prelude.{ℕ, zero, suc, Bool, if◌then◌else◌, List, [], ◌∷◌}

-- the values of an iteration: those that have a successor, and the last one
pub record Course (X : Type 0) : Type 0 where
  pub before : List X
  pub last : X

-- the iteration of next from x, at most the given number of times, until ends holds
unfoldable pub course : {X : Type 0} → (X → Bool) → (X → X) → ℕ → X → Course X
course ends next zero x = record { before = []; last = x }
course ends next (suc left) x = if ends x then record { before = []; last = x }
    else (let c = course ends next left (next x) in record { before = x ∷ c.before; last = c.last })
