-- Steps in sequence.
use Rattle.st_next.proofs.Common.{◌≡◌, ℕ, ◌≤◌, max, Bool, true, false, List, inl, arith, Machine, Past, IssueState, wanted_next, IsStateBefore, IsKnown, GoesOnTo, FetchUnit}
use Rattle.std.specs.Prelude.{if◌then◌else◌}

-- the request tick after a serializing entry is not before its completion
alone-wanted : (b : Bool) (p c : ℕ) → (if b then c else 0) ≤ (if b then max p c else p)
alone-wanted true p c = omega arith
alone-wanted false p c = omega arith

-- less is known of the state at an earlier tick
before-sooner : (sooner now : ℕ) (past : List Past) (x : List ℕ) (s u : Machine) → sooner ≤ now → IsStateBefore now past x s u → IsStateBefore sooner past x s u
before-sooner sooner now past x s u early is = record {
  machine = is.machine;
  index = is.index;
  origin = is.origin;
  bounds = is.bounds;
  enabled = is.enabled;
  storage = λ w above done. is.storage w above (omega (arith, done, early));
}

pub known-sooner : (ds : List ℕ) (n sooner now : ℕ) (f : IssueState) (x : List ℕ) (s : Machine) (a : FetchUnit) → sooner ≤ now → IsKnown ds n now f x s a
    → IsKnown ds n sooner f x s a
known-sooner ds n sooner now f x s a early k =
    record { table = k.table; state = k.state; indicator = k.indicator; before = before-sooner sooner now f.past x s k.state early k.before; is_next = k.is_next }

pub goes-later : (ds : List ℕ) (n sooner now : ℕ) (f : IssueState) (x : List ℕ) (s : Machine) (a b : FetchUnit) (later : ℕ) → sooner ≤ now
    → GoesOnTo ds n sooner f x s a b later → GoesOnTo ds n now f x s a b later
goes-later ds n sooner now f x s a b later early goes =
    record { each = λ t u table is next. goes.each t u table (before-sooner sooner now f.past x s u early is) next }

module _ (ds : List ℕ) (n now : ℕ) (f : IssueState) (x : List ℕ) (s : Machine) where
  pub goes-same : (a : FetchUnit) → a.planned ≡ false → GoesOnTo ds n now f x s a a 0
  goes-same a un = record { each = λ t u table is next. (next, λ un. inl (omega arith)) }

  pub goes-then : (a b c : FetchUnit) (sooner later : ℕ) → GoesOnTo ds n now f x s a b sooner → GoesOnTo ds n now f x s b c later → GoesOnTo ds n now f x s a c later
  goes-then a b c sooner later one two = record { each = λ t u table is next. two.each t u table is (one.each t u table is next).0 }

  -- the fetch unit stops at a word that is requested later
  pub goes-stop : (a b : FetchUnit) (sooner later : ℕ) → GoesOnTo ds n now f x s a b sooner → b.planned ≡ false → later ≤ wanted_next f b → GoesOnTo ds n now f x s a b later
  goes-stop a b sooner later goes un late = record { each = λ t u table is next. ((goes.each t u table is next).0, λ none. inl late) }

  -- the fetch unit stops before an entry that it awaits
  pub goes-waits : (a : FetchUnit) (later : ℕ) → a.planned ≡ false → later ≤ max a.words.awaited (if f.serial then f.c else 0) → GoesOnTo ds n now f x s a a later
  goes-waits a later un late =
      goes-stop a a 0 later (goes-same a un) un (omega (arith, late, alone-wanted f.serial f.p f.c))

  pub known-then : (a b : FetchUnit) (later : ℕ) → IsKnown ds n now f x s a → GoesOnTo ds n now f x s a b later → IsKnown ds n now f x s b
  known-then a b later k goes =
      let it = goes.each k.table k.state k.indicator k.before k.is_next in
      record { table = k.table; state = k.state; indicator = k.indicator; before = k.before; is_next = it.0 }
