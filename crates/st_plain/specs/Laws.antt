-- Laws of the words that entries use.
--
-- Proved: each law has its lemma in proofs/Laws.antt, with its name in small letters.
-- Claimed: docs/CLAIMS.md names ReadsOfAnEntryComeInTurn.
-- Change: docs/promises.txt lists each law, and the gate compares the list with the laws.
use Rattle.std.specs.Prelude.{◌≡◌, ℕ, ◌+◌, ◌≤◌, max, List, [], ◌∷◌, Option}
use Rattle.st_prep.specs.declared.entries.Words.{Words}
use Rattle.st_rows.specs.declared.entry.Entry.{Entry}
use Rattle.st_rows.specs.declared.issue.IssueState.{IssueState}
use Rattle.st_segment.specs.Entries.{side_to_read}
use Rattle.st_plain.specs.Uses.{uses_of_entry}
use Rattle.st_rows.specs.declared.uses.ReadTicks.{ReadTicks}
use Rattle.st_rows.specs.declared.uses.Supply.{Supply}
use Rattle.st_rows.specs.declared.uses.Supply.TheVariants.{Read, Held, Forwarded, Register}
use Rattle.st_rows.specs.declared.uses.Use.{Use}

-- the read r is requested at the tick w or later, its turn is at t or later, and it is accepted at
-- the latest of its request, its turn, and the tick at which its bank is free
pub record IsReadFrom (w t : ℕ) (r : ReadTicks) : Type 0 where
  pub wanted : w ≤ r.want
  pub turned : t ≤ r.turn
  pub accepted : r.accept ≡ max (max r.want r.turn) r.free

-- the bounds of a word that is read; other words do not use the bus
abbrev pub IsInTurn : ℕ → ℕ → Supply → Type 0
IsInTurn w t (Read r) = IsReadFrom w t r
IsInTurn w t (Held answer) = Unit {0}
IsInTurn w t (Forwarded writer) = Unit {0}
IsInTurn w t Register = Unit {0}

-- the bounds w and t for the next read after a word
abbrev pub want_behind : ℕ → Supply → ℕ
want_behind w (Read r) = r.want
want_behind w (Held answer) = w
want_behind w (Forwarded writer) = w
want_behind w Register = w

abbrev pub turn_behind : ℕ → Supply → ℕ
turn_behind t (Read r) = r.accept + 1
turn_behind t (Held answer) = t
turn_behind t (Forwarded writer) = t
turn_behind t Register = t

-- the reads among some words are in order
unfoldable pub AreInTurn : ℕ → ℕ → List Use → Type 0
AreInTurn w t [] = Unit {0}
AreInTurn w t (u ∷ more) = IsInTurn w t u.supply
    × AreInTurn (want_behind w u.supply) (turn_behind t u.supply) more

-- Each read of an entry is accepted at the greatest of its three ticks. From read to read the
-- request ticks never fall, and each turn comes after the acceptance before it.
abbrev pub ReadsOfAnEntryComeInTurn : Type 0
ReadsOfAnEntryComeInTurn = (ds : List ℕ) (n : ℕ) (f : IssueState) (e : Entry) (side : Option ℕ)
    (reads : Words) → e.side ≡ side_to_read side →
    AreInTurn 0 f.bus.free (uses_of_entry ds n f e side reads)
