-- The facts that the code has of the tables of a run, to which the last completed entry is still to
-- be added.
--
-- Proved: by their `ensures` clauses these calls do what definitions here say: `finish_tally`
-- (tallying.rt), `tally_row` (tallying.rt), `tally_to_next` (tallying.rt).
-- Read by: definitions in Rounds.
-- Laws: none names a definition of this file itself.
-- Change: no page fixes these definitions, since no contract of a program unfolds to them; they
-- change together with the clauses, definitions and laws that name them. docs/ledger.md describes
-- the subject.
use Rattle.std.specs.Prelude.{ℕ, ◌≡◌, ◌≢◌, ◌+◌, ◌≤◌, ◌<◌, ◌^◌, nat_eq, if◌then◌else◌, List, [], ◌∷◌, ◌++◌, length, Option, None}
use Rattle.st_lines.specs.declared.facts.EntryDone.{EntryDone}
use Rattle.st_lines.specs.declared.lines.Why.{Why}
use Rattle.st_lines.specs.declared.lines.Why.TheVariants.{Run}
use Rattle.st_tally.specs.Slots.{AreTablesWithin, IsInOrder}
use Rattle.st_tally.specs.Tally.{TalliedRow, IsTally}
use Rattle.st_tally.specs.declared.tables.Tables.{Tables}
use Rattle.st_account.specs.declared.account.Account.{Account}
use Rattle.st_account.specs.declared.last.Last.{Last}
use Rattle.st_account.specs.declared.tallying.Tally.{Tally}
use Rattle.st_account.specs.LedgerTables.{why_after, dropped_at_end}
use Rattle.st_account.specs.Standing.{Position}
use Rattle.st_account.specs.Text.{segment_end_at}

-- the last completed entry, whose segment ends at tick `end` or continues
abbrev pub done_kept : Last → Option ℕ → EntryDone
done_kept l end = record l.done { end = end }

-- the row of the last completed entry, whose segment begins for the reason w, and ends at tick
-- `end` or continues; none before the first entry
unfoldable pub kept_rows : ℕ → Last → Option ℕ → Why → List TalliedRow
kept_rows k l end w =
    if nat_eq k 0 then []
    else record {
      done = done_kept l end;
      why = w;
      uses = l.uses.items;
      before = l.uses.before;
    } ∷ []

-- some rows count in tables as others do: each table has the same sums over both
abbrev pub CountAs : List TalliedRow → List TalliedRow → Type 0
CountAs xs ys = (zs : List TalliedRow) (t : Tables) → IsTally (zs ++ xs) t → IsTally (zs ++ ys) t

-- the ticks of the last completed entry are in order, and it waited for a level for no longer than
-- until its completion
pub record IsOrdered (l : Last) : Type 0 where
  pub order : IsInOrder (done_kept l None)
  pub at : l.done.row.ticks.c ≡ l.tick
  pub wait : l.done.row.level_wait ≤ l.tick

-- the last completed entry can be added to the tables
pub record IsTallyReady (k : ℕ) (l : Last) (t : Tables) : Type 0 where
  pub ordered : k ≢ 0 → IsOrdered l
  pub first : k ≡ 0 → AreTablesWithin l.tick t
  pub within : AreTablesWithin l.done.before t
  pub ticks : t.level_ticks + l.tick < 2 ^ 64

-- the row of the last completed entry is added to the tables
pub record AddsKeptRow (k : ℕ) (l : Last) (end : Option ℕ) (w : Why) (old new : Tables) :
    Type 0 where
  pub tally : (xs : List TalliedRow) → IsTally xs old → IsTally (xs ++ kept_rows k l end w) new
  pub size : length new.cards.items ≡ length old.cards.items
  pub ticks : new.level_ticks ≤ old.level_ticks + l.tick
  pub within : AreTablesWithin l.tick new

-- the tables of no rows
pub record AreEmptyTables (t : Tables) : Type 0 where
  pub tally : IsTally [] t
  pub within : AreTablesWithin 0 t
  pub ticks : t.level_ticks ≡ 0

-- the tables before the first entry
pub record IsEmptyTally (t : Tally) : Type 0 where
  pub tables : AreEmptyTables t.tables
  pub why : t.why ≡ Run
  pub dropped : t.dropped ≡ 0

-- Behind a moment after which the next entry comes, the row of the last completed entry is added to
-- the tables, and the entries that are dropped if a segment ends are counted.
pub record TalliesRow (p : Position) (a : Account) (old new : Tally) : Type 0 where
  pub row : AddsKeptRow a.k a.last (segment_end_at p.left p.moment) old.why old.tables new.tables
  pub why : new.why ≡ why_after a.k old.why p.moment
  pub dropped : new.dropped ≡ old.dropped + dropped_at_end p.moment
  pub few : new.dropped ≤ old.dropped + 8

-- at the end of the run, the row of the last completed entry is added, and all dropped entries are
-- counted
pub record TalliesLast (p : Position) (a : Account) (old new : Tally) : Type 0 where
  pub row : AddsKeptRow a.k a.last (segment_end_at p.left p.moment) old.why old.tables new.tables
  pub dropped : new.dropped ≡ old.dropped + length p.moment.dropped
