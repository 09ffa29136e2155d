-- The entries that complete in a run, and the charges of all of them. The machine has the delays ds
-- and n levels.
--
-- Proved: no `ensures` clause names a definition of this file.
-- Read by: definitions in Text of st_account, Running of st_account, Rounds of st_account, Runs of
-- st_causes.
-- Laws: ChargesAddUpToTheRun (specs/Laws.antt), RowsAreThoseOfTheRun (specs/Laws.antt),
-- LedgersTellWhereTicksWent (specs/Laws.antt of st_causes), TablesHaveTheRowsOfTheRun
-- (specs/Laws.antt of st_causes), and others.
-- Change: the meaning is fixed by docs/ledger.md, since the contract of `st_account::ledger`
-- unfolds to a definition here. The form is free, with the proofs that unfold it.
use Rattle.std.specs.Prelude.{ℕ, ◌+◌, List, [], ◌∷◌, ◌++◌, map}
use Rattle.st_exec.specs.Step.{address}
use Rattle.st_rows.specs.declared.issue.EntryTicks.{EntryTicks}
use Rattle.st_run.specs.Run.{Scene}
use Rattle.st_run.specs.Events.{TimetableEvent, Timed, Completes, Drops, Shows, Happens}
use Rattle.st_run.specs.Moments.{Moment, Standing, moment_at_start, moments, standing_at, entry_of_moment, next_row}
use Rattle.st_ledger.specs.declared.charges.Charge.{Charge}
use Rattle.st_ledger.specs.Charges.{charges}

-- the states of the run before each entry, from a moment on with a remaining budget
unfoldable pub entries_from : List ℕ → ℕ → ℕ → Moment → List Standing
entries_from ds n left m = map standing_at (moments ds n left m).before

-- the states of the run before each entry in the whole run of a scene
abbrev pub entries_of : List ℕ → ℕ → ℕ → Scene → List Standing
entries_of ds n left c = entries_from ds n left (moment_at_start c)

-- ---- charges

-- the charges of the next entry
unfoldable pub charges_at : List ℕ → ℕ → Standing → List Charge
charges_at ds n p = charges p.tick p.issue (next_row ds n p)

-- the charges of several entries
unfoldable pub all_charges : List ℕ → ℕ → List Standing → List Charge
all_charges ds n [] = []
all_charges ds n (p ∷ ps) = charges_at ds n p ++ all_charges ds n ps

-- the sum of the costs of several entries
unfoldable pub all_costs : List Standing → ℕ
all_costs [] = 0
all_costs (p ∷ ps) = (entry_of_moment p).cost + all_costs ps

-- ---- rows

-- a completed entry: its address, and its row
pub record DoneRow : Type 0 where
  pub address : ℕ
  pub row : EntryTicks

-- the address and the row of the next entry
abbrev pub row_at : List ℕ → ℕ → Standing → DoneRow
row_at ds n p = record { address = address p.scene.machine; row = next_row ds n p }

-- the row in an event, if the event is a completion
abbrev pub row_of_event : TimetableEvent → List DoneRow
row_of_event (Completes s a r) = record { address = a; row = r } ∷ []
row_of_event (Drops a p) = []
row_of_event (Shows tick s levels) = []
row_of_event (Happens happening) = []

-- the rows in the events of a run
unfoldable pub rows_told : List Timed → List DoneRow
rows_told [] = []
rows_told (x ∷ xs) = row_of_event x.event ++ rows_told xs
