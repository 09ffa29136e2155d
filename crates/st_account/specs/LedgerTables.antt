-- The rows that the tables of a run are made of, and the number of dropped entries. The machine has
-- the delays ds and n levels. As in the whole ledger, k is the number of the segment of the last
-- completed entry, 0 before the first entry, and us are the words that this entry uses; `w` is why
-- that segment begins.
--
-- Proved: by their `ensures` clauses these calls do what definitions here say: `add_run`
-- (running.rt), `write_ledger_totals` (running.rt).
-- Read by: definitions in LedgerSums, Tallying, Rounds.
-- Laws: TotalsAreTheLedgerWithoutRows (specs/Laws.antt of st_causes), RowsComeFromTheCards
-- (specs/CardLaws.antt of st_causes), TablesHaveTheRowsOfTheRun (specs/Laws.antt of st_causes).
-- Change: the meaning is fixed by docs/ledger.md, since the contract of `st_account::ledger`
-- unfolds to a definition here. The form is free, with the proofs that unfold it.
use Rattle.std.specs.Prelude.{ℕ, zero, suc, ◌+◌, if◌then◌else◌, List, [], ◌∷◌, length, Option}
use Rattle.st_exec.specs.Step.{rests}
use Rattle.st_state.specs.Machine.{Machine}
use Rattle.st_run.specs.Moments.{Moment, Standing, moment_at_start, next_moment, next_state, ends_segment, standing_at}
use Rattle.st_run.specs.Run.{Scene}
use Rattle.st_rows.specs.declared.uses.Use.{Use}
use Rattle.st_lines.specs.declared.lines.Why.{Why}
use Rattle.st_lines.specs.declared.lines.Why.TheVariants.{Run}
use Rattle.st_lines.specs.declared.origins.Origin.{Origin}
use Rattle.st_tally.specs.Tally.{TalliedRow}
use Rattle.st_account.specs.Text.{begins_segment, why, segment_after, segment_end_at, uses_at, words_before, done_at}

-- ---- rows

-- why the segment of the next entry begins
abbrev pub why_after : ℕ → Why → Moment → Why
why_after k w m = if begins_segment k m then why k m else w

-- the row of the next entry, whose segment begins for the reason w, and ends at tick `end` or
-- continues; `before` are the words that the previous entry uses
unfoldable pub row_at : (Machine → ℕ → Option Origin) → List ℕ → ℕ → Option ℕ → Why → List Use →
    Standing → TalliedRow
row_at o ds n end w before p = record {
  done = done_at o ds n end before p;
  why = w;
  uses = uses_at ds n p;
  before = before;
}

-- the rows from a moment on with a remaining budget
unfoldable pub tallied_from : (Machine → ℕ → Option Origin) → List ℕ → ℕ → ℕ → ℕ → Why →
    List Use → Moment → List TalliedRow
tallied_from o ds n zero k w us m = []
tallied_from o ds n (suc left) k w us m =
    let p = standing_at m in
    let behind = next_moment ds n p in
    if rests (next_state m) then []
    else row_at o ds n (segment_end_at left behind) (why_after k w m) (words_before m us) p
    ∷ tallied_from o ds n left (segment_after k m) (why_after k w m) (uses_at ds n p) behind

-- all rows of the run of a scene
abbrev pub tallied_of : (Machine → ℕ → Option Origin) → List ℕ → ℕ → ℕ → Scene → List TalliedRow
tallied_of o ds n left c = tallied_from o ds n left 0 Run [] (moment_at_start c)

-- ---- dropped entries

-- the number of entries that are dropped at a moment, if a segment ends there
abbrev pub dropped_at_end : Moment → ℕ
dropped_at_end m = if ends_segment m then length m.dropped else 0

-- the number of entries that are dropped from a moment on with a remaining budget
unfoldable pub dropped_from : List ℕ → ℕ → ℕ → Moment → ℕ
dropped_from ds n zero m = length m.dropped
dropped_from ds n (suc left) m =
    if rests (next_state m) then length m.dropped
    else dropped_at_end m + dropped_from ds n left (next_moment ds n (standing_at m))

-- the number of all dropped entries of the run of a scene
abbrev pub dropped_of : List ℕ → ℕ → ℕ → Scene → ℕ
dropped_of ds n left c = dropped_from ds n left (moment_at_start c)
