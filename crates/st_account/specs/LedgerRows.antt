-- A part of a ledger: from one row on, up to the end of the run. The machine has the delays ds and
-- n levels. As in the whole ledger, k is the number of the segment of the last completed entry, 0
-- before the first entry, and us are the words that this entry uses. The function `o` gives the
-- card that a half-word of a state comes from.
--
-- Proved: by their `ensures` clauses these calls do what definitions here say: `pass_to_next`
-- (passing.rt), `write_ledger_rows` (running.rt).
-- Read by: definitions in Passing, Answers.
-- Laws: RowsAreAPartOfTheLedger (specs/Laws.antt of st_causes).
-- Change: the meaning is fixed by docs/ledger.md, since the contract of `st_account::ledger`
-- unfolds to a definition here. The form is free, with the proofs that unfold it.
use Rattle.std.specs.Prelude.{ℕ, zero, suc, ◌+◌, if◌then◌else◌, List, [], ◌∷◌, ◌++◌, Option}
use Rattle.st_exec.specs.Step.{rests}
use Rattle.st_state.specs.Machine.{Machine}
use Rattle.st_run.specs.Moments.{Moment, moment_at_start, next_moment, next_state, next_issue, has_waited, standing_at}
use Rattle.st_run.specs.Run.{Scene}
use Rattle.st_rows.specs.declared.uses.Use.{Use}
use Rattle.st_lines.specs.Lines.{start_line}
use Rattle.st_lines.specs.BorderLines.{whole_state_lines, machine_lines}
use Rattle.st_lines.specs.declared.origins.Origin.{Origin}
use Rattle.st_account.specs.LedgerSums.{end_lines}
use Rattle.st_account.specs.Text.{begins_segment, why, segment_after, segment_end_at, uses_at, words_before, lines_of_entry, lines_from}

-- the line of the start of the next entry's segment; `start` is that of the last entry's segment,
-- none before the first entry
abbrev pub start_after : ℕ → List (List ℕ) → Moment → List (List ℕ)
start_after k start m =
    if begins_segment k m then start_line (k + 1) (next_issue m).c (has_waited m) (why k m) ∷ []
    else start

-- the lines from a moment on with a remaining budget, if so many more rows are skipped: before the
-- first row that is written the whole state and the start of its segment, and only the end of the
-- run if there is no such row
unfoldable pub rows_from : (Machine → ℕ → Option Origin) → List ℕ → ℕ → ℕ → ℕ → ℕ → List Use →
    List (List ℕ) → Moment → List (List ℕ)
rows_from o ds n zero skipped k us start m = end_lines m
rows_from o ds n (suc left) zero k us start m =
    let p = standing_at m in
    let behind = next_moment ds n p in
    if rests (next_state m) then end_lines m
    else (whole_state_lines (next_state m) ++ start_after k start m)
    ++ (lines_of_entry o ds n (segment_end_at left behind) (words_before m us) p
    ++ lines_from o ds n left (segment_after k m) (next_state m) (uses_at ds n p) behind)
rows_from o ds n (suc left) (suc skipped) k us start m =
    let p = standing_at m in
    if rests (next_state m) then end_lines m
    else rows_from o ds n left skipped (segment_after k m) (uses_at ds n p) (start_after k start m)
    (next_moment ds n p)

-- the ledger of the run of a scene without so many of its first rows, and without its sums
unfoldable pub ledger_rows : (Machine → ℕ → Option Origin) → List ℕ → ℕ → ℕ → ℕ → Scene →
    List (List ℕ)
ledger_rows o ds n left skipped c =
    machine_lines ds n ++ rows_from o ds n left skipped 0 [] [] (moment_at_start c)
