-- The ledger of a run: its lines, from the moments of the run. The machine has the delays ds and n
-- levels. Segments are numbered from 1 on; k is the number of the segment of the last completed
-- entry, 0 before the first entry, and us are the words that this entry uses. The function `o`
-- gives the card that a half-word of a state comes from.
--
-- Proved: by their `ensures` clauses these calls do what definitions here say: `write_last`
-- (account.rt), `finish` (account.rt), `skip_to_next` (account.rt), `step` (account.rt), and
-- others.
-- Read by: definitions in LedgerRows, LedgerTables, Passing, Rounds, and others.
-- Laws: LedgersTellWhereTicksWent (specs/Laws.antt of st_causes), ReasonsOfARunAreTrue
-- (specs/Laws.antt of st_causes), TablesHaveTheRowsOfTheRun (specs/Laws.antt of st_causes),
-- TotalsAreTheLedgerWithoutRows (specs/Laws.antt of st_causes), and others.
-- Change: the meaning is fixed by docs/ledger.md, since the contract of `st_account::ledger`
-- unfolds to a definition here. The form is free, with the proofs that unfold it.
use Rattle.std.specs.Prelude.{ℕ, zero, suc, ◌+◌, Bool, true, false, ◌||◌, nat_eq, if◌then◌else◌, List, [], ◌∷◌, ◌++◌, Option, None, Some, map}
use Rattle.st_state.specs.Machine.{Machine}
use Rattle.st_prep.specs.Plan.{plan}
use Rattle.st_exec.specs.Completion.{prediction, is_mispredicted}
use Rattle.st_exec.specs.Step.{rests, interrupt, address}
use Rattle.st_segment.specs.Ahead.{ahead}
use Rattle.st_segment.specs.Entries.{entry}
use Rattle.st_run.specs.Run.{Scene, interlude}
use Rattle.st_run.specs.Moments.{Moment, Standing, moment_at_start, next_state, has_waited, ends_segment, next_issue, standing_at, next_row, next_moment}
use Rattle.st_report.specs.Line.{end_line as run_end_line, done_line, ticks_line}
use Rattle.st_ledger.specs.declared.charges.Charge.{Charge}
use Rattle.st_ledger.specs.declared.charges.Stage.{Stage}
use Rattle.st_ledger.specs.Charges.{ticks_for}
use Rattle.st_ledger.specs.Ledger.{entries_of, charges_at, all_charges}
use Rattle.st_ledger.specs.Totals.{stages, sums_by, sum_lines}
use Rattle.st_plain.specs.declared.looking.Ahead.{Ahead}
use Rattle.st_plain.specs.Looking.{known_at, level_wait, side_at, seen_ahead, first_late}
use Rattle.st_plain.specs.Uses.{formed_uses, uses_of_entry}
use Rattle.st_rows.specs.declared.uses.Use.{Use}
use Rattle.st_ledger.specs.Reasons.{because}
use Rattle.st_ledger.specs.Sums.{row_stalled, wait_sums_by}
use Rattle.st_ledger.specs.declared.waits.Stall.{Stall}
use Rattle.st_lines.specs.Lines.{start_line}
use Rattle.st_lines.specs.EntryLines.{done_entry_lines}
use Rattle.st_lines.specs.WaitLines.{wait_sum_lines}
use Rattle.st_lines.specs.BorderLines.{segment_end_lines, marks_lines, state_lines, machine_lines}
use Rattle.st_lines.specs.declared.facts.EntryDone.{EntryDone}
use Rattle.st_lines.specs.declared.origins.Origin.{Origin}
use Rattle.st_lines.specs.declared.lines.Why.{Why}
use Rattle.st_lines.specs.declared.lines.Why.TheVariants.{Run, Interrupt, Mispredicted, Card}
use Rattle.st_account.specs.Settling.{words_printed}

-- ---- the end of a segment

-- the entry that had begun when the last entry completed at a moment: the first in its predicted
-- sequence that was not prepared by then; b is the state before the last entry
unfoldable pub begun_at : List ℕ → ℕ → Machine → Moment → List Ahead
begun_at ds n b m =
    map (seen_ahead ds n)
    (first_late m.tick (ahead ds n (suc n) None (prediction (interrupt b) b) m.issue))

-- the lines of the end of a segment at a moment
abbrev pub end_lines_at : (Machine → ℕ → Option Origin) → List ℕ → ℕ → ℕ → Machine → Moment →
    List (List ℕ)
end_lines_at o ds n k b m =
    segment_end_lines (o (next_state m)) k m.tick (m.scene.machine.done + 1)
    (map (seen_ahead ds n) m.dropped) (begun_at ds n b m)

-- the lines of the end of a segment, if it ends at a moment
abbrev pub lines_at_end : (Machine → ℕ → Option Origin) → List ℕ → ℕ → ℕ → Machine → Moment →
    List (List ℕ)
lines_at_end o ds n k b m = if ends_segment m then end_lines_at o ds n k b m else []

-- ---- the state after an entry

-- the printed words after a moment
abbrev pub words_behind : Moment → List (List ℕ)
words_behind m = words_printed (interlude m.scene).happened

-- the lines of a state, given the state b before the last entry
abbrev pub state_lines_at : List (List ℕ) → ℕ → Machine → Machine → List (List ℕ)
state_lines_at words k b s = state_lines words k b.enabled b.words s (interrupt s) s.done

-- ---- the start of a segment

-- whether the next entry is the first of a segment
abbrev pub begins_segment : ℕ → Moment → Bool
begins_segment k m = nat_eq k 0 || ends_segment m

-- why a segment begins, except at the start of the run: by an interrupt, a misprediction, or else a
-- card
abbrev pub why_by : Option ℕ → Bool → Why
why_by (Some i) mispredicted = Interrupt i
why_by None true = Mispredicted
why_by None false = Card

unfoldable pub why : ℕ → Moment → Why
why k m = if nat_eq k 0 then Run else why_by (interrupt (next_state m)) m.mispredicted

abbrev pub segment_start_lines : ℕ → Moment → List (List ℕ)
segment_start_lines k m =
    if begins_segment k m then start_line (k + 1) (next_issue m).c (has_waited m) (why k m) ∷ []
    else []

-- the number of the segment of the next entry
abbrev pub segment_after : ℕ → Moment → ℕ
segment_after k m = if begins_segment k m then k + 1 else k

-- the lines between two entries: the end of a segment, the state, and the start of the next segment
unfoldable pub segment_lines : (Machine → ℕ → Option Origin) → List ℕ → ℕ → ℕ → Machine → Moment →
    List (List ℕ)
segment_lines o ds n k b m =
    (lines_at_end o ds n k b m ++ state_lines_at (words_behind m) k b (next_state m))
    ++ segment_start_lines k m

-- ---- rows

-- the words that the next entry uses until its address is formed
unfoldable pub formed_at : List ℕ → Standing → List Use
formed_at ds p =
    let s = p.scene.machine in
    formed_uses ds p.issue (entry (interrupt s) s) (side_at (interrupt s) s)

-- all words that the next entry uses
unfoldable pub uses_at : List ℕ → ℕ → Standing → List Use
uses_at ds n p =
    let s = p.scene.machine in
    uses_of_entry ds n p.issue (entry (interrupt s) s) (side_at (interrupt s) s)
    (plan s (interrupt s)).reads

-- the words that the previous entry in the segment uses; none before the first entry of a segment
abbrev pub words_before : Moment → List Use → List Use
words_before m us = if ends_segment m then [] else us

-- the next entry as a completed one, given the words that the previous entry uses; its segment ends
-- at tick `end`, or continues if there is none
abbrev pub done_at : (Machine → ℕ → Option Origin) → List ℕ → ℕ → Option ℕ → List Use → Standing →
    EntryDone
done_at o ds n end before p =
    let s = p.scene.machine in
    let x = entry (interrupt s) s in
    record {
      n = s.done + 1;
      address = address s;
      origin = o s (address s);
      row = record { ticks = next_row ds n p; level_wait = level_wait ds n p.issue x };
      mispredicted = is_mispredicted (plan s (interrupt s)) s;
      before = p.tick;
      start = p.issue.c;
      end = end;
      because = because p.issue x (next_row ds n p).a (next_row ds n p).p
          (level_wait ds n p.issue x) (formed_at ds p) before;
    }

-- the lines of the next entry, given the same
unfoldable pub lines_of_entry : (Machine → ℕ → Option Origin) → List ℕ → ℕ → Option ℕ → List Use →
    Standing → List (List ℕ)
lines_of_entry o ds n end before p =
    let s = p.scene.machine in
    done_entry_lines (done_at o ds n end before p) (plan s (interrupt s))
    (known_at (interrupt s) s) (uses_at ds n p) before

-- ---- the end

-- whether the run ends at a moment in which `left` entries may still complete
abbrev pub run_ends : ℕ → Moment → Bool
run_ends left m = nat_eq left 0 || rests (next_state m)

-- whether the segment of the last entry ends at a moment, either with the run or before its end
abbrev pub segment_ends : ℕ → Moment → Bool
segment_ends left m = run_ends left m || ends_segment m

-- the tick at which the segment of the last entry ends, if it does
unfoldable pub segment_end_at : ℕ → Moment → Option ℕ
segment_end_at left m = if segment_ends left m then Some m.tick else None

-- the lines of the end of the last segment and of the run
unfoldable pub last_lines : (Machine → ℕ → Option Origin) → List ℕ → ℕ → ℕ → Machine → Moment →
    List (List ℕ)
last_lines o ds n k b m =
    (end_lines_at o ds n k b m ++ marks_lines (words_behind m) k b.enabled b.words (next_state m))
    ++ run_end_line (rests (next_state m)) ∷ done_line (next_state m).done ∷ ticks_line m.tick ∷ []

-- the lines of the ticks of all charges, by stage
abbrev pub totals_lines : List Charge → List (List ℕ)
totals_lines xs = sum_lines (sums_by (λ s. ticks_for s xs) stages)

-- the ticks of one kind of wait in the charges of a stage, from a moment on with a remaining budget
unfoldable pub stalled_from : Stage → Stall → List ℕ → ℕ → ℕ → List Use → Moment → ℕ
stalled_from r s ds n zero us m = 0
stalled_from r s ds n (suc left) us m =
    let p = standing_at m in
    if rests (next_state m) then 0
    else row_stalled r s (uses_at ds n p) (words_before m us) (charges_at ds n p)
    + stalled_from r s ds n left (uses_at ds n p) (next_moment ds n p)

-- the lines of the ticks of all waits, by stage and kind of wait
abbrev pub wait_totals_lines : (Stage → Stall → ℕ) → List (List ℕ)
wait_totals_lines f = wait_sum_lines (wait_sums_by f)

-- ---- the whole ledger

-- the lines from a moment on with a remaining budget; the end by WAIT is checked before the budget.
-- b is the state before the last completed entry
unfoldable pub lines_from : (Machine → ℕ → Option Origin) → List ℕ → ℕ → ℕ → ℕ → Machine →
    List Use → Moment → List (List ℕ)
lines_from o ds n zero k b us m = last_lines o ds n k b m
lines_from o ds n (suc left) k b us m =
    let p = standing_at m in
    let behind = next_moment ds n p in
    if rests (next_state m) then last_lines o ds n k b m
    else (segment_lines o ds n k b m
    ++ lines_of_entry o ds n (segment_end_at left behind) (words_before m us) p)
    ++ lines_from o ds n left (segment_after k m) (next_state m) (uses_at ds n p) behind

-- the lines of the machine before some lines of the run of a scene, and its totals after them
abbrev pub with_totals : List ℕ → ℕ → ℕ → Scene → List (List ℕ) → List (List ℕ)
with_totals ds n left c lines =
    machine_lines ds n ++ lines
    ++ totals_lines (all_charges ds n (entries_of ds n left c))
    ++ wait_totals_lines (λ r s. stalled_from r s ds n left [] (moment_at_start c))

-- the ledger of the run of a scene
unfoldable pub ledger : (Machine → ℕ → Option Origin) → List ℕ → ℕ → ℕ → Scene → List (List ℕ)
ledger o ds n left c =
    with_totals ds n left c (lines_from o ds n left 0 c.machine [] (moment_at_start c))
