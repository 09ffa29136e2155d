-- Proofs of the laws of charges.
use Rattle.std.proofs.Common.{refl, arith, ℕ, ◌≤◌, ◌-◌, List}
use Rattle.st_rows.specs.Rows.{row_of_entry}
use Rattle.st_run.specs.Moments.{moment_at_start}
use Rattle.st_run.specs.TimedRun.{timed_from}
use Rattle.st_run.specs.Order.{last_completion}
use Rattle.st_ledger.specs.Ledger.{entries_of, all_charges}
use Rattle.st_ledger.specs.Laws.{ChargesFollow, TicksBelongToTheirStage, RowsAreThoseOfTheRun, ChargesAddUpToTheRun, SegmentsStartBehindTheirEnd}
use Rattle.st_ledger.proofs.ChargeSums.{follow-sum, charges-stages}
use Rattle.st_ledger.proofs.Rows.{row-follows, row-sum, row-costs, row-restarts}
use Rattle.st_ledger.proofs.Runs.{run-follows, run-costs, run-rows, segment-starts}
use Rattle.std.specs.Prelude.{All, reverse, take}
use Rattle.std.proofs.lemmas.List.Elements.{All-take}
use Rattle.st_ledger.specs.declared.charges.Stage.{Stage}
use Rattle.st_ledger.specs.declared.charges.Stage.TheVariants.{Restart, Address, Preparing, Executing, Instruction as AtInstruction, Index as AtIndex, Operand as AtOperand}
use Rattle.st_rows.specs.declared.uses.Role.TheVariants.{Index, Operand}
use Rattle.st_rows.specs.declared.uses.Use.{Use}
use Rattle.st_ledger.specs.Laws.{WaitsAreWithinTheirCharge, ReadsOfAnEntryAreInTime}
use Rattle.st_ledger.specs.Words.{IsReadInTime}
use Rattle.st_ledger.specs.Sums.{all_stalled}
use Rattle.st_ledger.specs.Waits.{stage_waits}
use Rattle.st_ledger.proofs.InTime.{uses-in-time}
use Rattle.st_ledger.proofs.Pieces.{data-ticks, fetch-ticks}
use Rattle.st_ledger.proofs.WordLemmas.{all-reversed}

pub charges_follow : ChargesFollow
charges_follow = record {
  gapless = row-follows;
  sum = row-sum;
  cost = row-costs;
  restart = row-restarts;
}

pub ticks_belong_to_their_stage : TicksBelongToTheirStage
ticks_belong_to_their_stage ds n t f e = charges-stages t f.c (row_of_entry ds n f e)

pub rows_are_those_of_the_run : RowsAreThoseOfTheRun
rows_are_those_of_the_run ds snaps n left c = run-rows ds n left (moment_at_start c) snaps

pub charges_add_up_to_the_run : ChargesAddUpToTheRun
charges_add_up_to_the_run = record {
  gapless = λ ds snaps n left c. run-follows ds n left (moment_at_start c) snaps 0 refl;
  sum = λ ds snaps n left c.
      let sum = follow-sum 0 (last_completion 0 (timed_from ds n left (moment_at_start c) snaps)) (all_charges ds n (entries_of ds n left c))
      (run-follows ds n left (moment_at_start c) snaps 0 refl) in
      omega (arith, sum);
  costs = λ ds n left c. run-costs ds n left (moment_at_start c) refl;
}

pub segments_start_behind_their_end : SegmentsStartBehindTheirEnd
segments_start_behind_their_end m ends = segment-starts m ends

-- ---- the waits of a charge

stage-ticks : (stage : Stage) (from t : ℕ) (uses before : List Use) → All IsReadInTime uses → All IsReadInTime before
    → all_stalled (stage_waits stage from t uses before) ≤ t - from
unfolding stage_waits all_stalled
stage-ticks AtInstruction from t uses before all old =
    fetch-ticks from t (reverse before) (reverse (take 4 uses)) (all-reversed IsReadInTime before old) (all-reversed IsReadInTime (take 4 uses) (All-take IsReadInTime 4 uses all))
stage-ticks AtIndex from t uses before all old = data-ticks Index from t (reverse before) (reverse uses) (all-reversed IsReadInTime uses all)
stage-ticks AtOperand from t uses before all old = data-ticks Operand from t (reverse before) (reverse uses) (all-reversed IsReadInTime uses all)
stage-ticks Restart from t uses before all old = omega arith
stage-ticks Address from t uses before all old = omega arith
stage-ticks Preparing from t uses before all old = omega arith
stage-ticks Executing from t uses before all old = omega arith

pub waits_are_within_their_charge : WaitsAreWithinTheirCharge
waits_are_within_their_charge x uses before all old = stage-ticks x.stage x.from x.to uses before all old

pub reads_of_an_entry_are_in_time : ReadsOfAnEntryAreInTime
reads_of_an_entry_are_in_time ds n f e side reads = uses-in-time ds n f e side reads
