-- Proofs of the laws of timed runs.
use Rattle.st_run.proofs.Untimed.{timed-plain}
use Rattle.st_run.specs.Moments.{moment_at_start, next_moment}
use Rattle.std.proofs.Common.{sym, ◌∙◌, refl, arith}
use Rattle.st_run.proofs.Bounds.{run-time}
use Rattle.st_run.proofs.EndLemmas.{run-ends}
use Rattle.st_run.proofs.OrderLemmas.{timed-order}
use Rattle.st_run.proofs.ShownLemmas.{timed-shown, tick-same}
use Rattle.st_run.proofs.CourseLemmas.{last-same}
use Rattle.st_run.proofs.Turns.{nothing-ahead, snapshot-none}
use Rattle.st_run.proofs.PrintLemmas.{settled-one}
use Rattle.st_run.proofs.PredictionLemmas.{behind-right, behind-mispredicted}
use Rattle.st_run.proofs.SceneLemmas.{settled-scene, stepped-scene}
use Rattle.st_run.specs.Laws.{TheTimedRunIsTheRun, DelaysChangeNothingButTicks, RunsAreInTime, TheLastMomentEndsTheRun, EventsComeInOrder, SnapshotsAreShownUpToTheEnd, NothingIsAheadBehindAnEnd, PrintsComeOneAtATime, DroppedEntriesFollowThePrediction, ScenesAreKept}
use Rattle.st_refine.proofs.Kept.{interrupt-below}

pub the_timed_run_is_the_run : TheTimedRunIsTheRun
the_timed_run_is_the_run = record {
  whole = λ ds snaps n left scene. timed-plain ds n left (moment_at_start scene) snaps;
  from = λ ds snaps n left m. timed-plain ds n left m snaps;
}

pub delays_change_nothing_but_ticks : DelaysChangeNothingButTicks
delays_change_nothing_but_ticks = λ ds es snaps shots n k left scene.
    timed-plain ds n left (moment_at_start scene) snaps ∙ sym (timed-plain es k left (moment_at_start scene) shots)

pub runs_are_in_time : RunsAreInTime
runs_are_in_time = record {
  each = λ ds snaps most n left scene are levels is. run-time most n ds are levels left scene snaps is;
  end = λ ds snaps most n left scene are levels is. run-ends most n ds are levels left scene snaps 0 is;
}

pub the_last_moment_ends_the_run : TheLastMomentEndsTheRun
the_last_moment_ends_the_run = record {
  tick = λ ds snaps n left scene. tick-same ds n left 0 (moment_at_start scene) snaps;
  state = λ ds n left scene. sym (last-same ds n left (moment_at_start scene));
}

pub events_come_in_order : EventsComeInOrder
events_come_in_order = λ ds snaps n left scene rising. timed-order ds n left 0 (moment_at_start scene) snaps refl (omega arith) rising

pub snapshots_are_shown_up_to_the_end : SnapshotsAreShownUpToTheEnd
snapshots_are_shown_up_to_the_end = λ ds snaps n left scene. timed-shown ds n left (moment_at_start scene) snaps 0 refl refl

pub nothing_is_ahead_behind_an_end : NothingIsAheadBehindAnEnd
nothing_is_ahead_behind_an_end = record {
  ahead = λ ds n tick m ended early. nothing-ahead ds n m tick ended early;
  state = λ tick taken s. snapshot-none tick taken s;
}

pub prints_come_one_at_a_time : PrintsComeOneAtATime
prints_come_one_at_a_time = λ scene. settled-one scene

pub dropped_entries_follow_the_prediction : DroppedEntriesFollowThePrediction
dropped_entries_follow_the_prediction = record {
  right = λ ds n k p is right. behind-right ds n k p is right;
  mispredicted = λ ds n k p is mispredicted. behind-mispredicted ds n k p is mispredicted;
}

pub scenes_are_kept : ScenesAreKept
unfolding next_moment
scenes_are_kept = record {
  between = λ m is. settled-scene m.scene is;
  done = λ ds n p is. stepped-scene p.scene is;
  taken = λ p. interrupt-below p.scene.machine;
}
