-- Laws of all timed runs.
--
-- Proved: each law has its lemma in proofs/Laws.antt, with its name in small letters.
-- Claimed: docs/CLAIMS.md names DelaysChangeNothingButTicks, RunsAreInTime, TheTimedRunIsTheRun.
-- Change: docs/promises.txt lists each law, and the gate compares the list with the laws.
use Rattle.std.specs.Prelude.{◌≡◌, ℕ, ◌+◌, ◌*◌, ◌<◌, ◌≤◌, true, false, List, [], length, All, Option, None, IfSome}
use Rattle.st_state.specs.Machine.{Machine}
use Rattle.st_prep.specs.Plan.{plan}
use Rattle.st_exec.specs.Step.{interrupt}
use Rattle.st_run.specs.Run.{Scene, interlude, run}
use Rattle.st_rows.specs.Ranges.{AreDelaysUpTo}
use Rattle.st_segment.specs.Ahead.{ahead, prepared_before}
use Rattle.st_run.specs.Events.{Timed, Shows, snapshot, plain_run}
use Rattle.st_run.specs.Moments.{Moment, Standing, moment_at_start, next_state, ends_segment, standing_at, entries_at_moment, entries_behind, next_moment, moments}
use Rattle.st_run.specs.Order.{AreEventsInOrder, AreRising, shown_ticks, last_completion}
use Rattle.st_run.specs.Scenes.{IsScene}
use Rattle.st_run.specs.TimedRun.{ticks_before, timed_from, timed_run}

-- A timed run without its timing is the plain run, for all delays, levels and snapshots, from its
-- start and from each moment.
pub record TheTimedRunIsTheRun : Type 0 where
  pub whole : (ds snaps : List ℕ) (n left : ℕ) (c : Scene) →
      plain_run (timed_run ds n left c snaps) ≡ (run left c).happened
  pub from : (ds snaps : List ℕ) (n left : ℕ) (m : Moment) →
      plain_run (timed_from ds n left m snaps) ≡ (run left m.scene).happened

-- Machines with any delays and any number of levels have the same events in the same order, with
-- the same states.
abbrev pub DelaysChangeNothingButTicks : Type 0
DelaysChangeNothingButTicks = (ds es snaps shots : List ℕ) (n k left : ℕ) (c : Scene) →
    plain_run (timed_run ds n left c snaps) ≡ plain_run (timed_run es k left c shots)

-- The tick of each event is at most 64 times (the longest delay plus four) for each completed
-- instruction and for one more. So is the last tick of the run.
pub record RunsAreInTime : Type 0 where
  pub each : (ds snaps : List ℕ) (most n left : ℕ) (c : Scene) →
      AreDelaysUpTo most ds → n ≤ 8 → IsScene c →
      All (λ (x : Timed). x.tick ≤ 64 * (most + 4) * (x.done + 1)) (timed_run ds n left c snaps)
  pub end : (ds snaps : List ℕ) (most n left : ℕ) (c : Scene) →
      AreDelaysUpTo most ds → n ≤ 8 → IsScene c →
      last_completion 0 (timed_run ds n left c snaps) ≤ 64 * (most + 4) *
      ((run left c).scene.machine.done + 1)

-- The last tick of the events of a run is that of its last moment, and the last state is that of
-- the plain run.
pub record TheLastMomentEndsTheRun : Type 0 where
  pub tick : (ds snaps : List ℕ) (n left : ℕ) (c : Scene) →
      last_completion 0 (timed_run ds n left c snaps)
      ≡ (moments ds n left (moment_at_start c)).last.tick
  pub state : (ds : List ℕ) (n left : ℕ) (c : Scene) →
      next_state (moments ds n left (moment_at_start c)).last ≡ (run left c).scene.machine

-- The events of a run are in order of their ticks if the requested snapshots are.
abbrev pub EventsComeInOrder : Type 0
EventsComeInOrder = (ds snaps : List ℕ) (n left : ℕ) (c : Scene) → AreRising 0 snaps →
    AreEventsInOrder 0 (timed_run ds n left c snaps)

-- Exactly the requested snapshots up to the last tick of a run are shown, each once.
abbrev pub SnapshotsAreShownUpToTheEnd : Type 0
SnapshotsAreShownUpToTheEnd = (ds snaps : List ℕ) (n left : ℕ) (c : Scene) →
    let events = timed_run ds n left c snaps in
    shown_ticks events ≡ ticks_before (last_completion 0 events + 1) snaps

-- After the end of a segment no entry is in flight until the next segment starts, which is one tick
-- later and one more for each flushed entry. A snapshot without entries in flight shows the state
-- unchanged.
pub record NothingIsAheadBehindAnEnd : Type 0 where
  pub ahead : (ds : List ℕ) (n tick : ℕ) (m : Moment) → ends_segment m ≡ true →
      tick ≤ m.tick + 1 + length m.dropped →
      prepared_before (tick + 1) (entries_at_moment ds n (standing_at m)) ≡ []
  pub state : (tick : ℕ) (taken : Option ℕ) (s : Machine) →
      snapshot tick taken s [] ≡ Shows tick s []

-- At most one print occurs between two entries.
abbrev pub PrintsComeOneAtATime : Type 0
PrintsComeOneAtATime = (c : Scene) → length (interlude c).happened ≤ 1

-- The entries after the prediction of an entry are those in flight in its completed state if the
-- prediction was right; if it was wrong, those in flight in this state with the predicted program
-- counter.
pub record DroppedEntriesFollowThePrediction : Type 0 where
  pub right : (ds : List ℕ) (n k : ℕ) (p : Standing) → IsScene p.scene →
      let m = next_moment ds n p in m.mispredicted ≡ false →
      entries_behind ds n p k ≡ ahead ds n k None m.scene.machine m.issue
  pub mispredicted : (ds : List ℕ) (n k : ℕ) (p : Standing) → IsScene p.scene →
      let m = next_moment ds n p in let h =
      (plan p.scene.machine (interrupt p.scene.machine)).following in
      m.mispredicted ≡ true →
      entries_behind ds n p k ≡ ahead ds n k None (record m.scene.machine { ic = h }) m.issue

-- The invariant of a scene (a valid state, and cards of eight words) is kept between two entries
-- and by each entry.
pub record ScenesAreKept : Type 0 where
  pub between : (m : Moment) → IsScene m.scene → IsScene (standing_at m).scene
  pub done : (ds : List ℕ) (n : ℕ) (p : Standing) → IsScene p.scene →
      IsScene (next_moment ds n p).scene
  pub taken : (p : Standing) → IfSome (interrupt p.scene.machine) (λ i. i < 64)
