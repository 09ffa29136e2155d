-- A whole timed run: the events and their ticks. The machine has the delays ds and n levels.
--
-- Proved: by their `ensures` clauses these calls do what definitions here say: `new` (run.rt).
-- Read by: definitions in Telling, Progress, StepsBack of st_top.
-- Laws: SnapshotsAreShownUpToTheEnd (specs/Laws.antt), TheTimedRunIsTheRun (specs/Laws.antt),
-- RunsKeepTheirBudget (specs/RunLaws.antt), DelaysChangeNothingButTicks (specs/Laws.antt), and
-- others.
-- Change: the meaning is fixed by docs/timetable.md, since the contract of `st_top::stretch`
-- unfolds to a definition here. The form is free, with the proofs that unfold it.
use Rattle.std.specs.Prelude.{ℕ, ◌+◌, nat_lt, if◌then◌else◌, List, [], ◌∷◌, ◌++◌, map, reverse}
use Rattle.std.specs.List.{flat_map}
use Rattle.st_state.specs.Machine.{Machine}
use Rattle.st_exec.specs.Step.{rests, address, interrupt}
use Rattle.st_run.specs.Run.{Scene, PlainEvent, Ends, interlude, interrupts_by}
use Rattle.st_segment.specs.Ahead.{prepared_before}
use Rattle.st_run.specs.Events.{TimetableEvent, Timed, Completes, Shows, Happens, drop_of, snapshot}
use Rattle.st_run.specs.Moments.{Moment, Standing, moment_at_start, next_state, ends_segment, standing_at, next_row, entries_at_moment, next_moment, moments}

-- an event, with the tick of the last completion and the state after it
abbrev pub event_at : ℕ → Machine → TimetableEvent → Timed
event_at tick s event = record { done = s.done; tick = tick; event = event }

-- ---- the ticks of snapshots

-- of a list of increasing ticks, those before the tick t
unfoldable pub ticks_before : ℕ → List ℕ → List ℕ
ticks_before t [] = []
ticks_before t (x ∷ xs) = if nat_lt x t then x ∷ ticks_before t xs else []

-- of a list of increasing ticks, those from the tick t
unfoldable pub snapshots_from : ℕ → List ℕ → List ℕ
snapshots_from t [] = []
snapshots_from t (x ∷ xs) = if nat_lt x t then snapshots_from t xs else x ∷ xs

-- ---- events at the tick of a moment

module _ (m : Moment) where
  -- the events of the flushed entries, the youngest first
  unfoldable pub drops : List Timed
  drops = map (λ a. event_at m.tick m.scene.machine (drop_of a)) (reverse m.dropped)

  -- the events of the flushed entries if the segment ends here, otherwise none
  abbrev pub drops_if_ends : List Timed
  drops_if_ends = if ends_segment m then drops else []

  -- an event of the plain run as an event of the timed run
  abbrev pub happening_at : PlainEvent → Timed
  happening_at happening = event_at m.tick m.scene.machine (Happens happening)

  -- the events between two entries, if the run continues: flushes, prints and the interrupt
  unfoldable pub events_between : List Timed
  events_between = drops_if_ends ++ map happening_at
      ((interlude m.scene).happened ++ interrupts_by (interrupt (next_state m)) (next_state m))

  -- ---- the end

  -- a snapshot of the last state, with no entries in flight
  abbrev pub last_snapshot_at : ℕ → Timed
  last_snapshot_at tick = event_at m.tick m.scene.machine (Shows tick (next_state m) [])

  -- the events at the end of the run: flushes, prints, the snapshots up to this tick, and the end
  unfoldable pub last_events : List ℕ → List Timed
  last_events snaps =
      drops ++ map happening_at (interlude m.scene).happened
      ++ map last_snapshot_at (ticks_before (m.tick + 1) snaps)
      ++ happening_at (Ends (next_state m) (rests (next_state m))) ∷ []

module _ (ds : List ℕ) (n : ℕ) where
  -- ---- events up to the next completion

  -- a snapshot of the state and of the entries in flight at a tick
  abbrev pub snapshot_at : Standing → ℕ → Timed
  snapshot_at p tick = event_at p.tick p.scene.machine
      (snapshot tick (interrupt p.scene.machine) p.scene.machine
      (prepared_before (tick + 1) (entries_at_moment ds n p)))

  -- the completion of the next entry
  abbrev pub completion : Standing → Timed
  completion p = let m = next_moment ds n p in
      event_at m.tick m.scene.machine (Completes m.scene.machine (address p.scene.machine)
      (next_row ds n p))

  -- the events up to the next completion: the snapshots before it, and the completion
  unfoldable pub until_done : Standing → List ℕ → List Timed
  until_done p snaps =
      map (snapshot_at p) (ticks_before (next_moment ds n p).tick snaps) ++ completion p ∷ []

  -- the events from a moment up to the next completion, with snapshots at the given ticks
  abbrev pub told_from : List ℕ → Moment → List Timed
  told_from snaps m = events_between m ++ until_done (standing_at m) (snapshots_from m.tick snaps)

  -- ---- the whole run

  -- the events of the run from a moment, with the given budget of instructions
  unfoldable pub timed_from : ℕ → Moment → List ℕ → List Timed
  timed_from left m snaps = let r = moments ds n left m in
      flat_map (told_from snaps) r.before ++ last_events r.last (snapshots_from r.last.tick snaps)

  -- the events of the run from the point before an entry, with the given budget after it
  abbrev pub timed_behind : ℕ → Standing → List ℕ → List Timed
  timed_behind left p snaps = until_done p snaps ++ timed_from left (next_moment ds n p) snaps

  -- the events of the whole run of a scene
  abbrev pub timed_run : ℕ → Scene → List ℕ → List Timed
  timed_run left c snaps = timed_from left (moment_at_start c) snaps
