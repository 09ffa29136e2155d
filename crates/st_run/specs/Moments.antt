-- The points of a timed run: right after an entry completes, and right before the next one. The
-- machine has the delays ds and n levels.
--
-- Proved: by their `ensures` clauses these calls do what definitions here say: `step` (account.rt
-- of st_account), `take_events` (account.rt of st_account), `add_run` (running.rt of st_account),
-- `write_run` (running.rt of st_account).
-- Read by: definitions in TimedRun, Leaving, Together, Text of st_account, and others.
-- Laws: NothingIsAheadBehindAnEnd (specs/Laws.antt), ScenesAreKept (specs/Laws.antt),
-- DroppedEntriesFollowThePrediction (specs/Laws.antt), TheLastMomentEndsTheRun (specs/Laws.antt),
-- and others.
-- Change: the meaning is fixed by docs/timetable.md, since the contracts of `st_top::stretch` and
-- `st_account::ledger` unfold to a definition here. The form is free, with the proofs that unfold
-- it.
use Rattle.std.specs.Prelude.{ℕ, Bool, false, ◌||◌, nat_lt, if◌then◌else◌, is_some, List, [], length, None}
use Rattle.st_state.specs.Machine.{Machine}
use Rattle.st_prep.specs.Plan.{plan}
use Rattle.st_exec.specs.Completion.{prediction, is_mispredicted}
use Rattle.st_exec.specs.Step.{interrupt, rests}
use Rattle.st_run.specs.Course.{Course, course}
use Rattle.st_run.specs.Run.{Scene, with_due_signals, with_due_orders, interlude, scene_after_step}
use Rattle.st_banks.specs.Bank.{idle_banks}
use Rattle.st_banks.specs.declared.answers.LastAnswers.{LastAnswers}
use Rattle.st_rows.specs.Rows.{opening_issue, row_of_entry, issue_after_entry}
use Rattle.st_rows.specs.declared.entry.Entry.{Entry}
use Rattle.st_rows.specs.declared.issue.IssueState.{IssueState}
use Rattle.st_rows.specs.declared.issue.EntryTicks.{EntryTicks}
use Rattle.st_segment.specs.Entries.{entry}
use Rattle.st_segment.specs.Ahead.{Ahead, ahead, prepared_before, reads_to_end, banks_at_end, issue_behind_end}

-- the point at which an entry has completed, before any external event: scene and issue state after
-- it, and, if the segment ends here, the entries to flush, oldest first, and last answers of banks
pub record Moment : Type 0 where
  pub scene : Scene
  pub tick : ℕ
  pub issue : IssueState
  pub mispredicted : Bool
  pub dropped : List Ahead
  pub banks : LastAnswers

-- the point before the next entry, after all external events, with the tick of the last completion
pub record Standing : Type 0 where
  pub scene : Scene
  pub tick : ℕ
  pub issue : IssueState

-- the moment at the start of a run, at tick 0
abbrev pub moment_at_start : Scene → Moment
moment_at_start c = record {
  scene = c;
  tick = 0;
  issue = opening_issue idle_banks 0;
  mispredicted = false;
  dropped = [];
  banks = idle_banks;
}

-- ---- the transition between two entries

module _ (m : Moment) where
  -- the scene before the next entry, after signals, orders and waits
  abbrev pub next_scene : Scene
  next_scene = (interlude m.scene).scene

  -- the state before the next entry
  abbrev pub next_state : Machine
  next_state = next_scene.machine

  -- whether the reader has put a card into storage since the moment
  abbrev pub has_card : Bool
  has_card = nat_lt (length next_scene.cards) (length m.scene.cards)

  -- whether the machine is at rest after the due signals and orders, so that it waits for an event
  abbrev pub has_waited : Bool
  has_waited = rests (with_due_orders (with_due_signals m.scene)).scene.machine

  -- whether the segment ends here, if the run continues
  unfoldable pub ends_segment : Bool
  ends_segment = m.mispredicted || has_card || has_waited || is_some (interrupt next_state)

  -- the issue state at the start of the next segment
  abbrev pub next_segment : IssueState
  next_segment = issue_behind_end m.banks m.tick (length m.dropped)

  -- the issue state from which the row of the next entry is computed
  unfoldable pub next_issue : IssueState
  next_issue = if ends_segment then next_segment else m.issue

  -- the point before the next entry
  abbrev pub standing_at : Standing
  standing_at = record { scene = next_scene; tick = m.tick; issue = next_issue }

-- ---- the next entry

-- the next entry as the timetable sees it, which may be the table instruction of an interrupt
abbrev pub entry_of_moment : Standing → Entry
entry_of_moment p = entry (interrupt p.scene.machine) p.scene.machine

module _ (ds : List ℕ) (n : ℕ) (p : Standing) where
  -- the row of the next entry
  unfoldable pub next_row : EntryTicks
  next_row = row_of_entry ds n p.issue (entry_of_moment p)

  -- the issue state after the next entry
  abbrev pub issue_after : IssueState
  issue_after = issue_after_entry ds n p.issue (entry_of_moment p)

  -- the next entry and the entries in flight after it, along predicted states
  abbrev pub entries_at_moment : List Ahead
  entries_at_moment = ahead ds n n (interrupt p.scene.machine) p.scene.machine p.issue

  -- the k entries in flight after the prediction of the next entry
  abbrev pub entries_behind : ℕ → List Ahead
  entries_behind k = ahead ds n k None (prediction (interrupt p.scene.machine) p.scene.machine)
      issue_after

  -- the moment at which the next entry completes; reads that are accepted before this tick are made
  unfoldable pub next_moment : Moment
  next_moment = record {
    scene = scene_after_step p.scene;
    tick = next_row.c;
    issue = issue_after;
    mispredicted = is_mispredicted (plan p.scene.machine (interrupt p.scene.machine)) p.scene.machine;
    dropped = prepared_before next_row.c (entries_behind n);
    banks = banks_at_end ds next_row.c (reads_to_end ds n next_row.c
        (interrupt p.scene.machine) p.scene.machine p.issue (entry_of_moment p)) p.issue.bus;
  }

-- the moments of a run from a given one, with the given budget of instructions
abbrev pub moments : List ℕ → ℕ → ℕ → Moment → Course Moment
moments ds n = course (λ m. rests (next_state m)) (λ m. next_moment ds n (standing_at m))
