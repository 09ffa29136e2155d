-- A position of a run, and what holds of the account there: before the events after an entry, and
-- behind them. Where no position is named, the machine has the delays ds and n levels.
--
-- Proved: by their `ensures` clauses these calls do what definitions here say: `finish`
-- (account.rt), `skip_to_next` (account.rt), `write_to_next` (account.rt), `finish_run`
-- (passing.rt), and others.
-- Read by: definitions in Rounds, Passing, Tallying.
-- Laws: none names a definition of this file itself.
-- Change: no page fixes these definitions, since no contract of a program unfolds to them; they
-- change together with the clauses, definitions and laws that name them. docs/ledger.md describes
-- the subject.
use Rattle.std.specs.Prelude.{ℕ, suc, ◌+◌, ◌-◌, ◌≡◌, ◌≢◌, ◌<◌, ◌≤◌, ◌^◌, length, true, not, ◌&&◌, nat_eq, if◌then◌else◌, is_none, Bool, List, [], ◌∷◌, ◌++◌, map, All, Option, None}
use Rattle.st_bits.specs.Storage.{words_of_storage}
use Rattle.st_bits.specs.declared.limits.TheConstants.{MOST_DELAY, MOST_INSTRUCTIONS}
use Rattle.st_state.specs.Machine.{Machine, word}
use Rattle.st_exec.specs.Ahead.{IsNotAmong}
use Rattle.st_exec.specs.Completion.{prediction}
use Rattle.st_rows.specs.Asked.{bus_after_reads, made_before}
use Rattle.st_rows.specs.BusTimes.{Read}
use Rattle.st_rows.specs.Notes.{IsLogged}
use Rattle.st_rows.specs.Ranges.{IsNear, IsTight}
use Rattle.st_rows.specs.declared.bus.Bus.{Bus}
use Rattle.st_rows.specs.declared.log.Made.{Made}
use Rattle.st_segment.specs.Ahead.{ahead, prepared_before, reads_before}
use Rattle.st_exec.specs.Step.{interrupt}
use Rattle.st_card.specs.declared.control_cards.Signal.{Signal}
use Rattle.st_run.specs.ExternalEvents.{PendingEvents, scene_at, signal_due}
use Rattle.st_run.specs.Moments.{Moment, Standing, next_state, next_moment, standing_at, has_card, has_waited}
use Rattle.st_run.specs.Reached.{IsCard}
use Rattle.st_ledger.specs.Charges.{parts_of_row, charges_behind, all_ticks}
use Rattle.st_ledger.specs.declared.charges.Charge.{Charge}
use Rattle.st_ledger.specs.declared.charges.Stage.{Stage}
use Rattle.st_ledger.specs.Sums.{AreWaitsWithin, is_parted, waited_at, row_stalled}
use Rattle.st_ledger.specs.Words.{IsReadInTime}
use Rattle.st_ledger.specs.declared.sums.WaitTotals.{WaitTotals}
use Rattle.st_ledger.specs.declared.waits.Stall.{Stall}
use Rattle.st_lines.specs.Changes.{IsCopyBehind}
use Rattle.st_lines.specs.EntryLines.{done_entry_lines}
use Rattle.st_plain.specs.Looking.{seen_ahead}
use Rattle.st_account.specs.declared.account.Account.{Account}
use Rattle.st_account.specs.declared.last.Last.{Last}
use Rattle.st_account.specs.Text.{begun_at, words_behind, segment_ends}

-- the state from which predicted steps continue: its instruction counter is that of the prediction
abbrev pub predicting : ℕ → Machine → Machine
predicting ic s = record s { ic = ic }

-- a moment of a run on a machine with these delays and levels, which the last entry reached from the
-- state `before`; so many entries may still complete
pub record Position : Type 0 where
  pub delays : List ℕ
  pub levels : ℕ
  pub left : ℕ
  pub before : Machine
  pub moment : Moment

abbrev pub position : List ℕ → ℕ → ℕ → Machine → Moment → Position
position ds n left b m = record {
  delays = ds;
  levels = n;
  left = left;
  before = b;
  moment = m;
}

-- the position of the next entry, which continues the run
abbrev pub next_position : Position → Position
next_position p = record {
  delays = p.delays;
  levels = p.levels;
  left = p.left - 1;
  before = next_state p.moment;
  moment = next_moment p.delays p.levels (standing_at p.moment);
}

-- The log has these reads, which were made from the bus `start` on and leave the bus `bus`; all
-- except the last few of them are accepted before tick t.
pub record HasReads (ds : List ℕ) (t : ℕ) (reads : List Read) (start bus : Bus)
    (log : List Made) : Type 0 where
  pub logged : IsLogged ds t reads start log
  pub leaves : bus_after_reads ds reads start ≡ bus
  pub first : List Read
  pub rest : List Read
  pub parts : reads ≡ first ++ rest
  pub few : length rest ≤ 34
  pub early : (bus_after_reads ds first start).free ≤ t
  pub near : IsNear MOST_DELAY start
  pub free : start.free ≤ t

-- the facts agree with the moment: its tick and its issue state, whether the entry was
-- mispredicted, and the values that determine the entries that run ahead and the reads that are
-- made
pub record IsLast (ds : List ℕ) (n : ℕ) (m : Moment) (l : Last) (log : List Made) : Type 0 where
  pub tick : m.tick ≡ l.tick
  pub issue : m.issue ≡ l.issue
  pub mispredicted : m.mispredicted ≡ l.done.mispredicted
  pub dropped : m.dropped ≡ prepared_before l.tick (ahead ds n n None
      (predicting l.ic m.scene.machine) l.issue)
  pub reads : List Read
  pub bus : Bus
  pub has : HasReads ds l.tick reads bus l.issue.bus log
  pub banks : m.banks ≡ (made_before ds l.tick
      (reads ++ reads_before ds n l.tick
      (ahead ds n (suc n) None (predicting l.ic m.scene.machine) l.issue)) bus).banks

-- the next entry is executed in this state, and the facts have the tick of the last entry and the
-- issue state
pub record IsStanding (p : Standing) (s : Machine) (l : Last) : Type 0 where
  pub machine : p.scene.machine ≡ s
  pub tick : p.tick ≡ l.tick
  pub issue : p.issue ≡ l.issue

-- the lines of the last completed entry, in segment k, which ends at tick `end` or continues; none
-- before the first entry
unfoldable pub kept_lines : ℕ → Last → Option ℕ → List (List ℕ)
kept_lines k l end =
    if nat_eq k 0 then []
    else done_entry_lines (record l.done { end = end }) l.unit.prepared l.known l.uses.items
    l.uses.before

-- the charges of the last completed entry
abbrev pub charges_kept : Last → List Charge
charges_kept l = charges_behind l.done.before (parts_of_row l.done.start l.done.row.ticks)

-- the ticks of one kind of wait in a stage of the last completed entry; 0 before the first entry
unfoldable pub kept_stalled : Stage → Stall → ℕ → Last → ℕ
kept_stalled r s k l =
    if nat_eq k 0 then 0 else row_stalled r s l.uses.items l.uses.before (charges_kept l)

-- The waits of the last completed entry can be written: its words and those of the entry before it
-- are in time, its charges end at its completion, and no total of waits is greater than the tick at
-- which they begin.
pub record IsWaiting (l : Last) (sums : WaitTotals) : Type 0 where
  pub uses : All IsReadInTime l.uses.items
  pub before : All IsReadInTime l.uses.before
  pub reach : l.done.before + all_ticks (charges_kept l) ≡ l.tick
  pub within : AreWaitsWithin l.done.before sums

-- the waits of the last completed entry are added to the totals; before the first entry there are
-- none
pub record AddsKeptWaits (k : ℕ) (l : Last) (old new : WaitTotals) : Type 0 where
  pub within : AreWaitsWithin l.tick new
  pub sums : (r : Stage) (s : Stall) → is_parted r ≡ true →
      waited_at r s new ≡ waited_at r s old + kept_stalled r s k l

-- A row can be computed from the issue state: its ticks are close together, and it is at the last
-- completion or at most 9 ticks later; `past` is a copy of its last entries.
pub record IsOpen (l : Last) : Type 0 where
  pub past : l.past ≡ l.issue.past
  pub tight : IsTight MOST_DELAY l.issue
  pub order : l.tick ≤ l.issue.c
  pub soon : l.issue.c ≤ l.tick + 9

-- What holds of an account between two entries of a run in which so many may still complete: its
-- counts are within the limits, the issue state is that of the last completion, and the waits of the
-- last entry can be added.
pub record IsWithinRun (left : ℕ) (a : Account) : Type 0 where
  pub few : a.state.done + left ≤ MOST_INSTRUCTIONS
  pub number : a.k ≤ a.state.done
  pub early : a.last.tick ≤ 2 ^ 62
  pub opened : IsOpen a.last
  pub meets : a.last.issue.c ≡ a.last.tick
  pub counter : a.last.ic < 2 ^ 19
  pub waiting : IsWaiting a.last a.waiting.totals

-- The account agrees with a moment, with the pending signals and remaining cards. Its copy of the
-- words matters if it has a place for each word of storage; totals need no copy.
pub record IsAt (p : Position) (a : Account) (x : PendingEvents) : Type 0 where
  pub scene : p.moment.scene ≡ scene_at a.state x
  pub each : All IsCard p.moment.scene.cards
  pub hand : IsLast p.delays p.levels p.moment a.last a.log
  pub was : p.before.enabled ≡ a.last.enabled
  pub predicted : a.k ≢ 0 →
      predicting a.last.ic p.moment.scene.machine ≡ prediction (interrupt p.before) p.before
  pub words : a.k ≢ 0 → length a.words.items ≡ words_of_storage → a.words.items ≡ p.before.words
  pub unwritten : a.k ≢ 0 → (w : ℕ) → 32 ≤ w → IsNotAmong w a.last.unit.prepared.writes →
      word a.state w ≡ word p.before w
  pub run : IsWithinRun p.left a

-- The account agrees with the state after the events at a moment, and with those events.
pub record IsBehindMoment (p : Position) (a : Account) : Type 0 where
  pub state : next_state p.moment ≡ a.state
  pub tick : p.moment.tick ≡ a.last.tick
  pub issue : p.moment.issue ≡ a.last.issue
  pub mispredicted : p.moment.mispredicted ≡ a.last.done.mispredicted
  pub was : p.before.enabled ≡ a.last.enabled
  pub dropped : segment_ends p.left p.moment ≡ true →
      a.behind.ahead.found.items ≡ map (seen_ahead p.delays p.levels) p.moment.dropped
  pub begun : segment_ends p.left p.moment ≡ true → a.k ≢ 0 →
      a.behind.ahead.late ∷ [] ≡ begun_at p.delays p.levels p.before p.moment
  pub banks : segment_ends p.left p.moment ≡ true → a.behind.banks ≡ p.moment.banks
  pub printed : a.behind.printed.items ≡ words_behind p.moment
  pub card : a.behind.card ≡ has_card p.moment
  pub waited : a.behind.waited ≡ has_waited p.moment
  pub words : a.k ≢ 0 → length a.words.items ≡ words_of_storage → a.words.items ≡ p.before.words
  pub unchanged : length a.words.items ≡ words_of_storage →
      IsCopyBehind a.k a.behind.may a.words.items a.state

-- The account is behind a moment, so the run can pass to the next entry or end: at most eight
-- entries ran ahead, and the banks answer soon after the last completion.
pub record CanPass (p : Position) (a : Account) : Type 0 where
  pub is : IsBehindMoment p a
  pub run : IsWithinRun p.left a
  pub dropped : length a.behind.ahead.found.items ≤ 8
  pub soon : All (λ t. t ≤ a.last.tick + MOST_DELAY) a.behind.banks.ticks

-- whether the prediction was right and no event comes: no signal is due, no device has an order,
-- the machine does not wait, and no interrupt is taken
abbrev pub still_by : Machine → Bool → List Signal → Bool
still_by s mispredicted xs =
    not mispredicted && not (signal_due s.done xs) && is_none s.reader && is_none s.printer
    && not s.waiting && is_none (interrupt s)
