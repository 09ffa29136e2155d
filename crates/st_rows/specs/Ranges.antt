-- Ranges of the numbers of entries, buses and issue states.
--
-- Proved: by their `ensures` clauses these calls do what definitions here say: `new` (issue.rt),
-- `finish` (rows.rt of st_plain), `fill` (levels.rt of st_ring), `plan` (fetch_unit.rt of st_next),
-- and others.
-- Read by: definitions in Levels, Going of st_next, Forecast of st_ahead, Standing of st_account,
-- and others.
-- Laws: BusesAreFreeInTime (specs/Laws.antt), CompletionsAreBounded (specs/Laws.antt),
-- OperandsAreThereBeforeCompletion (specs/Laws.antt), MadeReadsAreAnsweredSoon (specs/Laws.antt),
-- and others.
-- Change: no page fixes these definitions, since no contract of a program unfolds to them; they
-- change together with the clauses, definitions and laws that name them. docs/timetable.md
-- describes the subject.
use Rattle.std.specs.Prelude.{ℕ, ◌≡◌, ◌+◌, ◌*◌, ◌≤◌, ◌<◌, true, List, length, All, IfSome}
use Rattle.st_bits.specs.declared.limits.TheConstants.{MOST_DELAY}
use Rattle.st_bits.specs.Storage.{words_of_storage}
use Rattle.st_rows.specs.declared.bus.Bus.{Bus}
use Rattle.st_rows.specs.declared.entry.WordRun.{WordRun}
use Rattle.st_rows.specs.declared.entry.Entry.{Entry}
use Rattle.st_rows.specs.declared.fetching.Fetching.{Fetching}
use Rattle.st_rows.specs.declared.issue.IssueState.{IssueState}
use Rattle.st_rows.specs.declared.past.Past.{Past}

-- a run of words in storage, above the registers
pub record IsReadable (run : WordRun) : Type 0 where
  pub above : 1 ≤ run.len → 32 ≤ run.first
  pub inside : 1 ≤ run.len → run.first + run.len ≤ words_of_storage

-- the words that an entry reads lie in storage above the registers; its numbers are in their
-- ranges; it prefetches words only if it has an instruction word
pub record IsEntryInTime (e : Entry) : Type 0 where
  pub own : IsReadable e.own
  pub own_few : e.own.len ≤ 2
  pub target : IsReadable e.target
  pub target_few : e.target.len ≤ 2
  pub side : IfSome e.side (λ w. (32 ≤ w) × (w < words_of_storage))
  pub one : IsReadable e.reads.one
  pub one_few : e.reads.one.len ≤ 16
  pub two : IsReadable e.reads.two
  pub two_few : e.reads.two.len ≤ 16
  pub costs : (1 ≤ e.cost) × (e.cost ≤ 24)
  pub follows : e.follows ≡ true → 1 ≤ e.own.len

-- a nonempty list of delays, each at most the given number of ticks
pub record AreDelaysUpTo (most : ℕ) (ds : List ℕ) : Type 0 where
  pub some : 1 ≤ length ds
  pub each : All (λ d. (1 ≤ d) × (d ≤ most)) ds

-- no tick of the bus is later than m
pub record IsBusWithin (m : ℕ) (b : Bus) : Type 0 where
  pub free : b.free ≤ m
  pub banks : All (λ t. t ≤ m) b.banks.ticks
  pub held : All (λ h. h.tick ≤ m) b.held.words

-- no tick of the words that have been fetched is later than m
pub record IsFetchingWithin (m : ℕ) (s : Fetching) : Type 0 where
  pub bus : IsBusWithin m s.bus
  pub answered : s.answered ≤ m
  pub awaited : s.awaited ≤ m

-- no tick of the operands that have been read is later than m
pub record IsReadingWithin (m : ℕ) (s : Fetching) : Type 0 where
  pub bus : IsBusWithin m s.bus
  pub answered : s.answered ≤ m

-- no previous entry completes later than m
pub record ArePastWithin (m : ℕ) (past : List Past) : Type 0 where
  pub each : All (λ entry. entry.c ≤ m) past

-- the greatest number of ticks from one completion to the next, for any delays
abbrev pub most_ticks_of_entry : ℕ
most_ticks_of_entry = 64 * (MOST_DELAY + 4)

-- all answers on the bus come at most the given number of ticks after the bus is free
abbrev pub IsNear : ℕ → Bus → Type 0
IsNear most b = IsBusWithin (b.free + most) b

-- the ticks of an issue state are close together, if no read takes more than the given number of ticks
pub record IsTight (most : ℕ) (f : IssueState) : Type 0 where
  pub prepared : f.p ≤ f.c
  pub done : ArePastWithin f.c f.past
  pub free : f.bus.free ≤ f.c + 2 * most + 2
  pub near : IsNear most f.bus
