-- Laws of machines that are reached by calls within the protocol.
--
-- Proved: each law has its lemma in proofs/Laws.antt, with its name in small letters.
-- Claimed: docs/CLAIMS.md names BanksHaveTheFirstReads, CompletionsAreSteps, CompletionsComeInTime,
-- HeldWordsAreThoseOfReads, and others.
-- Change: docs/promises.txt lists each law, and the gate compares the list with the laws.
use Rattle.std.specs.Prelude.{ℕ, suc, ◌≡◌, ◌+◌, ◌-◌, ◌<◌, ◌≤◌, ◌^◌, false, List, ◌++◌, All, None, Some, IfSome, ◌*◌, ◌||◌, nat_lt, nat_le, is_some, length, take, slice_get, slice_index_or, true, if◌then◌else◌, [], ◌∷◌, get_or}
use Rattle.st_rows.specs.Asked.{bus_after_reads}
use Rattle.st_rows.specs.BusTimes.{Read}
use Rattle.st_rows.specs.Notes.{AreEarly, notes_of_reads}
use Rattle.st_rows.specs.declared.bus.Bus.{Bus}
use Rattle.st_rows.specs.declared.log.Made.{Made}
use Rattle.st_ahead.specs.Overlap.{Ready, Stopped, is_owed, has_ended, closing, Overlap, levels_of, machine_at_start, state_ahead, last_tick_made}
use Rattle.st_ahead.specs.RunTo.{RunsTo}
use Rattle.st_ahead.specs.declared.events.Row.{Row}
use Rattle.st_refine.specs.HeldReads.{held_of_reads}
use Rattle.st_refine.specs.Openings.{Opening, ExternalEvents, StandsAt, reads_of_segment, Signalled, ReadIn, PrintedOut, first_opening, state_after, issue_at, opening_behind}
use Rattle.st_refine.specs.Reached.{IsReached, IsReachedFrom, start_of, MayTick}
use Rattle.st_rows.specs.Ranges.{AreDelaysUpTo}
use Rattle.st_bits.specs.declared.register.TheConstants.{FIRST_STORAGE_WORD}
use Rattle.st_state.specs.Machine.{word, Machine}
use Rattle.st_prep.specs.Fetch.{index_words}
use Rattle.st_prep.specs.FewWords.{is_transmission}
use Rattle.st_prep.specs.Plan.{plan}
use Rattle.st_ring.specs.Unwinding.{index_words_after, Kept, unwound}
use Rattle.st_ring.specs.declared.level.Level.{Level}
use Rattle.st_ring.specs.Slots.{fill_tick}
use Rattle.st_ahead.specs.Shown.{AreLevelsOf, lent_index_words, view_at_tick}
use Rattle.st_refine.specs.Refined.{state_before, table_before, row_before as row_of, fills_at, IsUnwound, AddsOneAtMost, level_seen, IsStill}
use Rattle.st_segment.specs.Ahead.{ahead, prepared_before, next_ahead}
use Rattle.st_segment.specs.Predictions.{table_behind, split_words}
use Rattle.st_ahead.specs.Calls.{is_done, machine_after_tick, machine_after_segment, run_ended, machine_after_settling, answer, signalled_by, read_in_by, printed_by, MayServe, IsEvent, drop_count, dropped_by, MaySignal}
use Rattle.st_ahead.specs.declared.events.Settled.TheVariants.{Goes, Interrupt, Mispredicted, Waits}
use Rattle.st_exec.specs.Step.{interrupt, rests, step, address}
use Rattle.st_exec.specs.Completion.{is_mispredicted}
use Rattle.st_ahead.specs.declared.events.Event.TheVariants.{Passed, Done}

-- calls within the protocol lead from the machine start to m, with the given number of ticks made
pub record IsLedTo (start : Overlap) (made : ℕ) (m : Overlap) : Type 0 where
  pub since : ℕ
  pub from : IsReachedFrom start m made since

-- A call that makes ticks up to a completion, or up to the tick `last`, equals several calls within
-- the protocol, continued from the machine that was reached. The first tick may be made, and
-- `count` and `last` are in their ranges.
pub record RunsAreReached : Type 0 where
  pub done : (start m new : Overlap) (made since count last : ℕ) (row : Row) →
      IsReachedFrom start m made since → MayTick m →
      count ≤ 2 ^ 63 → last < 2 ^ 63 → RunsTo count last (Some row) m new →
      IsReachedFrom start new (row.c + 1) 0
  pub passed : (start m new : Overlap) (made since count last : ℕ) →
      IsReachedFrom start m made since → MayTick m →
      count ≤ 2 ^ 63 → last < 2 ^ 63 → RunsTo count last None m new →
      IsLedTo start (made + (last + 1 - m.now)) new

-- A machine has the delays and the number of levels of the machine from which its calls started.
pub record MachinesKeepTheirDelays : Type 0 where
  pub delays : (m : Overlap) (made since : ℕ) (reached : IsReached m made since) →
      m.delays ≡ (start_of reached).delays
  pub levels : (m : Overlap) (made since : ℕ) (reached : IsReached m made since) →
      m.levels ≡ (start_of reached).levels

-- The held words after reads are the instruction words among these reads, each with the tick of its
-- answer, the youngest first, followed by the previously held words: four in all.
abbrev pub HeldWordsAreThoseOfReads : Type 0
HeldWordsAreThoseOfReads = (ds : List ℕ) (reads : List Read) (b : Bus) → length b.held.words ≡ 4 →
    (bus_after_reads ds reads b).held.words ≡ take 4 (held_of_reads ds reads b ++ b.held.words)

-- of these successive reads from the bus b, the first ones are accepted before the tick t, and the
-- others, in order after them, at that tick or later
pub record AreFirstReads (ds : List ℕ) (t : ℕ) (reads : List Read) (b : Bus)
    (first : List Read) : Type 0 where
  pub others : List Read
  pub order : reads ≡ first ++ others
  pub early : AreEarly t (notes_of_reads ds first b)
  pub late : All (λ (m : Made). t ≤ m.tick) (notes_of_reads ds others (bus_after_reads ds first b))

-- At a completion, the last answers of the banks are those of the first reads of the segment in the
-- order of the timetable: of all reads that are accepted before this tick, and of no others.
abbrev pub BanksHaveTheFirstReads : Type 0
BanksHaveTheFirstReads = (m : Overlap) (made since j : ℕ) (o : Opening) (changes : List ExternalEvents) →
    IsReached m made since →
    StandsAt o changes (suc j) m →
    IfSome (closing m.phase) (λ banks. (first : List Read)
    × AreFirstReads m.delays m.now
    (reads_of_segment m.delays m.levels o changes j) o.issue.bus first
    × (banks ≡ (bus_after_reads m.delays first o.issue.bus).banks))

-- The number of ticks since the last completion, or since the machine was created, is at most 64
-- times (L plus four), for any bound L of the delays (`since`). So the total number of ticks is at
-- most this bound for each completed instruction and one more (`all`).
pub record CompletionsComeInTime : Type 0 where
  pub since : (m : Overlap) (made since most : ℕ) → IsReached m made since →
      AreDelaysUpTo most m.delays →
      since ≤ 64 * (most + 4)
  pub all : (m : Overlap) (made since most : ℕ) → IsReached m made since →
      AreDelaysUpTo most m.delays →
      made ≤ 64 * (most + 4) * (m.state.done + 1)

-- The ring that is lent has k levels, oldest first (`count`). Each is its entry as prepared along
-- the predicted states, with its P (`prepared`). A word in one of its slots is that operand word in
-- the state before the entry's step (`words`). A slot of an operand word, of an entry other than T
-- and SWAP, is filled if and only if the word is a register, or its read has been answered by the
-- tick that is shown, or, without a read, its latest writer has completed (`slots`). The index
-- words that are lent are those that are shown (`index`). Undoing the levels from them gives the
-- index words of the state, since each level records the word that it replaced (`undone`).
pub record LevelsAreLent : Type 0 where
  pub count : (m : Overlap) (ring : List Level) → AreLevelsOf m ring → length ring
      ≡ length (levels_of m)
  pub prepared : (m : Overlap) (ring : List Level) (level : Level) (k : ℕ) → AreLevelsOf m ring →
      slice_get ring k ≡ Some level →
      (level.prepared ≡ plan (state_before k m) (table_before k m)) × (level.p ≡ (row_of k m).p)
  pub words : (m : Overlap) (ring : List Level) (level : Level) (k slot w : ℕ) →
      AreLevelsOf m ring →
      slice_get ring k ≡ Some level → slice_index_or level.have slot None ≡ Some w →
      (slot < level.prepared.reads.len) × (w ≡ word (state_before k m)
      (level.prepared.reads.first + slot))
  pub slots : (m : Overlap) (ring : List Level) (level : Level) (k slot : ℕ) → AreLevelsOf m ring →
      slice_get ring k ≡ Some level → is_transmission level.prepared.instr ≡ false →
      slot < level.prepared.reads.len → slot < 2 →
      let w = level.prepared.reads.first + slot in
      is_some (slice_index_or level.have slot None)
      ≡ (nat_lt w FIRST_STORAGE_WORD || nat_le (fill_tick (fills_at k m) level.prepared w)
      (view_at_tick m).tick)
  pub index : (m : Overlap) → lent_index_words m ≡ (view_at_tick m).x
  pub undone : (m : Overlap) (made_ticks since : ℕ) (ring : List Level) →
      IsReached m made_ticks since → AreLevelsOf m ring →
      Kept (index_words m.state) ring × (index_words_after (index_words m.state) ring
      ≡ lent_index_words m)
      × (unwound (lent_index_words m) ring ≡ index_words m.state)

-- A new machine is at the opening of the first segment (`start`). If a machine is at an opening, it
-- is still there after a tick, with one more completed entry if the tick completes one (`tick`),
-- and after a settle that continues the segment (`goes`). An external change of the state is added
-- to the list of changes, with the count of completed instructions at that time (`signal`,
-- `unread`, `print`).
pub record OpeningsAreKept : Type 0 where
  pub start : (ds : List ℕ) (n : ℕ) (s : Machine) → StandsAt (first_opening s) [] 0
      (machine_at_start ds n s)
  pub tick : (m : Overlap) (made since j : ℕ) (o : Opening) (changes : List ExternalEvents) →
      IsReached m made since → MayTick m →
      StandsAt o changes j m → StandsAt o changes (if is_done m then suc j else j)
      (machine_after_tick m)
  pub goes : (m : Overlap) (j : ℕ) (o : Opening) (changes : List ExternalEvents) →
      is_owed m.phase ≡ true → answer m ≡ Goes →
      StandsAt o changes j m → StandsAt o changes j (machine_after_settling m)
  pub signal : (m : Overlap) (i j : ℕ) (o : Opening) (changes : List ExternalEvents) →
      StandsAt o changes j m →
      StandsAt o (changes ++ record { done = m.state.done; change = Signalled i } ∷ []) j
      (signalled_by i m)
  pub unread : (m : Overlap) (w j : ℕ) (o : Opening) (changes : List ExternalEvents) →
      StandsAt o changes j m →
      StandsAt o (changes ++ record { done = m.state.done; change = ReadIn w None } ∷ []) j
      (read_in_by w None m)
  pub print : (m : Overlap) (j : ℕ) (o : Opening) (changes : List ExternalEvents) →
      StandsAt o changes j m →
      StandsAt o (changes ++ record { done = m.state.done; change = PrintedOut } ∷ []) j
      (printed_by m)

-- After a call that ends the segment the machine is at the opening of the next one, one tick after
-- the completion and one more for each flushed level (`end`). If the segment had already ended at
-- this tick, this opening does not change (`again`), nor does it at the end of a run (`stop`),
-- after which no tick may be made (`last`). After the end of a segment an interrupt makes the first
-- entry a table instruction (`interrupt`), a mispredicted branch and a wait leave the opening
-- unchanged (`mispredicted`, `waits`), and a card is a change of its first state (`card`).
pub record OpeningsFollow : Type 0 where
  pub end : (m : Overlap) (made since j : ℕ) (o : Opening) (changes : List ExternalEvents) →
      IsReached m made since → MayServe m →
      has_ended m.phase ≡ false → StandsAt o changes j m →
      StandsAt (opening_behind m.delays m.levels (length (levels_of m)) o changes j) [] 0
      (machine_after_segment m)
  pub again : (m : Overlap) → has_ended m.phase ≡ true → machine_after_segment m ≡ m
  pub stop : (m : Overlap) (j : ℕ) (o : Opening) (changes : List ExternalEvents) →
      StandsAt o changes j (machine_after_segment m) →
      StandsAt o changes j (run_ended m)
  pub last : (m : Overlap) (made since : ℕ) → IsReached m made since → m.phase ≡ Stopped →
      MayTick m → ⊥
  pub interrupt : (m : Overlap) (made since i d ic k : ℕ) (o : Opening) (changes : List ExternalEvents) →
      IsReached m made since →
      is_owed m.phase ≡ true → answer m ≡ Interrupt i d ic k → StandsAt o changes 0
      (machine_after_segment m) →
      StandsAt (record o { table = Some i }) changes 0 (machine_after_settling m)
  pub mispredicted : (m : Overlap) (made since k : ℕ) (o : Opening) (changes : List ExternalEvents) →
      IsReached m made since →
      is_owed m.phase ≡ true → answer m ≡ Mispredicted k →
      StandsAt o changes 0 (machine_after_segment m) →
      StandsAt o changes 0 (machine_after_settling m)
  pub waits : (m : Overlap) → answer m ≡ Waits → machine_after_settling m ≡ machine_after_segment m
  pub card : (m : Overlap) (w : ℕ) (card : List ℕ) (o : Opening) (changes : List ExternalEvents) →
      StandsAt o changes 0 (machine_after_segment m) →
      StandsAt o (changes ++ record { done = m.state.done; change = ReadIn w (Some card) } ∷ []) 0
      (read_in_by w (Some card) m)

-- The levels of a machine at an opening are the entries after the completed ones along predicted
-- states, unless a branch was mispredicted at this tick (`ahead`). Of the entries of the segment,
-- those with C up to the tick have completed (`done`), and the levels are those with P up to the
-- tick and C after it (`levels`, `next`). Between a tick and its settle, entries with P at this
-- tick are not yet among the levels.
pub record RowsTellTheLevels : Type 0 where
  pub done : (m : Overlap) (i j : ℕ) (o : Opening) (changes : List ExternalEvents) →
      StandsAt o changes j m → i < j →
      (issue_at m.delays m.levels o changes (suc i)).c ≤ last_tick_made m
  pub ahead : (m : Overlap) (j : ℕ) (o : Opening) (changes : List ExternalEvents) →
      StandsAt o changes j m → state_ahead m ≡ m.state →
      levels_of m ≡ prepared_before m.now (ahead m.delays m.levels m.levels (table_behind j o.table)
      (state_after o changes j) (issue_at m.delays m.levels o changes j))
  pub levels : (m : Overlap) (made since k : ℕ) → IsReached m made since → k
      < length (levels_of m) →
      ((row_of k m).p < m.now) × (last_tick_made m < (row_of k m).c)
  pub next : (m : Overlap) (made since : ℕ) → IsReached m made since →
      (m.now ≤ (row_of (length (levels_of m)) m).p)
      × (last_tick_made m < (row_of (length (levels_of m)) m).c)

-- A tick whose result is a row makes one step of the state (`state`), with the interrupt that was
-- taken (`table`). It removes the oldest level, which exists (`oldest`). The row has the new count
-- of completed instructions, the address of the entry and the tick (`row`), and the P, R and C of
-- the oldest entry (`times`). The mark of a mispredicted branch is set if and only if the entry is
-- mispredicted (`mispredicted`). Any other tick, in a segment that has not ended, leaves the state
-- and the levels unchanged (`passed`).
pub record CompletionsAreSteps : Type 0 where
  pub table : (m : Overlap) (made since : ℕ) → IsReached m made since → m.phase ≡ Ready →
      m.taken ≡ interrupt m.state
  pub state : (m : Overlap) (made since : ℕ) (row : Row) → IsReached m made since → MayTick m →
      IsEvent m (Done row) →
      (machine_after_tick m).state ≡ step m.state
  pub oldest : (m : Overlap) (made since : ℕ) (row : Row) → IsReached m made since → MayTick m →
      IsEvent m (Done row) →
      levels_of m ≡ next_ahead m.delays m.levels m.taken m.state m.issue
      ∷ levels_of (machine_after_tick m)
  pub row : (m : Overlap) (made since : ℕ) (row : Row) → IsReached m made since → MayTick m →
      IsEvent m (Done row) →
      (row.number ≡ (step m.state).done) × (row.address ≡ address m.state)
      × (row.c ≡ (view_at_tick (machine_after_tick m)).tick)
  pub times : (m : Overlap) (row : Row) → IsEvent m (Done row) →
      (row.p ≡ (row_of 0 m).p) × (row.r ≡ (row_of 0 m).r) × (row.c ≡ (row_of 0 m).c)
  pub mispredicted : (m : Overlap) (row : Row) → IsEvent m (Done row) → (machine_after_tick m).mispredicted
      ≡ (if is_mispredicted (plan m.state m.taken) m.state then Some (plan m.state m.taken).following
      else None)
  pub passed : (m : Overlap) → has_ended m.phase ≡ false → IsEvent m Passed →
      ((machine_after_tick m).state ≡ m.state) × (levels_of (machine_after_tick m) ≡ levels_of m)

-- A settle and the end of a run do not change the state (`settle`, `stop`). If the machine
-- continues, at most one level is added (`goes`). An interrupt, a mispredicted branch, a card and
-- the end of a run flush all levels and report their number; the index words are then those of the
-- state (`interrupt`, `mispredicted`, `card`, `stop`). There are no levels before the first tick
-- and in a wait (`start`, `waits`).
pub record LevelsAreUnwound : Type 0 where
  pub settle : (m : Overlap) → (machine_after_settling m).state ≡ m.state
  pub goes : (m : Overlap) → answer m ≡ Goes → AddsOneAtMost (levels_of m)
      (levels_of (machine_after_settling m))
  pub interrupt : (m : Overlap) (made since i d ic k : ℕ) → IsReached m made since →
      is_owed m.phase ≡ true → answer m ≡ Interrupt i d ic k →
      (interrupt m.state ≡ Some i) × (d ≡ m.state.done) × (ic ≡ m.state.ic)
      × (k ≡ length (levels_of m)) × ((machine_after_settling m).taken ≡ Some i)
      × IsUnwound (machine_after_settling m)
  pub mispredicted : (m : Overlap) (made since k : ℕ) → IsReached m made since →
      is_owed m.phase ≡ true → answer m ≡ Mispredicted k →
      (k ≡ length (levels_of m)) × IsUnwound (machine_after_settling m)
  pub waits : (m : Overlap) (made since : ℕ) → IsReached m made since → is_owed m.phase ≡ true →
      answer m ≡ Waits → (rests m.state ≡ true) × IsUnwound (machine_after_settling m)
  pub stop : (m : Overlap) (made since : ℕ) → IsReached m made since → is_owed m.phase ≡ true →
      ((run_ended m).state ≡ m.state) × (drop_count m ≡ length (levels_of m))
      × IsUnwound (run_ended m)
  pub card : (m : Overlap) (made since w : ℕ) (card : List ℕ) → IsReached m made since →
      MayServe m →
      (dropped_by (Some card) m ≡ length (levels_of m)) × IsUnwound (read_in_by w (Some card) m)
  pub start : (ds : List ℕ) (n : ℕ) (s : Machine) → IsUnwound (machine_at_start ds n s)

-- The view of a machine is its state together with the entries in flight. The levels are in the
-- first k places, oldest first (`level`, `behind`), at most as many as the machine has (`few`,
-- `eight`). The count of completed instructions is the state's (`done`). The index words are
-- those after the speculative changes of the entries in flight, the first of them the table
-- instruction if an interrupt was taken (`index`); without entries in flight they are the committed
-- ones (`none`). Each level shows the
-- address of its entry, the number of the index word that it changes, and that word before its own
-- step, along predicted states (`level`). The tick is that of the last tick made, where the first
-- is number 0 (`tick`). The sequence of predicted states starts from the state (`state`, `ended`),
-- or, at a tick with a mispredicted branch, from the state with the predicted program counter
-- (`mispredicted`).
pub record TheStateIsSplit : Type 0 where
  pub done : (m : Overlap) → (view_at_tick m).done ≡ m.state.done
  pub tick : (m : Overlap) (made since : ℕ) → IsReached m made since → (view_at_tick m).tick ≡ made
      - 1
  pub index : (m : Overlap) → (view_at_tick m).x ≡ split_words (length (levels_of m)) m.taken
      (state_ahead m)
  pub none : (m : Overlap) → length (levels_of m) ≡ 0 → (view_at_tick m).x ≡ index_words m.state
  pub few : (m : Overlap) (made since : ℕ) → IsReached m made since →
      (length (levels_of m) ≤ m.levels) × (m.levels ≤ 8)
  pub eight : (m : Overlap) (made since : ℕ) → IsReached m made since →
      length (view_at_tick m).levels ≡ 8
  pub level : (m : Overlap) (made since k : ℕ) → IsReached m made since → k < length (levels_of m) →
      get_or (view_at_tick m).levels k None ≡ Some (level_seen (view_at_tick m).tick k m)
  pub behind : (m : Overlap) (k : ℕ) → length (levels_of m) ≤ k →
      get_or (view_at_tick m).levels k None ≡ None
  pub state : (m : Overlap) (made since : ℕ) → IsReached m made since → m.phase ≡ Ready →
      state_ahead m ≡ m.state
  pub mispredicted : (m : Overlap) (h : ℕ) → has_ended m.phase ≡ false → m.mispredicted ≡ Some h →
      state_ahead m ≡ record m.state { ic = h }
  pub ended : (m : Overlap) → has_ended m.phase ≡ true → state_ahead m ≡ m.state

-- A signal, a reader order without a card, and a printer order change the state, as the clause of
-- each call says, but not the view of the levels and of the index words. Without a card no level is
-- flushed.
pub record SignalsLeaveLevels : Type 0 where
  pub signal : (m : Overlap) (made since i : ℕ) → IsReached m made since → MaySignal m →
      IsStill m (signalled_by i m)
  pub unread : (m : Overlap) (made since w : ℕ) → IsReached m made since → MayServe m →
      (dropped_by None m ≡ 0) × IsStill m (read_in_by w None m)
  pub print : (m : Overlap) (made since : ℕ) → IsReached m made since → MayServe m →
      IsStill m (printed_by m)
