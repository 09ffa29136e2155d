-- The row of an entry (an instruction): the ticks A of its address, P of its preparation, R of its
-- last operand, C of its completion; and the issue state after it, the input to the next row. The
-- machine has the delays ds and n levels. The words that an entry uses form a list with several
-- parts; each part starts with the bus after the previous part.
--
-- Proved: by their `ensures` clauses these calls do what definitions here say: `fill` (issue.rt),
-- `form` (issue.rt), `pass` (issue.rt), `address` (issue.rt), and others.
-- Read by: definitions in Asked, Levels, Words, Uses of st_plain, and others.
-- Laws: BusesAreFreeInTime (specs/Laws.antt), EntriesAskInParts (specs/Laws.antt),
-- ReadsAreWantedInTime (specs/Laws.antt), RowsAreInOrder (specs/Laws.antt), and others.
-- Change: the meaning is fixed by docs/timetable.md, since the contracts of `st_top::stretch` and
-- `st_account::ledger` unfold to a definition here. The form is free, with the proofs that unfold
-- it.
use Rattle.std.specs.Prelude.{ℕ, ◌+◌, ◌-◌, max, false, ◌||◌, nat_lt, if◌then◌else◌, List, [], ◌∷◌, ◌++◌, get_or, take, replicate}
use Rattle.st_bits.specs.Storage.{words_of_storage}
use Rattle.st_banks.specs.declared.answers.LastAnswers.{LastAnswers}
use Rattle.st_rows.specs.BusTimes.{Read, no_reads}
use Rattle.st_rows.specs.Entries.{no_runs}
use Rattle.st_rows.specs.Uses.{Use, words_of, uses, behind, reads_of, unused, wish_of}
use Rattle.st_rows.specs.declared.uses.Wish.{Wish}
use Rattle.st_rows.specs.declared.uses.Role.TheVariants.{Instruction, Operand, Following}
use Rattle.st_rows.specs.declared.bus.Bus.{Bus}
use Rattle.st_rows.specs.declared.entry.Entry.{Entry}
use Rattle.st_rows.specs.declared.past.Past.{Past}
use Rattle.st_rows.specs.declared.fetching.Fetching.{Fetching}
use Rattle.st_rows.specs.declared.issue.IssueState.{IssueState}
use Rattle.st_rows.specs.declared.issue.EntryTicks.{EntryTicks}

-- the issue state of a segment that starts at the tick t
abbrev pub opening_issue : LastAnswers → ℕ → IssueState
opening_issue banks t = let none : Past = record { c = 0; writes = no_runs } in
    record { bus = no_reads banks t; p = t; c = t; serial = false; past = replicate 8 none }

-- the tick of an entry's first request: P of the last entry; if that one is serializing, also its C
abbrev pub wanted_from : IssueState → ℕ
wanted_from f = if f.serial then max f.p f.c else f.p

-- ---- the address is formed one tick after the instruction words have arrived, their writers are
-- complete and the last entry is prepared, and not before the bus is free of earlier entries; a
-- serializing entry, and the entry after one, also wait for the completion of the last entry

-- the tick at which the address is formed
unfoldable pub address_tick : IssueState → Entry → ℕ → ℕ → ℕ
address_tick f e answered awaited = max (max (max (max answered awaited) f.p)
    (if e.serial || f.serial then f.c else 0) + 1) f.bus.free

-- ---- preparation: one tick after the address, the index-side word and a free level

-- the completion tick of a previous entry, the newest at place 0; 0 if there is none
abbrev pub completion_of : List Past → ℕ → ℕ
completion_of past j = (get_or past j (record { c = 0; writes = no_runs })).c

-- C of the nth entry before; on n levels it is the one whose level this entry takes
abbrev pub done_before : ℕ → List Past → ℕ
done_before n past = (get_or past (n - 1) (record { c = 0; writes = no_runs })).c

-- the tick of preparation, given the ticks a of the address and y of the index-side word
unfoldable pub preparation_tick : ℕ → List Past → ℕ → ℕ → ℕ
preparation_tick n past a y = max (max a y) (done_before n past) + 1

-- ---- the following words of an entry, which are prefetched

-- the request for a following word, if it lies in storage
abbrev pub inside_wish : ℕ → ℕ → List Wish
inside_wish w p =
    if nat_lt w words_of_storage then record { role = Following; w = w; from = p } ∷ [] else []

-- the requests for the following words of an entry, if it prefetches them
abbrev pub followings : Entry → ℕ → List Wish
followings e p = let w = e.own.first + e.own.len in
    if e.follows then inside_wish w p ++ inside_wish (w + 1) p else []

-- ---- the uses of the entry e in issue state f, part by part

module _ (ds : List ℕ) (f : IssueState) (e : Entry) where
  -- the uses of the entry's own instruction words
  abbrev pub own_uses : List Use
  own_uses = uses ds f.past (unused f.bus 0) (words_of Instruction (wanted_from f) e.own)

  abbrev pub own_fetched : Fetching
  own_fetched = behind ds f.past (unused f.bus 0) own_uses

  -- the uses of the instruction words of the target of EX, which wait for the last entry
  abbrev pub target_uses : List Use
  target_uses = uses ds f.past own_fetched (words_of Instruction (max (wanted_from f) f.c) e.target)

  unfoldable pub words_tick : Fetching
  words_tick = behind ds f.past own_fetched target_uses

  -- A, the tick at which the address of the entry is formed
  unfoldable pub tick_a : ℕ
  tick_a = address_tick f e words_tick.answered words_tick.awaited

  -- the use of the index-side word
  abbrev pub index_uses : List Use
  index_uses = uses ds f.past (unused words_tick.bus 0) (wish_of e.side tick_a)

  abbrev pub sided : Fetching
  sided = behind ds f.past (unused words_tick.bus 0) index_uses

  -- the bus after the instruction words and the index-side word
  unfoldable pub bus_a : Bus
  bus_a = sided.bus

  -- the tick at which the index-side word arrives
  unfoldable pub index_arrival : ℕ
  index_arrival = sided.answered

module _ (ds : List ℕ) (n : ℕ) (f : IssueState) (e : Entry) where
  -- P, the tick at which the entry is prepared
  unfoldable pub tick_p : ℕ
  tick_p = preparation_tick n f.past (tick_a ds f e) (index_arrival ds f e)

  -- the uses of the operand words, the first run and then the second
  abbrev pub first_uses : List Use
  first_uses = uses ds f.past (unused (bus_a ds f e) tick_p) (words_of Operand tick_p e.reads.one)

  abbrev pub first_read : Fetching
  first_read = behind ds f.past (unused (bus_a ds f e) tick_p) first_uses

  abbrev pub second_uses : List Use
  second_uses = uses ds f.past first_read (words_of Operand tick_p e.reads.two)

  unfoldable pub operands : Fetching
  operands = behind ds f.past first_read second_uses

  -- the uses of the following words, which do not wait for their writers
  abbrev pub following_uses : List Use
  following_uses = uses ds [] (unused operands.bus tick_p) (followings e tick_p)

  -- the uses of all words of the entry
  unfoldable pub uses_of_entry : List Use
  uses_of_entry = ((own_uses ds f e ++ target_uses ds f e) ++ index_uses ds f e)
      ++ ((first_uses ++ second_uses) ++ following_uses)

  -- ---- the row of the entry

  -- C, the tick of completion: the cost after the later of the entry's R and the last entry's C
  unfoldable pub tick_c : ℕ
  tick_c = max f.c operands.answered + e.cost

  -- the row of the entry
  unfoldable pub row_of_entry : EntryTicks
  row_of_entry = record { a = tick_a ds f e; p = tick_p; r = operands.answered; c = tick_c }

  -- the issue state after the entry
  unfoldable pub issue_after_entry : IssueState
  issue_after_entry = record {
    bus = (behind ds [] (unused operands.bus tick_p) following_uses).bus;
    p = tick_p;
    c = tick_c;
    serial = e.serial;
    past = record { c = tick_c; writes = e.writes } ∷ take 7 f.past;
  }

  -- the reads of the entry
  unfoldable pub reads_of_entry : List Read
  reads_of_entry = reads_of uses_of_entry
