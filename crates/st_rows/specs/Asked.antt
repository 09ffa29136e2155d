-- The reads of an entry, in order, and their effect on the bus.
--
-- Proved: by their `ensures` clauses these calls do what definitions here say: `request` (bus.rt),
-- `word` (fetching.rt), `fill` (issue.rt), `follow` (issue.rt), and others.
-- Read by: definitions in Standing of st_account, Ahead of st_segment, Going of st_next, Progress
-- of st_next, and others.
-- Laws: EntriesAskInParts (specs/Laws.antt), ReadsAreWantedInTime (specs/Laws.antt),
-- LateReadsChangeNothing (specs/Laws.antt), RowsMakeTheirReads (specs/Laws.antt), and others.
-- Change: the meaning is fixed by docs/timetable.md, since the contracts of `st_top::stretch` and
-- `st_account::ledger` unfold to a definition here. The form is free, with the proofs that unfold
-- it.
use Rattle.std.specs.Prelude.{ℕ, zero, suc, ◌+◌, true, false, nat_lt, if◌then◌else◌, List, [], ◌∷◌, ◌++◌, Option, None, Some}
use Rattle.st_bits.specs.Storage.{words_of_storage}
use Rattle.st_fetch.specs.Planned.{tick_of}
use Rattle.st_rows.specs.BusTimes.{Read, after_one, accept_at}
use Rattle.st_rows.specs.Rows.{followings, own_uses, target_uses, tick_a, tick_p, operands}
use Rattle.st_rows.specs.Uses.{wishes, uses, forwarded_at, read_made, reads_of, unused}
use Rattle.st_rows.specs.declared.uses.Role.TheVariants.{Instruction}
use Rattle.st_rows.specs.declared.bus.Bus.{Bus}
use Rattle.st_rows.specs.declared.entry.Entry.{Entry}
use Rattle.st_rows.specs.declared.entry.WordRuns.{WordRuns}
use Rattle.st_rows.specs.declared.past.Past.{Past}
use Rattle.st_rows.specs.declared.fetching.Fetching.{Fetching}
use Rattle.st_rows.specs.declared.issue.IssueState.{IssueState}

-- the read of an instruction word; none if it is held, given the tick of its answer
abbrev pub word_asked : Option ℕ → ℕ → ℕ → List Read
word_asked o w want = read_made (record { w = w; want = want; fetch = true }) o

-- the reads of n instruction words from the word w
unfoldable pub words_asked : List ℕ → List Past → Fetching → ℕ → ℕ → ℕ → List Read
words_asked ds past s from w n = reads_of (uses ds past s (wishes Instruction from w n))

-- the read of the index-side word or an operand word, unless it is forwarded
abbrev pub data_asked : List Past → ℕ → ℕ → List Read
data_asked past w tick =
    read_made (record { w = w; want = tick; fetch = false }) (forwarded_at past w tick)

-- the read of the index-side word, if there is one
unfoldable pub side_asked : List Past → Option ℕ → ℕ → List Read
side_asked past None a = []
side_asked past (Some w) a = data_asked past w a

-- the reads of n operand words from the word w
unfoldable pub operands_asked : List Past → ℕ → ℕ → ℕ → List Read
operands_asked past p w zero = []
operands_asked past p w (suc n) = data_asked past w p ++ operands_asked past p (w + 1) n

-- the reads of the operand words of two runs
abbrev pub runs_asked : List Past → WordRuns → ℕ → List Read
runs_asked past reads p = operands_asked past p reads.one.first reads.one.len
    ++ operands_asked past p reads.two.first reads.two.len

-- the read of a following word that lies in storage, unless it is held
abbrev pub inside_asked : Bus → ℕ → ℕ → List Read
inside_asked b w p = if nat_lt w words_of_storage then word_asked (tick_of b.held.words w) w p
    else []

-- the reads of the following words of an entry, if it prefetches them
unfoldable pub following_asked : List ℕ → Bus → Entry → ℕ → List Read
following_asked ds b e p = reads_of (uses ds [] (unused b p) (followings e p))

module _ (ds : List ℕ) (f : IssueState) (e : Entry) where
  -- the reads of the instruction words of the entry e in issue state f
  unfoldable pub fetches_asked : List Read
  fetches_asked = reads_of (own_uses ds f e) ++ reads_of (target_uses ds f e)

  -- the reads of an entry before its address is formed, and of its index-side word
  abbrev pub formed_asked : List Read
  formed_asked = fetches_asked ++ side_asked f.past e.side (tick_a ds f e)

module _ (ds : List ℕ) (n : ℕ) (f : IssueState) (e : Entry) where
  -- the reads of an entry from its preparation on
  abbrev pub prepared_asked : List Read
  prepared_asked =
      let p = tick_p ds n f e in
      runs_asked f.past e.reads p ++ following_asked ds (operands ds n f e).bus e p

  -- the reads of an entry after those of its instruction words
  abbrev pub data_of : List Read
  data_of = side_asked f.past e.side (tick_a ds f e) ++ prepared_asked

-- the number of index-side words
abbrev pub side_count : Option ℕ → ℕ
side_count None = 0
side_count (Some w) = 1

-- the number of instruction words, index-side words and operand words of an entry
abbrev pub own_reads : Entry → ℕ
own_reads e = e.own.len + e.target.len + side_count e.side + e.reads.one.len + e.reads.two.len

module _ (ds : List ℕ) where
  -- the bus after the reads of a list
  unfoldable pub bus_after_reads : List Read → Bus → Bus
  bus_after_reads [] b = b
  bus_after_reads (r ∷ reads) b = bus_after_reads reads (after_one ds b r)

  -- the bus after the reads of a list that are accepted before the tick t
  unfoldable pub made_before : ℕ → List Read → Bus → Bus
  made_before t [] b = b
  made_before t (r ∷ reads) b =
      if nat_lt (accept_at b r.w r.want) t then made_before t reads (after_one ds b r) else b
