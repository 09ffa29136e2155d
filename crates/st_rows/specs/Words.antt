-- The progress of an entry after one word, or after the words of a run, as the calls of the code
-- proceed. `Rows` defines it for the list of all words of the entry.
--
-- Proved: by their `ensures` clauses these calls do what definitions here say: `read_operands`
-- (issue.rt), `read_run` (issue.rt), `side` (issue.rt), `read` (reading.rt), and others.
-- Read by: definitions in Supplies, Levels of st_ring, Progress of st_next, Shown of st_ahead, and
-- others.
-- Laws: OperandsAreThereBeforeCompletion (specs/Laws.antt).
-- Change: the meaning is fixed by docs/timetable.md, since the contract of `st_account::ledger`
-- unfolds to a definition here. The form is free, with the proofs that unfold it.
use Rattle.std.specs.Prelude.{ℕ, ◌+◌, Bool, nat_lt, if◌then◌else◌, List, [], ◌∷◌, Option}
use Rattle.st_bits.specs.Storage.{words_of_storage}
use Rattle.st_rows.specs.BusTimes.{answer_if, bus_after_request}
use Rattle.st_rows.specs.Entries.{latest_done}
use Rattle.st_rows.specs.Rows.{followings, bus_a, tick_p}
use Rattle.st_rows.specs.Uses.{wishes, forwarded_at, use_of, behind_use, uses, behind, unused, wish_of}
use Rattle.st_rows.specs.declared.uses.Role.TheVariants.{Instruction, Operand}
use Rattle.st_rows.specs.declared.bus.Bus.{Bus}
use Rattle.st_rows.specs.declared.entry.Entry.{Entry}
use Rattle.st_rows.specs.declared.entry.WordRun.{WordRun}
use Rattle.st_rows.specs.declared.entry.WordRuns.{WordRuns}
use Rattle.st_rows.specs.declared.fetching.Fetching.{Fetching}
use Rattle.st_rows.specs.declared.issue.IssueState.{IssueState}
use Rattle.st_rows.specs.declared.past.Past.{Past}

-- the progress before the first word, on the bus b
abbrev pub nothing_fetched : Bus → Fetching
nothing_fetched b = unused b 0

-- whether the latest writer of the word w is not complete at the tick
abbrev pub is_forwarded : List Past → ℕ → ℕ → Bool
is_forwarded past w tick = nat_lt tick (latest_done past w)

module _ (ds : List ℕ) (past : List Past) where
  -- the progress after the instruction word w, requested at the tick `from`
  unfoldable pub fetch_word : Fetching → ℕ → ℕ → Fetching
  fetch_word s w from =
      behind_use ds past s (use_of ds past s (record { role = Instruction; w = w; from = from }))

  -- the progress after n instruction words from the word w
  unfoldable pub fetch_words : Fetching → ℕ → ℕ → ℕ → Fetching
  fetch_words s from w n = behind ds past s (uses ds past s (wishes Instruction from w n))

  -- the progress after the index-side word, requested when the address is formed
  abbrev pub behind_side : Bus → Option ℕ → ℕ → Fetching
  behind_side b side a =
      behind ds past (unused b 0) (uses ds past (unused b 0) (wish_of side a))

  -- the bus after the index-side word
  unfoldable pub bus_after_index_read : Bus → Option ℕ → ℕ → Bus
  bus_after_index_read b side a = (behind_side b side a).bus

  -- the tick at which the index-side word arrives
  unfoldable pub side_there : Bus → Option ℕ → ℕ → ℕ
  side_there b side a = (behind_side b side a).answered

  -- the progress after the operand word w, requested at preparation
  unfoldable pub read_word : Fetching → ℕ → ℕ → Fetching
  read_word s w p =
      behind_use ds past s (use_of ds past s (record { role = Operand; w = w; from = p }))

  -- the progress after n operand words from the word w
  unfoldable pub read_words : Fetching → ℕ → ℕ → ℕ → Fetching
  read_words s p w n = behind ds past s (uses ds past s (wishes Operand p w n))

  -- the progress after the operand words of both runs
  unfoldable pub operands_read : Fetching → WordRuns → ℕ → Fetching
  operands_read s reads p =
      read_words (read_words s p reads.one.first reads.one.len)
      p reads.two.first reads.two.len

  -- the tick at which the word w of storage, requested at the tick p, arrives
  abbrev pub fill_at : Bus → ℕ → ℕ → ℕ
  fill_at b w p = answer_if ds b w p (forwarded_at past w p)

  -- the ticks at which the first two words of a run arrive, 0 for a missing word
  unfoldable pub fills_of : Bus → WordRun → ℕ → List ℕ
  fills_of b run p =
      let next = (read_word (unused b p) run.first p).bus in
      (if nat_lt 0 run.len then fill_at b run.first p else 0)
      ∷ (if nat_lt 1 run.len then fill_at next (run.first + 1) p else 0) ∷ []

module _ (ds : List ℕ) (b : Bus) where
  -- the bus after the following words
  unfoldable pub bus_after_prefetch : Entry → ℕ → Bus
  bus_after_prefetch e p =
      (behind ds [] (unused b p) (uses ds [] (unused b p) (followings e p))).bus

  -- the bus after the request for a following word, if it lies in storage
  abbrev pub request_inside : ℕ → ℕ → Bus
  request_inside w p = if nat_lt w words_of_storage then bus_after_request ds b w p else b

-- the ticks at which the first two operand words of the entry e in issue state f arrive
abbrev pub fills : List ℕ → ℕ → IssueState → Entry → List ℕ
fills ds n f e = fills_of ds f.past (bus_a ds f e) e.reads.one (tick_p ds n f e)
