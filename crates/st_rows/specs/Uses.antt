-- The words that an entry uses, in order: when each is requested, and whether it is read. The reads
-- of an entry, the bus after them and the arrival of its words are derived from these uses. The
-- machine has the delays ds.
--
-- Proved: by their `ensures` clauses these calls do what definitions here say: `side` (issue.rt),
-- `follow` (issue.rt), `read_operands` (issue.rt), `read_run` (issue.rt), and others.
-- Read by: definitions in Words, Rows, Asked, Supplies, and others.
-- Laws: UsesMakeTheirReads (specs/Laws.antt).
-- Change: the meaning is fixed by docs/timetable.md, since the contracts of `st_top::stretch` and
-- `st_account::ledger` unfold to a definition here. The form is free, with the proofs that unfold
-- it.
use Rattle.std.specs.Prelude.{ℕ, zero, suc, ◌+◌, max, Bool, true, false, nat_lt, if◌then◌else◌, List, [], ◌∷◌, ◌++◌, Option, None, Some}
use Rattle.st_fetch.specs.Planned.{tick_of}
use Rattle.st_rows.specs.BusTimes.{Read, bus_if, answer_if}
use Rattle.st_rows.specs.Entries.{latest_done}
use Rattle.st_rows.specs.declared.bus.Bus.{Bus}
use Rattle.st_rows.specs.declared.entry.WordRun.{WordRun}
use Rattle.st_rows.specs.declared.past.Past.{Past}
use Rattle.st_rows.specs.declared.fetching.Fetching.{Fetching}
use Rattle.st_rows.specs.declared.uses.Role.{Role}
use Rattle.st_rows.specs.declared.uses.Role.TheVariants.{Instruction, Index, Operand, Following}
use Rattle.st_rows.specs.declared.uses.Wish.{Wish}

-- the use of a word: its read, the bus before it, and when a held or forwarded word comes unread
pub record Use : Type 0 where
  pub role : Role
  pub read : Read
  pub bus : Bus
  pub unread : Option ℕ

-- the requests for n words from the word w
unfoldable pub wishes : Role → ℕ → ℕ → ℕ → List Wish
wishes role from w zero = []
wishes role from w (suc n) = record { role = role; w = w; from = from }
    ∷ wishes role from (w + 1) n

-- the requests for the words of a run
abbrev pub words_of : Role → ℕ → WordRun → List Wish
words_of role from run = wishes role from run.first run.len

-- instruction words and following words are held from their request on
abbrev pub is_held : Role → Bool
is_held Instruction = true
is_held Following = true
is_held role = false

-- an instruction word is requested when those before it are answered and their writers complete
abbrev pub want_of : Role → Fetching → ℕ → ℕ
want_of Instruction s from = max (max from s.answered) s.awaited
want_of role s from = from

-- the latest arrival with this word; not of a forwarded operand, whose writer is awaited anyway
abbrev pub answered_by : Role → ℕ → ℕ → Option ℕ → ℕ
answered_by Operand before there (Some done) = before
answered_by Index before there o = there
answered_by role before there o = max before there

-- the tick at which a forwarded word arrives: the completion of its latest writer, if later than the tick
abbrev pub forwarded_at : List Past → ℕ → ℕ → Option ℕ
forwarded_at past w tick = let done = latest_done past w in
    if nat_lt tick done then Some done else None

module _ (ds : List ℕ) (past : List Past) where
  -- the use of a requested word x, when the reads of the entry have come to s
  abbrev pub use_of : Fetching → Wish → Use
  use_of s x = let want = want_of x.role s x.from in
      record {
        role = x.role;
        read = record { w = x.w; want = want; fetch = is_held x.role };
        bus = s.bus;
        unread = if is_held x.role then tick_of s.bus.held.words x.w else forwarded_at past x.w want;
      }

  -- the progress of the entry after a use
  unfoldable pub behind_use : Fetching → Use → Fetching
  behind_use s u = let there = answer_if ds u.bus u.read.w u.read.want u.unread in
      record {
        bus = bus_if ds u.bus u.read u.unread;
        answered = answered_by u.role s.answered there u.unread;
        awaited = if u.read.fetch then max s.awaited (latest_done past u.read.w) else s.awaited;
      }

  -- the uses of requested words, in order
  unfoldable pub uses : Fetching → List Wish → List Use
  uses s [] = []
  uses s (x ∷ xs) = use_of s x ∷ uses (behind_use s (use_of s x)) xs

  -- the progress of the entry after uses
  unfoldable pub behind : Fetching → List Use → Fetching
  behind s [] = s
  behind s (u ∷ us) = behind (behind_use s u) us

-- the read of a use, if it makes one
abbrev pub read_made : Read → Option ℕ → List Read
read_made r (Some tick) = []
read_made r None = r ∷ []

-- the reads of a list of uses
unfoldable pub reads_of : List Use → List Read
reads_of [] = []
reads_of (u ∷ us) = read_made u.read u.unread ++ reads_of us

-- no word is used yet: the bus is b, and the latest arrival is at the given tick
abbrev pub unused : Bus → ℕ → Fetching
unused b tick = record { bus = b; answered = tick; awaited = 0 }

-- the request for the index-side word, if there is one
abbrev pub wish_of : Option ℕ → ℕ → List Wish
wish_of None a = []
wish_of (Some w) a = record { role = Index; w = w; from = a } ∷ []
