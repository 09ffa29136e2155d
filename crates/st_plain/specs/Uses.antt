-- The words that an entry uses, registers included, in the order of their reads, and the source of
-- each word.
--
-- Proved: by their `ensures` clauses these calls do what definitions here say: `begin` (rows.rt),
-- `fill` (rows.rt), `finish` (rows.rt), `note_side` (rows.rt), and others.
-- Read by: definitions in Looking, Rounds of st_account, Text of st_account, Segments of st_ledger.
-- Laws: ReadsOfAnEntryComeInTurn (specs/Laws.antt), ReadsOfAnEntryAreInTime (specs/Laws.antt of
-- st_ledger), ReasonsAreTrue (specs/ReasonLaws.antt of st_ledger), ForwardedWordsAreWritten
-- (specs/WaitLaws.antt of st_ledger), and others.
-- Change: the meaning is fixed by docs/ledger.md, since the contract of `st_account::ledger`
-- unfolds to a definition here. The form is free, with the proofs that unfold it.
use Rattle.std.specs.Prelude.{ℕ, ◌-◌, nat_lt, if◌then◌else◌, List, [], ◌∷◌, ◌++◌, map, Option, None, Some}
use Rattle.st_bits.specs.declared.register.TheConstants.{FIRST_STORAGE_WORD}
use Rattle.st_prep.specs.declared.entries.Words.{Words}
use Rattle.st_rows.specs.Rows.{own_uses, target_uses, words_tick, tick_a, bus_a, tick_p, operands, inside_wish, followings}
use Rattle.st_rows.specs.Supplies.{storage_supply, use_told, register_uses}
use Rattle.st_rows.specs.Uses.{Use as WordUse, wishes, uses, unused, wish_of}
use Rattle.st_rows.specs.Words.{read_words}
use Rattle.st_rows.specs.declared.bus.Bus.{Bus}
use Rattle.st_rows.specs.declared.entry.Entry.{Entry}
use Rattle.st_rows.specs.declared.entry.WordRun.{WordRun}
use Rattle.st_rows.specs.declared.entry.WordRuns.{WordRuns}
use Rattle.st_rows.specs.declared.fetching.Fetching.{Fetching}
use Rattle.st_rows.specs.declared.issue.IssueState.{IssueState}
use Rattle.st_rows.specs.declared.past.Past.{Past}
use Rattle.st_rows.specs.declared.uses.Role.TheVariants.{Instruction, Index, Operand}
use Rattle.st_rows.specs.declared.uses.Supply.{Supply}
use Rattle.st_rows.specs.declared.uses.Supply.TheVariants.{Register}
use Rattle.st_rows.specs.declared.uses.Use.{Use}

-- ---- instruction words

-- n instruction words from the word w on
unfoldable pub instruction_uses : List ℕ → List Past → Fetching → ℕ → ℕ → ℕ → List Use
instruction_uses ds past s from w n =
    map (use_told ds past) (uses ds past s (wishes Instruction from w n))

-- the entry's own words, and after them those of the target of EX
unfoldable pub fetch_uses : List ℕ → IssueState → Entry → List Use
fetch_uses ds f e =
    map (use_told ds f.past) (own_uses ds f e) ++ map (use_told ds f.past) (target_uses ds f e)

-- ---- the index-side word

-- the source of the index-side word, which may be a register
abbrev pub side_supply : List ℕ → List Past → Bus → ℕ → ℕ → Supply
side_supply ds past b w a = if nat_lt w FIRST_STORAGE_WORD then Register
    else storage_supply ds past b w a

abbrev pub side_told : List ℕ → List Past → WordUse → Use
side_told ds past u = record {
  role = u.role;
  word = u.read.w;
  supply = side_supply ds past u.bus u.read.w u.read.want;
}

-- the index-side word, requested when the address is formed, if there is one
unfoldable pub side_uses : List ℕ → List Past → Bus → Option ℕ → ℕ → List Use
side_uses ds past b side a =
    map (side_told ds past) (uses ds past (unused b 0) (wish_of side a))

-- the index-side word, if it is a register
abbrev pub side_register : Option ℕ → List Use
side_register None = []
side_register (Some w) = if nat_lt w FIRST_STORAGE_WORD
    then record { role = Index; word = w; supply = Register } ∷ [] else []

-- ---- operand words

-- n words of storage from the word w on, requested at preparation
unfoldable pub operand_uses : List ℕ → List Past → Fetching → ℕ → ℕ → ℕ → List Use
operand_uses ds past s p w n =
    map (use_told ds past) (uses ds past s (wishes Operand p w n))

-- the registers among the operand words of an entry, which come first in each run; `read` has the
-- words of storage among them
abbrev pub registers_among : Words → WordRuns → WordRuns
registers_among all read = record {
  one = record { first = all.first; len = all.len - read.one.len };
  two = record { first = all.first2; len = all.len2 - read.two.len };
}

-- n words from the word w on: the registers come first, and `run` has the words of storage
abbrev pub run_uses : List ℕ → List Past → Fetching → ℕ → ℕ → ℕ → WordRun → List Use
run_uses ds past s p w n run =
    register_uses w (n - run.len) ++ operand_uses ds past s p run.first run.len

-- the operand words of an entry that is prepared at p on the bus b; `runs` has those of storage
unfoldable pub data_uses : List ℕ → List Past → Bus → ℕ → Words → WordRuns → List Use
data_uses ds past b p reads runs =
    run_uses ds past (record { bus = b; answered = p; awaited = 0 }) p reads.first reads.len runs.one
    ++ run_uses ds past
    (read_words ds past (record { bus = b; answered = p; awaited = 0 }) p runs.one.first runs.one.len)
    p reads.first2 reads.len2 runs.two

-- ---- following words

-- one following word, if it lies in storage
unfoldable pub inside_uses : List ℕ → Bus → ℕ → ℕ → List Use
inside_uses ds b w p =
    map (use_told ds []) (uses ds [] (unused b p) (inside_wish w p))

-- both following words, if the entry has them
unfoldable pub following_uses : List ℕ → Bus → Entry → ℕ → List Use
following_uses ds b e p =
    map (use_told ds []) (uses ds [] (unused b p) (followings e p))

-- ---- all words of the entry e, issued from f; `side` and `reads` include registers

-- the words that are used until the address is formed
abbrev pub formed_uses : List ℕ → IssueState → Entry → Option ℕ → List Use
formed_uses ds f e side =
    fetch_uses ds f e ++ side_uses ds f.past (words_tick ds f e).bus side (tick_a ds f e)

-- the words that are used from preparation on
abbrev pub prepared_uses : List ℕ → ℕ → IssueState → Entry → Words → List Use
prepared_uses ds n f e reads =
    data_uses ds f.past (bus_a ds f e) (tick_p ds n f e) reads e.reads
    ++ following_uses ds (operands ds n f e).bus e (tick_p ds n f e)

unfoldable pub uses_of_entry : List ℕ → ℕ → IssueState → Entry → Option ℕ → Words → List Use
uses_of_entry ds n f e side reads = formed_uses ds f e side ++ prepared_uses ds n f e reads
