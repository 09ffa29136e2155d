-- The facts of predicted entries, and the reads that are made for them.
--
-- Proved: by their `ensures` clauses these calls do what definitions here say: `look` (looking.rt),
-- `begin` (rows.rt), `known_if` (known.rt), `code_found` (known.rt), and others.
-- Read by: definitions in Text of st_account, Rounds of st_account, Paths of st_ledger, Standing of
-- st_account, and others.
-- Laws: ReasonsAreTrue (specs/ReasonLaws.antt of st_ledger), OneEntryIsBegun (specs/Laws.antt of
-- st_causes).
-- Change: the meaning is fixed by docs/ledger.md, since the contract of `st_account::ledger`
-- unfolds to a definition here. The form is free, with the proofs that unfold it.
use Rattle.std.specs.Prelude.{ℕ, ◌-◌, max, Bool, nat_lt, if◌then◌else◌, List, [], ◌∷◌, ◌++◌, Option, None, Some, is_some}
use Rattle.st_format.specs.Formats.{first_half, second_half}
use Rattle.st_format.specs.declared.instruction.Instr.{Instr}
use Rattle.st_state.specs.Machine.{Machine}
use Rattle.st_prep.specs.Checks.{effective_instr}
use Rattle.st_prep.specs.Fetch.{place_of, words_fetched}
use Rattle.st_prep.specs.Plan.{needs, decode_context}
use Rattle.st_prep.specs.Reading.{is_execute}
use Rattle.st_prep.specs.declared.entries.Fetched.{Fetched}
use Rattle.st_rows.specs.Asked.{formed_asked}
use Rattle.st_rows.specs.BusTimes.{Read}
use Rattle.st_rows.specs.Rows.{tick_a, index_arrival, done_before, reads_of_entry}
use Rattle.st_rows.specs.declared.entry.Entry.{Entry}
use Rattle.st_rows.specs.declared.issue.IssueState.{IssueState}
use Rattle.st_segment.specs.Ahead.{Ahead, plan_of}
use Rattle.st_plain.specs.declared.known.Code.{Code}
use Rattle.st_plain.specs.declared.known.Known.{Known}
use Rattle.st_plain.specs.declared.looking.Ahead.{Ahead as SeenAhead}
use Rattle.st_plain.specs.Uses.{uses_of_entry}

-- the index-side word of the next entry of a state, or of its table instruction
unfoldable pub side_at : Option ℕ → Machine → Option ℕ
side_at table s = (needs (decode_context s (place_of s table))).index_read

-- whether the next entry is EX
unfoldable pub executes_at : Option ℕ → Machine → Bool
executes_at table s = is_execute (words_fetched s (place_of s table)).instr.instr

-- the half-words of an instruction
abbrev pub code_of : Instr → Code
code_of instr = record { first = first_half instr; second = second_half instr }

-- the half-words of the executed instruction, for EX its target; None if a word may not be fetched
abbrev pub code_found : Fetched → Option Code
code_found f = if is_some f.fault then None else Some (code_of (effective_instr f))

-- the half-words that the next entry executes
unfoldable pub executed_code : Option ℕ → Machine → Option Code
executed_code table s = code_found (words_fetched s (place_of s table))

-- the facts of the next entry that its plan does not have
abbrev pub known_at : Option ℕ → Machine → Known
known_at table s = record {
  side = side_at table s;
  execute = executes_at table s;
  code = executed_code table s;
}

-- a predicted entry: its plan, its row, its other facts, and the words that it uses, on a machine
-- with the delays ds and n levels
abbrev pub seen_ahead : List ℕ → ℕ → Ahead → SeenAhead
seen_ahead ds n a = record {
  plan = plan_of a;
  row = a.row;
  known = known_at a.table a.state;
  uses = record {
    items = uses_of_entry ds n a.issue a.entry (side_at a.table a.state) (plan_of a).reads;
  };
}

-- the first entry of a list that is not prepared before the tick t
unfoldable pub first_late : ℕ → List Ahead → List Ahead
first_late t [] = []
first_late t (a ∷ rest) = if nat_lt a.row.p t then first_late t rest else a ∷ []

-- the reads of the entries that are prepared before the tick t, and those of the next one up to its
-- address: all that may be accepted before that tick
unfoldable pub reads_up_to : List ℕ → ℕ → ℕ → List Ahead → List Read
reads_up_to ds n t [] = []
reads_up_to ds n t (a ∷ rest) =
    if nat_lt a.row.p t then reads_of_entry ds n a.issue a.entry ++ reads_up_to ds n t rest
    else formed_asked ds a.issue a.entry

-- for how many ticks the entry e, issued from f, waits for a level after its address is formed and
-- its index-side word has arrived: until the entry n before completes, whose level it takes
unfoldable pub level_wait : List ℕ → ℕ → IssueState → Entry → ℕ
level_wait ds n f e = done_before n f.past - max (tick_a ds f e) (index_arrival ds f e)
