-- The preparation of an entry, from a decode context and from a state.
--
-- Proved: by their `ensures` clauses these calls do what definitions here say: `prepare`
-- (preparation.rt), `prepare_in` (preparation.rt), `look` (preparation.rt), `change_by_side`
-- (preparation.rt), and others.
-- Read by: definitions in Alike, Progress of st_next, Trails of st_exec, Entries of st_segment, and
-- others.
-- Laws: EntriesRead36WordsAtMost (specs/Laws.antt), IndicatorsAreNotSeen (specs/Laws.antt),
-- LooksAgree (specs/Laws.antt), OrdersAreNotSeen (specs/Laws.antt), and others.
-- Change: the meaning is fixed by docs/machine.md, since the contracts of `st_top::stretch` and
-- `st_account::ledger` unfold to a definition here. The form is free, with the proofs that unfold
-- it.
use Rattle.std.specs.Prelude.{ℕ, ◌≡◌, Bool, true, false, ◌||◌, List, Option, None, Some, is_some, option_map}
use Rattle.st_state.specs.Machine.{Machine, word}
use Rattle.st_bits.specs.Indicators.{indicator}
use Rattle.st_bits.specs.declared.register.TheConstants.{BOUNDS}
use Rattle.st_state.specs.Interrupts.{state_with_indicators}
use Rattle.st_prep.specs.declared.entries.Place.{Place}
use Rattle.st_prep.specs.declared.entries.Fetched.{Fetched}
use Rattle.st_prep.specs.declared.entries.Needs.{Needs}
use Rattle.st_prep.specs.declared.entries.Prepared.{Prepared}
use Rattle.st_prep.specs.declared.entries.ResolvedEntry.{ResolvedEntry}
use Rattle.st_prep.specs.SpeculativeChanges.{effective, side, change}
use Rattle.st_prep.specs.Entry.{no_words, reads, words_written, counter_behind, counter_after, value_stored, cost, is_serial_operation, has_register, is_register}
use Rattle.st_prep.specs.Reading.{is_execute}
use Rattle.st_prep.specs.Fetch.{index_words, place_of, words_fetched}
use Rattle.st_prep.specs.Checks.{effective_instr, fault}

-- the inputs to preparation: x are the sixteen index words, bounds is the boundary register
pub record DecodeContext : Type 0 where
  pub place : Place
  pub fetched : Fetched
  pub x : List ℕ
  pub bounds : ℕ
  pub enabled : Bool

abbrev pub decode_context_of : Place → Fetched → List ℕ → Machine → DecodeContext
decode_context_of place fetched x s =
    record { place = place; fetched = fetched; x = x; bounds = word s BOUNDS; enabled = s.enabled }

-- ---- from a decode context

-- a table instruction and EX are serializing, even if they are suppressed
abbrev pub is_alone : Place → Fetched → Bool
is_alone place f = is_some place.table || is_execute f.instr.instr

-- an entry before its checks, with the fault of its words; EX has its own length, not its target's
unfoldable pub resolved_at : Place → Fetched → List ℕ → ResolvedEntry
resolved_at place f x = let instr = effective_instr f in
    let e = effective x instr in
    record {
      instr = instr;
      e = e;
      halves = f.instr.halves;
      side = side x instr e;
      reads = reads instr e;
      writes = words_written instr e;
      fault = f.fault;
      alone = is_alone place f;
    }

-- the entry of a decode context, with the fault of the first check that it fails
unfoldable pub resolved : DecodeContext → ResolvedEntry
resolved s =
    let a = resolved_at s.place s.fetched s.x in record a { fault = fault a s.bounds s.enabled }

-- an entry is serializing by its operation, or because a register is among its words
unfoldable pub is_serial : ResolvedEntry → Bool
is_serial a = a.alone || is_serial_operation a.instr || is_register a.side || has_register a.reads
    || has_register a.writes

-- the needs of an entry with this fault: the index-side word, and whether the entry is serializing
abbrev pub needs_by : Option ℕ → ResolvedEntry → Needs
needs_by (Some i) a = record { index_read = None; serial = a.alone }
needs_by None a = record { index_read = a.side; serial = is_serial a }

unfoldable pub needs : DecodeContext → Needs
needs s = let a = resolved s in needs_by a.fault a

-- whether an index-side word is needed
abbrev pub asks : DecodeContext → Bool
asks s = is_some (needs s).index_read

-- a suppressed entry: the indicator of its fault comes on, and only the counter changes otherwise
unfoldable pub suppressed_entry : Place → ResolvedEntry → ℕ → Prepared
suppressed_entry place a i = record {
  place = place;
  instr = a.instr;
  e = 0;
  following = counter_behind place a.halves;
  index = None;
  ind = record { on = indicator i; off = 0 };
  suppressed = true;
  reads = no_words;
  writes = no_words;
  value = 0;
  cost = 1;
  serial = a.alone;
}

-- an entry that is not suppressed, given its index-side word
unfoldable pub entry_at : Place → ResolvedEntry → List ℕ → Option ℕ → Prepared
entry_at place a x read = let following = counter_behind place a.halves in
    let speculative = change x a.instr a.e read in
    record {
      place = place;
      instr = a.instr;
      e = a.e;
      following = counter_after a.instr x a.e place.counter following;
      index = speculative.index;
      ind = speculative.ind;
      suppressed = false;
      reads = a.reads;
      writes = a.writes;
      value = value_stored a.instr x following;
      cost = cost a.instr;
      serial = is_serial a;
    }

abbrev pub prepared_by : Option ℕ → Place → ResolvedEntry → List ℕ → Option ℕ → Prepared
prepared_by (Some i) place a x read = suppressed_entry place a i
prepared_by None place a x read = entry_at place a x read

unfoldable pub prepared_entry : DecodeContext → Option ℕ → Prepared
prepared_entry s read = let a = resolved s in prepared_by a.fault s.place a s.x read

-- ---- from a state

-- the decode context of a state at a place
unfoldable pub decode_context : Machine → Place → DecodeContext
decode_context s place = decode_context_of place (words_fetched s place) (index_words s) s

-- the state in which an interrupt starts: its indicator is off, and a wait has ended
abbrev pub state_at_entry : Option ℕ → Machine → Machine
state_at_entry None s = s
state_at_entry (Some i) s = record (state_with_indicators
    (record { on = 0; off = indicator i }) s) { waiting = false }

-- the index-side word, in the state in which the table instruction starts
abbrev pub side_word : Option ℕ → Machine → Option ℕ → Option ℕ
side_word table s w = option_map (word (state_at_entry table s)) w

-- the next entry of a state, or the table instruction of the interrupt that it takes
unfoldable pub plan : Machine → Option ℕ → Prepared
plan s table =
    let v = decode_context s (place_of s table) in prepared_entry v (side_word table s (needs v).index_read)

-- v is the decode context of the state s at the place of its next entry or table instruction
pub record IsSeen (s : Machine) (v : DecodeContext) : Type 0 where
  pub place : place_of s v.place.table ≡ v.place
  pub fetched : words_fetched s v.place ≡ v.fetched
  pub words : index_words s ≡ v.x
  pub bounds : word s BOUNDS ≡ v.bounds
  pub enabled : s.enabled ≡ v.enabled

-- the index-side word of an entry of the state, if one is needed
abbrev pub side_of : Machine → DecodeContext → Option ℕ
side_of s v = side_word v.place.table s (needs v).index_read

-- the entry of a state at a place, given the result of fetching there and the index words
abbrev pub entry_by : Machine → Place → Fetched → List ℕ → Prepared
entry_by s place f x = let v = decode_context_of place f x s in prepared_entry v (side_of s v)
