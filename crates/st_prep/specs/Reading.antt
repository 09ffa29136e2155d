-- The reading of an entry: its instruction words are read in sequence, and the contents so far
-- determine the next word.
--
-- Proved: by their `ensures` clauses these calls do what definitions here say: `halves_known`
-- (fetching.rt), `part_at` (fetching.rt), `second_known` (fetching.rt), `with_first` (fetching.rt),
-- and others.
-- Read by: definitions in Fetch, Alike, Checks, Plan, and others.
-- Laws: InstructionWordsComeOneByOne (specs/Laws.antt), EntriesRead36WordsAtMost (specs/Laws.antt).
-- Change: the meaning is fixed by docs/machine.md, since the contracts of `st_top::stretch` and
-- `st_account::ledger` unfold to a definition here. The form is free, with the proofs that unfold
-- it.
use Rattle.std.specs.Prelude.{ℕ, suc, ◌+◌, ◌*◌, ◌/◌, ◌%◌, Bool, true, false, ◌==◌, if◌then◌else◌, List, [], ◌∷◌, drop, Option, None, Some, is_none}
use Rattle.st_bits.specs.Bits.{part}
use Rattle.st_bits.specs.declared.operations.HalfOp.TheVariants.{Ex}
use Rattle.st_format.specs.declared.instruction.Instr.{Instr}
use Rattle.st_format.specs.declared.instruction.Instr.TheVariants.{Half, Invalid}
use Rattle.st_format.specs.declared.instruction.Decoded.{Decoded}
use Rattle.st_format.specs.Formats.{decoded_entry}
use Rattle.st_state.specs.Boundary.{forbidden_by}
use Rattle.st_state.specs.declared.protection.Access.TheVariants.{Fetch}
use Rattle.st_prep.specs.declared.entries.Place.{Place}
use Rattle.st_prep.specs.declared.entries.Fetched.{Fetched}
use Rattle.st_prep.specs.declared.entries.Fetching.{Fetching}
use Rattle.st_prep.specs.declared.entries.Fetching.TheVariants.{Next, Found}
use Rattle.st_prep.specs.declared.fetching.FoundInstruction.{FoundInstruction}
use Rattle.st_prep.specs.declared.fetching.Part.{Part}
use Rattle.st_prep.specs.declared.fetching.Part.TheVariants.{Wants, Has}
use Rattle.st_prep.specs.SpeculativeChanges.{effective}

-- ---- readings

-- what is found, or a word to read, whose content determines the rest; true: of the target of EX
pub data Reading : Type 0 where
  Finds : Fetched → Reading
  Reads : Bool → ℕ → (ℕ → Reading) → Reading

-- the result of a reading if each word w has the content c w
unfoldable pub outcome : Reading → (ℕ → ℕ) → Fetched
outcome (Finds f) c = f
outcome (Reads target w r) c = outcome (r (c w)) c

-- the words that a reading reads, in order, if each word w has the content c w
unfoldable pub words_read : Reading → (ℕ → ℕ) → List ℕ
words_read (Finds f) c = []
words_read (Reads target w r) c = w ∷ words_read (r (c w)) c

-- the number of these words that are the entry's own, and not those of the target of EX
unfoldable pub own_words : Reading → (ℕ → ℕ) → ℕ
own_words (Finds f) c = 0
own_words (Reads true w r) c = own_words (r (c w)) c
own_words (Reads false w r) c = suc (own_words (r (c w)) c)

-- the rest of a reading after these contents
unfoldable pub left_after : Reading → List ℕ → Reading
left_after (Finds f) contents = Finds f
left_after (Reads target w r) [] = Reads target w r
left_after (Reads target w r) (c ∷ contents) = left_after (r c) contents

-- the progress of a reading: the next word, or the result
unfoldable pub fetching_of : Reading → Fetching
fetching_of (Finds f) = Found f
fetching_of (Reads target w r) = Next w target

-- the number of index-side words
abbrev pub index_side_words : Option ℕ → ℕ
index_side_words None = 0
index_side_words (Some w) = 1

-- ---- one instruction

-- the half-word at the half-word address h, given the content of its word
abbrev pub half_of : ℕ → ℕ → ℕ
half_of content h = part content (32 * (h % 2)) 32

-- the result of decoding a half-word that may not be fetched
abbrev pub no_instr : Decoded
no_instr = record { instr = Invalid 0 0 false; halves = 1 }

-- the instruction in two half-words that may be fetched
abbrev pub allowed_found : ℕ → ℕ → FoundInstruction
allowed_found first second = record { decoded = decoded_entry first second; fault = None }

-- the rest of a reading after an instruction is found
abbrev pub Continuation : Type 0
Continuation = FoundInstruction → Reading

-- the reading of an instruction's second half-word, at h; the first one's word v has this content
abbrev pub with_second : Option ℕ → Bool → ℕ → ℕ → ℕ → ℕ → Continuation → Reading
with_second (Some i) target first h v content use_it =
    use_it (record { decoded = decoded_entry first 0; fault = Some i })
with_second None target first h v content use_it =
    if h / 2 == v then use_it (allowed_found first (half_of content h))
    else Reads target (h / 2) (λ c. use_it (allowed_found first (half_of c h)))

-- the reading of the instruction at h, given the content of its first word
unfoldable pub with_first : Bool → ℕ → Bool → ℕ → ℕ → Continuation → Reading
with_first target bounds enabled h content use_it = let first = half_of content h in
    let own = decoded_entry first 0 in
    if own.halves == 2
    then with_second (forbidden_by bounds enabled Fetch ((h + 1) / 2)) target first (h + 1)
    (h / 2) content use_it
    else use_it (record { decoded = own; fault = None })

abbrev pub read_after : Option ℕ → Bool → ℕ → Bool → ℕ → Continuation → Reading
read_after (Some i) target bounds enabled h use_it = use_it
    (record { decoded = no_instr; fault = Some i })
read_after None target bounds enabled h use_it =
    Reads target (h / 2) (λ c. with_first target bounds enabled h c use_it)

-- the reading of the instruction at the half-word address h
unfoldable pub instruction_at : Bool → ℕ → Bool → ℕ → Continuation → Reading
instruction_at target bounds enabled h use_it =
    read_after (forbidden_by bounds enabled Fetch (h / 2)) target bounds enabled h use_it

-- ---- an entry

-- whether an instruction is EX, which executes the instruction that it points to
unfoldable pub is_execute : Instr → Bool
is_execute (Half Ex address j i) = true
is_execute _ = false

-- EX with its target
abbrev pub with_target : Decoded → FoundInstruction → Fetched
with_target ex target = record {
  instr = ex;
  target = if is_none target.fault then Some target.decoded else None;
  fault = target.fault;
}

-- an instruction other than EX
abbrev pub fetched_alone : FoundInstruction → Fetched
fetched_alone own = record { instr = own.decoded; target = None; fault = own.fault }

-- an instruction other than EX whose words may be fetched
abbrev pub fetched_plain : Decoded → Fetched
fetched_plain own = record { instr = own; target = None; fault = None }

-- the rest of a reading after the entry's own instruction: for EX, its target is read
unfoldable pub own_use : List ℕ → ℕ → Bool → Continuation
own_use x bounds enabled own = if is_execute own.decoded.instr
    then instruction_at true bounds enabled (effective x own.decoded.instr / 32)
    (λ target. Finds (with_target own.decoded target))
    else Finds (fetched_alone own)

-- the reading of an entry at a place, with the index words, word 3 and the interrupt flag
unfoldable pub reading_at_place : List ℕ → ℕ → Bool → Place → Reading
reading_at_place x bounds enabled place = instruction_at false bounds enabled place.address
    (own_use x bounds enabled)

-- the progress of a reading with this known part of an instruction, given the contents
abbrev pub given_by : Bool → Part → List ℕ → Continuation → Fetching
given_by target (Wants w) contents use_it = Next w target
given_by target (Has found n) contents use_it = fetching_of
    (left_after (use_it found) (drop n contents))
