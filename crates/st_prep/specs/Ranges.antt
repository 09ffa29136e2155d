-- Ranges of places, of fetched instructions, and of prepared entries.
--
-- Proved: by their `ensures` clauses these calls do what definitions here say:
-- `prepare_without_side` (preparation.rt), `effective_instr` (faults.rt), `fetch_all`
-- (fetching.rt), `fetch_on` (fetching.rt), and others.
-- Read by: definitions in Trails of st_exec, Levels of st_ring, Rounds of st_account.
-- Laws: OperandsAreFew (specs/Laws.antt), PlansAreInRange (specs/Laws.antt),
-- EntriesAheadLeaveTheRest (specs/Laws.antt of st_exec), EntriesAreBounded (specs/Laws.antt of
-- st_exec), and others.
-- Change: no page fixes these definitions, since no contract of a program unfolds to them; they
-- change together with the clauses, definitions and laws that name them. docs/machine.md describes
-- the subject.
use Rattle.std.specs.Prelude.{ℕ, ◌≡◌, ◌+◌, ◌/◌, ◌<◌, ◌≤◌, ◌^◌, true, false, None, IfSome}
use Rattle.st_bits.specs.Indicators.{IsIndicatorIfAny}
use Rattle.st_bits.specs.Storage.{words_of_storage}
use Rattle.st_bits.specs.declared.operations.HalfOp.{HalfOp}
use Rattle.st_bits.specs.declared.operations.HalfOp.TheVariants.{Sx, Sv, Sc, Sr, Sva}
use Rattle.st_format.specs.declared.instruction.Instr.{Instr}
use Rattle.st_format.specs.declared.instruction.Instr.TheVariants.{Half, StoreCounter, Transfer, Invalid}
use Rattle.st_format.specs.Formats.{IsShape, is_valid}
use Rattle.st_prep.specs.declared.entries.Place.{Place}
use Rattle.st_prep.specs.declared.entries.Fetched.{Fetched}
use Rattle.st_prep.specs.declared.entries.Fetching.{Fetching}
use Rattle.st_prep.specs.declared.entries.Fetching.TheVariants.{Next, Found}
use Rattle.st_prep.specs.declared.fetching.FoundInstruction.{FoundInstruction}
use Rattle.st_prep.specs.declared.fetching.Part.{Part}
use Rattle.st_prep.specs.declared.fetching.Part.TheVariants.{Wants, Has}
use Rattle.st_prep.specs.declared.entries.Needs.{Needs}
use Rattle.st_prep.specs.declared.entries.Words.{Words}
use Rattle.st_prep.specs.declared.entries.ResolvedEntry.{ResolvedEntry}
use Rattle.st_prep.specs.declared.entries.IndexChange.{IndexChange}
use Rattle.st_prep.specs.declared.entries.Prepared.{Prepared}
use Rattle.st_prep.specs.Entry.{no_words, reads, words_written, is_serial_operation}

-- the counter and the address are half-word addresses, and the indicator is in range
pub record IsPlace (p : Place) : Type 0 where
  pub counter : p.counter < 2 ^ 19
  pub address : p.address < 2 ^ 19
  pub table : IsIndicatorIfAny p.table

-- the fields of a valid instruction fit their bits; an invalid instruction may have any fields
abbrev pub HasFields : Instr → Type 0
HasFields (Invalid first second full) = Unit {0}
HasFields instr = IsShape instr

-- the fields of an instruction and its fault are in range
pub record IsFoundInRange (f : FoundInstruction) : Type 0 where
  pub shape : HasFields f.decoded.instr
  pub fault : IsIndicatorIfAny f.fault

-- the known part of an instruction uses at most n words
abbrev pub IsPart : ℕ → Part → Type 0
IsPart n (Wants w) = w < words_of_storage
IsPart n (Has found used) = (used ≤ n) × IsFoundInRange found

-- the fields of both instructions and the fault are in range
pub record IsFetched (f : Fetched) : Type 0 where
  pub own : HasFields f.instr.instr
  pub target : IfSome f.target (λ d. HasFields d.instr)
  pub fault : IsIndicatorIfAny f.fault

-- the next word lies in storage, or the result of fetching is in range
abbrev pub IsFetching : Fetching → Type 0
IsFetching (Next w target) = w < words_of_storage
IsFetching (Found f) = IsFetched f

-- two runs of at most sixteen words, each of which starts at a word address
pub record IsRuns (w : Words) : Type 0 where
  pub start : w.first < 2 ^ 18
  pub few : w.len ≤ 16
  pub start2 : w.first2 < 2 ^ 18
  pub few2 : w.len2 ≤ 16

-- the fields, addresses, runs and fault of an entry are in range
pub record IsResolvedEntry (a : ResolvedEntry) : Type 0 where
  pub shape : HasFields a.instr
  pub address : a.e < 2 ^ 24
  pub reads : IsRuns a.reads
  pub writes : IsRuns a.writes
  pub fault : IsIndicatorIfAny a.fault

-- two runs of words that lie in storage
pub record AreInside (w : Words) : Type 0 where
  pub inside : 1 ≤ w.len → w.first + w.len ≤ words_of_storage
  pub inside2 : 1 ≤ w.len2 → w.first2 + w.len2 ≤ words_of_storage

-- two runs of words without registers
pub record AreAbove (w : Words) : Type 0 where
  pub above : 1 ≤ w.len → 32 ≤ w.first
  pub above2 : 1 ≤ w.len2 → 32 ≤ w.first2

-- the number of the index word is in range, and both contents have 64 bits
pub record IsChange (c : IndexChange) : Type 0 where
  pub number : c.number < 16
  pub kept : c.kept < 2 ^ 64
  pub word : c.word < 2 ^ 64

-- the value that an index store writes fits its part
abbrev pub FitsPart : HalfOp → ℕ → Type 0
FitsPart Sx v = v < 2 ^ 64
FitsPart Sv v = v < 2 ^ 25
FitsPart Sc v = v < 2 ^ 18
FitsPart Sr v = v < 2 ^ 18
FitsPart Sva v = v < 2 ^ 19
FitsPart _ v = v ≡ 0

-- only index stores and SIC store a prepared value, and it is in range
abbrev pub IsStored : Instr → ℕ → Type 0
IsStored (Half op address j i) v = FitsPart op v
IsStored (StoreCounter address i second) v = v < 2 ^ 19
IsStored _ v = v ≡ 0

-- the area of an order lies in storage, above the registers
abbrev pub HasRoomInStorage : Instr → ℕ → Type 0
HasRoomInStorage (Transfer write address i count) e = (32 ≤ e / 64)
    × (e / 64 + 8 ≤ words_of_storage)
HasRoomInStorage _ e = Unit {0}

-- an entry that is not suppressed: valid, with the words of its instruction, and its area in storage
pub record IsEntryInRange (p : Prepared) : Type 0 where
  pub valid : is_valid p.instr ≡ true
  pub reads : p.reads ≡ reads p.instr p.e
  pub writes : p.writes ≡ words_written p.instr p.e
  pub area : HasRoomInStorage p.instr p.e

-- a suppressed entry reads and writes nothing, changes no index word, turns off no indicator, and costs one tick
pub record IsSuppressed (p : Prepared) : Type 0 where
  pub index : p.index ≡ None
  pub indicator : p.ind.off ≡ 0
  pub reads : p.reads ≡ no_words
  pub writes : p.writes ≡ no_words
  pub cost : p.cost ≡ 1

-- an entry that is not serializing is no table instruction, has no serializing operation, and has
-- no register among its words
pub record IsAhead (p : Prepared) : Type 0 where
  pub table : p.place.table ≡ None
  pub operation : p.suppressed ≡ false → is_serial_operation p.instr ≡ false
  pub reads : AreAbove p.reads
  pub writes : AreAbove p.writes

-- the ranges of a prepared entry
pub record IsPrepared (p : Prepared) : Type 0 where
  pub place : IsPlace p.place
  pub shape : HasFields p.instr
  pub address : p.e < 2 ^ 24
  pub following : p.following < 2 ^ 19
  pub change : IfSome p.index IsChange
  pub reads : IsRuns p.reads
  pub reads_inside : AreInside p.reads
  pub writes : IsRuns p.writes
  pub writes_inside : AreInside p.writes
  pub stored : IsStored p.instr p.value
  pub some_cost : 1 ≤ p.cost
  pub cost : p.cost ≤ 24
  pub entry : p.suppressed ≡ false → IsEntryInRange p
  pub suppressed : p.suppressed ≡ true → IsSuppressed p
  pub ahead : p.serial ≡ false → IsAhead p

-- the index-side word lies in storage, and is no register unless the entry is serializing
pub record IsNeeds (n : Needs) : Type 0 where
  pub inside : IfSome n.index_read (λ w. w < words_of_storage)
  pub above : n.serial ≡ false → IfSome n.index_read (λ w. 32 ≤ w)
