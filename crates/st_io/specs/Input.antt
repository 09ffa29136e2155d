-- The state of a source, and the effect of a read on it.
--
-- Proved: by their `ensures` clauses these calls do what definitions here say: `read` (mem.rt),
-- `read` (source.rt), `read_all` (source.rt), `read` (standard.rt), and others.
-- Read by: definitions in Devices, Memory, Answers of st_top, Layers of st_top, and others.
-- Laws: none names a definition of this file itself.
-- Change: the meaning is fixed by docs/report.md, since the contracts of `st_top::stretch` and
-- `st_account::ledger` and `st_draw::draw` unfold to a definition here. The form is free, with the
-- proofs that unfold it.
use Rattle.std.specs.Prelude.{◌≡◌, ℕ, ◌+◌, ◌<◌, ◌≤◌, List, length, take, Option}
use Rattle.std.specs.Io.KnownBytes.{Consumes, IsAtEnd}
use Rattle.st_io.specs.Count.{count_after, HasRisen}
use Rattle.st_io.specs.declared.source.ReadError.{ReadError}
use Rattle.st_io.specs.declared.source.ReadError.TheVariants.{TooLong, Failed as ReadFailed, NoMemory}

-- a source: its remaining bytes, if known, the number of bytes read, and the number of failed reads
pub record InputState : Type 0 where
  pub left : Option (List ℕ)
  pub taken : ℕ
  pub faults : ℕ

-- between the two states exactly these bytes were read, in order
pub record Came (before after : InputState) (bytes : List ℕ) : Type 0 where
  pub consumed : Consumes before.left after.left bytes
  pub counts : after.taken ≡ count_after before.taken (length bytes)

-- a read returned the first n bytes of the buffer; it returns none to a nonempty buffer only at the
-- end
pub record Gave (before after : InputState) (buffer : List ℕ) (n : ℕ) : Type 0 where
  pub came : Came before after (take n buffer)
  pub steady : after.faults ≡ before.faults
  pub ends : n ≡ 0 → 0 < length buffer → IsAtEnd after.left

-- a read failed: no bytes were read, and the count of faults increased
pub record GaveNothing (before after : InputState) : Type 0 where
  pub same_left : after.left ≡ before.left
  pub same_taken : after.taken ≡ before.taken
  pub risen : HasRisen before.faults after.faults

-- all remaining bytes were read, and they are at most as many as the limit
pub record CameWhole (before after : InputState) (limit : ℕ) (bytes : List ℕ) : Type 0 where
  pub came : Came before after bytes
  pub within : length bytes ≤ limit
  pub ended : IsAtEnd after.left
  pub steady : after.faults ≡ before.faults

-- at most as many bytes as the limit were read
abbrev pub CameWithin : InputState → InputState → ℕ → Type 0
CameWithin before after limit = (bytes : List ℕ) × Came before after bytes × (length bytes ≤ limit)

-- one byte more than the limit was read
abbrev pub CamePast : InputState → InputState → ℕ → Type 0
CamePast before after limit = (bytes : List ℕ) × Came before after bytes
    × (length bytes ≡ limit + 1)

-- the cause of an error of reading a whole source, and the bytes that were read
abbrev pub IsCause : InputState → InputState → ℕ → ReadError → Type 0
IsCause before after limit TooLong = CamePast before after limit × (after.faults ≡ before.faults)
IsCause before after limit ReadFailed = CameWithin before after limit
    × HasRisen before.faults after.faults
IsCause before after limit NoMemory = CameWithin before after limit × (after.faults ≡ before.faults)
