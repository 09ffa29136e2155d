-- The state of a sink, and the effect of a write on it.
--
-- Proved: by their `ensures` clauses these calls do what definitions here say: `write` (mem.rt),
-- `write` (sink.rt), `write_all` (sink.rt), `write` (standard.rt), and others.
-- Read by: definitions in Lines, Event, Devices, Memory, and others.
-- Laws: none names a definition of this file itself.
-- Change: the meaning is fixed by docs/report.md, since the contracts of `st_top::stretch` and
-- `st_account::ledger` and `st_draw::draw` unfold to a definition here. The form is free, with the
-- proofs that unfold it.
use Rattle.std.specs.Prelude.{◌≡◌, ◌≢◌, ℕ, List, [], ◌++◌, Option, None, Some, ⊤}
use Rattle.st_io.specs.Count.{HasRisen}

-- the state of a sink: the written bytes, if they are known; the number of failed writes
pub record OutputState : Type 0 where
  pub written : Option (List ℕ)
  pub faults : ℕ

-- known bytes grow by these; the bytes of a sink may become unknown, and then remain so
abbrev pub Appends : Option (List ℕ) → Option (List ℕ) → List ℕ → Type 0
Appends None None bytes = ⊤
Appends None (Some new) bytes = ⊥
Appends (Some old) None bytes = ⊤
Appends (Some old) (Some new) bytes = new ≡ old ++ bytes

-- exactly these bytes were written, and no write failed
pub record Wrote (before after : OutputState) (bytes : List ℕ) : Type 0 where
  pub appended : Appends before.written after.written bytes
  pub steady : after.faults ≡ before.faults

-- a write failed: no bytes were written, and the count of faults increased
pub record WroteNothing (before after : OutputState) : Type 0 where
  pub same_written : after.written ≡ before.written
  pub risen : HasRisen before.faults after.faults

-- a write failed after a proper prefix of the piece was written
pub record WroteFront (before after : OutputState) (piece : List ℕ) : Type 0 where
  pub front : List ℕ
  pub rest : List ℕ
  pub parts : piece ≡ front ++ rest
  pub proper : rest ≢ []
  pub appended : Appends before.written after.written front
  pub risen : HasRisen before.faults after.faults
