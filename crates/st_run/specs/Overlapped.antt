-- The changes of an overlapped machine by external events between two entries.
--
-- Proved: invariants and ghost fields of types name these definitions; no `ensures` clause does.
-- Read by: definitions in OverlappedLaws.
-- Laws: none names a definition of this file itself.
-- Change: no page fixes these definitions, since no contract of a program unfolds to them; they
-- change together with the clauses, definitions and laws that name them. docs/timetable.md
-- describes the subject.
use Rattle.std.specs.Prelude.{Bool, ◌||◌}
use Rattle.st_ahead.specs.Overlap.{Overlap}
use Rattle.st_ahead.specs.Calls.{MayServe}
use Rattle.st_refine.specs.Reached.{IsLedOn}
use Rattle.st_run.specs.Together.{Together, IsBehindEntry, IsSince}

-- since an entry completed only the state has changed, and the segment has ended, by this event or
-- before; a device may be served as before, and the machine is still reached by calls within the
-- protocol
pub record IsChanged (over : Bool) (m n : Overlap) : Type 0 where
  pub since : (b : Together) (before : Bool) → IsBehindEntry b → IsSince b.machine before m →
      IsSince b.machine (before || over) n
  pub serves : MayServe m → MayServe n
  pub led : IsLedOn m n
