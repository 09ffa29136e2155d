-- The public view of a state.
--
-- Proved: invariants and ghost fields of types name these definitions; no `ensures` clause does.
-- Laws: none names a definition of this file itself.
-- Change: no page fixes these definitions, since no contract of a program unfolds to them; they
-- change together with the clauses, definitions and laws that name them. docs/machine.md describes
-- the subject.
use Rattle.st_state.specs.Machine.{Machine}
use Rattle.st_state.specs.declared.State.TheInside.{Inside}

-- the view of a state: its fields, with storage as a list
abbrev pub machine : Inside → Machine
machine a =
    record {
      words = a.words.items;
      ic = a.ic;
      enabled = a.enabled;
      waiting = a.waiting;
      done = a.done;
      reader = a.reader;
      printer = a.printer;
    }
