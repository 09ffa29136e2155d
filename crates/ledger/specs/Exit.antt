-- The exit status of the program.
--
-- Proved: by their `ensures` clauses these calls do what definitions here say: `exit` (main.rt).
-- Laws: none names a definition of this file itself.
-- Change: no page fixes these definitions, since no contract of a program unfolds to them; they
-- change together with the clauses, definitions and laws that name them. docs/ledger.md describes
-- the subject.
use Rattle.std.specs.Prelude.{ℕ}
use Rattle.st_account.specs.declared.status.Status.{Status}
use Rattle.st_account.specs.declared.status.Status.TheVariants.{Done, Refused, Usage, JobTooLong, ReadFault, WriteFault, NoMemory}

-- the exit status for a status of the call of `ledger`
abbrev pub number_of : Status → ℕ
number_of Done = 0
number_of Refused = 1
number_of Usage = 2
number_of JobTooLong = 3
number_of ReadFault = 4
number_of WriteFault = 5
number_of NoMemory = 6
