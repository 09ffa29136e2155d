-- The exit status of the program.
--
-- Proved: by their `ensures` clauses these calls do what definitions here say: `exit` (main.rt).
-- Laws: none names a definition of this file itself.
-- Change: no page fixes these definitions, since no contract of a program unfolds to them; they
-- change together with the clauses, definitions and laws that name them. docs/chart.md describes
-- the subject.
use Rattle.std.specs.Prelude.{ℕ}
use Rattle.st_draw.specs.declared.status.Status.{Status}
use Rattle.st_draw.specs.declared.status.Status.TheVariants.{Done, NoRows, Usage, ReportTooLong, ReadFault, WriteFault, NoMemory}

-- the exit status for a status of the call of `draw`
abbrev pub number_of : Status → ℕ
number_of Done = 0
number_of NoRows = 1
number_of Usage = 2
number_of ReportTooLong = 3
number_of ReadFault = 4
number_of WriteFault = 5
number_of NoMemory = 6
