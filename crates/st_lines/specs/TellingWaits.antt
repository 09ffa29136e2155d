-- Preconditions and effects of writing the waits of a completed entry on the totals of waits.
--
-- Proved: by their `ensures` clauses these calls do what definitions here say: `write_done`
-- (facts.rt), `write_charged` (waits.rt).
-- Laws: none names a definition of this file itself.
-- Change: no page fixes these definitions, since no contract of a program unfolds to them; they
-- change together with the clauses, definitions and laws that name them. docs/ledger.md describes
-- the subject.
use Rattle.st_lines.specs.EntryLines.{charges_of_entry}
use Rattle.st_lines.specs.Waited.{AreWaitsReady, AddsWaits}
use Rattle.st_lines.specs.declared.facts.EntryRecord.{EntryRecord}
use Rattle.st_ledger.specs.declared.sums.WaitTotals.{WaitTotals}

-- the waits of all charges of an entry can be written and added to these totals
abbrev pub CanTellWaits : EntryRecord → WaitTotals → Type 0
CanTellWaits e sums = AreWaitsReady e.uses.now e.before.now e.done.now.before sums

-- the waits of all charges of an entry have been added to the totals
abbrev pub HasToldWaits : EntryRecord → WaitTotals → WaitTotals → Type 0
HasToldWaits e old new =
    AddsWaits e.uses.now e.before.now e.done.now.before (charges_of_entry e.done.now) old new
