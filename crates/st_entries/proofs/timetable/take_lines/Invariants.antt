-- Loop invariant: the timetable so far, with the remaining lines, is the timetable of all lines.
use Rattle.std.proofs.Common.{◌≡◌, length}
use Rattle.st_text.specs.Pieces.{pieces_of}
use Rattle.st_entries.specs.Timetable.{after_lines, timetable_of}
use Rattle.st_entries.proofs.timetable.take_lines.Given as goal

abbrev pub invariant-lines : goal.invariant-lines
invariant-lines l =
    after_lines l.part (timetable_of l.read) (pieces_of 10 l.rest) ≡ after_lines l.part (timetable_of l.fn.read) (pieces_of 10 l.report)

abbrev pub decreases-lines : goal.decreases-lines
decreases-lines l = length l.rest
