-- The number of appended blanks is the number of rounds.
use Rattle.st_report.proofs.Common.{◌≡◌, ◌++◌}
use Rattle.st_report.specs.Listing.{blanks}
use Rattle.st_report.proofs.cards.push_blanks.Given as goal

abbrev pub invariant-loop : goal.invariant-loop
invariant-loop l = l.line.bytes ≡ l.initial.line.bytes ++ blanks l.counter
