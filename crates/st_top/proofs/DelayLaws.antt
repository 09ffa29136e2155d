-- Proofs of the laws of marked lines and of delays.
use Rattle.st_object.proofs.OtherDelays.{has-lines, again-read}
use Rattle.st_top.specs.Marks.{marked_output}
use Rattle.st_top.specs.DelayLaws.{MarksAreTheReport, DelaysChangeNothingButTheTimetable, JobsThatDifferInDelaysAlone, CardsOfDelaysChangeDelaysAlone, ObjectTextsThatDifferInDelaysAlone}
use Rattle.st_top.proofs.MarkLemmas.{lines-run}
use Rattle.st_top.proofs.DelayLemmas.{run-same}
use Rattle.st_top.proofs.JobLemmas.{jobs-same, loads-same, assembled-same, disassembled-same}
use Rattle.st_top.proofs.PartedJobs.{cards-differ}

pub marks_are_the_report : MarksAreTheReport
marks_are_the_report = lines-run

pub delays_change_nothing_but_the_timetable : DelaysChangeNothingButTheTimetable
delays_change_nothing_but_the_timetable = run-same

pub jobs_that_differ_in_delays_alone : JobsThatDifferInDelaysAlone
unfolding marked_output
jobs_that_differ_in_delays_alone = record {
  run = λ job other read also a b is too alike. jobs-same job other a b is too alike;
  assembled = λ job other read also a b is too alike. assembled-same job other a b is too alike;
  load = λ text other p q differ. loads-same p q differ;
  disassemble = λ text other p q differ few short. disassembled-same p q differ few short;
}

pub cards_of_delays_change_delays_alone : CardsOfDelaysChangeDelaysAlone
cards_of_delays_change_delays_alone = cards-differ

pub object_texts_that_differ_in_delays_alone : ObjectTextsThatDifferInDelaysAlone
object_texts_that_differ_in_delays_alone = record { accepted = again-read; good = has-lines }
