-- Proofs of the laws of the reads of the fetch unit.
use Rattle.st_next.proofs.Whole.{asked-planned, left-planned, left-resting, served-so-far}
use Rattle.st_next.proofs.Resting.{address-late}
use Rattle.st_next.proofs.Starting.{new-next, new-reads, new-rests}
use Rattle.st_next.specs.Laws.{ReadsSoFarComeFirst, ReadsSoFarGiveTheBus, EntriesArePlannedInTime, EntriesBeginAnywhere}

pub reads_so_far_come_first : ReadsSoFarComeFirst
reads_so_far_come_first = record {
  planned = asked-planned;
  behind = left-planned;
  resting = left-resting;
}

pub reads_so_far_give_the_bus : ReadsSoFarGiveTheBus
reads_so_far_give_the_bus = served-so-far

pub entries_are_planned_in_time : EntriesArePlannedInTime
entries_are_planned_in_time = λ ds n now t u f next is un rests. address-late ds now t u f next is.read_on un rests

pub entries_begin_anywhere : EntriesBeginAnywhere
entries_begin_anywhere = record {
  next = new-next;
  rests = new-rests;
  reads = new-reads;
}
