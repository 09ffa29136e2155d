-- Proofs of the laws of the entries in flight.
use Rattle.st_segment.proofs.EntryRanges.{entry-ranges, entry-reads, entry-words, entry-own}
use Rattle.st_segment.proofs.PredictionLemmas.{predictions-machine, predictions-next, ahead-next, issue-next}
use Rattle.st_segment.proofs.IndexLemmas.{split-change, index-split}
use Rattle.st_segment.proofs.RestLemmas.{low-kept, enabled-kept, storage-kept, counter-behind}
use Rattle.st_segment.proofs.SeenLemmas.{reading-behind, seen-behind}
use Rattle.st_segment.proofs.KnownEarly.{known-early}
use Rattle.st_segment.proofs.StepLemmas.{prediction-right, prediction-mispredicted, prediction-alone}
use Rattle.st_segment.proofs.PassedOver.{entry-same, passed-over, rows-same, plan-same}
use Rattle.st_segment.specs.Laws.{EntriesAreInRange, PredictionsGoOn, IndexWordsRunAhead, PredictionsLeaveTheRest, EntriesBehindAreSeen, EntriesAreKnownEarly, StepsArePredictions, SignalsArePassedOver}

pub entries_are_in_range : EntriesAreInRange
entries_are_in_range = record { ranges = entry-ranges; reads = entry-reads; words = entry-words; own = entry-own }

pub predictions_go_on : PredictionsGoOn
predictions_go_on = record {
  machine = predictions-machine;
  state = predictions-next;
  next = ahead-next;
  issue = issue-next;
}

pub index_words_run_ahead : IndexWordsRunAhead
index_words_run_ahead = record {
  change = split-change;
  state = index-split;
}

pub predictions_leave_the_rest : PredictionsLeaveTheRest
predictions_leave_the_rest = record {
  low = low-kept;
  enabled = enabled-kept;
  storage = storage-kept;
  counter = counter-behind;
}

pub entries_behind_are_seen : EntriesBehindAreSeen
entries_behind_are_seen = record {
  reading = reading-behind;
  seen = seen-behind;
}

pub entries_are_known_early : EntriesAreKnownEarly
entries_are_known_early = known-early

pub steps_are_predictions : StepsArePredictions
steps_are_predictions = record {
  right = prediction-right;
  mispredicted = prediction-mispredicted;
  alone = prediction-alone;
}

pub signals_are_passed_over : SignalsArePassedOver
signals_are_passed_over = record { entry = entry-same; same = passed-over; rows = rows-same; plans = plan-same }
