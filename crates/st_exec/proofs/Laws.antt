-- Proofs of the laws of completion.
use Rattle.st_exec.proofs.Unchanged.{completed-done}
use Rattle.st_exec.proofs.AheadLemmas.{completed-past, mispredicted-branch, predicted-right}
use Rattle.st_exec.proofs.AlikeEffects.{predicted-alike, completed-alike}
use Rattle.st_exec.proofs.MachineKept.{kept-completed}
use Rattle.st_exec.proofs.UnwrittenLemmas.{speculative-index_words, completed-unwritten, predicted-unwritten, predicted-machine, predicted-following, predicted-alone, predicted-rest, predicted-done, predicted-past}
use Rattle.st_exec.proofs.BesideEntries.{predicted-beside, beside-printed, beside-no_card, beside-signalled, beside-same, beside-then}
use Rattle.std.proofs.Common.{rules}
use Rattle.st_exec.specs.Laws.{EntriesAreBounded, EntriesCountAsOne, EntriesAheadLeaveTheRest, OnlyIndicatorBranchesAreMispredicted, IndicatorsArePassedOver, EntriesLeaveStates, SpeculativeChangesLeaveTheirIndexWords, EntriesLeaveWhatTheyDoNotWrite, PredictionsLeaveStates, OrdersArePassedOver}

pub entries_are_bounded : EntriesAreBounded
entries_are_bounded = record {
  some_cost = search rules;
  cost = search rules;
  reads = search rules;
}

pub entries_count_as_one : EntriesCountAsOne
entries_count_as_one = completed-done

pub entries_ahead_leave_the_rest : EntriesAheadLeaveTheRest
entries_ahead_leave_the_rest = completed-past

pub only_indicator_branches_are_mispredicted : OnlyIndicatorBranchesAreMispredicted
only_indicator_branches_are_mispredicted = record {
  right = predicted-right;
  mispredicted = mispredicted-branch;
}

pub indicators_are_passed_over : IndicatorsArePassedOver
indicators_are_passed_over = record { predicted = predicted-alike; completed = completed-alike }

pub entries_leave_states : EntriesLeaveStates
entries_leave_states = kept-completed

pub speculative_changes_leave_their_index_words : SpeculativeChangesLeaveTheirIndexWords
speculative_changes_leave_their_index_words = speculative-index_words

pub entries_leave_what_they_do_not_write : EntriesLeaveWhatTheyDoNotWrite
entries_leave_what_they_do_not_write = record { completed = completed-unwritten; predicted = predicted-unwritten }

pub predictions_leave_states : PredictionsLeaveStates
predictions_leave_states = record {
  machine = predicted-machine;
  following = predicted-following;
  alone = predicted-alone;
  rest = predicted-rest;
  done = predicted-done;
  past = predicted-past;
}

pub orders_are_passed_over : OrdersArePassedOver
orders_are_passed_over = record {
  predicted = predicted-beside;
  printed = beside-printed;
  no_card = beside-no_card;
  signalled = beside-signalled;
  same = beside-same;
  joined = beside-then;
}
