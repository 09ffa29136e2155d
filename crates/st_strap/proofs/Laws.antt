-- Proofs of the laws of all statement cards.
use Rattle.st_strap.proofs.FaultLemmas.{card-fault}
use Rattle.st_strap.proofs.NumberCards.{data-read}
use Rattle.st_strap.proofs.PlaceCards.{set-read, end-read}
use Rattle.st_strap.proofs.OperandCards.{load_value-read, add_value-read, add-read, store-read, connect-read, load_word-read, add_one-read, multiply-read, wait-read}
use Rattle.st_strap.specs.Laws.{TheFirstFaultOfTheListCounts, NumbersOfWordsAreRead, PlacesAreRead, IndexOperationsAreRead, FieldOperationsAreRead, WaitsAreRead}

pub the_first_fault_of_the_list_counts : TheFirstFaultOfTheListCounts
the_first_fault_of_the_list_counts = card-fault

pub numbers_of_words_are_read : NumbersOfWordsAreRead
numbers_of_words_are_read = data-read

pub places_are_read : PlacesAreRead
places_are_read = record {
  set = set-read;
  end = end-read;
}

pub index_operations_are_read : IndexOperationsAreRead
index_operations_are_read = record {
  load = load_value-read;
  add = add_value-read;
}

pub field_operations_are_read : FieldOperationsAreRead
field_operations_are_read = record {
  add = add-read;
  store = store-read;
  connect = connect-read;
  load = load_word-read;
  add_one = add_one-read;
  multiply = multiply-read;
}

pub waits_are_read : WaitsAreRead
waits_are_read = wait-read
