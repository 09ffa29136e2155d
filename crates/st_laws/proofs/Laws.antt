-- Proofs of the laws that relate crates which do not depend on each other, and of the values of
-- constants.
use Rattle.st_expr.specs.System.{system_symbols}
use Rattle.st_entries.specs.Caption.{indicator_text, indicator_names}
use Rattle.st_strap.specs.Reading.{index_fields}
use Rattle.std.proofs.Common.{refl, rules}
use Rattle.st_laws.specs.Laws.{LimitsInFigures, ControlsInFigures, RegistersInFigures, IndicatorsInFigures, DigitsAgree, CountsAgree, SymbolsAgree, SizesOfStorageAgree, NumbersAgree, MadeDecksAreNotRefused, EmittedNumbersAreRead, BanksInFigures, FormatsInFigures, ExpressionsInFigures, StatementsInFigures, DrawnWordsInFigures}
use Rattle.st_laws.proofs.AgreementLemmas.{value-bytes, digits-joined, zeros-counted, ones-counted, counts-kept, shown-in, emitted-in, spelled-agree}
use Rattle.st_laws.proofs.MadeDecks.{made-assembled}
use Rattle.st_laws.proofs.EmittedFields.{binary-read, decimal-read, digits-read}

pub limits_in_figures : LimitsInFigures
limits_in_figures = record {
  words = refl;
  last_word = refl;
  most_instructions = refl;
  longest_list = refl;
  longest_job = refl;
  most_cards = refl;
  most_names = refl;
}

pub controls_in_figures : ControlsInFigures
controls_in_figures = record {
  most_delay = refl;
  most_dumps = refl;
  most_snaps = refl;
  most_back = refl;
  most_number = refl;
}

pub registers_in_figures : RegistersInFigures
registers_in_figures = record {
  zero = refl;
  interrupt_address = refl;
  bounds = refl;
  counts = refl;
  left_half = refl;
  right_half = refl;
  sign_byte = refl;
  indicators = refl;
  mask = refl;
  remainder = refl;
  factor = refl;
  transit = refl;
  first_index_word = refl;
  first_storage_word = refl;
}

pub indicators_in_figures : IndicatorsInFigures
unfolding system_symbols
indicators_in_figures = record {
  machine_check = (refl, refl);
  instruction_check = (refl, refl);
  instruction_reject = (refl, refl);
  exchange_control_check = (refl, refl);
  time_signal = (refl, refl);
  processor_signal = (refl, refl);
  exchange_check_reject = (refl, refl);
  unit_not_ready_reject = (refl, refl);
  channel_busy_reject = (refl, refl);
  exchange_program_check = (refl, refl);
  unit_check = (refl, refl);
  end_exception = (refl, refl);
  end_of_operation = (refl, refl);
  channel_signal = (refl, refl);
  operation_invalid = (refl, refl);
  address_invalid = (refl, refl);
  unended_sequence = (refl, refl);
  execute_exception = (refl, refl);
  data_store = (refl, refl);
  data_fetch = (refl, refl);
  instruction_fetch = (refl, refl);
  lost_carry = (refl, refl);
  partial_field = (refl, refl);
  zero_divisor = (refl, refl);
  flag_t = (refl, refl);
  flag_u = (refl, refl);
  flag_v = (refl, refl);
  index_flag = (refl, refl);
  binary_transit = (refl, refl);
  decimal_transit = (refl, refl);
  first_program_indicator = (refl, refl);
  last_program_indicator = refl;
  index_count_zero = (refl, refl);
  index_value_less = (refl, refl);
  index_value_zero = (refl, refl);
  index_value_greater = (refl, refl);
  index_low = (refl, refl);
  index_equal = (refl, refl);
  index_high = (refl, refl);
  to_memory_operation = (refl, refl);
  result_less = (refl, refl);
  result_zero = (refl, refl);
  result_greater = (refl, refl);
  result_negative = (refl, refl);
  accumulator_low = (refl, refl);
  accumulator_equal = (refl, refl);
  accumulator_high = (refl, refl);
}

pub digits_agree : DigitsAgree
digits_agree = record {
  value = value-bytes;
  digits = digits-joined;
}

pub counts_agree : CountsAgree
counts_agree = record {
  zeros = zeros-counted;
  ones = ones-counted;
  kept = counts-kept;
}

pub symbols_agree : SymbolsAgree
unfolding index_fields system_symbols indicator_text indicator_names
symbols_agree = record {
  index_words = search rules;
  zeros_count = search rules;
  ones_count = search rules;
  indicators = refl;
}

pub sizes_of_storage_agree : SizesOfStorageAgree
sizes_of_storage_agree = record {
  shown = shown-in;
  emitted = emitted-in;
}

pub numbers_agree : NumbersAgree
numbers_agree = record {
  short = search rules;
  spelled = spelled-agree;
}

pub made_decks_are_not_refused : MadeDecksAreNotRefused
made_decks_are_not_refused = made-assembled

pub emitted_numbers_are_read : EmittedNumbersAreRead
emitted_numbers_are_read = record { binary = binary-read; decimal = decimal-read; digits = digits-read }

pub banks_in_figures : BanksInFigures
banks_in_figures = record { banks = refl; low_words = refl }

pub formats_in_figures : FormatsInFigures
formats_in_figures = record {
  floating_group = refl;
  branch_group = refl;
  unused = refl;
}

pub expressions_in_figures : ExpressionsInFigures
expressions_in_figures = record {
  last_address = refl;
  last_bit = refl;
}

pub statements_in_figures : StatementsInFigures
statements_in_figures = record {
  most_offset = refl;
  most_moved = refl;
  most_waited = refl;
  most_count = refl;
  most_flags = refl;
}

pub drawn_words_in_figures : DrawnWordsInFigures
drawn_words_in_figures = record { first = refl; count = refl }
