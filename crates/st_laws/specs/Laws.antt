-- Laws that relate crates which do not depend on each other, and the values of constants that
-- definitions take from the code.
--
-- Proved: each law has its lemma in proofs/Laws.antt, with its name in small letters.
-- Claimed: docs/CLAIMS.md names BanksInFigures, ControlsInFigures, CountsAgree, DigitsAgree, and
-- others.
-- Change: docs/promises.txt lists each law, and the gate compares the list with the laws.
use Rattle.std.specs.Prelude.{◌≡◌, ◌≤◌, ◌<◌, ◌+◌, ◌*◌, ◌^◌, ◌==◌, ◌&&◌, ◌||◌, nat_le, nat_lt, ℕ, List, Some, map, codes, length, sum, decimal, Ok, true, Bool, false, ◌-◌, ◌++◌}
use Rattle.st_bits.specs.declared.limits.TheConstants.{WORDS, LAST_WORD, MOST_INSTRUCTIONS, LONGEST_LIST, MOST_DELAY, LONGEST_JOB, MOST_CARDS}
use Rattle.st_card.specs.declared.limits.TheConstants.{MOST_DUMPS, MOST_SNAPS, MOST_BACK, MOST_NUMBER}
use Rattle.st_bits.specs.declared.register.TheConstants.{ZERO, INTERRUPT_ADDRESS, BOUNDS, COUNTS, LEFT_HALF, RIGHT_HALF, SIGN_BYTE, INDICATORS, MASK, REMAINDER, FACTOR, TRANSIT, FIRST_INDEX_WORD, FIRST_STORAGE_WORD}
use Rattle.st_bits.specs.declared.indicators.TheConstants.{MACHINE_CHECK, INSTRUCTION_CHECK, INSTRUCTION_REJECT, EXCHANGE_CONTROL_CHECK, TIME_SIGNAL, PROCESSOR_SIGNAL, EXCHANGE_CHECK_REJECT, UNIT_NOT_READY_REJECT, CHANNEL_BUSY_REJECT, EXCHANGE_PROGRAM_CHECK, UNIT_CHECK, END_EXCEPTION, END_OF_OPERATION, CHANNEL_SIGNAL, OPERATION_INVALID, ADDRESS_INVALID, UNENDED_SEQUENCE, EXECUTE_EXCEPTION, DATA_STORE, DATA_FETCH, INSTRUCTION_FETCH, LOST_CARRY, PARTIAL_FIELD, ZERO_DIVISOR, FLAG_T, FLAG_U, FLAG_V, INDEX_FLAG, BINARY_TRANSIT, DECIMAL_TRANSIT, FIRST_PROGRAM_INDICATOR, INDEX_COUNT_ZERO, INDEX_VALUE_LESS, INDEX_VALUE_ZERO, INDEX_VALUE_GREATER, INDEX_LOW, INDEX_EQUAL, INDEX_HIGH, TO_MEMORY_OPERATION, RESULT_LESS, RESULT_ZERO, RESULT_GREATER, RESULT_NEGATIVE, ACCUMULATOR_LOW, ACCUMULATOR_EQUAL, ACCUMULATOR_HIGH}
use Rattle.st_bits.specs.Bits.{part}
use Rattle.st_bits.specs.Registers.{register_word}
use Rattle.st_bits.specs.Storage.{words_of_storage}
use Rattle.st_field.specs.Digits.{value_of_digits, digits_of}
use Rattle.st_dec.specs.DigitLists.{bytes, number_of_bytes, codes_value, decimal as digit_list}
use Rattle.st_conn.specs.Connective.{leading_zeros}
use Rattle.st_conn.specs.Connection.{counts_of}
use Rattle.st_card.specs.Keywords.{card_number}
use Rattle.st_card.specs.Limits.{is_part}
use Rattle.st_text.specs.Tables.{row_of}
use Rattle.st_expr.specs.System.{index_word_names, indicator_symbols, system_symbols}
use Rattle.st_entries.specs.Caption.{indicator_text}
use Rattle.st_text.specs.Blanks.{without_end_blanks}
use Rattle.st_strap.specs.Reading.{index_fields}
use Rattle.st_object.specs.Meaning.{short_number}
use Rattle.st_asm.specs.Checks.{in_storage}
use Rattle.st_asm.specs.Assembly.{Assembly, assembly}
use Rattle.st_gen.specs.Deck.{made_deck}
use Rattle.st_gen.specs.declared.statement.TheConstants.{FIRST_DRAWN_WORD, DRAWN_WORDS}
use Rattle.st_mnemonic.specs.declared.form.Form.{Form}
use Rattle.st_dec.specs.DecimalOperand.{field_value, digit_bytes, digit_count}
use Rattle.st_laws.specs.EmittedNumbers.{IsHeld, IsRead, emitted_shape, field_of_number}
use Rattle.st_banks.specs.declared.answers.TheConstants.{BANKS, LOW_WORDS}
use Rattle.st_format.specs.declared.operations.TheConstants.{FLOATING_GROUP, BRANCH_GROUP, UNUSED}
use Rattle.st_expr.specs.declared.terms.TheConstants.{LAST_ADDRESS, LAST_BIT}
use Rattle.st_asm.specs.declared.naming.TheConstants.{MOST_NAMES}
use Rattle.st_asm.specs.declared.checks.TheConstants.{MOST_OFFSET, MOST_MOVED, MOST_WAITED, MOST_COUNT, MOST_FLAGS}

-- limits of the machine and of a job: the words of storage and the last word's address, the
-- instructions of a run, the delays and signals, and the bytes, cards and names of a job
pub record LimitsInFigures : Type 0 where
  pub words : WORDS ≡ 98304
  pub last_word : LAST_WORD ≡ 98303
  pub most_instructions : MOST_INSTRUCTIONS ≡ 10000000
  pub longest_list : LONGEST_LIST ≡ 4096
  pub longest_job : LONGEST_JOB ≡ 2000000
  pub most_cards : MOST_CARDS ≡ 20000
  pub most_names : MOST_NAMES ≡ 4000

-- limits of control cards: the greatest delay, the numbers of dumps, snapshots and steps back, and
-- the greatest number on a card
pub record ControlsInFigures : Type 0 where
  pub most_delay : MOST_DELAY ≡ 255
  pub most_dumps : MOST_DUMPS ≡ 16
  pub most_snaps : MOST_SNAPS ≡ 64
  pub most_back : MOST_BACK ≡ 64
  pub most_number : MOST_NUMBER ≡ 999999999999

-- addresses of registers, of the first index word and of the first word of storage
pub record RegistersInFigures : Type 0 where
  pub zero : ZERO ≡ 0
  pub interrupt_address : INTERRUPT_ADDRESS ≡ 2
  pub bounds : BOUNDS ≡ 3
  pub counts : COUNTS ≡ 7
  pub left_half : LEFT_HALF ≡ 8
  pub right_half : RIGHT_HALF ≡ 9
  pub sign_byte : SIGN_BYTE ≡ 10
  pub indicators : INDICATORS ≡ 11
  pub mask : MASK ≡ 12
  pub remainder : REMAINDER ≡ 13
  pub factor : FACTOR ≡ 14
  pub transit : TRANSIT ≡ 15
  pub first_index_word : FIRST_INDEX_WORD ≡ 16
  pub first_storage_word : FIRST_STORAGE_WORD ≡ 32

-- a symbol has the bit address of the indicator with this number
abbrev pub IsSymbol : ℕ → List ℕ → Type 0
IsSymbol number symbol = row_of symbol system_symbols ≡ Some (64 * INDICATORS + number)

-- numbers and symbols of the indicators
pub record IndicatorsInFigures : Type 0 where
  pub machine_check : (MACHINE_CHECK ≡ 0) × IsSymbol MACHINE_CHECK (codes "$MK")
  pub instruction_check : (INSTRUCTION_CHECK ≡ 1) × IsSymbol INSTRUCTION_CHECK (codes "$IK")
  pub instruction_reject : (INSTRUCTION_REJECT ≡ 2) × IsSymbol INSTRUCTION_REJECT (codes "$IJ")
  pub exchange_control_check : (EXCHANGE_CONTROL_CHECK ≡ 3) × IsSymbol EXCHANGE_CONTROL_CHECK (codes "$EK")
  pub time_signal : (TIME_SIGNAL ≡ 4) × IsSymbol TIME_SIGNAL (codes "$TS")
  pub processor_signal : (PROCESSOR_SIGNAL ≡ 5) × IsSymbol PROCESSOR_SIGNAL (codes "$CPUS")
  pub exchange_check_reject : (EXCHANGE_CHECK_REJECT ≡ 6) × IsSymbol EXCHANGE_CHECK_REJECT (codes "$EKJ")
  pub unit_not_ready_reject : (UNIT_NOT_READY_REJECT ≡ 7) × IsSymbol UNIT_NOT_READY_REJECT (codes "$UNRJ")
  pub channel_busy_reject : (CHANNEL_BUSY_REJECT ≡ 8) × IsSymbol CHANNEL_BUSY_REJECT (codes "$CBJ")
  pub exchange_program_check : (EXCHANGE_PROGRAM_CHECK ≡ 9) × IsSymbol EXCHANGE_PROGRAM_CHECK (codes "$EPGK")
  pub unit_check : (UNIT_CHECK ≡ 10) × IsSymbol UNIT_CHECK (codes "$UK")
  pub end_exception : (END_EXCEPTION ≡ 11) × IsSymbol END_EXCEPTION (codes "$EE")
  pub end_of_operation : (END_OF_OPERATION ≡ 12) × IsSymbol END_OF_OPERATION (codes "$EOP")
  pub channel_signal : (CHANNEL_SIGNAL ≡ 13) × IsSymbol CHANNEL_SIGNAL (codes "$CS")
  pub operation_invalid : (OPERATION_INVALID ≡ 15) × IsSymbol OPERATION_INVALID (codes "$OP")
  pub address_invalid : (ADDRESS_INVALID ≡ 16) × IsSymbol ADDRESS_INVALID (codes "$AD")
  pub unended_sequence : (UNENDED_SEQUENCE ≡ 17) × IsSymbol UNENDED_SEQUENCE (codes "$USA")
  pub execute_exception : (EXECUTE_EXCEPTION ≡ 18) × IsSymbol EXECUTE_EXCEPTION (codes "$EXE")
  pub data_store : (DATA_STORE ≡ 19) × IsSymbol DATA_STORE (codes "$DS")
  pub data_fetch : (DATA_FETCH ≡ 20) × IsSymbol DATA_FETCH (codes "$DF")
  pub instruction_fetch : (INSTRUCTION_FETCH ≡ 21) × IsSymbol INSTRUCTION_FETCH (codes "$IF")
  pub lost_carry : (LOST_CARRY ≡ 22) × IsSymbol LOST_CARRY (codes "$LC")
  pub partial_field : (PARTIAL_FIELD ≡ 23) × IsSymbol PARTIAL_FIELD (codes "$PF")
  pub zero_divisor : (ZERO_DIVISOR ≡ 24) × IsSymbol ZERO_DIVISOR (codes "$ZD")
  pub flag_t : (FLAG_T ≡ 35) × IsSymbol FLAG_T (codes "$TF")
  pub flag_u : (FLAG_U ≡ 36) × IsSymbol FLAG_U (codes "$UF")
  pub flag_v : (FLAG_V ≡ 37) × IsSymbol FLAG_V (codes "$VF")
  pub index_flag : (INDEX_FLAG ≡ 38) × IsSymbol INDEX_FLAG (codes "$XF")
  pub binary_transit : (BINARY_TRANSIT ≡ 39) × IsSymbol BINARY_TRANSIT (codes "$BTR")
  pub decimal_transit : (DECIMAL_TRANSIT ≡ 40) × IsSymbol DECIMAL_TRANSIT (codes "$DTR")
  pub first_program_indicator : (FIRST_PROGRAM_INDICATOR ≡ 41) × IsSymbol FIRST_PROGRAM_INDICATOR (codes "$PG0")
  pub last_program_indicator : IsSymbol (FIRST_PROGRAM_INDICATOR + 6) (codes "$PG6")
  pub index_count_zero : (INDEX_COUNT_ZERO ≡ 48) × IsSymbol INDEX_COUNT_ZERO (codes "$XCZ")
  pub index_value_less : (INDEX_VALUE_LESS ≡ 49) × IsSymbol INDEX_VALUE_LESS (codes "$XVLZ")
  pub index_value_zero : (INDEX_VALUE_ZERO ≡ 50) × IsSymbol INDEX_VALUE_ZERO (codes "$XVZ")
  pub index_value_greater : (INDEX_VALUE_GREATER ≡ 51) × IsSymbol INDEX_VALUE_GREATER (codes "$XVGZ")
  pub index_low : (INDEX_LOW ≡ 52) × IsSymbol INDEX_LOW (codes "$XL")
  pub index_equal : (INDEX_EQUAL ≡ 53) × IsSymbol INDEX_EQUAL (codes "$XE")
  pub index_high : (INDEX_HIGH ≡ 54) × IsSymbol INDEX_HIGH (codes "$XH")
  pub to_memory_operation : (TO_MEMORY_OPERATION ≡ 55) × IsSymbol TO_MEMORY_OPERATION (codes "$MOP")
  pub result_less : (RESULT_LESS ≡ 56) × IsSymbol RESULT_LESS (codes "$RLZ")
  pub result_zero : (RESULT_ZERO ≡ 57) × IsSymbol RESULT_ZERO (codes "$RZ")
  pub result_greater : (RESULT_GREATER ≡ 58) × IsSymbol RESULT_GREATER (codes "$RGZ")
  pub result_negative : (RESULT_NEGATIVE ≡ 59) × IsSymbol RESULT_NEGATIVE (codes "$RN")
  pub accumulator_low : (ACCUMULATOR_LOW ≡ 60) × IsSymbol ACCUMULATOR_LOW (codes "$AL")
  pub accumulator_equal : (ACCUMULATOR_EQUAL ≡ 61) × IsSymbol ACCUMULATOR_EQUAL (codes "$AE")
  pub accumulator_high : (ACCUMULATOR_HIGH ≡ 62) × IsSymbol ACCUMULATOR_HIGH (codes "$AH")

-- The digits of a number and their value agree between binary operations, which use one number with
-- four bits for each code, and decimal operations, which use a list of codes.
pub record DigitsAgree : Type 0 where
  pub value : (n x : ℕ) → value_of_digits n x ≡ codes_value (bytes 4 n x)
  pub digits : (n v : ℕ) → digits_of n v ≡ number_of_bytes 4 (digit_list n v)

-- A connective leaves its two counts in their register, each in its own field, and only in bits
-- that the register keeps.
pub record CountsAgree : Type 0 where
  pub zeros : (bs : List ℕ) → length bs ≤ 64 → sum bs ≤ 64
      → part (counts_of bs) 17 7 ≡ leading_zeros bs
  pub ones : (bs : List ℕ) → length bs ≤ 64 → sum bs ≤ 64
      → part (counts_of bs) 44 7 ≡ sum bs
  pub kept : (bs : List ℕ) → length bs ≤ 64 → sum bs ≤ 64
      → register_word COUNTS (counts_of bs) ≡ counts_of bs

-- The system symbols have the addresses of the machine: `$X0` to `$X15` those of the index words
-- that index fields name, `$LZC` and `$AOC` those of the two counts. The symbol of an indicator is
-- `$` followed by its name in a chart.
pub record SymbolsAgree : Type 0 where
  pub index_words : index_word_names
      ≡ map (λ row. (row.0, 64 * (FIRST_INDEX_WORD + row.1))) index_fields
  pub zeros_count : row_of (codes "$LZC") system_symbols ≡ Some (64 * COUNTS + 17)
  pub ones_count : row_of (codes "$AOC") system_symbols ≡ Some (64 * COUNTS + 44)
  pub indicators : map (λ row. row.0) indicator_symbols
      ≡ map (λ row. codes "$" ++ without_end_blanks (indicator_text (row.1 - 64 * INDICATORS)))
      indicator_symbols

-- Assembled bits and dumped parts of storage end at the end of storage.
pub record SizesOfStorageAgree : Type 0 where
  pub shown : (p : ℕ × ℕ) → is_part p ≡ (nat_le p.0 p.1 && nat_lt p.1 words_of_storage)
  pub emitted : (place bits : ℕ) → in_storage place bits
      ≡ (bits == 0 || (nat_le (64 * FIRST_STORAGE_WORD) place
      && nat_le (place + bits) (64 * words_of_storage)))

-- Control cards and lines of an object text read a number alike, for every text of at most 12
-- characters, with leading zeros or without, and for every number below 2^64 in decimal.
pub record NumbersAgree : Type 0 where
  pub short : (text : List ℕ) → length text ≤ 12
      → card_number text ≡ short_number text
  pub spelled : (n : ℕ) → n < 2 ^ 64
      → card_number (decimal n) ≡ short_number (decimal n)

-- The deck of a seed and of at most 19,980 drawn cards is never refused; with its 20 other cards it
-- then has at most as many as a job may have. It starts at bit 0 of word 32, half-word 64. It
-- requests a budget of two instructions more than it has drawn cards, sixteen delays, and timing.
abbrev pub MadeDecksAreNotRefused : Type 0
MadeDecksAreNotRefused = (seed cards : ℕ) → cards ≤ 19980 →
    (a : Assembly) × (assembly (made_deck seed cards) ≡ Ok a) × (a.start ≡ 64)
    × (a.asked.budget ≡ cards + 2)
    × (length a.asked.delays ≡ 16) × (a.asked.time ≡ true)

-- Every operation on a field of some form reads an assembled number of that form: the magnitude, or
-- the value of its digits, is that number, with its sign, no flags and no zone. The bytes of a
-- decimal field are the digits of the number, each below ten and without a zone.
pub record EmittedNumbersAreRead : Type 0 where
  pub binary : (form : Form) (minus negated : Bool) (number offset : ℕ)
      → IsHeld form minus number → form.decimal ≡ false
      → let f = field_of_number form minus number (emitted_shape form negated offset) in
      IsRead f f.mag minus number
  pub decimal : (form : Form) (minus negated : Bool) (number offset : ℕ)
      → IsHeld form minus number → form.decimal ≡ true
      → let h = emitted_shape form negated offset in
      let f = field_of_number form minus number h in
      IsRead f (field_value f h) minus number
  pub digits : (form : Form) (minus negated : Bool) (number offset : ℕ)
      → IsHeld form minus number → form.decimal ≡ true
      → let h = emitted_shape form negated offset in
      digit_bytes (field_of_number form minus number h) h ≡ digit_list (digit_count h) number

-- the number of banks of storage, and the number of words in the first four of them
pub record BanksInFigures : Type 0 where
  pub banks : BANKS ≡ 6
  pub low_words : LOW_WORDS ≡ 65536

-- numbers of operations of the half-word format: the floating group, the branch group, and the
-- number that is not an operation
pub record FormatsInFigures : Type 0 where
  pub floating_group : FLOATING_GROUP ≡ 0
  pub branch_group : BRANCH_GROUP ≡ 23
  pub unused : UNUSED ≡ 12

-- limits of expressions: the last word address and the last bit of a word
pub record ExpressionsInFigures : Type 0 where
  pub last_address : LAST_ADDRESS ≡ 262143
  pub last_bit : LAST_BIT ≡ 63

-- limits of statements: the greatest offset, the most words that are moved, the most instructions
-- that an order is delayed by, and the greatest count and flags of an index word
pub record StatementsInFigures : Type 0 where
  pub most_offset : MOST_OFFSET ≡ 127
  pub most_moved : MOST_MOVED ≡ 16
  pub most_waited : MOST_WAITED ≡ 1000
  pub most_count : MOST_COUNT ≡ 262143
  pub most_flags : MOST_FLAGS ≡ 7

-- the words that statements of a generated deck name: the address of the first, and their number
pub record DrawnWordsInFigures : Type 0 where
  pub first : FIRST_DRAWN_WORD ≡ 4096
  pub count : DRAWN_WORDS ≡ 256
