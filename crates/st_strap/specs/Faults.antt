-- The faults that a statement card has, each defined by itself, and the order in which they count.
--
-- Proved: no `ensures` clause names a definition of this file.
-- Read by: definitions in Stops of st_asm.
-- Laws: TheFirstFaultOfTheListCounts (specs/Laws.antt).
-- Change: no page fixes these definitions, since no contract of a program unfolds to them; they
-- change together with the clauses, definitions and laws that name them. docs/strap.md describes
-- the subject.
use Rattle.std.specs.Prelude.{ℕ, ◌-◌, ◌^◌, ◌||◌, Bool, true, false, nat_le, nat_lt, List, [], ◌∷◌, ◌++◌, length, drop, replicate, Option, is_none, if◌then◌else◌}
use Rattle.std.specs.List.{list_any, zip}
use Rattle.std.specs.Option.{option_map, option_and_then, option_map_or}
use Rattle.st_text.specs.Number.{is_filled, reading}
use Rattle.st_text.specs.Tables.{row_of}
use Rattle.st_card.specs.declared.faults.Fault.{Fault}
use Rattle.st_card.specs.declared.faults.Fault.TheVariants.{BadName, UnknownOperation, BadDataDescription, BadProgressive, BadFieldCount, BadExpression, BadIndex, NumberTooLarge}
use Rattle.st_text.specs.declared.numbers.Reading.{Reading}
use Rattle.st_text.specs.declared.numbers.Reading.TheVariants.{Bad, Large, Good}
use Rattle.st_expr.specs.Expression.{parts, any_bad, any_large}
use Rattle.st_mnemonic.specs.Text.{statement_text, begins_with, operation_text, behind_word, behind_group, fields_of}
use Rattle.st_mnemonic.specs.Table.{operation_of_word}
use Rattle.st_mnemonic.specs.Describing.{description_of, described_form}
use Rattle.st_mnemonic.specs.Forming.{description_in, behind_description, form_with_progress}
use Rattle.st_strap.specs.Reading.{field_front, index_part, index_fields, index_parts}
use Rattle.st_strap.specs.Saying.{is_misnamed}
use Rattle.st_mnemonic.specs.declared.form.Form.{Form}
use Rattle.st_mnemonic.specs.declared.operations.Operation.{Operation}
use Rattle.st_mnemonic.specs.declared.operations.Operation.TheVariants.{Half, Sum, Refill, Execute, Branch, Bare, Floating, Vfl, Connect, Move, BitBranch, IndBranch, StoreCounter, Transfer, Data, IndexWord, Synonym, SetLocation, Reserve, End}

-- the kind of a field; the Boolean of an address says whether its index part is required
pub data Wanted : Type 0 where
  an_index_word : Wanted
  an_address : Bool → Wanted
  a_plain_address : Wanted
  a_number : Wanted
  a_signed_number : Wanted

-- the fields of an operation with its form: the required ones, and after them the optional ones
abbrev pub wanted_by : Operation → Form → List Wanted × List Wanted
wanted_by (Half op) form = (an_index_word ∷ an_address false ∷ [], [])
wanted_by Sum form = (replicate 2 an_index_word, replicate 14 an_index_word)
wanted_by Refill form = (an_index_word ∷ [], [])
wanted_by Execute form = (an_address false ∷ [], [])
wanted_by (Branch op) form = (an_address false ∷ [], [])
wanted_by (Bare op) form = ([], [])
wanted_by (Floating number) form = (an_address false ∷ [], [])
wanted_by (Vfl op negated) form = (an_address (nat_le 2 form.p) ∷ [], a_number ∷ [])
wanted_by (Connect kind table) form = (an_address (nat_le 2 form.p) ∷ [], a_number ∷ [])
wanted_by (Move swap) form = (an_address false ∷ a_plain_address ∷ a_number ∷ [], [])
wanted_by (BitBranch sense change) form = (an_address false ∷ a_plain_address ∷ [], [])
wanted_by (IndBranch sense off) form = (an_address false ∷ a_plain_address ∷ [], [])
wanted_by StoreCounter form = (an_address false ∷ a_plain_address ∷ [], [])
wanted_by (Transfer write) form = (an_address false ∷ a_number ∷ [], [])
wanted_by Data form = (a_signed_number ∷ [], [])
wanted_by IndexWord form = (a_plain_address ∷ a_number ∷ a_plain_address ∷ [], a_number ∷ [])
wanted_by Synonym form = (a_plain_address ∷ [], [])
wanted_by SetLocation form = (a_plain_address ∷ [], [])
wanted_by Reserve form = (a_plain_address ∷ [], [])
wanted_by End form = (a_plain_address ∷ [], [])

-- whether there are too few or too many fields
abbrev pub has_other_count : List Wanted × List Wanted → List (List ℕ) → Bool
has_other_count wanted fields =
    nat_lt (length fields) (length wanted.0) || nat_lt (length (wanted.0 ++ wanted.1))
    (length fields)

-- the reading of a text as a number below 2^64
abbrev pub number_reading : List ℕ → Reading
number_reading text = reading (2 ^ 64 - 1) text

-- a text without its leading sign, if it has one
abbrev pub without_sign : List ℕ → List ℕ
without_sign text = if begins_with 45 text || begins_with 43 text then drop 1 text else text

-- whether a reading is not a number
abbrev pub is_bad : Reading → Bool
is_bad Bad = true
is_bad Large = false
is_bad (Good n) = false

-- whether a reading is a number that is too large
abbrev pub is_large : Reading → Bool
is_large Bad = false
is_large Large = true
is_large (Good n) = false

-- whether a field that should be an expression or a number is neither
abbrev pub lacks_expression : Wanted → List ℕ → Bool
lacks_expression an_index_word field = false
lacks_expression (an_address must) field = any_bad (parts (field_front field))
lacks_expression a_plain_address field = any_bad (parts (field_front field))
lacks_expression a_number field = is_bad (number_reading (field_front field))
lacks_expression a_signed_number field = is_bad (number_reading (without_sign (field_front field)))

-- whether a field that should be an index word is not one, or an index part is missing, malformed
-- or not allowed
abbrev pub lacks_index : Wanted → List ℕ → Bool
lacks_index an_index_word field = is_none (row_of field index_fields)
lacks_index (an_address must) field =
    if is_filled (index_part field) then is_none (row_of (index_part field) index_parts) else must
lacks_index a_plain_address field = is_filled (index_part field)
lacks_index a_number field = is_filled (index_part field)
lacks_index a_signed_number field = is_filled (index_part field)

-- whether a number is above the greatest that its place allows
abbrev pub is_past : Wanted → List ℕ → Bool
is_past an_index_word field = false
is_past (an_address must) field = any_large (parts (field_front field))
is_past a_plain_address field = any_large (parts (field_front field))
is_past a_number field = is_large (number_reading (field_front field))
is_past a_signed_number field = is_large (number_reading (without_sign (field_front field)))

-- whether a test is true of any field with its required kind
abbrev pub any_field : (Wanted → List ℕ → Bool) → List Wanted × List Wanted → List (List ℕ) → Bool
any_field test wanted fields = list_any (λ p. test p.0 p.1) (zip (wanted.0 ++ wanted.1) fields)

-- the operation of a statement, if its mnemonic is known
abbrev pub operation_named : List ℕ → Option Operation
operation_named statement = operation_of_word (operation_text statement)

-- an operation with the form that the data description of the text gives it, if that is valid
abbrev pub described_in : List ℕ → Operation → Option (Operation × Form)
described_in text op = option_and_then (described_form op) (description_of (description_in text))

-- the form of an operation with the progressive form of the text, if that is valid
abbrev pub progressed_in : List ℕ → Operation × Form → Option Form
progressed_in text d = form_with_progress d.0 d.1 (behind_description text)

-- the fields after the data description and the progressive form
abbrev pub fields_in : List ℕ → List (List ℕ)
fields_in text = fields_of (behind_group (behind_description text))

-- whether the data description is invalid for the operation
abbrev pub has_bad_description : List ℕ → Option Operation → Bool
has_bad_description text op = option_map_or (λ o. is_none (described_in text o)) op false

-- whether the progressive form is invalid for the operation and its form
abbrev pub has_bad_progressive : List ℕ → Option (Operation × Form) → Bool
has_bad_progressive text meant = option_map_or (λ d. is_none (progressed_in text d)) meant false

-- the kinds of fields of an operation with its data description and progressive form, if these are
-- valid
abbrev pub wanted_in : List ℕ → Option (Operation × Form) → Option (List Wanted × List Wanted)
wanted_in text meant =
    option_and_then (λ d. option_map (λ form. wanted_by d.0 form) (progressed_in text d)) meant

-- the faults of fields, in the order in which they count
abbrev pub field_faults : Option (List Wanted × List Wanted) → List (List ℕ) → List (Bool × Fault)
field_faults wanted fields =
    (option_map_or (λ w. has_other_count w fields) wanted false, BadFieldCount)
    ∷ (option_map_or (λ w. any_field lacks_expression w fields) wanted false, BadExpression)
    ∷ (option_map_or (λ w. any_field lacks_index w fields) wanted false, BadIndex)
    ∷ (option_map_or (λ w. any_field is_past w fields) wanted false, NumberTooLarge) ∷ []

-- the faults of an operation and of the text after it, in the order in which they count
abbrev pub faults_behind : Option Operation → List ℕ → List (Bool × Fault)
faults_behind op text = let meant = option_and_then (described_in text) op in
    (has_bad_description text op, BadDataDescription)
    ∷ (has_bad_progressive text meant, BadProgressive)
    ∷ field_faults (wanted_in text meant) (fields_in text)

-- all faults of a card with a name and a text: for each whether the card has it, in the order in
-- which they count
abbrev pub faults_on : List ℕ → List ℕ → List (Bool × Fault)
faults_on name text = let statement = statement_text text in let op = operation_named statement in
    (is_misnamed name op, BadName)
    ∷ (is_none op, UnknownOperation)
    ∷ faults_behind op (behind_word statement)
