-- The statement that a card's text means.
--
-- Proved: by their `ensures` clauses these calls do what definitions here say: `count_and_refill`
-- (shapes.rt), `index_word_parts` (shapes.rt), `two_addresses_and_number` (shapes.rt),
-- `is_misnamed` (reading.rt), and others.
-- Read by: definitions in Faults, Alone of st_asm, Forming of st_asm.
-- Laws: FieldOperationsAreRead (specs/Laws.antt), IndexOperationsAreRead (specs/Laws.antt),
-- NumbersOfWordsAreRead (specs/Laws.antt), PlacesAreRead (specs/Laws.antt), and others.
-- Change: the meaning is fixed by docs/strap.md, since the contracts of `st_top::stretch` and
-- `st_account::ledger` unfold to a definition here. The form is free, with the proofs that unfold
-- it.
use Rattle.std.specs.Prelude.{ℕ, ◌&&◌, ◌||◌, Bool, false, not, nat_le, List, [], ◌∷◌, length, Option, None, Some, Result, Ok, Err, if◌then◌else◌}
use Rattle.std.specs.Option.{option_and_then, option_map_or}
use Rattle.st_bits.specs.declared.operations.HalfOp.TheVariants.{Ex}
use Rattle.st_text.specs.Number.{is_filled}
use Rattle.st_card.specs.declared.faults.Fault.{Fault}
use Rattle.st_card.specs.declared.faults.Fault.TheVariants.{BadName, UnknownOperation, BadDataDescription, BadProgressive, BadFieldCount}
use Rattle.st_expr.specs.Name.{is_name}
use Rattle.st_strap.specs.Order.{both_of, reading_map, next_reading}
use Rattle.st_mnemonic.specs.Text.{statement_text, operation_text, behind_word, behind_group, fields_of}
use Rattle.st_mnemonic.specs.Table.{operation_of_word}
use Rattle.st_mnemonic.specs.Describing.{description_of, described_form}
use Rattle.st_mnemonic.specs.Forming.{description_in, behind_description, form_with_progress}
use Rattle.st_strap.specs.Reading.{index_field, spot, expression, plain_number, signed_number, index_selector}
use Rattle.st_strap.specs.Statements.{Spot, Statement}
use Rattle.st_mnemonic.specs.declared.form.Form.{Form}
use Rattle.st_strap.specs.declared.statement.Statement.TheVariants.{Half, Sum, Refill, Branch, Floating, Vfl, Connect, Move, BitBranch, IndBranch, StoreCounter, Transfer, Data, IndexWord, Synonym, SetLocation, Reserve, End}
use Rattle.st_mnemonic.specs.declared.operations.Operation.{Operation}
use Rattle.st_mnemonic.specs.declared.operations.Operation.TheVariants.{Half as HalfOperation, Sum as SumOperation, Refill as RefillOperation, Execute as ExecuteOperation, Branch as BranchOperation, Bare as BareOperation, Floating as FloatingOperation, Vfl as VflOperation, Connect as ConnectOperation, Move as MoveOperation, BitBranch as BitBranchOperation, IndBranch as IndBranchOperation, StoreCounter as StoreCounterOperation, Transfer as TransferOperation, Data as DataOperation, IndexWord as IndexWordOperation, Synonym as SynonymOperation, SetLocation as SetLocationOperation, Reserve as ReserveOperation, End as EndOperation}

-- the reading of a single field
unfoldable pub alone : {A : Type 0} → (List ℕ → Result A Fault) → List (List ℕ) → Result A Fault
alone read (field ∷ []) = read field
alone read _ = Err BadFieldCount

-- the readings of exactly two fields
unfoldable pub two : {A B : Type 0} → (List ℕ → Result A Fault) → (List ℕ → Result B Fault) →
    List (List ℕ) → Result (A × B) Fault
two first second (field ∷ other ∷ []) = both_of (first field) (second other)
two first second _ = Err BadFieldCount

-- the readings of a first field and of the fields after it
unfoldable pub followed : {A B : Type 0} → (List ℕ → Result A Fault) →
    (List (List ℕ) → Result B Fault) → List (List ℕ) → Result (A × B) Fault
followed first rest [] = Err BadFieldCount
followed first rest (field ∷ more) = both_of (first field) (rest more)

-- the readings of a field and of an optional number after it, which is 0 if it is absent
unfoldable pub with_number : {A : Type 0} → (List ℕ → Result A Fault) → List (List ℕ) →
    Result (A × ℕ) Fault
with_number read (field ∷ []) = both_of (read field) (Ok 0)
with_number read (field ∷ number ∷ []) = both_of (read field) (plain_number number)
with_number read _ = Err BadFieldCount

-- the reading of an index word and a list of 1 to 15 index words
unfoldable pub index_and_list : List (List ℕ) → Result (ℕ × ℕ) Fault
index_and_list (j ∷ k ∷ ks) =
    if nat_le (length ks) 14 then both_of (index_field j) (index_selector (k ∷ ks))
    else Err BadFieldCount
index_and_list _ = Err BadFieldCount

-- a field's address and an optional offset; progressive forms from 2 on require an index part
unfoldable pub operand_spot : Form → List (List ℕ) → Result (Spot × ℕ) Fault
operand_spot form fields = with_number (spot (nat_le 2 form.p)) fields

-- a statement without fields; a fault if there are any
unfoldable pub without_fields : Statement → List (List ℕ) → Result Statement Fault
without_fields statement [] = Ok statement
without_fields statement _ = Err BadFieldCount

-- the statement of an operation with its form and its fields
unfoldable pub with_fields : Operation → Form → List (List ℕ) → Result Statement Fault
with_fields (HalfOperation op) form fields =
    reading_map (λ p. Half op p.0 p.1) (two index_field (spot false) fields)
with_fields SumOperation form fields = reading_map (λ p. Sum p.0 p.1) (index_and_list fields)
with_fields RefillOperation form fields = reading_map Refill (alone index_field fields)
with_fields ExecuteOperation form fields = reading_map (Half Ex 0) (alone (spot false) fields)
with_fields (BranchOperation op) form fields =
    reading_map (λ at. Branch op (Some at)) (alone (spot false) fields)
with_fields (BareOperation op) form fields = without_fields (Branch op None) fields
with_fields (FloatingOperation number) form fields =
    reading_map (Floating number) (alone (spot false) fields)
with_fields (VflOperation op negated) form fields =
    reading_map (λ p. Vfl op negated form p.0 p.1) (operand_spot form fields)
with_fields (ConnectOperation kind table) form fields =
    reading_map (λ p. Connect kind table form p.0 p.1) (operand_spot form fields)
with_fields (MoveOperation swap) form fields = reading_map (λ p. Move swap p.0 p.1.0 p.1.1)
    (followed (spot false) (two expression plain_number) fields)
with_fields (BitBranchOperation sense change) form fields =
    reading_map (λ p. BitBranch sense change p.0 p.1) (two (spot false) expression fields)
with_fields (IndBranchOperation sense off) form fields =
    reading_map (λ p. IndBranch sense off p.0 p.1) (two (spot false) expression fields)
with_fields StoreCounterOperation form fields =
    reading_map (λ p. StoreCounter p.0 p.1) (two (spot false) expression fields)
with_fields (TransferOperation write) form fields =
    reading_map (λ p. Transfer write p.0 p.1) (two (spot false) plain_number fields)
with_fields DataOperation form fields =
    reading_map (λ p. Data form p.0 p.1) (alone signed_number fields)
with_fields IndexWordOperation form fields = reading_map (λ p. IndexWord p.0 p.1.0 p.1.1.0 p.1.1.1)
    (followed expression (followed plain_number (with_number expression)) fields)
with_fields SynonymOperation form fields = reading_map Synonym (alone expression fields)
with_fields SetLocationOperation form fields = reading_map SetLocation (alone expression fields)
with_fields ReserveOperation form fields = reading_map Reserve (alone expression fields)
with_fields EndOperation form fields = reading_map End (alone expression fields)

-- whether a name is present on an operation that allows none, or absent on one that requires a name
abbrev pub misnames : Bool → Operation → Bool
misnames named SynonymOperation = not named
misnames named SetLocationOperation = named
misnames named EndOperation = named
misnames named _ = false

-- whether the name is malformed, or not allowed or missing for the operation
unfoldable pub is_misnamed : List ℕ → Option Operation → Bool
is_misnamed name op =
    (is_filled name && not (is_name name)) || option_map_or (misnames (is_filled name)) op false

-- the statement of an operation with an allowed description and the text after that
unfoldable pub statement_in_form : Operation → Form → List ℕ → Result Statement Fault
statement_in_form op form text = next_reading BadProgressive (form_with_progress op form text)
    (λ f. with_fields op f (fields_of (behind_group text)))

-- the statement of an operation with the text after it
unfoldable pub reading_of_operation : Operation → List ℕ → Result Statement Fault
reading_of_operation op text = next_reading BadDataDescription (option_and_then (described_form op)
    (description_of (description_in text)))
    (λ d. statement_in_form d.0 d.1 (behind_description text))

-- the statement of a text without comment and blanks on a card with this name
unfoldable pub clean_statement_of : List ℕ → List ℕ → Result Statement Fault
clean_statement_of name statement = let op = operation_of_word (operation_text statement) in
    if is_misnamed name op then Err BadName
    else next_reading UnknownOperation op
    (λ found. reading_of_operation found (behind_word statement))

-- the statement of a card with a name and a text, or the first of its faults
abbrev pub statement_of : List ℕ → List ℕ → Result Statement Fault
statement_of name text = clean_statement_of name (statement_text text)
