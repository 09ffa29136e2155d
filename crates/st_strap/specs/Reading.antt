-- The readings of single fields of a statement.
--
-- Proved: by their `ensures` clauses these calls do what definitions here say:
-- `two_addresses_and_number` (shapes.rt), `split_index` (fields.rt), `address_and_number`
-- (shapes.rt), `count_and_refill` (shapes.rt), and others.
-- Read by: definitions in Saying, Faults, Spots.
-- Laws: PlacesAreRead (specs/Laws.antt), PlacesComeBack (specs/Laws.antt of st_dis), SymbolsAgree
-- (specs/Laws.antt of st_laws).
-- Change: the meaning is fixed by docs/strap.md, since the contracts of `st_top::stretch` and
-- `st_account::ledger` unfold to a definition here. The form is free, with the proofs that unfold
-- it.
use Rattle.std.specs.Prelude.{ℕ, ◌+◌, ◌-◌, ◌==◌, ◌^◌, ◌/◌, Bool, true, false, bit_or, List, [], ◌∷◌, length, take, drop, codes, Option, None, Some, unwrap_or, Result, Ok, Err, if◌then◌else◌}
use Rattle.std.specs.Option.{option_map, option_or, ok_or}
use Rattle.st_text.specs.Bytes.{open_parenthesis, close_parenthesis, plus_sign, minus_sign}
use Rattle.arrayvec.specs.ArrayVec.{ArrayVec}
use Rattle.st_text.specs.Number.{reading}
use Rattle.st_text.specs.Tables.{row_of}
use Rattle.st_card.specs.declared.faults.Fault.{Fault}
use Rattle.st_card.specs.declared.faults.Fault.TheVariants.{BadExpression, BadIndex, NumberTooLarge}
use Rattle.st_text.specs.declared.numbers.Reading.{Reading}
use Rattle.st_text.specs.declared.numbers.Reading.TheVariants.{Bad, Large, Good}
use Rattle.st_expr.specs.Expression.{expr_of}
use Rattle.st_expr.specs.declared.terms.Term.{Term}
use Rattle.st_expr.specs.declared.terms.Atom.TheVariants.{Number}
use Rattle.st_strap.specs.Order.{earlier_fault, both_of, reading_map}
use Rattle.st_mnemonic.specs.Text.{begins_with, ends_with}
use Rattle.st_strap.specs.Statements.{Spot}

-- the offset of the last opening parenthesis of a text, if it has one
abbrev pub last_open : List ℕ → Option ℕ
last_open [] = None
last_open (c ∷ cs) = option_or (option_map (λ n. n + 1) (last_open cs))
    (if c == open_parenthesis then Some 0 else None)

-- the offset of a field's index part: of its last `(` if it ends with `)`, else the field's length
unfoldable pub index_start : List ℕ → ℕ
index_start field = if ends_with close_parenthesis field
    then unwrap_or (last_open field) (length field) else length field

-- a field without its index part
abbrev pub field_front : List ℕ → List ℕ
field_front field = take (index_start field) field

-- the index part of a field, empty where it has none
abbrev pub index_part : List ℕ → List ℕ
index_part field = drop (index_start field) field

-- the texts of index fields, each with its index word
unfoldable pub index_fields : List (List ℕ × ℕ)
index_fields = (codes "$X0", 0) ∷ (codes "$X1", 1) ∷ (codes "$X2", 2) ∷ (codes "$X3", 3)
    ∷ (codes "$X4", 4) ∷ (codes "$X5", 5) ∷ (codes "$X6", 6) ∷ (codes "$X7", 7) ∷ (codes "$X8", 8)
    ∷ (codes "$X9", 9) ∷ (codes "$X10", 10) ∷ (codes "$X11", 11) ∷ (codes "$X12", 12)
    ∷ (codes "$X13", 13) ∷ (codes "$X14", 14) ∷ (codes "$X15", 15) ∷ []

-- the texts of index parts, each with its index word
unfoldable pub index_parts : List (List ℕ × ℕ)
index_parts = (codes "($X1)", 1) ∷ (codes "($X2)", 2) ∷ (codes "($X3)", 3) ∷ (codes "($X4)", 4)
    ∷ (codes "($X5)", 5) ∷ (codes "($X6)", 6) ∷ (codes "($X7)", 7) ∷ (codes "($X8)", 8)
    ∷ (codes "($X9)", 9) ∷ (codes "($X10)", 10) ∷ (codes "($X11)", 11) ∷ (codes "($X12)", 12)
    ∷ (codes "($X13)", 13) ∷ (codes "($X14)", 14) ∷ (codes "($X15)", 15) ∷ []

-- the number of the index word that an index field names, or its fault
unfoldable pub index_field : List ℕ → Result ℕ Fault
index_field field = ok_or (row_of field index_fields) BadIndex

-- the number of the index word that an index part names: 0 if there is no part and none is required
unfoldable pub index_named : Bool → List ℕ → Result ℕ Fault
index_named must [] = if must then Err BadIndex else Ok 0
index_named must (c ∷ cs) = ok_or (row_of (c ∷ cs) index_parts) BadIndex

-- the reading of an address with an index part, which is required if `must` and else optional
unfoldable pub spot : Bool → List ℕ → Result Spot Fault
spot must field = reading_map (λ p. record { expr = p.0; index = p.1 })
    (both_of (expr_of (field_front field)) (index_named must (index_part field)))

-- a reading, or the fault BadIndex if an index part follows it
abbrev pub reading_without_index : {A : Type 0} → List ℕ → Result A Fault → Result A Fault
reading_without_index [] value = value
reading_without_index (c ∷ cs) (Ok a) = Err BadIndex
reading_without_index (c ∷ cs) (Err e) = Err (earlier_fault e BadIndex)

-- the reading of an address without an index part
unfoldable pub expression : List ℕ → Result (ArrayVec Term) Fault
expression field = reading_without_index (index_part field) (expr_of (field_front field))

-- the number of a reading, or its fault
abbrev pub number_or_fault : Reading → Result ℕ Fault
number_or_fault Bad = Err BadExpression
number_or_fault Large = Err NumberTooLarge
number_or_fault (Good n) = Ok n

-- the reading of a text as a number below 2^64
unfoldable pub number_result : List ℕ → Result ℕ Fault
number_result text = number_or_fault (reading (2 ^ 64 - 1) text)

-- the reading of a field as a number without a sign
unfoldable pub plain_number : List ℕ → Result ℕ Fault
plain_number field = reading_without_index (index_part field) (number_result (field_front field))

-- the reading of a number with an optional sign: whether the sign is a minus, and the magnitude
unfoldable pub signed_of : List ℕ → Result (Bool × ℕ) Fault
signed_of text =
    if begins_with minus_sign text then reading_map (λ n. (true, n)) (number_result (drop 1 text))
    else (if begins_with plus_sign text then reading_map (λ n. (false, n))
    (number_result (drop 1 text))
    else reading_map (λ n. (false, n)) (number_result text))

-- the reading of a field as a number with an optional sign
unfoldable pub signed_number : List ℕ → Result (Bool × ℕ) Fault
signed_number field = reading_without_index (index_part field) (signed_of (field_front field))

-- the bit of a list of index words that represents index word j
abbrev pub selector : ℕ → ℕ
selector j = 2 ^ 15 / 2 ^ j

-- a list of index words with one added, or the first fault of both
abbrev pub with_selected : Result ℕ Fault → Result ℕ Fault → Result ℕ Fault
with_selected (Ok j) (Ok list) = Ok (bit_or (selector j) list)
with_selected _ _ = Err BadIndex

-- the list of index words, as bits, that fields name
abbrev pub index_selector : List (List ℕ) → Result ℕ Fault
index_selector [] = Ok 0
index_selector (field ∷ more) = with_selected (index_field field) (index_selector more)

-- the expression that consists of the number n
abbrev pub number_expr : ℕ → ArrayVec Term
number_expr n = record { items = record { minus = false; atom = Number n } ∷ [] }
