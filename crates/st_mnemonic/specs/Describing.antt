-- Data descriptions: modes, lengths and byte sizes in parentheses.
--
-- Proved: by their `ensures` clauses these calls do what definitions here say: `described_in`
-- (descriptions.rt), `default_form` (descriptions.rt), `described` (descriptions.rt),
-- `description_of` (descriptions.rt), and others.
-- Read by: definitions in Faults of st_strap, Saying of st_strap, Spots of st_strap.
-- Laws: FieldOperationsAreRead (specs/Laws.antt of st_strap), NumbersOfWordsAreRead
-- (specs/Laws.antt of st_strap).
-- Change: the meaning is fixed by docs/strap.md, since the contracts of `st_top::stretch` and
-- `st_account::ledger` unfold to a definition here. The form is free, with the proofs that unfold
-- it.
use Rattle.std.specs.Prelude.{ℕ, ◌+◌, ◌-◌, ◌==◌, ◌||◌, Bool, true, false, not, List, [], ◌∷◌, length, take, codes, Option, None, Some, if◌then◌else◌}
use Rattle.std.specs.Option.{option_map, option_and_then}
use Rattle.st_text.specs.Bytes.{close_parenthesis, comma}
use Rattle.st_text.specs.Number.{reading}
use Rattle.st_text.specs.Pieces.{pieces_of}
use Rattle.st_text.specs.Tables.{row_of}
use Rattle.st_text.specs.declared.numbers.Reading.{Reading}
use Rattle.st_text.specs.declared.numbers.Reading.TheVariants.{Good}
use Rattle.st_format.specs.Validity.{misfits}
use Rattle.st_bits.specs.declared.operations.VflOp.TheVariants.{L, St, Add, K, Mul, Div}
use Rattle.st_mnemonic.specs.Text.{ends_with}
use Rattle.st_mnemonic.specs.declared.form.Form.{Form}
use Rattle.st_mnemonic.specs.declared.descriptions.Mode.{Mode}
use Rattle.st_mnemonic.specs.declared.descriptions.Mode.TheVariants.{Field, Normalized, Unnormalized}
use Rattle.st_mnemonic.specs.declared.descriptions.Description.{Description}
use Rattle.st_mnemonic.specs.declared.descriptions.Description.TheVariants.{Absent, InForm, Floating}
use Rattle.st_mnemonic.specs.declared.operations.Operation.{Operation}
use Rattle.st_mnemonic.specs.declared.operations.Operation.TheVariants.{Floating as FloatingOperation, Vfl, Connect, Data}

-- the modes of data descriptions: binary, decimal (U: without a sign byte), and the floating ones
unfoldable pub modes : List (List ℕ × Mode)
modes = (codes "B", Field false false) ∷ (codes "BU", Field false true)
    ∷ (codes "D", Field true false) ∷ (codes "DU", Field true true) ∷ (codes "N", Normalized)
    ∷ (codes "U", Unnormalized) ∷ []

-- a form without a progressive form, with its length and byte size in bits
abbrev pub plain_form : Bool → Bool → ℕ → ℕ → Form
plain_form decimal unsigned bits byte =
    record { decimal = decimal; unsigned = unsigned; length = bits; byte = byte; p = 0 }

-- the form of a field without a data description
abbrev pub default_form : Form
default_form = plain_form false true 64 8

-- the default byte size in bits: 4 for decimal, 8 for binary
abbrev pub usual_byte : Bool → ℕ
usual_byte decimal = if decimal then 4 else 8

-- the number of a reading, if it is not zero
abbrev pub some_number : Reading → Option ℕ
some_number (Good n) = if n == 0 then None else Some n
some_number _ = None

-- the number that a text spells, if it is from 1 to `most`
unfoldable pub number_to : ℕ → List ℕ → Option ℕ
number_to most text = some_number (reading most text)

-- the description of a mode with the texts of an optional length and byte size after it
unfoldable pub in_mode : Mode → List (List ℕ) → Option Description
in_mode (Field d u) [] = Some (InForm (plain_form d u 64 (usual_byte d)))
in_mode (Field d u) (bits ∷ []) = option_map (λ n. InForm (plain_form d u n (usual_byte d)))
    (number_to 64 bits)
in_mode (Field d u) (bits ∷ byte ∷ []) =
    option_and_then (λ n. option_map (λ b. InForm (plain_form d u n b)) (number_to 8 byte))
    (number_to 64 bits)
in_mode Normalized [] = Some (Floating false)
in_mode Unnormalized [] = Some (Floating true)
in_mode _ _ = None

-- the description of the pieces between its commas
abbrev pub in_pieces : List (List ℕ) → Option Description
in_pieces [] = None
in_pieces (mode ∷ more) = option_and_then (λ m. in_mode m more) (row_of mode modes)

-- the description of a group: None if the closing parenthesis is missing
unfoldable pub description_of : List ℕ → Option Description
description_of [] = Some Absent
description_of (c ∷ cs) = if ends_with close_parenthesis (c ∷ cs) then in_pieces
    (pieces_of comma (take (length (c ∷ cs) - 2) cs)) else None

-- whether an operation may have a form: valid for a field or DD, binary unsigned for a connective
unfoldable pub may_have : Operation → Form → Bool
may_have (Vfl op negated) form = not (misfits form.decimal form.unsigned form.length form.byte)
may_have (Connect kind table) form = not (form.decimal || not form.unsigned)
may_have Data form = not (misfits form.decimal form.unsigned form.length form.byte)
may_have _ form = false

-- the numbers of normalized floating operations, by the operation on a field with that mnemonic
unfoldable pub floating_number : Operation → Option ℕ
floating_number (Vfl L false) = Some 1
floating_number (Vfl St false) = Some 2
floating_number (Vfl Add false) = Some 3
floating_number (Vfl K false) = Some 4
floating_number (Vfl Mul false) = Some 5
floating_number (Vfl Div false) = Some 6
floating_number _ = None

-- the operation and form that result from applying a description to an operation, if it allows it
unfoldable pub described_form : Operation → Description → Option (Operation × Form)
described_form op Absent = Some (op, default_form)
described_form op (InForm form) = if may_have op form then Some (op, form) else None
described_form op (Floating unnormalized) = option_map
    (λ n. (FloatingOperation (if unnormalized then n + 8 else n), default_form))
    (floating_number op)
