-- The parts of a statement that was read fit in their fields of an instruction.
use Rattle.st_strap.proofs.Common.{◌≡◌, ◌≤◌, ◌<◌, ◌+◌, ◌-◌, ◌==◌, ◌&&◌, ◌||◌, ℕ, Bool, true, false, not, nat_lt, nat_le, List, [], ◌∷◌, length, take, Option, Some, None, Result, Ok, Err, refl, subst, lit<, lit≤, arith, if◌then◌else◌, IfSome, option_map, option_map_or, option_and_then, option_zip, IfOk, is_number, is_filled, digits_value, is_name, Bad, Large, Good, pieces_of, row_of, Fault, BadName, UnknownOperation, BadDataDescription, BadProgressive, BadFieldCount, BadIndex, expr_of, Ex, L, St, Add, K, Mul, Div, both_of, next_reading, statement_text, operation_text, behind_word, behind_group, fields_of, ends_with, group, operation_of_word, other_operations, index_operations, index_operation, field_operations, field_operation, negated_operation, connective, connective_at, connective_kinds, truth_tables, description_of, in_pieces, in_mode, number_to, some_number, described_form, may_have, floating_number, plain_form, default_form, usual_byte, modes, description_in, behind_description, form_with_progress, form_with_number, may_have_form, form_number, progressive_forms, open_group, is_behind_groups, field_front, index_part, index_field, index_fields, index_named, index_parts, spot, expression, plain_number, signed_number, index_selector, misnames, alone, two, followed, with_number, index_and_list, operand_spot, without_fields, with_fields, is_misnamed, statement_in_form, reading_of_operation, clean_statement_of, statement_of, Statement, Form, Half, Sum, Refill, Branch, Floating, Vfl, Connect, Move, BitBranch, IndBranch, StoreCounter, Transfer, Data, IndexWord, Synonym, SetLocation, Reserve, End, Description, Absent, InForm, Operation}
use Rattle.std.proofs.lemmas.Bool.{and_parts as both-true, not-true as not_false}
use Rattle.std.specs.Bool.{IsFalse}
use Rattle.st_format.specs.Operations.{writes_field}
use Rattle.st_format.specs.Validity.{misfits, misuses_p}
use Rattle.st_format.specs.declared.operations.FullOp.TheVariants.{Variable, Connective}
use Rattle.st_format.proofs.Spelled.{or-left as either_false}
use Rattle.st_strap.proofs.TableBounds.{index_below}
use Rattle.st_mnemonic.specs.declared.descriptions.Mode.{Mode}
use Rattle.st_mnemonic.specs.declared.descriptions.Mode.TheVariants.{Field, Normalized, Unnormalized}
use Rattle.st_mnemonic.specs.declared.descriptions.Description.TheVariants.{Floating as FloatingDescription}
use Rattle.st_mnemonic.specs.declared.operations.Operation.TheVariants.{Half as HalfOperation, Sum as SumOperation, Refill as RefillOperation, Execute as ExecuteOperation, Branch as BranchOperation, Bare as BareOperation, Floating as FloatingOperation, Vfl as VflOperation, Connect as ConnectOperation, Move as MoveOperation, BitBranch as BitBranchOperation, IndBranch as IndBranchOperation, StoreCounter as StoreCounterOperation, Transfer as TransferOperation, Data as DataOperation, IndexWord as IndexWordOperation, Synonym as SynonymOperation, SetLocation as SetLocationOperation, Reserve as ReserveOperation, End as EndOperation}
use Rattle.st_strap.specs.WellFormed.{IsForm, IsNumberForm, IsWellFormed}
use Rattle.st_strap.proofs.ReadLemmas.{some-judged, ok-mapped, ok-both, ok-any, some-any, some-map, some-then, some-or, some-ok, row-passes}

-- ---- operations

-- the bounds of an operation's own parts
abbrev fits_word : Operation → Bool
fits_word (ConnectOperation kind truth) = nat_lt truth 16
fits_word (BitBranchOperation sense change) = nat_lt change 4
fits_word (FloatingOperation number) = false
fits_word _ = true

other-fit : (word : List ℕ) → IfSome (row_of word other_operations) (λ op. fits_word op ≡ true)
unfolding other_operations
other-fit word = row-passes fits_word word other_operations refl

truth-fits : (word : List ℕ) → IfSome (row_of word truth_tables) (λ n. nat_lt n 16 ≡ true)
unfolding truth_tables
truth-fits word = row-passes (λ n. nat_lt n 16) word truth_tables refl

some-zip : {A B : Type 0} (P : B → Type 0) (o : Option A) (p : Option B) → IfSome p P → IfSome (option_zip o p) (λ x. P x.1)
some-zip P (Some a) (Some b) h = h
some-zip P (Some a) None h = tt
some-zip P None p h = tt

connective-fits : (word : List ℕ) → IfSome (connective word) (λ op. fits_word op ≡ true)
unfolding connective
connective-fits word =
    elim (nat_lt (length word) 4) as (λ b. IfSome (if b then None else connective_at (length word - 4) word) (λ op. fits_word op ≡ true)) [
      | true ↦ tt
      | false ↦ some-map (λ p. nat_lt p.1 16 ≡ true) (λ op. fits_word op ≡ true) (λ p. ConnectOperation p.0 p.1) _
          (some-zip (λ n. nat_lt n 16 ≡ true) (row_of (take (length word - 4) word) connective_kinds) _ (truth-fits _)) (λ a q. q)
    ]

field-fits : (negated : Bool) (word : List ℕ) → IfSome (field_operation negated word) (λ op. fits_word op ≡ true)
field-fits negated word =
    some-map (λ _. Unit {0}) (λ op. fits_word op ≡ true) (λ op. VflOperation op negated) (row_of word field_operations)
    (some-any (row_of word field_operations)) (λ a q. refl)

negated-fits : (word : List ℕ) → IfSome (negated_operation word) (λ op. fits_word op ≡ true)
unfolding negated_operation
negated-fits word =
    elim (ends_with 78 word) as (λ b. IfSome (if b then field_operation true (take (length word - 1) word) else None) (λ op. fits_word op ≡ true)) [
      | true ↦ field-fits true (take (length word - 1) word)
      | false ↦ tt
    ]

index-fits : (word : List ℕ) → IfSome (index_operation word) (λ op. fits_word op ≡ true)
index-fits word =
    some-map (λ _. Unit {0}) (λ op. fits_word op ≡ true) (λ op. HalfOperation op) (row_of word index_operations)
    (some-any (row_of word index_operations)) (λ a q. refl)

operation-fits : (word : List ℕ) → IfSome (operation_of_word word) (λ op. fits_word op ≡ true)
unfolding operation_of_word
operation-fits word =
    let P : Operation → Type 0 = λ op. fits_word op ≡ true in
    some-or P _ (connective word)
    (some-or P _ (negated_operation word)
    (some-or P _ (field_operation false word)
    (some-or P (row_of word other_operations) (index_operation word) (other-fit word) (index-fits word))
    (field-fits false word))
    (negated-fits word))
    (connective-fits word)

-- ---- descriptions

-- a form without a progressive form
record IsPlain (form : Form) : Type 0 where
  sizes : IsForm form
  none : form.p ≡ 0

abbrev IsDescription : Description → Type 0
IsDescription Absent = Unit {0}
IsDescription (InForm form) = IsPlain form
IsDescription (FloatingDescription unnormalized) = Unit {0}

number-within : (most : ℕ) (text : List ℕ) → IfSome (number_to most text) (λ n. (1 ≤ n) × (n ≤ most))
unfolding number_to
number-within most text =
    let P : Option ℕ → Type 0 = λ o. IfSome o (λ n. (1 ≤ n) × (n ≤ most)) in
    elim (is_number text) as (λ b. P (some_number (if b then (if nat_le (digits_value text) most then Good (digits_value text) else Large) else Bad))) [
      | true ↦ large (digits_value text) (nat_le (digits_value text) most) refl
      | false ↦ tt
    ]
  where
    large : (n : ℕ) (b : Bool) → nat_le n most ≡ b → IfSome (some_number (if b then Good n else Large)) (λ n. (1 ≤ n) × (n ≤ most))
    large n true e = zero_or n (n == 0) refl e
      where
        zero_or : (n : ℕ) (b : Bool) → (n == 0) ≡ b → nat_le n most ≡ true → IfSome (if b then None else Some n) (λ n. (1 ≤ n) × (n ≤ most))
        zero_or n true e h = tt
        zero_or n false e h = (grind (arith, e, h), grind (arith, h))
    large n false e = tt

plain-is : (decimal unsigned : Bool) (bits byte : ℕ) → 1 ≤ bits → bits ≤ 64 → 1 ≤ byte → byte ≤ 8 → IsPlain (plain_form decimal unsigned bits byte)
plain-is decimal unsigned bits byte some few any small = record {
  sizes = record { some_bits = some; few_bits = few; some_byte = any; small_byte = small; p_fits = lit< tt };
  none = refl;
}

usual-is : (decimal unsigned : Bool) (bits : ℕ) → 1 ≤ bits → bits ≤ 64 → IsPlain (plain_form decimal unsigned bits (usual_byte decimal))
usual-is true unsigned bits some few = plain-is true unsigned bits 4 some few (lit≤ tt) (lit≤ tt)
usual-is false unsigned bits some few = plain-is false unsigned bits 8 some few (lit≤ tt) (lit≤ tt)

mode-is : (mode : Mode) (more : List (List ℕ)) → IfSome (in_mode mode more) IsDescription
unfolding in_mode
mode-is (Field d u) [] = usual-is d u 64 (lit≤ tt) (lit≤ tt)
mode-is (Field d u) (bits ∷ []) =
    some-map (λ n. (1 ≤ n) × (n ≤ 64)) IsDescription (λ n. InForm (plain_form d u n (usual_byte d))) (number_to 64 bits)
    (number-within 64 bits) (λ n q. usual-is d u n q.0 q.1)
mode-is (Field d u) (bits ∷ byte ∷ []) =
    some-then (λ n. (1 ≤ n) × (n ≤ 64)) IsDescription
    (λ n. option_map (λ b. InForm (plain_form d u n b)) (number_to 8 byte)) (number_to 64 bits)
    (number-within 64 bits)
    (λ n q. some-map (λ b. (1 ≤ b) × (b ≤ 8)) IsDescription (λ b. InForm (plain_form d u n b)) (number_to 8 byte)
    (number-within 8 byte) (λ b p. plain-is d u n b q.0 q.1 p.0 p.1))
mode-is (Field d u) (bits ∷ byte ∷ third ∷ more) = tt
mode-is Normalized [] = tt
mode-is Normalized (x ∷ xs) = tt
mode-is Unnormalized [] = tt
mode-is Unnormalized (x ∷ xs) = tt

pieces-is : (pieces : List (List ℕ)) → IfSome (in_pieces pieces) IsDescription
pieces-is [] = tt
pieces-is (mode ∷ more) =
    some-then (λ _. Unit {0}) IsDescription (λ m. in_mode m more) (row_of mode modes) (some-any (row_of mode modes))
    (λ m q. mode-is m more)

description-is : (text : List ℕ) → IfSome (description_of text) IsDescription
unfolding description_of
description-is [] = tt
description-is (c ∷ cs) =
    elim (ends_with 41 (c ∷ cs)) as (λ b. IfSome (if b then in_pieces (pieces_of 44 (take (length (c ∷ cs) - 2) cs)) else None) IsDescription) [
      | true ↦ pieces-is (pieces_of 44 (take (length (c ∷ cs) - 2) cs))
      | false ↦ tt
    ]

-- the bounds of an operation and its form, before and after a progressive form is added
abbrev Suits : Operation → Form → Type 0
Suits (VflOperation op negated) form = IsNumberForm form
Suits (ConnectOperation kind truth) form = IsForm form × (truth < 16)
Suits (FloatingOperation number) form = number < 16
Suits (BitBranchOperation sense change) form = change < 4
Suits DataOperation form = IsNumberForm form
Suits _ form = Unit {0}

default-is : IsNumberForm default_form
default-is = record { sizes = (usual-is false true 64 (lit≤ tt) (lit≤ tt)).sizes; fits = refl }

suits-default : (op : Operation) → fits_word op ≡ true → Suits op default_form
suits-default (VflOperation op negated) fits = default-is
suits-default (ConnectOperation kind truth) fits = (default-is.sizes, grind (arith, fits))
suits-default (FloatingOperation number) fits = let no : ⊥ = cc in absurd no
suits-default (BitBranchOperation sense change) fits = grind (arith, fits)
suits-default DataOperation fits = default-is
suits-default _ fits = tt

suits-form : (op : Operation) (form : Form) → fits_word op ≡ true → IsForm form → may_have op form ≡ true → Suits op form
unfolding may_have
suits-form (VflOperation op negated) form fits sizes may =
    record { sizes = sizes; fits = not_false (misfits form.decimal form.unsigned form.length form.byte) may }
suits-form DataOperation form fits sizes may =
    record { sizes = sizes; fits = not_false (misfits form.decimal form.unsigned form.length form.byte) may }
suits-form (ConnectOperation kind truth) form fits sizes may = (sizes, grind (arith, fits))
suits-form (FloatingOperation number) form fits sizes may = let no : ⊥ = cc in absurd no
suits-form (BitBranchOperation sense change) form fits sizes may = grind (arith, fits)
suits-form _ form fits sizes may = tt

floating-below : (op : Operation) → IfSome (floating_number op) (λ n. n < 8)
unfolding floating_number
floating-below (VflOperation L false) = lit< tt
floating-below (VflOperation St false) = lit< tt
floating-below (VflOperation Add false) = lit< tt
floating-below (VflOperation K false) = lit< tt
floating-below (VflOperation Mul false) = lit< tt
floating-below (VflOperation Div false) = lit< tt
floating-below _ = tt

floating-suits : (unnormalized : Bool) (n : ℕ) → n < 8 → Suits (FloatingOperation (if unnormalized then n + 8 else n)) default_form
floating-suits true n below = omega arith
floating-suits false n below = omega arith

-- the bounds of an operation and of its form, which has no progressive form
abbrev IsDescribed : Operation × Form → Type 0
IsDescribed p = Suits p.0 p.1 × (p.1.p ≡ 0)

described-is : (op : Operation) (description : Description) → fits_word op ≡ true → IsDescription description →
    IfSome (described_form op description) IsDescribed
unfolding described_form
described-is op Absent fits is = (suits-default op fits, refl)
described-is op (InForm form) fits is = may_or (may_have op form) refl
  where
    may_or : (b : Bool) → may_have op form ≡ b → IfSome (if b then Some (op, form) else None) IsDescribed
    may_or true may = (suits-form op form fits is.sizes may, is.none)
    may_or false may = tt
described-is op (FloatingDescription unnormalized) fits is =
    some-map (λ n. n < 8) IsDescribed
    (λ n. (FloatingOperation (if unnormalized then n + 8 else n), default_form)) (floating_number op)
    (floating-below op) (λ n below. (floating-suits unnormalized n below, refl))

-- ---- progressive forms

form-below : (group : List ℕ) → IfSome (form_number group) (λ n. n < 8)
unfolding form_number progressive_forms
form-below [] = lit< tt
form-below (c ∷ cs) =
    let text = open_group (c ∷ cs) in
    elim (ends_with 41 (c ∷ cs)) as (λ b. IfSome (if b then row_of text progressive_forms else None) (λ n. n < 8)) [
      | true ↦ below_eight (row_of text progressive_forms) (row-passes (λ n. nat_lt n 8) text progressive_forms refl)
      | false ↦ tt
    ]
  where
    below_eight : (o : Option ℕ) → IfSome o (λ n. nat_lt n 8 ≡ true) → IfSome o (λ n. n < 8)
    below_eight (Some n) h = grind (arith, h)
    below_eight None h = tt

-- the rule of the immediate form: the field is not written and has at most 24 bits
abbrev MayProgress : Bool → Form → Type 0
MayProgress writing form = form.p ≡ 1 → (writing ≡ false) × (form.length ≤ 24)

abbrev Carries : Operation → Form → Type 0
Carries (VflOperation op negated) form = IsNumberForm form × MayProgress (writes_field (Variable op)) form
Carries (ConnectOperation kind truth) form =
    IsForm form × (truth < 16) × MayProgress (writes_field (Connective kind)) form
Carries (FloatingOperation number) form = number < 16
Carries (BitBranchOperation sense change) form = change < 4
Carries DataOperation form = IsNumberForm form
Carries _ form = Unit {0}

with-p : (form : Form) (n : ℕ) → IsForm form → n < 8 → IsForm (record form { p = n })
with-p form n is below = record {
  some_bits = is.some_bits;
  few_bits = is.few_bits;
  some_byte = is.some_byte;
  small_byte = is.small_byte;
  p_fits = below;
}

pub either : (a b : Bool) → (a || b) ≡ true → a ≡ false → b ≡ true
either true b e f = let no : ⊥ = cc in absurd no
either false b e f = e

may_immediate : (writing : Bool) (bits n : ℕ) → (n == 0 || (true && (not (n == 1) || (not writing && nat_le bits 24)))) ≡ true →
    n ≡ 1 → (writing ≡ false) × (bits ≤ 24)
may_immediate writing bits n may one =
    let not_none : (n == 0) ≡ false = grind arith in
    let no_other : not (n == 1) ≡ false = grind arith in
    let rest = either (n == 0) (true && (not (n == 1) || (not writing && nat_le bits 24))) may not_none in
    let second = (both-true true (not (n == 1) || (not writing && nat_le bits 24)) rest).1 in
    let third = either (not (n == 1)) (not writing && nat_le bits 24) second no_other in
    let parts = both-true (not writing) (nat_le bits 24) third in
    (not_false writing parts.0, grind (arith, parts.1))

carries-form : (op : Operation) (form : Form) (n : ℕ) → Suits op form → n < 8 → may_have_form op form.length n ≡ true →
    Carries op (record form { p = n })
unfolding may_have_form
carries-form (VflOperation op negated) form n suits below may = (
  record { sizes = with-p form n suits.sizes below; fits = suits.fits },
  may_immediate (writes_field (Variable op)) form.length n may,
)
carries-form (ConnectOperation kind truth) form n suits below may = (
  with-p form n suits.0 below,
  suits.1,
  may_immediate (writes_field (Connective kind)) form.length n may,
)
carries-form DataOperation form n suits below may =
    record { sizes = with-p form n suits.sizes below; fits = suits.fits }
carries-form (FloatingOperation number) form n suits below may = suits
carries-form (BitBranchOperation sense change) form n suits below may = suits
carries-form _ form n suits below may = tt

progressed-is : (op : Operation) (form : Form) (text : List ℕ) → Suits op form → IfSome (form_with_progress op form text) (Carries op)
unfolding form_with_progress
progressed-is op form text suits =
    elim (is_behind_groups (behind_group text)) as (λ b. IfSome (if b then option_and_then (form_with_number op form) (form_number (group text)) else None) (Carries op)) [
      | true ↦ some-then (λ n. n < 8) (Carries op) (form_with_number op form) (form_number (group text)) (form-below (group text))
          (λ n below. may_or n below (may_have_form op form.length n) refl)
      | false ↦ tt
    ]
  where
    may_or : (n : ℕ) → n < 8 → (b : Bool) → may_have_form op form.length n ≡ b →
        IfSome (if b then Some (record form { p = n }) else None) (Carries op)
    may_or n below true may = carries-form op form n suits below may
    may_or n below false may = tt

-- ---- fields

index-is : (field : List ℕ) → IfOk (index_field field) (λ j. j < 16)
unfolding index_field
index-is field = some-ok (λ j. j < 16) (row_of field index_fields) BadIndex (index_below field)

-- an index part is below 16, and where one is required it is that of an index word
abbrev IsIndex : Bool → ℕ → Type 0
IsIndex must i = (i < 16) × (must ≡ true → 1 ≤ i)

part-is : (must : Bool) (part : List ℕ) → IfOk (index_named must part) (IsIndex must)
unfolding index_named index_parts
part-is true [] = tt
part-is false [] = (lit< tt, λ e. let no : ⊥ = cc in absurd no)
part-is must (c ∷ cs) =
    some-ok (IsIndex must) (row_of (c ∷ cs) index_parts) BadIndex
    (index_or (row_of (c ∷ cs) index_parts) (row-passes (λ i. nat_lt i 16 && nat_le 1 i) (c ∷ cs) index_parts refl))
  where
    index_or : (o : Option ℕ) → IfSome o (λ i. (nat_lt i 16 && nat_le 1 i) ≡ true) → IfSome o (IsIndex must)
    index_or None h = tt
    index_or (Some i) h =
        let parts = both-true (nat_lt i 16) (nat_le 1 i) h in
        (grind (arith, parts.0), λ e. grind (arith, parts.1))

spot-is : (must : Bool) (field : List ℕ) → IfOk (spot must field) (λ at. IsIndex must at.index)
unfolding spot
spot-is must field =
    ok-mapped (λ p. Unit {0} × IsIndex must p.1) (λ at. IsIndex must at.index) (λ p. record { expr = p.0; index = p.1 })
    (both_of (expr_of (field_front field)) (index_named must (index_part field)))
    (ok-both (λ _. Unit {0}) (IsIndex must) (expr_of (field_front field)) (index_named must (index_part field))
    (ok-any (expr_of (field_front field))) (part-is must (index_part field)))
    (λ p q. q.1)

alone-is : {A : Type 0} (P : A → Type 0) (read : List ℕ → Result A Fault) → ((field : List ℕ) → IfOk (read field) P) → (fields : List (List ℕ)) →
    IfOk (alone read fields) P
unfolding alone
alone-is P read is [] = tt
alone-is P read is (field ∷ []) = is field
alone-is P read is (field ∷ second ∷ more) = tt

two-is : {A B : Type 0} (P : A → Type 0) (Q : B → Type 0) (first : List ℕ → Result A Fault) (second : List ℕ → Result B Fault) →
    ((field : List ℕ) → IfOk (first field) P) → ((field : List ℕ) → IfOk (second field) Q) → (fields : List (List ℕ)) →
    IfOk (two first second fields) (λ p. P p.0 × Q p.1)
unfolding two
two-is P Q first second is js [] = tt
two-is P Q first second is js (field ∷ []) = tt
two-is P Q first second is js (field ∷ other ∷ []) = ok-both P Q (first field) (second other) (is field) (js other)
two-is P Q first second is js (field ∷ other ∷ third ∷ more) = tt

spot_alone-is : (fields : List (List ℕ)) → IfOk (alone (spot false) fields) (λ at. IsIndex false at.index)
spot_alone-is = alone-is (λ at. IsIndex false at.index) (spot false) (spot-is false)

-- an address and an expression: the index word of the address is within its bounds
addresses-is : (fields : List (List ℕ)) → IfOk (two (spot false) expression fields) (λ p. IsIndex false p.0.index × Unit {0})
addresses-is = two-is (λ at. IsIndex false at.index) (λ _. Unit {0}) (spot false) expression (spot-is false) (λ field. ok-any (expression field))

followed-is : (fields : List (List ℕ)) → IfOk (followed (spot false) (two expression plain_number) fields) (λ p. IsIndex false p.0.index × Unit {0})
unfolding followed
followed-is [] = tt
followed-is (field ∷ more) =
    ok-both (λ at. IsIndex false at.index) (λ _. Unit {0}) (spot false field) (two expression plain_number more) (spot-is false field)
    (ok-any (two expression plain_number more))

index_and_list-is : (fields : List (List ℕ)) → IfOk (index_and_list fields) (λ p. (p.0 < 16) × Unit {0})
unfolding index_and_list
index_and_list-is [] = tt
index_and_list-is (j ∷ []) = tt
index_and_list-is (j ∷ k ∷ ks) =
    elim (nat_le (length ks) 14) as (λ b. IfOk (if b then both_of (index_field j) (index_selector (k ∷ ks)) else Err BadFieldCount) (λ p. (p.0 < 16) × Unit {0})) [
      | true ↦ ok-both (λ j. j < 16) (λ _. Unit {0}) (index_field j) (index_selector (k ∷ ks)) (index-is j) (ok-any (index_selector (k ∷ ks)))
      | false ↦ tt
    ]

operand-is : (form : Form) (fields : List (List ℕ)) → IfOk (operand_spot form fields) (λ p. IsIndex (nat_le 2 form.p) p.0.index × Unit {0})
unfolding operand_spot with_number
operand-is form [] = tt
operand-is form (place ∷ []) =
    ok-both (λ at. IsIndex (nat_le 2 form.p) at.index) (λ _. Unit {0}) (spot (nat_le 2 form.p) place) (Ok 0)
    (spot-is (nat_le 2 form.p) place) tt
operand-is form (place ∷ offset ∷ []) =
    ok-both (λ at. IsIndex (nat_le 2 form.p) at.index) (λ _. Unit {0}) (spot (nat_le 2 form.p) place) (plain_number offset)
    (spot-is (nat_le 2 form.p) place) (ok-any (plain_number offset))
operand-is form (place ∷ offset ∷ third ∷ more) = tt

-- ---- statements

-- the progressive form is allowed
not_misused : (writing : Bool) (form : Form) (i : ℕ) → MayProgress writing form → IsIndex (nat_le 2 form.p) i →
    IsFalse (misuses_p writing form.p form.length i)
not_misused writing form i may is =
    both_false (immediate (form.p == 1) refl) (indexed (nat_le 2 form.p) refl)
  where
    both_false : {a b : Bool} → a ≡ false → b ≡ false → (a || b) ≡ false
    both_false e f = cc

    immediate : (b : Bool) → (form.p == 1) ≡ b → (b && (writing || nat_lt 24 form.length)) ≡ false
    immediate true e = let parts = may (grind (arith, e)) in two (parts.0) (grind (arith, parts.1))
      where
        two : {a b : Bool} → a ≡ false → b ≡ false → (true && (a || b)) ≡ false
        two e f = cc
    immediate false e = refl

    indexed : (b : Bool) → nat_le 2 form.p ≡ b → (b && i == 0) ≡ false
    indexed true e = let some = is.1 e in grind (arith, some)
    indexed false e = refl

with_fields-is : (op : Operation) (form : Form) (fields : List (List ℕ)) → Carries op form → IfOk (with_fields op form fields) IsWellFormed
unfolding with_fields without_fields
with_fields-is (HalfOperation op) form fields carries =
    ok-mapped (λ p. (p.0 < 16) × IsIndex false p.1.index) IsWellFormed (λ p. Half op p.0 p.1) (two index_field (spot false) fields)
    (two-is (λ j. j < 16) (λ at. IsIndex false at.index) index_field (spot false) index-is (spot-is false) fields) (λ p q. (q.0, q.1.0))
with_fields-is SumOperation form fields carries =
    ok-mapped (λ p. (p.0 < 16) × Unit {0}) IsWellFormed (λ p. Sum p.0 p.1) (index_and_list fields)
    (index_and_list-is fields) (λ p q. q.0)
with_fields-is RefillOperation form fields carries =
    ok-mapped (λ j. j < 16) IsWellFormed Refill (alone index_field fields) (alone-is (λ j. j < 16) index_field index-is fields) (λ j q. q)
with_fields-is ExecuteOperation form fields carries =
    ok-mapped (λ at. IsIndex false at.index) IsWellFormed (Half Ex 0) (alone (spot false) fields) (spot_alone-is fields) (λ at q. (lit< tt, q.0))
with_fields-is (BranchOperation op) form fields carries =
    ok-mapped (λ at. IsIndex false at.index) IsWellFormed (λ at. Branch op (Some at)) (alone (spot false) fields) (spot_alone-is fields) (λ at q. q.0)
with_fields-is (BareOperation op) form [] carries = tt
with_fields-is (BareOperation op) form (field ∷ more) carries = tt
with_fields-is (FloatingOperation number) form fields carries =
    ok-mapped (λ at. IsIndex false at.index) IsWellFormed (Floating number) (alone (spot false) fields) (spot_alone-is fields) (λ at q. (carries, q.0))
with_fields-is (VflOperation op negated) form fields carries =
    ok-mapped (λ p. IsIndex (nat_le 2 form.p) p.0.index × Unit {0}) IsWellFormed (λ p. Vfl op negated form p.0 p.1)
    (operand_spot form fields) (operand-is form fields)
    (λ p q. (carries.0, q.0.0, not_misused (writes_field (Variable op)) form p.0.index carries.1 q.0))
with_fields-is (ConnectOperation kind truth) form fields carries =
    ok-mapped (λ p. IsIndex (nat_le 2 form.p) p.0.index × Unit {0}) IsWellFormed (λ p. Connect kind truth form p.0 p.1)
    (operand_spot form fields) (operand-is form fields)
    (λ p q. (carries.0, q.0.0, carries.1, not_misused (writes_field (Connective kind)) form p.0.index carries.2 q.0))
with_fields-is (MoveOperation swap) form fields carries =
    ok-mapped (λ p. IsIndex false p.0.index × Unit {0}) IsWellFormed (λ p. Move swap p.0 p.1.0 p.1.1)
    (followed (spot false) (two expression plain_number) fields) (followed-is fields) (λ p q. q.0.0)
with_fields-is (BitBranchOperation sense change) form fields carries =
    ok-mapped (λ p. IsIndex false p.0.index × Unit {0}) IsWellFormed (λ p. BitBranch sense change p.0 p.1) (two (spot false) expression fields)
    (addresses-is fields) (λ p q. (q.0.0, carries))
with_fields-is (IndBranchOperation sense off) form fields carries =
    ok-mapped (λ p. IsIndex false p.0.index × Unit {0}) IsWellFormed (λ p. IndBranch sense off p.0 p.1) (two (spot false) expression fields)
    (addresses-is fields) (λ p q. q.0.0)
with_fields-is StoreCounterOperation form fields carries =
    ok-mapped (λ p. IsIndex false p.0.index × Unit {0}) IsWellFormed (λ p. StoreCounter p.0 p.1) (two (spot false) expression fields)
    (addresses-is fields) (λ p q. q.0.0)
with_fields-is (TransferOperation write) form fields carries =
    ok-mapped (λ p. IsIndex false p.0.index × Unit {0}) IsWellFormed (λ p. Transfer write p.0 p.1) (two (spot false) plain_number fields)
    (two-is (λ at. IsIndex false at.index) (λ _. Unit {0}) (spot false) plain_number (spot-is false) (λ field. ok-any (plain_number field)) fields)
    (λ p q. q.0.0)
with_fields-is DataOperation form fields carries =
    ok-mapped (λ _. Unit {0}) IsWellFormed (λ p. Data form p.0 p.1) (alone signed_number fields) (ok-any (alone signed_number fields))
    (λ p q. carries)
with_fields-is IndexWordOperation form fields carries =
    let read = followed expression (followed plain_number (with_number expression)) fields in
    ok-mapped (λ _. Unit {0}) IsWellFormed (λ p. IndexWord p.0 p.1.0 p.1.1.0 p.1.1.1) read (ok-any read) (λ p q. tt)
with_fields-is SynonymOperation form fields carries =
    ok-mapped (λ _. Unit {0}) IsWellFormed Synonym (alone expression fields) (ok-any (alone expression fields)) (λ p q. tt)
with_fields-is SetLocationOperation form fields carries =
    ok-mapped (λ _. Unit {0}) IsWellFormed SetLocation (alone expression fields) (ok-any (alone expression fields)) (λ p q. tt)
with_fields-is ReserveOperation form fields carries =
    ok-mapped (λ _. Unit {0}) IsWellFormed Reserve (alone expression fields) (ok-any (alone expression fields)) (λ p q. tt)
with_fields-is EndOperation form fields carries =
    ok-mapped (λ _. Unit {0}) IsWellFormed End (alone expression fields) (ok-any (alone expression fields)) (λ p q. tt)

formed-is : (op : Operation) (form : Form) (text : List ℕ) → Suits op form → IfOk (statement_in_form op form text) IsWellFormed
unfolding statement_in_form
formed-is op form text suits =
    some-judged (Carries op) IsWellFormed BadProgressive (form_with_progress op form text)
    (λ f. with_fields op f (fields_of (behind_group text))) (progressed-is op form text suits)
    (λ f is carries. with_fields-is op f (fields_of (behind_group text)) carries)

said-is : (op : Operation) (text : List ℕ) → fits_word op ≡ true → IfOk (reading_of_operation op text) IsWellFormed
unfolding reading_of_operation
said-is op text fits =
    some-judged IsDescribed IsWellFormed BadDataDescription
    (option_and_then (described_form op) (description_of (description_in text)))
    (λ d. statement_in_form d.0 d.1 (behind_description text))
    (some-then IsDescription IsDescribed (described_form op) (description_of (description_in text))
    (description-is (description_in text)) (λ d is. described-is op d fits is))
    (λ d is suits. formed-is d.0 d.1 (behind_description text) suits.0)

statement-is : (name text : List ℕ) → IfOk (statement_of name text) IsWellFormed
unfolding clean_statement_of
statement-is name text =
    let op = operation_of_word (operation_text (statement_text text)) in
    elim (is_misnamed name op) as (λ b. IfOk (if b then Err BadName
    else next_reading UnknownOperation op (λ found. reading_of_operation found (behind_word (statement_text text)))) IsWellFormed) [
      | true ↦ tt
      | false ↦ some-judged (λ o. fits_word o ≡ true) IsWellFormed UnknownOperation op
          (λ found. reading_of_operation found (behind_word (statement_text text))) (operation-fits (operation_text (statement_text text)))
          (λ o is fits. said-is o (behind_word (statement_text text)) fits)
    ]

-- a statement that was read is well formed
pub read-is : (name text : List ℕ) (s : Statement) → statement_of name text ≡ Ok s → IsWellFormed s
read-is name text s read = subst (λ r. IfOk r IsWellFormed) read (statement-is name text)

no_bad : (filled named : Bool) → filled ≡ true → (filled && not named) ≡ false → named ≡ true
no_bad true true e f = refl
no_bad true false e f = let no : ⊥ = cc in absurd no
no_bad false named e f = let no : ⊥ = cc in absurd no

named_or : (name text : List ℕ) (s : Statement) (b : Bool) → is_misnamed name (operation_of_word (operation_text (statement_text text))) ≡ b →
    is_filled name ≡ true →
    (if b then Err BadName else next_reading UnknownOperation (operation_of_word (operation_text (statement_text text)))
    (λ found. reading_of_operation found (behind_word (statement_text text)))) ≡ Ok s → is_name name ≡ true
unfolding is_misnamed
named_or name text s true misnamed filled e = let no : ⊥ = cc in absurd no
named_or name text s false misnamed filled e =
    no_bad (is_filled name) (is_name name) filled
    (either_false (is_filled name && not (is_name name))
    (option_map_or (misnames (is_filled name)) (operation_of_word (operation_text (statement_text text))) false) misnamed)

-- the name of a card that was read is valid, if there is one
pub read-named : (name text : List ℕ) (s : Statement) → statement_of name text ≡ Ok s → is_filled name ≡ true →
    is_name name ≡ true
unfolding clean_statement_of
read-named name text s read filled =
    named_or name text s (is_misnamed name (operation_of_word (operation_text (statement_text text)))) refl filled read
