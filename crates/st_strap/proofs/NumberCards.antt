-- A DD card with a decimal number is read as that number.
use Rattle.st_strap.proofs.Common.{◌≡◌, ◌<◌, ◌^◌, ◌==◌, ◌||◌, ℕ, true, false, List, [], ◌∷◌, ◌++◌, Option, Some, None, unwrap_or, if◌then◌else◌, length, take, drop, codes, decimal, Ok, Err, refl, ap, ◌∙◌, arith, take_all, drop_all, option_and_then, lacks, BadName, UnknownOperation, BadDataDescription, BadProgressive, group_length, group, behind_group, fields_of, operation_of_word, other_operations, next_reading, reading_map, modes, plain_form, number_to, in_mode, description_of, may_have, described_form, progressive_forms, open_group, is_form, description_in, behind_description, form_number, may_have_form, is_behind_groups, form_with_progress, last_open, index_start, field_front, index_part, reading_without_index, number_result, signed_of, signed_number, alone, with_fields, is_misnamed, statement_in_form, reading_of_operation, clean_statement_of, statement_of, Form, Data, decimal-digits, reading-decimal, digits-lack, low_other, high_other, lacks-ends, lacks-begins, lacks-parted, clean-is}
use Rattle.st_mnemonic.specs.declared.operations.Operation.TheVariants.{Data as DataOperation}

-- the form of a whole word
abbrev pub word_form : Form
word_form = plain_form false true 64 8

-- a field of digits has no index part
pub no_index_part : (text : List ℕ) → lacks 41 text ≡ true → index_start text ≡ length text
unfolding index_start
no_index_part text lack = ap (λ b. if b then unwrap_or (last_open text) (length text) else length text) (lacks-ends 41 text lack)

-- digits are read as a number without a sign
signed-decimal : (n : ℕ) → n < 2 ^ 64 → signed_of (decimal n) ≡ Ok (false, n)
unfolding signed_of number_result
signed-decimal n small =
    let ds = decimal-digits n small in
    let no_minus = lacks-begins 45 (decimal n) (digits-lack 45 (decimal n) (low_other 45 (omega arith)) ds) in
    let no_plus = lacks-begins 43 (decimal n) (digits-lack 43 (decimal n) (low_other 43 (omega arith)) ds) in
    let value = reading-decimal 18446744073709551615 n (omega arith) small in
    rw (no_minus, no_plus, value)

number-decimal : (n : ℕ) → n < 2 ^ 64 → signed_number (decimal n) ≡ Ok (false, n)
unfolding signed_number
number-decimal n small =
    let ds = decimal-digits n small in
    let start = no_index_part (decimal n) (digits-lack 41 (decimal n) (low_other 41 (omega arith)) ds) in
    let whole : field_front (decimal n) ≡ decimal n = ap (λ k. take k (decimal n)) start ∙ take_all (length (decimal n)) (decimal n) (omega arith) in
    let nothing : index_part (decimal n) ≡ [] = ap (λ k. drop k (decimal n)) start ∙ drop_all (length (decimal n)) (decimal n) (omega arith) in
    ap (λ (part : List ℕ). reading_without_index part (signed_of (field_front (decimal n)))) nothing
    ∙ (ap (λ (text : List ℕ). signed_of text) whole ∙ signed-decimal n small)

-- the field after the description is read as the number
field-read : (n : ℕ) → n < 2 ^ 64 → with_fields DataOperation word_form (fields_of (44 ∷ decimal n)) ≡ Ok (Data word_form false n)
unfolding with_fields alone fields_of
field-read n small =
    let ds = decimal-digits n small in
    let one = lacks-parted 44 (decimal n) (digits-lack 44 (decimal n) (low_other 44 (omega arith)) ds) in
    ap (λ (fields : List (List ℕ)). reading_map (λ p. Data word_form p.0 p.1) (alone signed_number fields)) one
    ∙ ap (λ r. reading_map (λ p. Data word_form p.0 p.1) r) (number-decimal n small)

-- a text that begins with a comma has no progressive form
pub is_behind_groups-comma : (text : List ℕ) → is_behind_groups (44 ∷ text) ≡ true
is_behind_groups-comma text = elim (length (44 ∷ text) == 0) as (λ b. (b || true) ≡ true) [ true ↦ refl | false ↦ refl ]

progressed-none : (text : List ℕ) → form_with_progress DataOperation word_form (44 ∷ text) ≡ Some word_form
unfolding form_with_progress group_length form_number may_have_form
progressed-none text = ap (λ b. if b then Some word_form else None) (is_behind_groups-comma text)

formed-read : (n : ℕ) → n < 2 ^ 64 → statement_in_form DataOperation word_form (44 ∷ decimal n) ≡ Ok (Data word_form false n)
unfolding statement_in_form group_length
formed-read n small =
    ap (λ (f : Option Form). next_reading BadProgressive f (λ f. with_fields DataOperation f (fields_of (behind_group (44 ∷ decimal n)))))
    (progressed-none (decimal n)) ∙ field-read n small

-- the length of the description
description-length : (text : List ℕ) → group_length (codes "(BU,64)," ++ text) ≡ 7
unfolding group_length
description-length text = omega arith

description-read : (text : List ℕ) → description_in (codes "(BU,64)," ++ text) ≡ codes "(BU,64)"
unfolding description_in open_group progressive_forms
description-read text =
    let whole : group (codes "(BU,64)," ++ text) ≡ codes "(BU,64)" =
    ap (λ n. take n (codes "(BU,64)," ++ text)) (description-length text) in
    ap (λ (g : List ℕ). if is_form g then [] else g) whole

description-behind : (text : List ℕ) → behind_description (codes "(BU,64)," ++ text) ≡ 44 ∷ text
unfolding behind_description open_group progressive_forms
description-behind text =
    let all = codes "(BU,64)," ++ text in
    let whole : group all ≡ codes "(BU,64)" = ap (λ n. take n all) (description-length text) in
    ap (λ (g : List ℕ). if is_form g then all else behind_group all) whole
    ∙ ap (λ n. drop n all) (description-length text)

described-read : option_and_then (described_form DataOperation) (description_of (codes "(BU,64)")) ≡ Some (DataOperation, word_form)
unfolding described_form description_of in_mode modes number_to may_have
described-read = refl

said-read : (n : ℕ) → n < 2 ^ 64 → reading_of_operation DataOperation (codes "(BU,64)," ++ decimal n) ≡ Ok (Data word_form false n)
unfolding reading_of_operation
said-read n small =
    let text = codes "(BU,64)," ++ decimal n in
    ap (λ (d : List ℕ). next_reading BadDataDescription (option_and_then (described_form DataOperation) (description_of d))
    (λ d. statement_in_form d.0 d.1 (behind_description text))) (description-read (decimal n))
    ∙ (ap (λ o. next_reading BadDataDescription o (λ d. statement_in_form d.0 d.1 (behind_description text))) described-read
    ∙ (ap (λ (t : List ℕ). statement_in_form DataOperation word_form t) (description-behind (decimal n)) ∙ formed-read n small))

data-operation : operation_of_word (codes "DD") ≡ Some DataOperation
unfolding operation_of_word other_operations
data-operation = refl

clean-read : (text : List ℕ) → clean_statement_of [] (codes "DD(BU,64)," ++ text) ≡ reading_of_operation DataOperation (codes "(BU,64)," ++ text)
unfolding clean_statement_of is_misnamed
clean-read text =
    ap (λ op. if is_misnamed [] op then Err BadName else next_reading UnknownOperation op (λ found. reading_of_operation found (codes "(BU,64)," ++ text))) data-operation

-- the text of a card with a number
abbrev pub number_card : ℕ → List ℕ
number_card n = codes "DD(BU,64)," ++ decimal n

-- the card of a number is read as that number
pub data-read : (n : ℕ) → n < 2 ^ 64 → statement_of [] (number_card n) ≡ Ok (Data word_form false n)
data-read n small =
    let ds = decimal-digits n small in
    let plain = clean-is (number_card n) (digits-lack 59 (decimal n) (high_other 59 (omega arith)) ds)
    (digits-lack 32 (decimal n) (low_other 32 (omega arith)) ds) in
    ap (λ (t : List ℕ). clean_statement_of [] t) plain ∙ (clean-read (decimal n) ∙ said-read n small)
