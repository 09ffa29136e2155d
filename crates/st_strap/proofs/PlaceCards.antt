-- The cards that set the location counter and that end a program are read with their operands as
-- bit addresses.
use Rattle.st_strap.proofs.Common.{◌≡◌, ◌≤◌, ◌<◌, ◌+◌, ◌*◌, ◌^◌, ◌==◌, ◌&&◌, ℕ, Bool, true, false, not, nat_le, List, [], ◌∷◌, ◌++◌, Option, Some, None, if◌then◌else◌, length, take, drop, codes, decimal, Ok, Err, refl, ap, ◌∙◌, append_assoc, arith, nat_tests, take_all, drop_all, list_all-append, list_all, is_filled, reading, pieces_of, onto_first, lacks, BadName, UnknownOperation, BadProgressive, Good, is_name_byte, is_name, is_system_word, onto_part, parts_after, parts, expr_in, expr_of, statement_text, group_length, fields_of, operation_of_word, other_operations, next_reading, reading_map, default_form, description_of, described_form, progressive_forms, open_group, description_in, behind_description, form_number, may_have_form, form_with_progress, field_front, index_part, reading_without_index, expression, number_expr, alone, with_fields, is_misnamed, statement_in_form, reading_of_operation, clean_statement_of, statement_of, Form, SetLocation, End, Operation, AreDigits, decimal-digits, reading-decimal, unequal, digits-lack, IsOther, low_other, high_other, lacks-parted, clean-is}
use Rattle.std.proofs.lemmas.Bool.{and_parts as both, and_from as and_true}
use Rattle.std.specs.Char.{is_ascii_digit, is_ascii_uppercase}
use Rattle.st_expr.specs.Term.{atom_of, place_reading, bit_reading}
use Rattle.st_mnemonic.specs.declared.operations.Operation.TheVariants.{SetLocation as SetLocationOperation, End as EndOperation}
use Rattle.st_strap.proofs.NumberCards.{no_index_part, is_behind_groups-comma}

-- the text of word w and bit b
abbrev pub place_text : ℕ → ℕ → List ℕ
place_text w b = decimal w ++ 46 ∷ decimal b

-- the text of a word and a bit has only digits and a point
pub place-lacks : (at w b : ℕ) → IsOther at → not (46 == at) ≡ true → w < 2 ^ 64 → b < 2 ^ 64 → lacks at (place_text w b) ≡ true
place-lacks at w b other point small_w small_b =
    list_all-append (λ c. not (c == at)) (decimal w) (46 ∷ decimal b)
    ∙ and_true (lacks at (decimal w)) (lacks at (46 ∷ decimal b)) (digits-lack at (decimal w) other (decimal-digits w small_w))
    (and_true (not (46 == at)) (lacks at (decimal b)) point (digits-lack at (decimal b) other (decimal-digits b small_b)))

-- a text without signs is one part
parts_after-plain : (m : Bool) (text : List ℕ) → lacks 43 text ≡ true → lacks 45 text ≡ true → parts_after m text ≡ (m, text) ∷ []
parts_after-plain m [] plus minus = refl
parts_after-plain m (c ∷ cs) plus minus =
    let p = both (not (c == 43)) (lacks 43 cs) plus in
    let q = both (not (c == 45)) (lacks 45 cs) minus in
    let step = λ (x y : Bool). if x then (m, []) ∷ parts_after false cs
    else (if y then (m, []) ∷ parts_after true cs else onto_part c (parts_after m cs)) in
    ap (λ x. step x (c == 45)) (unequal (c == 43) p.0)
    ∙ (ap (λ y. step false y) (unequal (c == 45) q.0) ∙ ap (λ ps. onto_part c ps) (parts_after-plain m cs p.1 q.1))

parts-plain : (text : List ℕ) → lacks 43 text ≡ true → lacks 45 text ≡ true → parts text ≡ (false, text) ∷ []
parts-plain [] plus minus = refl
parts-plain (c ∷ cs) plus minus =
    let p = both (not (c == 43)) (lacks 43 cs) plus in
    let q = both (not (c == 45)) (lacks 45 cs) minus in
    let step = λ (x y : Bool). if x then parts_after false cs
    else (if y then parts_after true cs else parts_after false (c ∷ cs)) in
    ap (λ x. step x (c == 45)) (unequal (c == 43) p.0)
    ∙ (ap (λ y. step false y) (unequal (c == 45) q.0) ∙ parts_after-plain false (c ∷ cs) plus minus)

-- a text that begins with a digit is not a name
no_letter : (c : ℕ) → is_ascii_digit c ≡ true → is_ascii_uppercase c ≡ false
no_letter c digit = grind (arith, nat_tests)

no_dollar : (c : ℕ) → is_ascii_digit c ≡ true → (c == 36) ≡ false
no_dollar c digit = grind (arith, nat_tests)

no_name : (ds rest : List ℕ) → AreDigits ds → is_name (ds ++ rest) ≡ false
no_name [] rest digits = let some = digits.some in let no : ⊥ = omega (arith, some) in absurd no
no_name (c ∷ cs) rest digits =
    let first = (both (is_ascii_digit c) (list_all is_ascii_digit cs) digits.each).0 in
    ap (λ b. b && list_all is_name_byte (cs ++ rest) && nat_le (length (cs ++ rest)) 7) (no_letter c first)

no_system_word : (ds rest : List ℕ) → AreDigits ds → is_system_word (ds ++ rest) ≡ false
no_system_word [] rest digits = let some = digits.some in let no : ⊥ = omega (arith, some) in absurd no
no_system_word (c ∷ cs) rest digits =
    let first = (both (is_ascii_digit c) (list_all is_ascii_digit cs) digits.each).0 in
    ap (λ b. b && is_filled (cs ++ rest) && list_all is_name_byte (cs ++ rest) && nat_le (length (cs ++ rest)) 7) (no_dollar c first)

-- a text is split at a byte that it contains once
pub parted-once : (at : ℕ) (ahead back : List ℕ) → lacks at ahead ≡ true → pieces_of at (ahead ++ at ∷ back) ≡ ahead ∷ pieces_of at back
parted-once at [] back lack =
    let same : (at == at) ≡ true = grind (arith, nat_tests) in
    ap (λ b. if b then [] ∷ pieces_of at back else onto_first at (pieces_of at back)) same
parted-once at (c ∷ cs) back lack =
    let tests = both (not (c == at)) (lacks at cs) lack in
    ap (λ b. if b then [] ∷ pieces_of at (cs ++ at ∷ back) else onto_first c (pieces_of at (cs ++ at ∷ back))) (unequal (c == at) tests.0)
    ∙ ap (λ (ps : List (List ℕ)). onto_first c ps) (parted-once at cs back tests.1)

-- the text of a word and a bit is read as that word and that bit
place-pieces : (w b : ℕ) → w ≤ 262143 → b ≤ 63 → place_reading (pieces_of 46 (place_text w b)) ≡ bit_reading (Good w) (Good b)
place-pieces w b fits_w fits_b =
    let ds = decimal-digits w (omega arith) in
    let bs = decimal-digits b (omega arith) in
    let cut : pieces_of 46 (place_text w b) ≡ decimal w ∷ decimal b ∷ [] =
    parted-once 46 (decimal w) (decimal b) (digits-lack 46 (decimal w) (low_other 46 (omega arith)) ds)
    ∙ ap (λ (ps : List (List ℕ)). decimal w ∷ ps) (lacks-parted 46 (decimal b) (digits-lack 46 (decimal b) (low_other 46 (omega arith)) bs)) in
    ap (λ (ps : List (List ℕ)). place_reading ps) cut
    ∙ (ap (λ r. bit_reading r (reading 63 (decimal b))) (reading-decimal 262143 w fits_w (omega arith))
    ∙ ap (λ r. bit_reading (Good w) r) (reading-decimal 63 b fits_b (omega arith)))

place-atom : (w b : ℕ) → w ≤ 262143 → b ≤ 63 → atom_of (place_text w b) ≡ bit_reading (Good w) (Good b)
place-atom w b fits_w fits_b =
    let ds = decimal-digits w (omega arith) in
    let word = no_name (decimal w) (46 ∷ decimal b) ds in
    let system = no_system_word (decimal w) (46 ∷ decimal b) ds in
    let pieces = place-pieces w b fits_w fits_b in
    rw (word, system, pieces)

one_good : (text : List ℕ) (w b : ℕ) → atom_of text ≡ bit_reading (Good w) (Good b) →
    expr_in ((false, text) ∷ []) ≡ Ok (number_expr (64 * w + b))
one_good text w b good = rw good

pub place-expr : (w b : ℕ) → w ≤ 262143 → b ≤ 63 → expr_of (place_text w b) ≡ Ok (number_expr (64 * w + b))
place-expr w b fits_w fits_b =
    let text = place_text w b in
    let no_plus = place-lacks 43 w b (low_other 43 (omega arith)) refl (omega arith) (omega arith) in
    let no_minus = place-lacks 45 w b (low_other 45 (omega arith)) refl (omega arith) (omega arith) in
    ap (λ (ps : List (Bool × List ℕ)). expr_in ps) (parts-plain text no_plus no_minus)
    ∙ one_good text w b (place-atom w b fits_w fits_b)

place-expression : (w b : ℕ) → w ≤ 262143 → b ≤ 63 → expression (place_text w b) ≡ Ok (number_expr (64 * w + b))
unfolding expression
place-expression w b fits_w fits_b =
    let text = place_text w b in
    let start = no_index_part text (place-lacks 41 w b (low_other 41 (omega arith)) refl (omega arith) (omega arith)) in
    let whole : field_front text ≡ text = ap (λ k. take k text) start ∙ take_all (length text) text (omega arith) in
    let nothing : index_part text ≡ [] = ap (λ k. drop k text) start ∙ drop_all (length text) text (omega arith) in
    ap (λ (part : List ℕ). reading_without_index part (expr_of (field_front text))) nothing
    ∙ (ap (λ (t : List ℕ). expr_of t) whole ∙ place-expr w b fits_w fits_b)

-- the single field of a card with an address
place-field : (w b : ℕ) → w ≤ 262143 → b ≤ 63 →
    alone expression (fields_of (44 ∷ place_text w b)) ≡ Ok (number_expr (64 * w + b))
unfolding alone fields_of
place-field w b fits_w fits_b =
    ap (λ (fields : List (List ℕ)). alone expression fields)
    (lacks-parted 44 (place_text w b) (place-lacks 44 w b (low_other 44 (omega arith)) refl (omega arith) (omega arith)))
    ∙ place-expression w b fits_w fits_b

-- the form of an operation without description and progressive form
plain-progressed : (op : Operation) (text : List ℕ) → form_with_progress op default_form (44 ∷ text) ≡ Some default_form
unfolding form_with_progress group_length form_number may_have_form
plain-progressed op text = ap (λ b. if b then Some default_form else None) (is_behind_groups-comma text)

pub plain-said : (op : Operation) (text : List ℕ) → reading_of_operation op (44 ∷ text) ≡ with_fields op default_form (fields_of (44 ∷ text))
unfolding reading_of_operation description_in behind_description group_length open_group progressive_forms description_of described_form statement_in_form
plain-said op text =
    ap (λ (f : Option Form). next_reading BadProgressive f (λ f. with_fields op f (fields_of (44 ∷ text)))) (plain-progressed op text)

set-operation : operation_of_word (codes "SLC") ≡ Some SetLocationOperation
unfolding operation_of_word other_operations
set-operation = refl

end-operation : operation_of_word (codes "END") ≡ Some EndOperation
unfolding operation_of_word other_operations
end-operation = refl

set-clean : (text : List ℕ) → clean_statement_of [] (codes "SLC," ++ text) ≡ reading_of_operation SetLocationOperation (44 ∷ text)
unfolding clean_statement_of is_misnamed
set-clean text =
    ap (λ op. if is_misnamed [] op then Err BadName else next_reading UnknownOperation op (λ found. reading_of_operation found (44 ∷ text))) set-operation

end-clean : (text : List ℕ) → clean_statement_of [] (codes "END," ++ text) ≡ reading_of_operation EndOperation (44 ∷ text)
unfolding clean_statement_of is_misnamed
end-clean text =
    ap (λ op. if is_misnamed [] op then Err BadName else next_reading UnknownOperation op (λ found. reading_of_operation found (44 ∷ text))) end-operation

set-fields : (w b : ℕ) → w ≤ 262143 → b ≤ 63 →
    with_fields SetLocationOperation default_form (fields_of (44 ∷ place_text w b)) ≡ Ok (SetLocation (number_expr (64 * w + b)))
unfolding with_fields
set-fields w b fits_w fits_b = ap (λ r. reading_map (λ at. SetLocation at) r) (place-field w b fits_w fits_b)

end-fields : (w b : ℕ) → w ≤ 262143 → b ≤ 63 →
    with_fields EndOperation default_form (fields_of (44 ∷ place_text w b)) ≡ Ok (End (number_expr (64 * w + b)))
unfolding with_fields
end-fields w b fits_w fits_b = ap (λ r. reading_map (λ at. End at) r) (place-field w b fits_w fits_b)

-- the card that sets the location counter, and the one that ends a program
pub set-read : (w b : ℕ) → w ≤ 262143 → b ≤ 63 →
    statement_of [] (codes "SLC," ++ decimal w ++ codes "." ++ decimal b) ≡ Ok (SetLocation (number_expr (64 * w + b)))
set-read w b fits_w fits_b =
    let text = codes "SLC," ++ place_text w b in
    let same : codes "SLC," ++ decimal w ++ codes "." ++ decimal b ≡ text = simp append_assoc refl in
    let plain : statement_text text ≡ text = clean-is text (place-lacks 59 w b (high_other 59 (omega arith)) refl (omega arith) (omega arith))
    (place-lacks 32 w b (low_other 32 (omega arith)) refl (omega arith) (omega arith)) in
    ap (λ (t : List ℕ). statement_of [] t) same
    ∙ (ap (λ (t : List ℕ). clean_statement_of [] t) plain
    ∙ (set-clean (place_text w b) ∙ (plain-said SetLocationOperation (place_text w b) ∙ set-fields w b fits_w fits_b)))

pub end-read : (w b : ℕ) → w ≤ 262143 → b ≤ 63 →
    statement_of [] (codes "END," ++ decimal w ++ codes "." ++ decimal b) ≡ Ok (End (number_expr (64 * w + b)))
end-read w b fits_w fits_b =
    let text = codes "END," ++ place_text w b in
    let same : codes "END," ++ decimal w ++ codes "." ++ decimal b ≡ text = simp append_assoc refl in
    let plain : statement_text text ≡ text = clean-is text (place-lacks 59 w b (high_other 59 (omega arith)) refl (omega arith) (omega arith))
    (place-lacks 32 w b (low_other 32 (omega arith)) refl (omega arith) (omega arith)) in
    ap (λ (t : List ℕ). statement_of [] t) same
    ∙ (ap (λ (t : List ℕ). clean_statement_of [] t) plain
    ∙ (end-clean (place_text w b) ∙ (plain-said EndOperation (place_text w b) ∙ end-fields w b fits_w fits_b)))
