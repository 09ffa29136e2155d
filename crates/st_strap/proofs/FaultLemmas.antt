-- The first fault of a statement card is the one that counts.
use Rattle.st_strap.proofs.Common.{◌≡◌, ◌≤◌, ◌<◌, ◌||◌, ℕ, zero, suc, Bool, true, false, nat_lt, nat_le, List, [], ◌∷◌, ◌++◌, length, drop, replicate, Option, Some, None, is_none, Result, Ok, Err, refl, ap, sym, ◌∙◌, arith, if◌then◌else◌, list_any, zip, option_map, ok_or, nat_tests, is_filled, row_of, Fault, BadName, UnknownOperation, BadDataDescription, BadProgressive, BadFieldCount, BadExpression, BadIndex, NumberTooLarge, Bad, Large, Good, parts, any_bad, any_large, terms_of, expr_of, earlier_fault, both_of, reading_map, next_reading, statement_text, begins_with, behind_word, behind_description, field_front, index_part, index_fields, index_parts, index_field, index_named, spot, reading_without_index, expression, number_or_fault, number_result, plain_number, signed_of, signed_number, with_selected, index_selector, alone, two, followed, with_number, index_and_list, operand_spot, without_fields, with_fields, is_misnamed, statement_in_form, reading_of_operation, clean_statement_of, statement_of, Form, Operation, Statement, result_err}
use Rattle.arrayvec.specs.ArrayVec.{ArrayVec}
use Rattle.st_card.specs.Cards.{first_fault}
use Rattle.st_text.specs.declared.numbers.Reading.{Reading}
use Rattle.st_expr.specs.declared.terms.Term.{Term}
use Rattle.st_strap.specs.Faults.{Wanted, an_index_word, an_address, a_plain_address, a_number, a_signed_number, wanted_by, has_other_count, number_reading, without_sign, is_bad, is_large, lacks_expression, lacks_index, is_past, any_field, operation_named, described_in, progressed_in, fields_in, has_bad_progressive, field_faults, faults_behind, faults_on, wanted_in}
use Rattle.st_mnemonic.specs.declared.operations.Operation.TheVariants.{Half, Sum, Refill, Execute, Branch, Bare, Floating, Vfl, Connect, Move, BitBranch, IndBranch, StoreCounter, Transfer, Data, IndexWord, Synonym, SetLocation, Reserve, End}

-- the first fault of a field in the order of faults, given whether it has each
abbrev pub first-of : Bool → Bool → Bool → Bool → Option Fault
first-of c e i l = first_fault ((c, BadFieldCount) ∷ (e, BadExpression) ∷ (i, BadIndex) ∷ (l, NumberTooLarge) ∷ [])

-- the earlier of two optional faults
abbrev pub earliest : Option Fault → Option Fault → Option Fault
earliest None b = b
earliest (Some a) None = Some a
earliest (Some a) (Some b) = Some (earlier_fault a b)

pub first-joined : (c e i l d f j m : Bool) →
    earliest (first-of c e i l) (first-of d f j m) ≡ first-of (c || d) (e || f) (i || j) (l || m)
first-joined true e i l true f j m = refl
first-joined true e i l false true j m = refl
first-joined true e i l false false true m = refl
first-joined true e i l false false false true = refl
first-joined true e i l false false false false = refl
first-joined false true i l true f j m = refl
first-joined false true i l false true j m = refl
first-joined false true i l false false true m = refl
first-joined false true i l false false false true = refl
first-joined false true i l false false false false = refl
first-joined false false true l true f j m = refl
first-joined false false true l false true j m = refl
first-joined false false true l false false true m = refl
first-joined false false true l false false false true = refl
first-joined false false true l false false false false = refl
first-joined false false false true true f j m = refl
first-joined false false false true false true j m = refl
first-joined false false false true false false true m = refl
first-joined false false false true false false false true = refl
first-joined false false false true false false false false = refl
first-joined false false false false true f j m = refl
first-joined false false false false false true j m = refl
first-joined false false false false false false true m = refl
first-joined false false false false false false false true = refl
first-joined false false false false false false false false = refl

beside-index : (b l i : Bool) → earliest (first-of false b false l) (first-of false false i false) ≡ first-of false b i l
beside-index true true true = refl
beside-index true true false = refl
beside-index true false true = refl
beside-index true false false = refl
beside-index false true true = refl
beside-index false true false = refl
beside-index false false true = refl
beside-index false false false = refl

pub fault-both : {A B : Type 0} (a : Result A Fault) (b : Result B Fault) →
    result_err (both_of a b) ≡ earliest (result_err a) (result_err b)
fault-both (Ok a) (Ok b) = refl
fault-both (Ok a) (Err g) = refl
fault-both (Err f) (Ok b) = refl
fault-both (Err f) (Err g) = refl

pub fault-mapped : {A B : Type 0} (f : A → B) (r : Result A Fault) → result_err (reading_map f r) ≡ result_err r
fault-mapped f (Ok a) = refl
fault-mapped f (Err e) = refl

filled : (c : ℕ) (cs : List ℕ) → is_filled (c ∷ cs) ≡ true
filled c cs = grind (arith, nat_tests)

-- the fault of a field that should be of a kind
abbrev pub field-fault : Wanted → List ℕ → Option Fault
field-fault wanted field = first-of false (lacks_expression wanted field) (lacks_index wanted field) (is_past wanted field)

-- ---- each kind of field

row-fault : (o : Option ℕ) → result_err (ok_or o BadIndex) ≡ first-of false false (is_none o) false
row-fault None = refl
row-fault (Some n) = refl

pub index-fault : (field : List ℕ) → result_err (index_field field) ≡ field-fault an_index_word field
unfolding index_field
index-fault field = row-fault (row_of field index_fields)

must-fault : (must : Bool) → result_err {T = ℕ} (if must then Err BadIndex else Ok 0) ≡ first-of false false must false
must-fault true = refl
must-fault false = refl

part-fault : (must : Bool) (part : List ℕ) → result_err (index_named must part)
    ≡ first-of false false (if is_filled part then is_none (row_of part index_parts) else must) false
unfolding index_named
part-fault must [] = must-fault must
part-fault must (c ∷ cs) =
    row-fault (row_of (c ∷ cs) index_parts)
    ∙ ap (λ b. first-of false false (if b then is_none (row_of (c ∷ cs) index_parts) else must) false) (sym (filled c cs))

tests-fault : {A : Type 0} (b l : Bool) (a : A) →
    result_err (if b then Err BadExpression else (if l then Err NumberTooLarge else Ok a)) ≡ first-of false b false l
tests-fault true l a = refl
tests-fault false true a = refl
tests-fault false false a = refl

expr-fault : (text : List ℕ) → result_err (expr_of text) ≡ first-of false (any_bad (parts text)) false (any_large (parts text))
expr-fault text = tests-fault {A = ArrayVec Term} (any_bad (parts text)) (any_large (parts text)) (record { items = terms_of (parts text) })

pub address-fault : (must : Bool) (field : List ℕ) → result_err (spot must field) ≡ field-fault (an_address must) field
unfolding spot
address-fault must field =
    fault-mapped _ (both_of (expr_of (field_front field)) (index_named must (index_part field)))
    ∙ (fault-both (expr_of (field_front field)) (index_named must (index_part field))
    ∙ (ap (λ x. earliest x (result_err (index_named must (index_part field)))) (expr-fault (field_front field))
    ∙ (ap (λ x. earliest (first-of false (any_bad (parts (field_front field))) false (any_large (parts (field_front field)))) x) (part-fault must (index_part field))
    ∙ beside-index (any_bad (parts (field_front field))) (any_large (parts (field_front field))) (lacks_index (an_address must) field))))

-- the fault of an index part that is not allowed
excess : {A : Type 0} (c : ℕ) (cs : List ℕ) (value : Result A Fault) →
    result_err (reading_without_index (c ∷ cs) value) ≡ earliest (result_err value) (Some BadIndex)
excess c cs (Ok a) = refl
excess c cs (Err e) = refl

unindexed-fault : {A : Type 0} (part : List ℕ) (value : Result A Fault) (b l : Bool) → result_err value ≡ first-of false b false l →
    result_err (reading_without_index part value) ≡ first-of false b (is_filled part) l
unindexed-fault [] value b l is = is
unindexed-fault (c ∷ cs) value b l is =
    excess c cs value
    ∙ (ap (λ x. earliest x (Some BadIndex)) is
    ∙ (beside-index b l true ∙ ap (λ i. first-of false b i l) (sym (filled c cs))))

pub plain_address-fault : (field : List ℕ) → result_err (expression field) ≡ field-fault a_plain_address field
unfolding expression
plain_address-fault field = unindexed-fault (index_part field) (expr_of (field_front field)) _ _ (expr-fault (field_front field))

reading-fault : (r : Reading) → result_err (number_or_fault r) ≡ first-of false (is_bad r) false (is_large r)
reading-fault Bad = refl
reading-fault Large = refl
reading-fault (Good n) = refl

plain-fault : (text : List ℕ) → result_err (number_result text) ≡ first-of false (is_bad (number_reading text)) false (is_large (number_reading text))
unfolding number_result
plain-fault text = reading-fault (number_reading text)

pub number-fault : (field : List ℕ) → result_err (plain_number field) ≡ field-fault a_number field
unfolding plain_number
number-fault field = unindexed-fault (index_part field) (number_result (field_front field)) _ _ (plain-fault (field_front field))

signs-fault : (minus plus : Bool) (text : List ℕ) →
    result_err {T = Bool × ℕ} (if minus then reading_map (λ n. (true, n)) (number_result (drop 1 text))
    else (if plus then reading_map (λ n. (false, n)) (number_result (drop 1 text)) else reading_map (λ n. (false, n)) (number_result text)))
    ≡ result_err (number_result (if minus || plus then drop 1 text else text))
signs-fault true plus text = fault-mapped {B = Bool × ℕ} (λ n. (true, n)) (number_result (drop 1 text))
signs-fault false true text = fault-mapped {B = Bool × ℕ} (λ n. (false, n)) (number_result (drop 1 text))
signs-fault false false text = fault-mapped {B = Bool × ℕ} (λ n. (false, n)) (number_result text)

sign-fault : (text : List ℕ) →
    result_err (signed_of text) ≡ first-of false (is_bad (number_reading (without_sign text))) false (is_large (number_reading (without_sign text)))
unfolding signed_of
sign-fault text = signs-fault (begins_with 45 text) (begins_with 43 text) text ∙ plain-fault (without_sign text)

pub signed_number-fault : (field : List ℕ) → result_err (signed_number field) ≡ field-fault a_signed_number field
unfolding signed_number
signed_number-fault field = unindexed-fault (index_part field) (signed_of (field_front field)) _ _ (sign-fault (field_front field))

-- ---- several fields

-- the earliest fault of fields with their required kinds
abbrev pub fields-fault : List (Wanted × List ℕ) → Option Fault
fields-fault [] = None
fields-fault (p ∷ ps) = earliest (field-fault p.0 p.1) (fields-fault ps)

pub any-fault : (ps : List (Wanted × List ℕ)) → fields-fault ps
    ≡ first-of false (list_any (λ p. lacks_expression p.0 p.1) ps) (list_any (λ p. lacks_index p.0 p.1) ps) (list_any (λ p. is_past p.0 p.1) ps)
any-fault [] = refl
any-fault (p ∷ ps) =
    ap (λ x. earliest (field-fault p.0 p.1) x) (any-fault ps)
    ∙ first-joined false (lacks_expression p.0 p.1) (lacks_index p.0 p.1) (is_past p.0 p.1)
    false (list_any (λ p. lacks_expression p.0 p.1) ps) (list_any (λ p. lacks_index p.0 p.1) ps) (list_any (λ p. is_past p.0 p.1) ps)

-- the first fault of fields, including a wrong count
abbrev pub counted : List Wanted × List Wanted → List (List ℕ) → Option Fault
counted wanted fields = first-of (has_other_count wanted fields) (any_field lacks_expression wanted fields)
    (any_field lacks_index wanted fields) (any_field is_past wanted fields)

further-below : (a b : ℕ) → nat_lt (suc a) (suc b) ≡ nat_lt a b
further-below a b = grind (arith, nat_tests)

further-test : (n a b : ℕ) → (nat_lt (suc n) (suc a) || nat_lt (suc b) (suc n)) ≡ (nat_lt n a || nat_lt b n)
further-test n a b = rw (further-below n a, further-below b n) refl

too-many : (wanted : List Wanted × List Wanted) (fields : List (List ℕ)) → length (wanted.0 ++ wanted.1) < length fields →
    Some BadFieldCount ≡ counted wanted fields
too-many wanted fields more =
    let most = length (wanted.0 ++ wanted.1) in
    let above : nat_lt most (length fields) ≡ true = grind (arith, nat_tests) in
    let either : has_other_count wanted fields ≡ true =
    elim (nat_lt (length fields) (length wanted.0)) as (λ b. (b || nat_lt most (length fields)) ≡ true) [ true ↦ refl | false ↦ above ] in
    ap (λ b. first-of b (any_field lacks_expression wanted fields) (any_field lacks_index wanted fields) (any_field is_past wanted fields)) (sym either)

none-behind : (x : Option Fault) → earliest x None ≡ x
none-behind None = refl
none-behind (Some f) = refl

-- the faults of fields with one more field in front
one-more : (k : Wanted) (field : List ℕ) (ks ms : List Wanted) (fields : List (List ℕ)) →
    earliest (field-fault k field) (counted (ks, ms) fields) ≡ counted (k ∷ ks, ms) (field ∷ fields)
one-more k field ks ms fields =
    first-joined false (lacks_expression k field) (lacks_index k field) (is_past k field)
    (has_other_count (ks, ms) fields) (any_field lacks_expression (ks, ms) fields) (any_field lacks_index (ks, ms) fields) (any_field is_past (ks, ms) fields)
    ∙ ap (λ c. first-of c (any_field lacks_expression (k ∷ ks, ms) (field ∷ fields)) (any_field lacks_index (k ∷ ks, ms) (field ∷ fields))
    (any_field is_past (k ∷ ks, ms) (field ∷ fields))) (sym (further-test (length fields) (length ks) (length (ks ++ ms))))

pair-fault : {A B : Type 0} (a : Result A Fault) (b : Result B Fault) (k : Wanted) (field : List ℕ) (ks ms : List Wanted)
    (fields : List (List ℕ)) → result_err a ≡ field-fault k field → result_err b ≡ counted (ks, ms) fields →
    result_err (both_of a b) ≡ counted (k ∷ ks, ms) (field ∷ fields)
pair-fault a b k field ks ms fields first rest =
    fault-both a b
    ∙ (ap (λ x. earliest x (result_err b)) first
    ∙ (ap (λ x. earliest (field-fault k field) x) rest ∙ one-more k field ks ms fields))

one-fault : {A : Type 0} (a : Result A Fault) (k : Wanted) (field : List ℕ) → result_err a ≡ field-fault k field →
    result_err a ≡ counted (k ∷ [], []) (field ∷ [])
one-fault a k field is = is ∙ (sym (none-behind (field-fault k field)) ∙ one-more k field [] [] [])

-- ---- the fields of each kind of operation

alone-fault : {A : Type 0} (read : List ℕ → Result A Fault) (k : Wanted) → ((field : List ℕ) → result_err (read field) ≡ field-fault k field) →
    (fields : List (List ℕ)) → result_err (alone read fields) ≡ counted (k ∷ [], []) fields
unfolding alone
alone-fault read k is [] = refl
alone-fault read k is (a ∷ []) = one-fault (read a) k a (is a)
alone-fault read k is (a ∷ b ∷ more) = too-many (k ∷ [], []) (a ∷ b ∷ more) (omega arith)

two-fault : {A B : Type 0} (first : List ℕ → Result A Fault) (second : List ℕ → Result B Fault) (k l : Wanted) →
    ((field : List ℕ) → result_err (first field) ≡ field-fault k field) → ((field : List ℕ) → result_err (second field) ≡ field-fault l field) →
    (fields : List (List ℕ)) → result_err (two first second fields) ≡ counted (k ∷ l ∷ [], []) fields
unfolding two
two-fault first second k l is js [] = refl
two-fault first second k l is js (a ∷ []) = refl
two-fault first second k l is js (a ∷ b ∷ []) = pair-fault (first a) (second b) k a (l ∷ []) [] (b ∷ []) (is a) (one-fault (second b) l b (js b))
two-fault first second k l is js (a ∷ b ∷ c ∷ more) = too-many (k ∷ l ∷ [], []) (a ∷ b ∷ c ∷ more) (omega arith)

followed-fault : {A B : Type 0} (first : List ℕ → Result A Fault) (rest : List (List ℕ) → Result B Fault) (k : Wanted) (ks ms : List Wanted) →
    ((field : List ℕ) → result_err (first field) ≡ field-fault k field) → ((fields : List (List ℕ)) → result_err (rest fields) ≡ counted (ks, ms) fields) →
    Some BadFieldCount ≡ counted (k ∷ ks, ms) [] → (fields : List (List ℕ)) → result_err (followed first rest fields) ≡ counted (k ∷ ks, ms) fields
unfolding followed
followed-fault first rest k ks ms is js none [] = none
followed-fault first rest k ks ms is js none (a ∷ more) = pair-fault (first a) (rest more) k a ks ms more (is a) (js more)

with_number-fault : {A : Type 0} (read : List ℕ → Result A Fault) (k : Wanted) → ((field : List ℕ) → result_err (read field) ≡ field-fault k field) →
    (fields : List (List ℕ)) → result_err (with_number read fields) ≡ counted (k ∷ [], a_number ∷ []) fields
unfolding with_number
with_number-fault read k is [] = refl
with_number-fault read k is (a ∷ []) = pair-fault {B = ℕ} (read a) (Ok 0) k a [] (a_number ∷ []) [] (is a) refl
with_number-fault read k is (a ∷ b ∷ []) = pair-fault (read a) (plain_number b) k a [] (a_number ∷ []) (b ∷ []) (is a) (one-fault (plain_number b) a_number b (number-fault b))
with_number-fault read k is (a ∷ b ∷ c ∷ more) = too-many (k ∷ [], a_number ∷ []) (a ∷ b ∷ c ∷ more) (omega arith)

spot-fault : (fields : List (List ℕ)) → result_err (alone (spot false) fields) ≡ counted (an_address false ∷ [], []) fields
spot-fault = alone-fault (spot false) (an_address false) (address-fault false)

expression-fault : (fields : List (List ℕ)) → result_err (alone expression fields) ≡ counted (a_plain_address ∷ [], []) fields
expression-fault = alone-fault expression a_plain_address plain_address-fault

operand-fault : (form : Form) (fields : List (List ℕ)) →
    result_err (operand_spot form fields) ≡ counted (an_address (nat_le 2 form.p) ∷ [], a_number ∷ []) fields
unfolding operand_spot
operand-fault form = with_number-fault (spot (nat_le 2 form.p)) (an_address (nat_le 2 form.p)) (address-fault (nat_le 2 form.p))

addresses-fault : (fields : List (List ℕ)) → result_err (two (spot false) expression fields) ≡ counted (an_address false ∷ a_plain_address ∷ [], []) fields
addresses-fault = two-fault (spot false) expression (an_address false) a_plain_address (address-fault false) plain_address-fault

addresses_and_number-fault : (fields : List (List ℕ)) →
    result_err (followed (spot false) (two expression plain_number) fields) ≡ counted (an_address false ∷ a_plain_address ∷ a_number ∷ [], []) fields
addresses_and_number-fault = followed-fault (spot false) (two expression plain_number) (an_address false) (a_plain_address ∷ a_number ∷ []) []
    (address-fault false) (two-fault expression plain_number a_plain_address a_number plain_address-fault number-fault) refl

index_word-fault : (fields : List (List ℕ)) →
    result_err (followed expression (followed plain_number (with_number expression)) fields)
    ≡ counted (a_plain_address ∷ a_number ∷ a_plain_address ∷ [], a_number ∷ []) fields
index_word-fault = followed-fault expression (followed plain_number (with_number expression)) a_plain_address (a_number ∷ a_plain_address ∷ []) (a_number ∷ [])
    plain_address-fault (followed-fault plain_number (with_number expression) a_number (a_plain_address ∷ []) (a_number ∷ [])
    number-fault (with_number-fault expression a_plain_address plain_address-fault) refl) refl

without_fields-fault : (statement : Statement) (fields : List (List ℕ)) → result_err (without_fields statement fields) ≡ counted ([], []) fields
unfolding without_fields
without_fields-fault statement [] = refl
without_fields-fault statement (a ∷ more) = too-many ([], []) (a ∷ more) (omega arith)

-- the fault of a list of index words with one added
listed-fault : (a b : Result ℕ Fault) (i r : Bool) → result_err a ≡ first-of false false i false → result_err b ≡ first-of false false r false →
    result_err (with_selected a b) ≡ first-of false false (i || r) false
listed-fault (Ok j) (Ok list) false false first rest = refl
listed-fault (Ok j) (Ok list) false true first rest = let no : ⊥ = cc in absurd no
listed-fault (Ok j) b true r first rest = let no : ⊥ = cc in absurd no
listed-fault (Ok j) (Err e) false true first rest = refl
listed-fault (Ok j) (Err e) false false first rest = let no : ⊥ = cc in absurd no
listed-fault (Err e) b true r first rest = refl
listed-fault (Err e) b false r first rest = let no : ⊥ = cc in absurd no

abbrev none-such : List (List ℕ) → Bool
none-such fields = list_any (λ field. is_none (row_of field index_fields)) fields

selected-fault : (fields : List (List ℕ)) → result_err (index_selector fields) ≡ first-of false false (none-such fields) false
selected-fault [] = refl
selected-fault (field ∷ more) = listed-fault (index_field field) (index_selector more) (is_none (row_of field index_fields)) (none-such more)
    (index-fault field) (selected-fault more)

-- the earliest fault of index words
index_words-fault : (n : ℕ) (fields : List (List ℕ)) → length fields ≤ n →
    fields-fault (zip (replicate n an_index_word) fields) ≡ first-of false false (none-such fields) false
index_words-fault zero [] few = refl
index_words-fault (suc n) [] few = refl
index_words-fault zero (field ∷ more) few = let no : ⊥ = omega (arith, few) in absurd no
index_words-fault (suc n) (field ∷ more) few =
    ap (λ x. earliest (field-fault an_index_word field) x) (index_words-fault n more (omega (arith, few)))
    ∙ first-joined false false (is_none (row_of field index_fields)) false false false (none-such more) false

-- the fault of fields whose count is right
right-count : (wanted : List Wanted × List Wanted) (fields : List (List ℕ)) → has_other_count wanted fields ≡ false →
    fields-fault (zip (wanted.0 ++ wanted.1) fields) ≡ counted wanted fields
right-count wanted fields right =
    any-fault (zip (wanted.0 ++ wanted.1) fields)
    ∙ ap (λ c. first-of c (any_field lacks_expression wanted fields) (any_field lacks_index wanted fields) (any_field is_past wanted fields)) (sym right)

few-listed : (n : ℕ) → nat_le n 14 ≡ true → (nat_lt (suc n) 1 || nat_lt 15 (suc n)) ≡ false
few-listed n few =
    let some : nat_lt (suc n) 1 ≡ false = grind (arith, nat_tests) in
    let room : nat_lt 15 (suc n) ≡ false = grind (arith, nat_tests) in
    rw (some, room) refl

index_and_list-fault : (fields : List (List ℕ)) →
    result_err (index_and_list fields) ≡ counted (replicate 2 an_index_word, replicate 14 an_index_word) fields
unfolding index_and_list
index_and_list-fault [] = refl
index_and_list-fault (j ∷ []) = refl
index_and_list-fault (j ∷ k ∷ ks) =
    let wanted : List Wanted × List Wanted = (replicate 2 an_index_word, replicate 14 an_index_word) in
    let step : (b : Bool) → nat_le (length ks) 14 ≡ b →
    result_err (if b then both_of (index_field j) (index_selector (k ∷ ks)) else Err BadFieldCount) ≡ counted wanted (j ∷ k ∷ ks) =
    λ b. elim b as (λ v. nat_le (length ks) 14 ≡ v →
    result_err (if v then both_of (index_field j) (index_selector (k ∷ ks)) else Err BadFieldCount) ≡ counted wanted (j ∷ k ∷ ks)) [
      | true ↦ λ few. pair-fault (index_field j) (index_selector (k ∷ ks)) an_index_word j (an_index_word ∷ []) (replicate 14 an_index_word) (k ∷ ks)
          (index-fault j)
          (selected-fault (k ∷ ks)
          ∙ (sym (index_words-fault 15 (k ∷ ks) (grind (arith, nat_tests)))
          ∙ right-count (an_index_word ∷ [], replicate 14 an_index_word) (k ∷ ks) (few-listed (length ks) few)))
      | false ↦ λ many. too-many wanted (j ∷ k ∷ ks) (grind (arith, nat_tests))
    ] in
    step (nat_le (length ks) 14) refl

-- ---- the whole card

fields-of-fault : (op : Operation) (form : Form) (fields : List (List ℕ)) → result_err (with_fields op form fields) ≡ counted (wanted_by op form) fields
unfolding with_fields
fields-of-fault (Half op) form fields = fault-mapped _ (two index_field (spot false) fields)
    ∙ two-fault index_field (spot false) an_index_word (an_address false) index-fault (address-fault false) fields
fields-of-fault Sum form fields = fault-mapped _ (index_and_list fields) ∙ index_and_list-fault fields
fields-of-fault Refill form fields = fault-mapped _ (alone index_field fields) ∙ alone-fault index_field an_index_word index-fault fields
fields-of-fault Execute form fields = fault-mapped _ (alone (spot false) fields) ∙ spot-fault fields
fields-of-fault (Branch op) form fields = fault-mapped _ (alone (spot false) fields) ∙ spot-fault fields
fields-of-fault (Bare op) form fields = without_fields-fault _ fields
fields-of-fault (Floating number) form fields = fault-mapped _ (alone (spot false) fields) ∙ spot-fault fields
fields-of-fault (Vfl op negated) form fields = fault-mapped _ (operand_spot form fields) ∙ operand-fault form fields
fields-of-fault (Connect kind table) form fields = fault-mapped _ (operand_spot form fields) ∙ operand-fault form fields
fields-of-fault (Move swap) form fields = fault-mapped _ (followed (spot false) (two expression plain_number) fields) ∙ addresses_and_number-fault fields
fields-of-fault (BitBranch sense change) form fields = fault-mapped _ (two (spot false) expression fields) ∙ addresses-fault fields
fields-of-fault (IndBranch sense off) form fields = fault-mapped _ (two (spot false) expression fields) ∙ addresses-fault fields
fields-of-fault StoreCounter form fields = fault-mapped _ (two (spot false) expression fields) ∙ addresses-fault fields
fields-of-fault (Transfer write) form fields = fault-mapped _ (two (spot false) plain_number fields)
    ∙ two-fault (spot false) plain_number (an_address false) a_number (address-fault false) number-fault fields
fields-of-fault Data form fields = fault-mapped _ (alone signed_number fields) ∙ alone-fault signed_number a_signed_number signed_number-fault fields
fields-of-fault IndexWord form fields = fault-mapped _ (followed expression (followed plain_number (with_number expression)) fields) ∙ index_word-fault fields
fields-of-fault Synonym form fields = fault-mapped _ (alone expression fields) ∙ expression-fault fields
fields-of-fault SetLocation form fields = fault-mapped _ (alone expression fields) ∙ expression-fault fields
fields-of-fault Reserve form fields = fault-mapped _ (alone expression fields) ∙ expression-fault fields
fields-of-fault End form fields = fault-mapped _ (alone expression fields) ∙ expression-fault fields

progressed-fault : (p : Option Form) (op : Operation) (fields : List (List ℕ)) →
    result_err (next_reading BadProgressive p (λ f. with_fields op f fields))
    ≡ first_fault ((is_none p, BadProgressive) ∷ field_faults (option_map (λ f. wanted_by op f) p) fields)
progressed-fault None op fields = refl
progressed-fault (Some form) op fields = fields-of-fault op form fields

described-fault : (m : Option (Operation × Form)) (text : List ℕ) →
    result_err (next_reading BadDataDescription m (λ d. statement_in_form d.0 d.1 (behind_description text)))
    ≡ first_fault ((is_none m, BadDataDescription) ∷ (has_bad_progressive text m, BadProgressive) ∷ field_faults (wanted_in text m) (fields_in text))
unfolding statement_in_form
described-fault None text = refl
described-fault (Some d) text = progressed-fault (progressed_in text d) d.0 (fields_in text)

said-fault : (op : Operation) (text : List ℕ) → result_err (reading_of_operation op text) ≡ first_fault (faults_behind (Some op) text)
unfolding reading_of_operation
said-fault op text = described-fault (described_in text op) text

named-fault : (b : Bool) (o : Option Operation) (text : List ℕ) →
    result_err (if b then Err BadName else next_reading UnknownOperation o (λ op. reading_of_operation op text))
    ≡ first_fault ((b, BadName) ∷ (is_none o, UnknownOperation) ∷ faults_behind o text)
named-fault true o text = refl
named-fault false None text = refl
named-fault false (Some op) text = said-fault op text

-- the fault of a card is the first that it has in the order of faults
pub card-fault : (name text : List ℕ) → result_err (statement_of name text) ≡ first_fault (faults_on name text)
unfolding clean_statement_of
card-fault name text =
    let op = operation_named (statement_text text) in named-fault (is_misnamed name op) op (behind_word (statement_text text))
