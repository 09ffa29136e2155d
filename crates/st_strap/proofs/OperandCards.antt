-- Cards of operations on an index word and on a field are read as these operations, with their
-- index word, data description in parentheses, address of a word and a bit, and offset.
use Rattle.st_strap.proofs.Common.{◌≡◌, ◌≤◌, ◌<◌, ◌+◌, ◌-◌, ◌*◌, ◌^◌, ◌==◌, ◌||◌, ℕ, zero, suc, Bool, true, false, not, nat_lt, List, [], ◌∷◌, ◌++◌, Option, Some, None, is_some, if◌then◌else◌, length, take, drop, codes, decimal, Ok, Err, refl, ap, sym, ◌∙◌, append_assoc, length-append, arith, drop-append_seam, nat_tests, take_at, take_all, drop_all, list_all-append, option_map, option_and_then, Lvi, VPlusI, L, Add, St, MAdd1, Mul, pieces_of, lacks, row_of, BadName, UnknownOperation, BadDataDescription, BadProgressive, expr_of, stop, ends_with, statement_text, group_length, group, behind_group, fields_of, operation_of_word, other_operations, index_operations, field_operations, negated_operation, connective, connective_kinds, truth_tables, next_reading, reading_map, both_of, modes, plain_form, some_number, number_to, in_mode, in_pieces, description_of, may_have, described_form, progressive_forms, open_group, is_form, description_in, behind_description, form_number, may_have_form, form_with_progress, field_front, index_part, index_fields, index_parts, index_field, index_named, spot, reading_without_index, number_or_fault, number_result, plain_number, number_expr, index_start, two, with_number, operand_spot, without_fields, with_fields, is_misnamed, statement_in_form, reading_of_operation, clean_statement_of, statement_of, Form, Half, Branch, Vfl, Connect, Description, InForm, Operation, IsOther, decimal-digits, reading-decimal, digits-lack, unequal, low_other, high_other, lacks-parted, clean-is}
use Rattle.std.proofs.lemmas.Bool.{and_parts as both, and_from as and_true}
use Rattle.std.proofs.lemmas.Fmt.{decimal_digit}
use Rattle.st_bits.specs.declared.operations.HalfOp.{HalfOp}
use Rattle.st_bits.specs.declared.operations.BranchOp.TheVariants.{Bew}
use Rattle.st_bits.specs.declared.operations.VflOp.{VflOp}
use Rattle.st_bits.specs.declared.operations.ConnKind.TheVariants.{C}
use Rattle.st_strap.specs.Spots.{number_spot, operands_text, AreOperandNumbers, progressive_form}
use Rattle.st_mnemonic.specs.declared.operations.Operation.TheVariants.{Half as HalfOperation, Bare as BareOperation, Vfl as VflOperation, Connect as ConnectOperation}
use Rattle.st_strap.proofs.NumberCards.{no_index_part, is_behind_groups-comma}
use Rattle.st_strap.proofs.PlaceCards.{place_text, place-lacks, place-expr, parted-once, plain-said}

-- ---- bytes that texts lack

join : (at : ℕ) (a b : List ℕ) → lacks at a ≡ true → lacks at b ≡ true → lacks at (a ++ b) ≡ true
join at a b first second =
    list_all-append (λ c. not (c == at)) a b ∙ and_true (lacks at a) (lacks at b) first second

decimal-lacks : (at n : ℕ) → IsOther at → n < 2 ^ 64 → lacks at (decimal n) ≡ true
decimal-lacks at n other small = digits-lack at (decimal n) other (decimal-digits n small)

-- ---- fields

place-spot : (w b : ℕ) → w ≤ 262143 → b ≤ 63 → spot false (place_text w b) ≡ Ok (number_spot (64 * w + b) 0)
unfolding spot index_named
place-spot w b fits_w fits_b =
    let text = place_text w b in
    let start = no_index_part text (place-lacks 41 w b (low_other 41 (omega arith)) refl (omega arith) (omega arith)) in
    let whole : field_front text ≡ text = ap (λ k. take k text) start ∙ take_all (length text) text (omega arith) in
    let nothing : index_part text ≡ [] = ap (λ k. drop k text) start ∙ drop_all (length text) text (omega arith) in
    let value : expr_of (field_front text) ≡ Ok (number_expr (64 * w + b)) = ap (λ (t : List ℕ). expr_of t) whole ∙ place-expr w b fits_w fits_b in
    let none : index_named false (index_part text) ≡ Ok 0 = ap (λ (t : List ℕ). index_named false t) nothing in
    rw (value, none)

number-field : (n : ℕ) → n < 2 ^ 64 → plain_number (decimal n) ≡ Ok n
unfolding plain_number number_result
number-field n small =
    let text = decimal n in
    let start = no_index_part text (decimal-lacks 41 n (low_other 41 (omega arith)) small) in
    let whole : field_front text ≡ text = ap (λ k. take k text) start ∙ take_all (length text) text (omega arith) in
    let nothing : index_part text ≡ [] = ap (λ k. drop k text) start ∙ drop_all (length text) text (omega arith) in
    ap (λ (part : List ℕ). reading_without_index part (number_result (field_front text))) nothing
    ∙ (ap (λ (t : List ℕ). number_result t) whole ∙ ap (λ r. number_or_fault r) (reading-decimal 18446744073709551615 n (omega arith) small))

-- a property of each of the index words 1 to 7 holds of every number from 1 to 7
pub of_seven : (P : ℕ → Type 0) → P 1 → P 2 → P 3 → P 4 → P 5 → P 6 → P 7 → (j : ℕ) → 1 ≤ j → j ≤ 7 → P j
of_seven P a b c d e f g zero some few = let no : ⊥ = omega arith in absurd no
of_seven P a b c d e f g (suc zero) some few = a
of_seven P a b c d e f g (suc (suc zero)) some few = b
of_seven P a b c d e f g (suc (suc (suc zero))) some few = c
of_seven P a b c d e f g (suc (suc (suc (suc zero)))) some few = d
of_seven P a b c d e f g (suc (suc (suc (suc (suc zero))))) some few = e
of_seven P a b c d e f g (suc (suc (suc (suc (suc (suc zero)))))) some few = f
of_seven P a b c d e f g (suc (suc (suc (suc (suc (suc (suc zero))))))) some few = g
of_seven P a b c d e f g (suc (suc (suc (suc (suc (suc (suc (suc n)))))))) some few = let no : ⊥ = omega arith in absurd no

-- the text of an index word's field
abbrev index_text : ℕ → List ℕ
index_text j = 36 ∷ 88 ∷ decimal j

index-read : (j : ℕ) → 1 ≤ j → j ≤ 7 → index_field (index_text j) ≡ Ok j
unfolding index_field index_fields
index-read j some few =
    ap (λ (t : List ℕ). index_field (36 ∷ 88 ∷ t)) (decimal_digit j (omega arith))
    ∙ of_seven (λ k. index_field (36 ∷ 88 ∷ (48 + k) ∷ []) ≡ Ok k) refl refl refl refl refl refl refl j some few

-- ---- an index word and an address

index-fields-read : (j w b : ℕ) → j < 2 ^ 64 → w < 2 ^ 64 → b < 2 ^ 64 →
    fields_of (44 ∷ (index_text j ++ 44 ∷ place_text w b)) ≡ index_text j ∷ place_text w b ∷ []
unfolding fields_of
index-fields-read j w b small_j small_w small_b =
    parted-once 44 (index_text j) (place_text w b) (decimal-lacks 44 j (low_other 44 (omega arith)) small_j)
    ∙ ap (λ (ps : List (List ℕ)). index_text j ∷ ps)
    (lacks-parted 44 (place_text w b) (place-lacks 44 w b (low_other 44 (omega arith)) refl small_w small_b))

half-said : (op : HalfOp) (j w b : ℕ) → 1 ≤ j → j ≤ 7 → w ≤ 262143 → b ≤ 63 →
    reading_of_operation (HalfOperation op) (44 ∷ (index_text j ++ 44 ∷ place_text w b)) ≡ Ok (Half op j (number_spot (64 * w + b) 0))
unfolding with_fields two
half-said op j w b some few fits_w fits_b =
    plain-said (HalfOperation op) (index_text j ++ 44 ∷ place_text w b)
    ∙ (ap (λ (fields : List (List ℕ)). reading_map (λ p. Half op p.0 p.1) (two index_field (spot false) fields))
    (index-fields-read j w b (omega arith) (omega arith) (omega arith))
    ∙ (ap (λ r. reading_map (λ p. Half op p.0 p.1) (both_of r (spot false (place_text w b)))) (index-read j some few)
    ∙ ap (λ r. reading_map (λ p. Half op p.0 p.1) (both_of (Ok j) r)) (place-spot w b fits_w fits_b)))

lvi-operation : operation_of_word (codes "LVI") ≡ Some (HalfOperation Lvi)
unfolding operation_of_word other_operations index_operations
lvi-operation = refl

lvi-clean : (text : List ℕ) → clean_statement_of [] (codes "LVI," ++ text) ≡ reading_of_operation (HalfOperation Lvi) (44 ∷ text)
unfolding clean_statement_of is_misnamed
lvi-clean text =
    ap (λ op. if is_misnamed [] op then Err BadName else next_reading UnknownOperation op (λ found. reading_of_operation found (44 ∷ text))) lvi-operation

add_value-operation : operation_of_word (codes "V+I") ≡ Some (HalfOperation VPlusI)
unfolding operation_of_word other_operations index_operations
add_value-operation = refl

add_value-clean : (text : List ℕ) → clean_statement_of [] (codes "V+I," ++ text) ≡ reading_of_operation (HalfOperation VPlusI) (44 ∷ text)
unfolding clean_statement_of is_misnamed
add_value-clean text =
    ap (λ op. if is_misnamed [] op then Err BadName else next_reading UnknownOperation op (λ found. reading_of_operation found (44 ∷ text))) add_value-operation

-- the text of an index word and an address lacks every other byte
index-lacks : (at j w b : ℕ) → IsOther at → lacks at (codes "$X,.") ≡ true → j < 2 ^ 64 → w < 2 ^ 64 → b < 2 ^ 64 →
    lacks at (index_text j ++ 44 ∷ place_text w b) ≡ true
index-lacks at j w b other plain small_j small_w small_b =
    let dollar = both (not (36 == at)) (lacks at (codes "X,.")) plain in
    let letter = both (not (88 == at)) (lacks at (codes ",.")) dollar.1 in
    let comma = both (not (44 == at)) (lacks at (codes ".")) letter.1 in
    let point = both (not (46 == at)) true comma.1 in
    let index : lacks at (index_text j) ≡ true =
    and_true (not (36 == at)) (lacks at (88 ∷ decimal j)) dollar.0
    (and_true (not (88 == at)) (lacks at (decimal j)) letter.0 (decimal-lacks at j other small_j)) in
    join at (index_text j) (44 ∷ place_text w b) index
    (and_true (not (44 == at)) (lacks at (place_text w b)) comma.0 (place-lacks at w b other point.0 small_w small_b))

pub load_value-read : (j w : ℕ) → 1 ≤ j → j ≤ 7 → w ≤ 262143 →
    statement_of [] (codes "LVI,$X" ++ decimal j ++ codes "," ++ decimal w ++ codes ".0") ≡ Ok (Half Lvi j (number_spot (64 * w) 0))
load_value-read j w some few fits_w =
    let digit : decimal 0 ≡ 48 ∷ [] = decimal_digit 0 (omega arith) in
    let text = codes "LVI," ++ (index_text j ++ 44 ∷ (decimal w ++ 46 ∷ 48 ∷ [])) in
    let behind = index_text j ++ 44 ∷ place_text w 0 in
    let nested : codes "LVI,$X" ++ decimal j ++ codes "," ++ decimal w ++ codes ".0" ≡ text = simp append_assoc refl in
    let same : text ≡ codes "LVI," ++ behind = ap (λ (z : List ℕ). codes "LVI," ++ (index_text j ++ 44 ∷ (decimal w ++ 46 ∷ z))) (sym digit) in
    let plain : statement_text (codes "LVI," ++ behind) ≡ codes "LVI," ++ behind = clean-is (codes "LVI," ++ behind)
    (index-lacks 59 j w 0 (high_other 59 (omega arith)) refl (omega arith) (omega arith) (omega arith))
    (index-lacks 32 j w 0 (low_other 32 (omega arith)) refl (omega arith) (omega arith) (omega arith)) in
    let value : 64 * w + 0 ≡ 64 * w = omega arith in
    ap (λ (t : List ℕ). statement_of [] t) (nested ∙ same)
    ∙ (ap (λ (t : List ℕ). clean_statement_of [] t) plain
    ∙ (lvi-clean behind ∙ (half-said Lvi j w 0 some few fits_w (omega arith) ∙ ap (λ n. Ok (Half Lvi j (number_spot n 0))) value)))

pub add_value-read : (j w : ℕ) → 1 ≤ j → j ≤ 7 → w ≤ 262143 →
    statement_of [] (codes "V+I,$X" ++ decimal j ++ codes "," ++ decimal w ++ codes ".0") ≡ Ok (Half VPlusI j (number_spot (64 * w) 0))
add_value-read j w some few fits_w =
    let digit : decimal 0 ≡ 48 ∷ [] = decimal_digit 0 (omega arith) in
    let text = codes "V+I," ++ (index_text j ++ 44 ∷ (decimal w ++ 46 ∷ 48 ∷ [])) in
    let behind = index_text j ++ 44 ∷ place_text w 0 in
    let nested : codes "V+I,$X" ++ decimal j ++ codes "," ++ decimal w ++ codes ".0" ≡ text = simp append_assoc refl in
    let same : text ≡ codes "V+I," ++ behind = ap (λ (z : List ℕ). codes "V+I," ++ (index_text j ++ 44 ∷ (decimal w ++ 46 ∷ z))) (sym digit) in
    let plain : statement_text (codes "V+I," ++ behind) ≡ codes "V+I," ++ behind = clean-is (codes "V+I," ++ behind)
    (index-lacks 59 j w 0 (high_other 59 (omega arith)) refl (omega arith) (omega arith) (omega arith))
    (index-lacks 32 j w 0 (low_other 32 (omega arith)) refl (omega arith) (omega arith) (omega arith)) in
    let value : 64 * w + 0 ≡ 64 * w = omega arith in
    ap (λ (t : List ℕ). statement_of [] t) (nested ∙ same)
    ∙ (ap (λ (t : List ℕ). clean_statement_of [] t) plain
    ∙ (add_value-clean behind ∙ (half-said VPlusI j w 0 some few fits_w (omega arith) ∙ ap (λ n. Ok (Half VPlusI j (number_spot n 0))) value)))

-- ---- a group in parentheses

-- a text in parentheses
abbrev group_text : List ℕ → List ℕ
group_text inside = 40 ∷ (inside ++ 41 ∷ [])

stop-at : (at : ℕ) (ahead back : List ℕ) → lacks at ahead ≡ true → stop at at ((ahead ++ at ∷ []) ++ back) ≡ length ahead
stop-at at [] back lack =
    let same : (at == at) ≡ true = grind (arith, nat_tests) in
    ap (λ b. if b || b then 0 else stop at at back + 1) same
stop-at at (c ∷ cs) back lack =
    let tests = both (not (c == at)) (lacks at cs) lack in
    ap (λ b. if b || b then 0 else stop at at ((cs ++ at ∷ []) ++ back) + 1) (unequal (c == at) tests.0)
    ∙ (let rest = stop-at at cs back tests.1 in omega (arith, rest))

ends-append : (at : ℕ) (ahead : List ℕ) → ends_with at (ahead ++ at ∷ []) ≡ true
ends-append at [] = let same : (at == at) ≡ true = grind (arith, nat_tests) in same
ends-append at (c ∷ []) = ends-append at []
ends-append at (c ∷ d ∷ cs) = ends-append at (d ∷ cs)

module _ (inside : List ℕ) (lack : lacks 41 inside ≡ true) where
  group-length : (rest : List ℕ) → group_length (group_text inside ++ rest) ≡ length (group_text inside)
  unfolding group_length
  group-length rest =
      let found = stop-at 41 inside rest lack in
      let sizes = length-append (inside ++ 41 ∷ []) rest in
      let one = length-append inside (41 ∷ []) in
      omega (arith, found, sizes, one)

  group-is : (rest : List ℕ) → group (group_text inside ++ rest) ≡ group_text inside
  group-is rest =
      ap (λ n. take n (group_text inside ++ rest)) (group-length rest)
      ∙ take_at (group_text inside) rest (length (group_text inside)) refl

  group-behind : (rest : List ℕ) → behind_group (group_text inside ++ rest) ≡ rest
  group-behind rest =
      ap (λ n. drop n (group_text inside ++ rest)) (group-length rest) ∙ drop-append_seam (group_text inside) rest

  unclosed-is : open_group (group_text inside) ≡ 40 ∷ inside
  unfolding open_group
  unclosed-is =
      let one = length-append inside (41 ∷ []) in
      let size : length (40 ∷ inside) ≡ length (group_text inside) - 1 = omega (arith, one) in
      ap (λ b. if b then take (length (group_text inside) - 1) (group_text inside) else group_text inside) (ends-append 41 (40 ∷ inside))
      ∙ take_at (40 ∷ inside) (41 ∷ []) (length (group_text inside) - 1) size

  description-is : description_of (group_text inside) ≡ in_pieces (pieces_of 44 inside)
  unfolding description_of
  description-is =
      let one = length-append inside (41 ∷ []) in
      let size : length inside ≡ length (group_text inside) - 2 = omega (arith, one) in
      ap (λ b. if b then in_pieces (pieces_of 44 (take (length (group_text inside) - 2) (inside ++ 41 ∷ []))) else None) (ends-append 41 (40 ∷ inside))
      ∙ ap (λ (t : List ℕ). in_pieces (pieces_of 44 t)) (take_at inside (41 ∷ []) (length (group_text inside) - 2) size)

  -- an operation with a group that is a data description and not a progressive form
  group-said : (op : Operation) (rest : List ℕ) → is_some (row_of (40 ∷ inside) progressive_forms) ≡ false →
      reading_of_operation op (group_text inside ++ rest)
      ≡ next_reading BadDataDescription (option_and_then (described_form op) (in_pieces (pieces_of 44 inside))) (λ d. statement_in_form d.0 d.1 rest)
  unfolding reading_of_operation description_in behind_description
  group-said op rest none =
      let text = group_text inside ++ rest in
      let no_form : is_form (group text) ≡ false =
      ap (λ (g : List ℕ). is_form g) (group-is rest) ∙ (ap (λ (t : List ℕ). is_some (row_of t progressive_forms)) unclosed-is ∙ none) in
      let first : description_in text ≡ group_text inside =
      ap (λ b. if b then [] else group text) no_form ∙ group-is rest in
      let behind : behind_description text ≡ rest =
      ap (λ b. if b then text else behind_group text) no_form ∙ group-behind rest in
      ap (λ (d : List ℕ). next_reading BadDataDescription (option_and_then (described_form op) (description_of d))
      (λ d. statement_in_form d.0 d.1 (behind_description text))) first
      ∙ (ap (λ (o : Option Description). next_reading BadDataDescription (option_and_then (described_form op) o)
      (λ d. statement_in_form d.0 d.1 (behind_description text))) description-is
      ∙ ap (λ (t : List ℕ). next_reading BadDataDescription (option_and_then (described_form op) (in_pieces (pieces_of 44 inside))) (λ d. statement_in_form d.0 d.1 t)) behind)

-- ---- descriptions

some_number-is : (n : ℕ) → 1 ≤ n → (if n == 0 then None else Some n) ≡ Some n
some_number-is n some =
    let other : (n == 0) ≡ false = grind (arith, nat_tests) in ap (λ b. if b then None else Some n) other

number-to : (n : ℕ) → 1 ≤ n → n ≤ 64 → number_to 64 (decimal n) ≡ Some n
unfolding number_to
number-to n some few = ap (λ r. some_number r) (reading-decimal 64 n few (omega arith)) ∙ some_number-is n some

-- the form of an unsigned binary field of n bits in bytes of eight
abbrev pub unsigned_form : ℕ → Form
unsigned_form n = plain_form false true n 8

abbrev pub signed_form : ℕ → Form
signed_form n = plain_form false false n 8

unsigned-pieces : (n : ℕ) → 1 ≤ n → n ≤ 64 → in_pieces (pieces_of 44 (codes "BU," ++ decimal n)) ≡ Some (InForm (unsigned_form n))
unfolding modes in_mode
unsigned-pieces n some few =
    ap (λ (ps : List (List ℕ)). in_pieces ((66 ∷ 85 ∷ []) ∷ ps))
    (lacks-parted 44 (decimal n) (decimal-lacks 44 n (low_other 44 (omega arith)) (omega arith)))
    ∙ ap (λ o. option_map (λ k. InForm (unsigned_form k)) o) (number-to n some few)

eight-to : number_to 8 (codes "8") ≡ Some 8
unfolding number_to
eight-to = refl

signed-pieces : (n : ℕ) → 1 ≤ n → n ≤ 64 → in_pieces (pieces_of 44 (codes "B," ++ (decimal n ++ codes ",8"))) ≡ Some (InForm (signed_form n))
unfolding modes in_mode
signed-pieces n some few =
    ap (λ (ps : List (List ℕ)). in_pieces ((66 ∷ []) ∷ ps)) (parted-once 44 (decimal n) (codes "8")
    (decimal-lacks 44 n (low_other 44 (omega arith)) (omega arith)))
    ∙ (ap (λ o. option_and_then (λ k. option_map (λ s. InForm (plain_form false false k s)) (number_to 8 (codes "8"))) o) (number-to n some few)
    ∙ ap (λ o. option_map (λ s. InForm (plain_form false false n s)) o) eight-to)

-- the statement of an operation with a form that has no progressive form
plain-formed : (op : Operation) (d u : Bool) (n s : ℕ) (text : List ℕ) →
    statement_in_form op (plain_form d u n s) (44 ∷ text) ≡ with_fields op (plain_form d u n s) (fields_of (44 ∷ text))
unfolding statement_in_form form_with_progress group_length form_number may_have_form
plain-formed op d u n s text =
    ap (λ b. next_reading BadProgressive (if b then Some (plain_form d u n s) else None) (λ f. with_fields op f (fields_of (44 ∷ text))))
    (is_behind_groups-comma text)

unsigned-none : (n : ℕ) → is_some (row_of (40 ∷ (codes "BU," ++ decimal n)) progressive_forms) ≡ false
unfolding progressive_forms
unsigned-none n = refl

signed-none : (n : ℕ) → is_some (row_of (40 ∷ (codes "B," ++ (decimal n ++ codes ",8"))) progressive_forms) ≡ false
unfolding progressive_forms
signed-none n = refl

unsigned-lacks : (at n : ℕ) → IsOther at → lacks at (codes "BU,") ≡ true → n < 2 ^ 64 → lacks at (codes "BU," ++ decimal n) ≡ true
unsigned-lacks at n other plain small = join at (codes "BU,") (decimal n) plain (decimal-lacks at n other small)

signed-lacks : (at n : ℕ) → IsOther at → lacks at (codes "B,") ≡ true → lacks at (codes ",8") ≡ true → n < 2 ^ 64 →
    lacks at (codes "B," ++ (decimal n ++ codes ",8")) ≡ true
signed-lacks at n other plain eight small =
    join at (codes "B,") (decimal n ++ codes ",8") plain (join at (decimal n) (codes ",8") (decimal-lacks at n other small) eight)

-- the statement of an operation that allows the form of its description
described-formed : (op : Operation) (inside : List ℕ) (form : Form) (rest : List ℕ) → lacks 41 inside ≡ true →
    is_some (row_of (40 ∷ inside) progressive_forms) ≡ false → in_pieces (pieces_of 44 inside) ≡ Some (InForm form) → may_have op form ≡ true →
    reading_of_operation op (group_text inside ++ rest) ≡ statement_in_form op form rest
unfolding described_form
described-formed op inside form rest lack none pieces may =
    group-said inside lack op rest none
    ∙ (ap (λ (o : Option Description). next_reading BadDataDescription (option_and_then (described_form op) o) (λ d. statement_in_form d.0 d.1 rest)) pieces
    ∙ ap (λ b. next_reading {A = Operation × Form} BadDataDescription (if b then Some (op, form) else None) (λ d. statement_in_form d.0 d.1 rest)) may)

unsigned-formed : (op : Operation) (n : ℕ) (rest : List ℕ) → may_have op (unsigned_form n) ≡ true → 1 ≤ n → n ≤ 64 →
    reading_of_operation op (group_text (codes "BU," ++ decimal n) ++ rest) ≡ statement_in_form op (unsigned_form n) rest
unsigned-formed op n rest may some few =
    described-formed op (codes "BU," ++ decimal n) (unsigned_form n) rest (unsigned-lacks 41 n (low_other 41 (omega arith)) refl (omega arith))
    (unsigned-none n) (unsigned-pieces n some few) may

signed-formed : (op : Operation) (n : ℕ) (rest : List ℕ) → may_have op (signed_form n) ≡ true → 1 ≤ n → n ≤ 64 →
    reading_of_operation op (group_text (codes "B," ++ (decimal n ++ codes ",8")) ++ rest) ≡ statement_in_form op (signed_form n) rest
signed-formed op n rest may some few =
    described-formed op (codes "B," ++ (decimal n ++ codes ",8")) (signed_form n) rest
    (signed-lacks 41 n (low_other 41 (omega arith)) refl refl (omega arith))
    (signed-none n) (signed-pieces n some few) may

-- ---- the address and the offset of a field

one-field : (w b : ℕ) → w < 2 ^ 64 → b < 2 ^ 64 → fields_of (44 ∷ place_text w b) ≡ place_text w b ∷ []
unfolding fields_of
one-field w b small_w small_b = lacks-parted 44 (place_text w b) (place-lacks 44 w b (low_other 44 (omega arith)) refl small_w small_b)

two-fields : (w b o : ℕ) → w < 2 ^ 64 → b < 2 ^ 64 → o < 2 ^ 64 →
    fields_of (44 ∷ (place_text w b ++ 44 ∷ decimal o)) ≡ place_text w b ∷ decimal o ∷ []
unfolding fields_of
two-fields w b o small_w small_b small_o =
    parted-once 44 (place_text w b) (decimal o) (place-lacks 44 w b (low_other 44 (omega arith)) refl small_w small_b)
    ∙ ap (λ (ps : List (List ℕ)). place_text w b ∷ ps) (lacks-parted 44 (decimal o) (decimal-lacks 44 o (low_other 44 (omega arith)) small_o))

module _ (d u : Bool) (n s : ℕ) where
  one-operand : (w b : ℕ) → w ≤ 262143 → b ≤ 63 →
      operand_spot (plain_form d u n s) (fields_of (44 ∷ place_text w b)) ≡ Ok (number_spot (64 * w + b) 0, 0)
  unfolding operand_spot with_number
  one-operand w b fits_w fits_b =
      ap (λ (fields : List (List ℕ)). operand_spot (plain_form d u n s) fields) (one-field w b (omega arith) (omega arith))
      ∙ ap (λ r. both_of r (Ok 0)) (place-spot w b fits_w fits_b)

  two-operands : (w b o : ℕ) → w ≤ 262143 → b ≤ 63 → o < 2 ^ 64 →
      operand_spot (plain_form d u n s) (fields_of (44 ∷ (place_text w b ++ 44 ∷ decimal o))) ≡ Ok (number_spot (64 * w + b) 0, o)
  unfolding operand_spot with_number
  two-operands w b o fits_w fits_b small_o =
      ap (λ (fields : List (List ℕ)). operand_spot (plain_form d u n s) fields) (two-fields w b o (omega arith) (omega arith) small_o)
      ∙ (ap (λ r. both_of r (plain_number (decimal o))) (place-spot w b fits_w fits_b)
      ∙ ap (λ r. both_of (Ok (number_spot (64 * w + b) 0)) r) (number-field o small_o))

-- ---- operations on unsigned fields, with an offset

abbrev nested_operands : ℕ → ℕ → ℕ → ℕ → List ℕ
nested_operands n w b o = group_text (codes "BU," ++ decimal n) ++ 44 ∷ (place_text w b ++ 44 ∷ decimal o)

eight-flat : (a b c d e f g h : List ℕ) → a ++ b ++ c ++ d ++ e ++ f ++ g ++ h ≡ a ++ (b ++ (c ++ (d ++ (e ++ (f ++ (g ++ h))))))
eight-flat a b c d e f g h = simp append_assoc refl

operands-nested : (n w b o : ℕ) → operands_text n w b o ≡ nested_operands n w b o
operands-nested n w b o =
    let offset = 44 ∷ decimal o in
    let first = ap (λ (t : List ℕ). codes "(BU," ++ t) (append_assoc (decimal n) (codes ")") (44 ∷ (place_text w b ++ offset))) in
    let second = ap (λ (t : List ℕ). codes "(BU," ++ (decimal n ++ 41 ∷ 44 ∷ t)) (append_assoc (decimal w) (46 ∷ decimal b) offset) in
    eight-flat (codes "(BU,") (decimal n) (codes "),") (decimal w) (codes ".") (decimal b) (codes ",") (decimal o) ∙ sym (first ∙ second)

operands-lack : (at n w b o : ℕ) → IsOther at → lacks at (codes "(BU,),.") ≡ true → n < 2 ^ 64 → w < 2 ^ 64 → b < 2 ^ 64 → o < 2 ^ 64 →
    lacks at (nested_operands n w b o) ≡ true
operands-lack at n w b o other plain small_n small_w small_b small_o =
    let open_ = both (not (40 == at)) (lacks at (codes "BU,),.")) plain in
    let letters = both (not (66 == at)) (lacks at (codes "U,),.")) open_.1 in
    let letter = both (not (85 == at)) (lacks at (codes ",),.")) letters.1 in
    let comma = both (not (44 == at)) (lacks at (codes "),.")) letter.1 in
    let close = both (not (41 == at)) (lacks at (codes ",.")) comma.1 in
    let point = both (not (46 == at)) true (both (not (44 == at)) (lacks at (codes ".")) close.1).1 in
    let closing : lacks at (41 ∷ []) ≡ true = and_true (not (41 == at)) true close.0 refl in
    let mode : lacks at (codes "BU,") ≡ true =
    and_true (not (66 == at)) (lacks at (codes "U,")) letters.0
    (and_true (not (85 == at)) (lacks at (codes ",")) letter.0 (and_true (not (44 == at)) true comma.0 refl)) in
    let group : lacks at (group_text (codes "BU," ++ decimal n)) ≡ true =
    and_true (not (40 == at)) (lacks at ((codes "BU," ++ decimal n) ++ 41 ∷ [])) open_.0
    (join at (codes "BU," ++ decimal n) (41 ∷ []) (unsigned-lacks at n other mode small_n) closing) in
    let offset : lacks at (44 ∷ decimal o) ≡ true = and_true (not (44 == at)) (lacks at (decimal o)) comma.0 (decimal-lacks at o other small_o) in
    let fields : lacks at (44 ∷ (place_text w b ++ 44 ∷ decimal o)) ≡ true =
    and_true (not (44 == at)) (lacks at (place_text w b ++ 44 ∷ decimal o)) comma.0
    (join at (place_text w b) (44 ∷ decimal o) (place-lacks at w b other point.0 small_w small_b) offset) in
    join at (group_text (codes "BU," ++ decimal n)) (44 ∷ (place_text w b ++ 44 ∷ decimal o)) group fields

add-operation : operation_of_word (codes "+") ≡ Some (VflOperation Add false)
unfolding operation_of_word other_operations index_operations field_operations
add-operation = refl

add-clean : (text : List ℕ) → clean_statement_of [] (codes "+" ++ 40 ∷ text) ≡ reading_of_operation (VflOperation Add false) (40 ∷ text)
unfolding clean_statement_of is_misnamed
add-clean text =
    ap (λ op. if is_misnamed [] op then Err BadName else next_reading UnknownOperation op (λ found. reading_of_operation found (40 ∷ text))) add-operation

store-operation : operation_of_word (codes "ST") ≡ Some (VflOperation St false)
unfolding operation_of_word other_operations index_operations field_operations
store-operation = refl

store-clean : (text : List ℕ) → clean_statement_of [] (codes "ST" ++ 40 ∷ text) ≡ reading_of_operation (VflOperation St false) (40 ∷ text)
unfolding clean_statement_of is_misnamed
store-clean text =
    ap (λ op. if is_misnamed [] op then Err BadName else next_reading UnknownOperation op (λ found. reading_of_operation found (40 ∷ text))) store-operation

connect-operation : operation_of_word (codes "C0110") ≡ Some (ConnectOperation C 6)
unfolding operation_of_word other_operations index_operations field_operations negated_operation connective connective_kinds truth_tables
connect-operation = refl

connect-clean : (text : List ℕ) → clean_statement_of [] (codes "C0110" ++ 40 ∷ text) ≡ reading_of_operation (ConnectOperation C 6) (40 ∷ text)
unfolding clean_statement_of is_misnamed
connect-clean text =
    ap (λ op. if is_misnamed [] op then Err BadName else next_reading UnknownOperation op (λ found. reading_of_operation found (40 ∷ text))) connect-operation

field-may : (op : VflOp) (n : ℕ) → may_have (VflOperation op false) (unsigned_form n) ≡ true
unfolding may_have
field-may op n = refl

connect-may : (n : ℕ) → may_have (ConnectOperation C 6) (unsigned_form n) ≡ true
unfolding may_have
connect-may n = refl

field-said : (op : VflOp) (n w b o : ℕ) → AreOperandNumbers n w b o →
    reading_of_operation (VflOperation op false) (nested_operands n w b o) ≡ Ok (Vfl op false (unsigned_form n) (number_spot (64 * w + b) 0) o)
unfolding with_fields
field-said op n w b o are =
    unsigned-formed (VflOperation op false) n (44 ∷ (place_text w b ++ 44 ∷ decimal o)) (field-may op n) are.some_bits are.few_bits
    ∙ (plain-formed (VflOperation op false) false true n 8 (place_text w b ++ 44 ∷ decimal o)
    ∙ ap (λ r. reading_map (λ p. Vfl op false (unsigned_form n) p.0 p.1) r) (two-operands false true n 8 w b o are.word are.bit are.offset))

connect-said : (n w b o : ℕ) → AreOperandNumbers n w b o →
    reading_of_operation (ConnectOperation C 6) (nested_operands n w b o) ≡ Ok (Connect C 6 (unsigned_form n) (number_spot (64 * w + b) 0) o)
unfolding with_fields
connect-said n w b o are =
    unsigned-formed (ConnectOperation C 6) n (44 ∷ (place_text w b ++ 44 ∷ decimal o)) (connect-may n) are.some_bits are.few_bits
    ∙ (plain-formed (ConnectOperation C 6) false true n 8 (place_text w b ++ 44 ∷ decimal o)
    ∙ ap (λ r. reading_map (λ p. Connect C 6 (unsigned_form n) p.0 p.1) r) (two-operands false true n 8 w b o are.word are.bit are.offset))

module _ (n w b o : ℕ) (are : AreOperandNumbers n w b o) where
  no_comment : lacks 59 (nested_operands n w b o) ≡ true
  no_comment =
      let bits = are.few_bits in
      let word = are.word in
      let bit = are.bit in
      operands-lack 59 n w b o (high_other 59 (omega arith)) refl (omega (arith, bits)) (omega (arith, word)) (omega (arith, bit)) are.offset

  no_blank : lacks 32 (nested_operands n w b o) ≡ true
  no_blank =
      let bits = are.few_bits in
      let word = are.word in
      let bit = are.bit in
      operands-lack 32 n w b o (low_other 32 (omega arith)) refl (omega (arith, bits)) (omega (arith, word)) (omega (arith, bit)) are.offset

  pub add-read : statement_of [] (codes "+" ++ operands_text n w b o) ≡ Ok (Vfl Add false (unsigned_form n) (number_spot (64 * w + b) 0) o)
  add-read =
      let behind = nested_operands n w b o in
      let plain : statement_text (codes "+" ++ behind) ≡ codes "+" ++ behind = clean-is (codes "+" ++ behind) no_comment no_blank in
      ap (λ (t : List ℕ). statement_of [] (codes "+" ++ t)) (operands-nested n w b o)
      ∙ (ap (λ (t : List ℕ). clean_statement_of [] t) plain
      ∙ (add-clean (drop 1 behind) ∙ field-said Add n w b o are))

  pub store-read : statement_of [] (codes "ST" ++ operands_text n w b o) ≡ Ok (Vfl St false (unsigned_form n) (number_spot (64 * w + b) 0) o)
  store-read =
      let behind = nested_operands n w b o in
      let plain : statement_text (codes "ST" ++ behind) ≡ codes "ST" ++ behind = clean-is (codes "ST" ++ behind) no_comment no_blank in
      ap (λ (t : List ℕ). statement_of [] (codes "ST" ++ t)) (operands-nested n w b o)
      ∙ (ap (λ (t : List ℕ). clean_statement_of [] t) plain
      ∙ (store-clean (drop 1 behind) ∙ field-said St n w b o are))

  pub connect-read : statement_of [] (codes "C0110" ++ operands_text n w b o) ≡ Ok (Connect C 6 (unsigned_form n) (number_spot (64 * w + b) 0) o)
  connect-read =
      let behind = nested_operands n w b o in
      let plain : statement_text (codes "C0110" ++ behind) ≡ codes "C0110" ++ behind = clean-is (codes "C0110" ++ behind) no_comment no_blank in
      ap (λ (t : List ℕ). statement_of [] (codes "C0110" ++ t)) (operands-nested n w b o)
      ∙ (ap (λ (t : List ℕ). clean_statement_of [] t) plain
      ∙ (connect-clean (drop 1 behind) ∙ connect-said n w b o are))

-- ---- a whole word

whole-pieces : in_pieces (pieces_of 44 (codes "BU,64")) ≡ Some (InForm (unsigned_form 64))
unfolding modes in_mode number_to
whole-pieces = refl

whole-none : is_some (row_of (40 ∷ codes "BU,64") progressive_forms) ≡ false
unfolding progressive_forms
whole-none = refl

load-operation : operation_of_word (codes "L") ≡ Some (VflOperation L false)
unfolding operation_of_word other_operations index_operations field_operations
load-operation = refl

load-clean : (text : List ℕ) → clean_statement_of [] (codes "L" ++ 40 ∷ text) ≡ reading_of_operation (VflOperation L false) (40 ∷ text)
unfolding clean_statement_of is_misnamed
load-clean text =
    ap (λ op. if is_misnamed [] op then Err BadName else next_reading UnknownOperation op (λ found. reading_of_operation found (40 ∷ text))) load-operation

load-said : (w b : ℕ) → w ≤ 262143 → b ≤ 63 →
    reading_of_operation (VflOperation L false) (group_text (codes "BU,64") ++ 44 ∷ place_text w b)
    ≡ Ok (Vfl L false (unsigned_form 64) (number_spot (64 * w + b) 0) 0)
unfolding with_fields
load-said w b fits_w fits_b =
    described-formed (VflOperation L false) (codes "BU,64") (unsigned_form 64) (44 ∷ place_text w b) refl whole-none whole-pieces (field-may L 64)
    ∙ (plain-formed (VflOperation L false) false true 64 8 (place_text w b)
    ∙ ap (λ r. reading_map (λ p. Vfl L false (unsigned_form 64) p.0 p.1) r) (one-operand false true 64 8 w b fits_w fits_b))

pub load_word-read : (w : ℕ) → w ≤ 262143 →
    statement_of [] (codes "L(BU,64)," ++ decimal w ++ codes ".0") ≡ Ok (Vfl L false (unsigned_form 64) (number_spot (64 * w) 0) 0)
load_word-read w fits_w =
    let digit : decimal 0 ≡ 48 ∷ [] = decimal_digit 0 (omega arith) in
    let behind = group_text (codes "BU,64") ++ 44 ∷ place_text w 0 in
    let nested : codes "L(BU,64)," ++ decimal w ++ codes ".0" ≡ codes "L(BU,64)," ++ (decimal w ++ 46 ∷ 48 ∷ []) =
    append_assoc (codes "L(BU,64),") (decimal w) (codes ".0") in
    let same : codes "L(BU,64)," ++ (decimal w ++ 46 ∷ 48 ∷ []) ≡ codes "L" ++ behind =
    ap (λ (z : List ℕ). codes "L(BU,64)," ++ (decimal w ++ 46 ∷ z)) (sym digit) in
    let plain : statement_text (codes "L" ++ behind) ≡ codes "L" ++ behind = clean-is (codes "L" ++ behind)
    (place-lacks 59 w 0 (high_other 59 (omega arith)) refl (omega arith) (omega arith))
    (place-lacks 32 w 0 (low_other 32 (omega arith)) refl (omega arith) (omega arith)) in
    let value : 64 * w + 0 ≡ 64 * w = omega arith in
    ap (λ (t : List ℕ). statement_of [] t) (nested ∙ same)
    ∙ (ap (λ (t : List ℕ). clean_statement_of [] t) plain
    ∙ (load-clean (drop 1 behind) ∙ (load-said w 0 fits_w (omega arith) ∙ ap (λ n. Ok (Vfl L false (unsigned_form 64) (number_spot n 0) 0)) value)))

-- ---- a signed field

six-flat : (a b c d e f : List ℕ) → a ++ b ++ c ++ d ++ e ++ f ≡ a ++ (b ++ (c ++ (d ++ (e ++ f))))
six-flat a b c d e f = simp append_assoc refl

add_one-operation : operation_of_word (codes "M+1") ≡ Some (VflOperation MAdd1 false)
unfolding operation_of_word other_operations index_operations field_operations
add_one-operation = refl

add_one-clean : (text : List ℕ) → clean_statement_of [] (codes "M+1" ++ 40 ∷ text) ≡ reading_of_operation (VflOperation MAdd1 false) (40 ∷ text)
unfolding clean_statement_of is_misnamed
add_one-clean text =
    ap (λ op. if is_misnamed [] op then Err BadName else next_reading UnknownOperation op (λ found. reading_of_operation found (40 ∷ text))) add_one-operation

signed-may : (op : VflOp) (n : ℕ) → 8 ≤ n → may_have (VflOperation op false) (signed_form n) ≡ true
unfolding may_have
signed-may op n fits = let small : nat_lt n 8 ≡ false = grind (arith, nat_tests) in ap not small

abbrev nested_signed : ℕ → ℕ → ℕ → List ℕ
nested_signed n w b = group_text (codes "B," ++ (decimal n ++ codes ",8")) ++ 44 ∷ place_text w b

signed-nested : (n w b : ℕ) → codes "M+1(B," ++ decimal n ++ codes ",8)," ++ decimal w ++ codes "." ++ decimal b ≡ codes "M+1" ++ nested_signed n w b
signed-nested n w b =
    let first = ap (λ (t : List ℕ). codes "M+1(B," ++ (t ++ 44 ∷ place_text w b)) (append_assoc (decimal n) (codes ",8") (codes ")")) in
    let second = ap (λ (t : List ℕ). codes "M+1(B," ++ t) (append_assoc (decimal n) (codes ",8)") (44 ∷ place_text w b)) in
    six-flat (codes "M+1(B,") (decimal n) (codes ",8),") (decimal w) (codes ".") (decimal b) ∙ sym (first ∙ second)

nested_signed-lacks : (at n w b : ℕ) → IsOther at → lacks at (codes "(B,8).") ≡ true → n < 2 ^ 64 → w < 2 ^ 64 → b < 2 ^ 64 →
    lacks at (nested_signed n w b) ≡ true
nested_signed-lacks at n w b other plain small_n small_w small_b =
    let open_ = both (not (40 == at)) (lacks at (codes "B,8).")) plain in
    let letter = both (not (66 == at)) (lacks at (codes ",8).")) open_.1 in
    let comma = both (not (44 == at)) (lacks at (codes "8).")) letter.1 in
    let eight = both (not (56 == at)) (lacks at (codes ").")) comma.1 in
    let close = both (not (41 == at)) (lacks at (codes ".")) eight.1 in
    let point = both (not (46 == at)) true close.1 in
    let closing : lacks at (41 ∷ []) ≡ true = and_true (not (41 == at)) true close.0 refl in
    let mode : lacks at (codes "B,") ≡ true =
    and_true (not (66 == at)) (lacks at (codes ",")) letter.0 (and_true (not (44 == at)) true comma.0 refl) in
    let byte : lacks at (codes ",8") ≡ true =
    and_true (not (44 == at)) (lacks at (codes "8")) comma.0 (and_true (not (56 == at)) true eight.0 refl) in
    let inside = codes "B," ++ (decimal n ++ codes ",8") in
    let group : lacks at (group_text inside) ≡ true =
    and_true (not (40 == at)) (lacks at (inside ++ 41 ∷ [])) open_.0
    (join at inside (41 ∷ []) (signed-lacks at n other mode byte small_n) closing) in
    let field : lacks at (44 ∷ place_text w b) ≡ true =
    and_true (not (44 == at)) (lacks at (place_text w b)) comma.0 (place-lacks at w b other point.0 small_w small_b) in
    join at (group_text inside) (44 ∷ place_text w b) group field

signed-said : (n w b : ℕ) → 8 ≤ n → n ≤ 64 → w ≤ 262143 → b ≤ 63 →
    reading_of_operation (VflOperation MAdd1 false) (nested_signed n w b) ≡ Ok (Vfl MAdd1 false (signed_form n) (number_spot (64 * w + b) 0) 0)
unfolding with_fields
signed-said n w b fits few fits_w fits_b =
    signed-formed (VflOperation MAdd1 false) n (44 ∷ place_text w b) (signed-may MAdd1 n fits) (omega arith) few
    ∙ (plain-formed (VflOperation MAdd1 false) false false n 8 (place_text w b)
    ∙ ap (λ r. reading_map (λ p. Vfl MAdd1 false (signed_form n) p.0 p.1) r) (one-operand false false n 8 w b fits_w fits_b))

pub add_one-read : (n w b : ℕ) → 8 ≤ n → n ≤ 64 → w ≤ 262143 → b ≤ 63 →
    statement_of [] (codes "M+1(B," ++ decimal n ++ codes ",8)," ++ decimal w ++ codes "." ++ decimal b)
    ≡ Ok (Vfl MAdd1 false (signed_form n) (number_spot (64 * w + b) 0) 0)
add_one-read n w b fits few fits_w fits_b =
    let behind = nested_signed n w b in
    let plain : statement_text (codes "M+1" ++ behind) ≡ codes "M+1" ++ behind = clean-is (codes "M+1" ++ behind)
    (nested_signed-lacks 59 n w b (high_other 59 (omega arith)) refl (omega arith) (omega arith) (omega arith))
    (nested_signed-lacks 32 n w b (low_other 32 (omega arith)) refl (omega arith) (omega arith) (omega arith)) in
    ap (λ (t : List ℕ). statement_of [] t) (signed-nested n w b)
    ∙ (ap (λ (t : List ℕ). clean_statement_of [] t) plain
    ∙ (add_one-clean (drop 1 behind) ∙ signed-said n w b fits few fits_w fits_b))

-- ---- a progressive form

-- the text after the description: the progressive form and the address with index word j
abbrev progressive_text : ℕ → List ℕ
progressive_text j = codes "(V+I),0.32($X" ++ (48 + j) ∷ 41 ∷ []

progressive-formed : (n j : ℕ) → 1 ≤ j → j ≤ 7 →
    statement_in_form (VflOperation Mul false) (unsigned_form n) (progressive_text j) ≡ Ok (Vfl Mul false (progressive_form n) (number_spot 32 j) 0)
unfolding statement_in_form form_with_progress group_length form_number open_group progressive_forms may_have_form fields_of with_fields operand_spot with_number spot index_start index_named index_parts
progressive-formed n j some few =
    of_seven (λ k. statement_in_form (VflOperation Mul false) (unsigned_form n) (progressive_text k)
    ≡ Ok (Vfl Mul false (progressive_form n) (number_spot 32 k) 0))
    refl refl refl refl refl refl refl j some few

multiply-operation : operation_of_word (codes "*") ≡ Some (VflOperation Mul false)
unfolding operation_of_word other_operations index_operations field_operations
multiply-operation = refl

multiply-clean : (text : List ℕ) → clean_statement_of [] (codes "*" ++ 40 ∷ text) ≡ reading_of_operation (VflOperation Mul false) (40 ∷ text)
unfolding clean_statement_of is_misnamed
multiply-clean text =
    ap (λ op. if is_misnamed [] op then Err BadName else next_reading UnknownOperation op (λ found. reading_of_operation found (40 ∷ text))) multiply-operation

five-flat : (a b c d e : List ℕ) → a ++ b ++ c ++ d ++ e ≡ a ++ (b ++ (c ++ (d ++ e)))
five-flat a b c d e = simp append_assoc refl

multiply-nested : (n j : ℕ) → 1 ≤ j → j ≤ 7 →
    codes "*(BU," ++ decimal n ++ codes ")(V+I),0.32($X" ++ decimal j ++ codes ")"
    ≡ codes "*" ++ (group_text (codes "BU," ++ decimal n) ++ progressive_text j)
multiply-nested n j some few =
    let digit = decimal_digit j (omega arith) in
    five-flat (codes "*(BU,") (decimal n) (codes ")(V+I),0.32($X") (decimal j) (codes ")")
    ∙ (ap (λ (t : List ℕ). codes "*(BU," ++ (decimal n ++ (codes ")(V+I),0.32($X" ++ (t ++ codes ")")))) digit
    ∙ sym (ap (λ (t : List ℕ). codes "*(BU," ++ t) (append_assoc (decimal n) (codes ")") (progressive_text j))))

multiply-lacks : (at n j : ℕ) → IsOther at → lacks at (codes "(BU,)") ≡ true → n < 2 ^ 64 → lacks at (progressive_text j) ≡ true →
    lacks at (group_text (codes "BU," ++ decimal n) ++ progressive_text j) ≡ true
multiply-lacks at n j other plain small rest =
    let open_ = both (not (40 == at)) (lacks at (codes "BU,)")) plain in
    let letters = both (not (66 == at)) (lacks at (codes "U,)")) open_.1 in
    let letter = both (not (85 == at)) (lacks at (codes ",)")) letters.1 in
    let comma = both (not (44 == at)) (lacks at (codes ")")) letter.1 in
    let mode : lacks at (codes "BU,") ≡ true =
    and_true (not (66 == at)) (lacks at (codes "U,")) letters.0
    (and_true (not (85 == at)) (lacks at (codes ",")) letter.0 (and_true (not (44 == at)) true comma.0 refl)) in
    let group : lacks at (group_text (codes "BU," ++ decimal n)) ≡ true =
    and_true (not (40 == at)) (lacks at ((codes "BU," ++ decimal n) ++ 41 ∷ [])) open_.0
    (join at (codes "BU," ++ decimal n) (41 ∷ []) (unsigned-lacks at n other mode small) comma.1) in
    join at (group_text (codes "BU," ++ decimal n)) (progressive_text j) group rest

pub multiply-read : (n j : ℕ) → 1 ≤ n → n ≤ 64 → 1 ≤ j → j ≤ 7 →
    statement_of [] (codes "*(BU," ++ decimal n ++ codes ")(V+I),0.32($X" ++ decimal j ++ codes ")")
    ≡ Ok (Vfl Mul false (progressive_form n) (number_spot 32 j) 0)
multiply-read n j some_n few_n some few =
    let behind = group_text (codes "BU," ++ decimal n) ++ progressive_text j in
    let no_comment_there : lacks 59 (progressive_text j) ≡ true =
    of_seven (λ k. lacks 59 (progressive_text k) ≡ true) refl refl refl refl refl refl refl j some few in
    let no_blank_there : lacks 32 (progressive_text j) ≡ true =
    of_seven (λ k. lacks 32 (progressive_text k) ≡ true) refl refl refl refl refl refl refl j some few in
    let plain : statement_text (codes "*" ++ behind) ≡ codes "*" ++ behind = clean-is (codes "*" ++ behind)
    (multiply-lacks 59 n j (high_other 59 (omega arith)) refl (omega arith) no_comment_there)
    (multiply-lacks 32 n j (low_other 32 (omega arith)) refl (omega arith) no_blank_there) in
    ap (λ (t : List ℕ). statement_of [] t) (multiply-nested n j some few)
    ∙ (ap (λ (t : List ℕ). clean_statement_of [] t) plain
    ∙ (multiply-clean (drop 1 behind)
    ∙ (unsigned-formed (VflOperation Mul false) n (progressive_text j) (field-may Mul n) some_n few_n ∙ progressive-formed n j some few)))

-- ---- a branch without an address

wait-operation : operation_of_word (codes "BEW") ≡ Some (BareOperation Bew)
unfolding operation_of_word other_operations
wait-operation = refl

wait-said : reading_of_operation (BareOperation Bew) [] ≡ Ok (Branch Bew None)
unfolding reading_of_operation description_in behind_description group_length open_group progressive_forms description_of described_form statement_in_form form_with_progress form_number may_have_form fields_of with_fields without_fields
wait-said = refl

wait-clean : clean_statement_of [] (codes "BEW") ≡ reading_of_operation (BareOperation Bew) []
unfolding clean_statement_of is_misnamed
wait-clean = ap (λ op. if is_misnamed [] op then Err BadName else next_reading UnknownOperation op (λ found. reading_of_operation found [])) wait-operation

pub wait-read : statement_of [] (codes "BEW") ≡ Ok (Branch Bew None)
unfolding statement_text
wait-read = wait-clean ∙ wait-said
