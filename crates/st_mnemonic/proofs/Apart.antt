-- Tables that have no word in common.
use Rattle.st_mnemonic.proofs.Common.{◌≡◌, ◌||◌, ℕ, Bool, true, false, nat_eq, cond, List, [], ◌∷◌, Option, Some, None, is_none, refl, ap, sym, ◌∙◌, list_all, option_map, option_or, other_operations, index_operations, field_operations, index_operation, field_operation, Half, Vfl}
use Rattle.st_text.specs.Tables.{is_same, row_of}
use Rattle.std.specs.Cmp.Lexicographic.{pointwise}
use Rattle.std.proofs.lemmas.Bool.{and_parts, eqb-true}
use Rattle.st_mnemonic.specs.declared.operations.Operation.{Operation}

-- two words that the comparison finds the same are equal
pub same_words : (a b : List ℕ) → is_same a b ≡ true → a ≡ b
same_words [] [] e = refl
same_words [] (y ∷ ys) e = let no : ⊥ = cc in absurd no
same_words (x ∷ xs) [] e = let no : ⊥ = cc in absurd no
same_words (x ∷ xs) (y ∷ ys) e =
    let parts = and_parts (nat_eq x y) (pointwise nat_eq xs ys) e in
    ap (λ c. c ∷ xs) (eqb-true x y parts.0) ∙ ap (λ cs. y ∷ cs) (same_words xs ys parts.1)

-- whether no row's word of one table is in another table
abbrev apart : {A B : Type 0} → List (List ℕ × A) → List (List ℕ × B) → Bool
apart rows others = list_all (λ row. is_none (row_of row.0 others)) rows

here : {A B : Type 0} (word : List ℕ) (row : List ℕ × A) (rows : List (List ℕ × A)) (others : List (List ℕ × B)) (same : Bool) →
    is_same word row.0 ≡ same → is_none (row_of row.0 others) ≡ true → (is_none (row_of word rows) || is_none (row_of word others)) ≡ true →
    (is_none (cond same (Some row.1) (row_of word rows)) || is_none (row_of word others)) ≡ true
here word row rows others true is absent rest = ap (λ (w : List ℕ). is_none (row_of w others)) (same_words word row.0 is) ∙ absent
here word row rows others false is absent rest = rest

-- a word in one of two tables without common words is not in the other
in_one : {A B : Type 0} (word : List ℕ) (rows : List (List ℕ × A)) (others : List (List ℕ × B)) → apart rows others ≡ true →
    (is_none (row_of word rows) || is_none (row_of word others)) ≡ true
in_one word [] others all = refl
in_one {A} {B} word (row ∷ rows) others all =
    let parts = and_parts (is_none (row_of row.0 others)) (apart rows others) all in
    here word row rows others (is_same word row.0) refl parts.0 (in_one word rows others parts.1)

none_mapped : {A B : Type 0} (f : A → B) (o : Option A) → is_none o ≡ is_none (option_map f o)
none_mapped f None = refl
none_mapped f (Some a) = refl

-- no mnemonic of an order to the assembler, a branch or a move is one of an operation on a field
pub other_or_field : (word : List ℕ) → (is_none (row_of word other_operations) || is_none (field_operation false word)) ≡ true
unfolding other_operations field_operations
other_or_field word =
    sym (ap (λ b. is_none (row_of word other_operations) || b) (none_mapped (λ op. Vfl op false) (row_of word field_operations)))
    ∙ in_one word other_operations field_operations refl

-- no mnemonic of an order to the assembler, a branch or a move is one of an operation on an index
-- word
pub other_or_index : (word : List ℕ) → (is_none (row_of word other_operations) || is_none (index_operation word)) ≡ true
unfolding other_operations index_operations
other_or_index word =
    sym (ap (λ b. is_none (row_of word other_operations) || b) (none_mapped (λ op. Half op) (row_of word index_operations)))
    ∙ in_one word other_operations index_operations refl

-- no mnemonic of an operation on an index word is one of an operation on a field
pub index_or_field : (word : List ℕ) → (is_none (index_operation word) || is_none (field_operation false word)) ≡ true
unfolding index_operations field_operations
index_or_field word =
    sym (ap (λ b. is_none (row_of word index_operations) || b) (none_mapped (λ op. Vfl op false) (row_of word field_operations))
    ∙ ap (λ b. b || is_none (field_operation false word)) (none_mapped (λ op. Half op) (row_of word index_operations)))
    ∙ in_one word index_operations field_operations refl

-- an operation found in the last of three tables without common words
pub found_last : (a b c : Option Operation) (op : Operation) → (is_none a || is_none c) ≡ true → (is_none b || is_none c) ≡ true →
    Some op ≡ c → Some op ≡ option_or (option_or a b) c
found_last None None c op first second is = is
found_last None (Some y) None op first second is = cc
found_last None (Some y) (Some z) op first second is = cc
found_last (Some x) b None op first second is = cc
found_last (Some x) b (Some z) op first second is = cc

-- an operation found in the second of three tables without common words
pub found_second : (a b c : Option Operation) (op : Operation) → (is_none a || is_none b) ≡ true → Some op ≡ b → c ≡ None →
    Some op ≡ option_or (option_or a b) c
found_second None None c op first is nothing = cc
found_second None (Some y) c op first is nothing = is
found_second (Some x) None c op first is nothing = cc
found_second (Some x) (Some y) c op first is nothing = cc
