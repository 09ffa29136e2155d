-- No operation has more than seventeen fields, so later fields make no difference.
use Rattle.st_strap.proofs.Common.{◌≡◌, ◌≤◌, ◌∙◌, ℕ, zero, suc, Bool, true, false, nat_le, List, [], ◌∷◌, length, take, Err, refl, ap, sym, arith, if◌then◌else◌, length-take-le, nat_tests, BadFieldCount, both_of, reading_map, index_field, index_selector, alone, two, followed, with_number, index_and_list, operand_spot, without_fields, with_fields, Form, Sum, Operation}
use Rattle.st_mnemonic.specs.declared.operations.Operation.TheVariants.{Half as HalfOperation, Sum as SumOperation, Refill as RefillOperation, Execute as ExecuteOperation, Branch as BranchOperation, Bare as BareOperation, Floating as FloatingOperation, Vfl as VflOperation, Connect as ConnectOperation, Move as MoveOperation, BitBranch as BitBranchOperation, IndBranch as IndBranchOperation, StoreCounter as StoreCounterOperation, Transfer as TransferOperation, Data as DataOperation, IndexWord as IndexWordOperation, Synonym as SynonymOperation, SetLocation as SetLocationOperation, Reserve as ReserveOperation, End as EndOperation}

-- the first n items of a list with at most n items are the whole list
whole : {A : Type 0} (n : ℕ) (xs : List A) → length xs ≤ n → take n xs ≡ xs
whole {A} zero [] few = refl
whole {A} (suc n) [] few = refl
whole {A} zero (x ∷ xs) few = let no : ⊥ = omega arith in absurd no
whole {A} (suc n) (x ∷ xs) few = ap (λ (l : List A). x ∷ l) (whole n xs (omega arith))

too_many : (n : ℕ) → 15 ≤ n → nat_le n 14 ≡ false
too_many n many = grind (arith, nat_tests)

long_list : (a b : List ℕ) (more : List (List ℕ)) → 15 ≤ length more → index_and_list (a ∷ b ∷ more) ≡ Err BadFieldCount
unfolding index_and_list
long_list a b more many =
    ap (λ (t : Bool). if t then both_of (index_field a) (index_selector (b ∷ more)) else Err BadFieldCount) (too_many (length more) many)

past_five : (op : Operation) (form : Form) (a b c d e : List ℕ) (more : List (List ℕ)) → 13 ≤ length more →
    with_fields op form (a ∷ b ∷ c ∷ d ∷ e ∷ take 12 more) ≡ with_fields op form (a ∷ b ∷ c ∷ d ∷ e ∷ more)
unfolding with_fields alone two followed with_number operand_spot without_fields
past_five (HalfOperation op) form a b c d e more long = refl
past_five SumOperation form a b c d e more long =
    let front : length (take 12 more) ≡ 12 = length-take-le 12 more (omega arith) in
    ap (reading_map (λ p. Sum p.0 p.1)) (long_list a b (c ∷ d ∷ e ∷ take 12 more) (omega (arith, front))
    ∙ sym (long_list a b (c ∷ d ∷ e ∷ more) (omega arith)))
past_five RefillOperation form a b c d e more long = refl
past_five ExecuteOperation form a b c d e more long = refl
past_five (BranchOperation op) form a b c d e more long = refl
past_five (BareOperation op) form a b c d e more long = refl
past_five (FloatingOperation number) form a b c d e more long = refl
past_five (VflOperation op negated) form a b c d e more long = refl
past_five (ConnectOperation kind table) form a b c d e more long = refl
past_five (MoveOperation swap) form a b c d e more long = refl
past_five (BitBranchOperation sense change) form a b c d e more long = refl
past_five (IndBranchOperation sense off) form a b c d e more long = refl
past_five StoreCounterOperation form a b c d e more long = refl
past_five (TransferOperation write) form a b c d e more long = refl
past_five DataOperation form a b c d e more long = refl
past_five IndexWordOperation form a b c d e more long = refl
past_five SynonymOperation form a b c d e more long = refl
past_five SetLocationOperation form a b c d e more long = refl
past_five ReserveOperation form a b c d e more long = refl
past_five EndOperation form a b c d e more long = refl

five_or_more : (op : Operation) (form : Form) (a b c d e : List ℕ) (more : List (List ℕ)) (long : Bool) → nat_le 13 (length more) ≡ long →
    with_fields op form (a ∷ b ∷ c ∷ d ∷ e ∷ take 12 more) ≡ with_fields op form (a ∷ b ∷ c ∷ d ∷ e ∷ more)
five_or_more op form a b c d e more true is =
    let long : 13 ≤ length more = grind (arith, nat_tests) in past_five op form a b c d e more long
five_or_more op form a b c d e more false is =
    let few : length more ≤ 12 = grind (arith, nat_tests) in
    ap (λ (rest : List (List ℕ)). with_fields op form (a ∷ b ∷ c ∷ d ∷ e ∷ rest)) (whole 12 more few)

pub enough_fields : (op : Operation) (form : Form) (fs : List (List ℕ)) → with_fields op form (take 17 fs) ≡ with_fields op form fs
enough_fields op form [] = refl
enough_fields op form (a ∷ []) = refl
enough_fields op form (a ∷ b ∷ []) = refl
enough_fields op form (a ∷ b ∷ c ∷ []) = refl
enough_fields op form (a ∷ b ∷ c ∷ d ∷ []) = refl
enough_fields op form (a ∷ b ∷ c ∷ d ∷ e ∷ more) = five_or_more op form a b c d e more (nat_le 13 (length more)) refl
