-- A decoded instruction is encoded in the bits that were decoded.
use Rattle.st_format.proofs.Common.{◌≡◌, ℕ, ◌^◌, ◌<◌, ◌==◌, ◌||◌, not, Bool, true, false, if◌then◌else◌, Option, None, Some, refl, sym, ◌∙◌, ap, lit<, arith, option_map, eqb-true, eqb-false, BranchOp, HalfOp, ConnKind, FullOp, Variable, Connective, Transmission, BitTest, IndicatorTest, Order, CounterStore, Instr, later, is_one, is_full, i_of, address_of, j_of, operation_of, second_address_of, p_of, length_of, byte_of, offset_of, k_of, half_bits, second_half_bits, second_bits, numbered_op, half_op, branch_op, kind, full_op, kind_number, full_number, unused_in_kind, unused_k, unused_marks, has_misfit, has_misused_p, has_miscount, breaks_rules, branch_instruction, index_instruction, half_word, full_word_instruction, full_word, instruction_of, first_half, second_half, bit_of}
use Rattle.st_format.proofs.Windows.{half_bits-fields, first_bits-fields, field_bits-fields, second_bits-fields, count_of-mod}
use Rattle.st_format.proofs.Numbers.{number-half_op, number-branch_op, number-kind, number-numbered_op, vfl_number-bound, swap-bound, order-bound}

-- a property of both branches of a choice is a property of the chosen one
pub of_choice : {A : Type 0} (P : A → Type 0) (b : Bool) (x y : A) → (b ≡ true → P x) → (b ≡ false → P y)
    → P (if b then x else y)
of_choice P true x y f g = f refl
of_choice P false x y f g = g refl

-- ---- the first half-word

first-word : (op : FullOp) (f s : ℕ) → f < 2 ^ 32 → is_full f ≡ true → first_half (full_word_instruction op f s) ≡ f
unfolding full_word_instruction
first-word (Variable op) f s lt full = first_bits-fields f lt full
first-word _ f s lt full = first_bits-fields f lt full

first-full : (op : Option FullOp) (f s : ℕ) → f < 2 ^ 32 → is_full f ≡ true → first_half (full_word op f s) ≡ f
first-full None f s lt full = refl
first-full (Some op) f s lt full =
    of_choice (λ v. first_half v ≡ f) (breaks_rules op f s) _ _ (λ _. refl) (λ _. first-word op f s lt full)

first-branch : (op : Option BranchOp) (f : ℕ) → f < 2 ^ 32 → operation_of f ≡ 23 → branch_op (j_of f) ≡ op
    → first_half (branch_instruction op f) ≡ f
first-branch None f lt group e = refl
first-branch (Some op) f lt group e =
    ap (λ j. half_bits (address_of f) j 23 (i_of f)) (number-branch_op (j_of f) op e)
    ∙ ap (λ o. half_bits (address_of f) (j_of f) o (i_of f)) (sym group)
    ∙ half_bits-fields f lt

first-index : (op : Option HalfOp) (f : ℕ) → f < 2 ^ 32 → half_op (operation_of f) ≡ op
    → first_half (index_instruction op f) ≡ f
first-index None f lt e = refl
first-index (Some op) f lt e =
    ap (λ o. half_bits (address_of f) (j_of f) o (i_of f)) (number-half_op (operation_of f) op e)
    ∙ half_bits-fields f lt

first-half_word : (f : ℕ) → f < 2 ^ 32 → first_half (half_word f) ≡ f
unfolding half_word
first-half_word f lt =
    let P : Instr → Type 0 = λ v. first_half v ≡ f in
    of_choice P (operation_of f == 0) _ _
    (λ zero. ap (λ o. half_bits (address_of f) (j_of f) o (i_of f)) (sym (eqb-true _ _ zero)) ∙ half_bits-fields f lt)
    (λ _. of_choice P (operation_of f == 23) _ _
    (λ group. first-branch (branch_op (j_of f)) f lt (eqb-true _ _ group) refl)
    (λ _. first-index (half_op (operation_of f)) f lt refl))

-- the first half-word of a decoded instruction is the one that was decoded
pub first-instruction_of : (f s : ℕ) → f < 2 ^ 32 → first_half (instruction_of f s) ≡ f
unfolding instruction_of
first-instruction_of f s lt =
    of_choice (λ v. first_half v ≡ f) (is_full f) _ _
    (λ full. first-full (full_op s) f s lt full)
    (λ _. first-half_word f lt)

-- ---- the rules, one by one

-- the rules that the fields of a full word keep
pub record KeepsRules (op : FullOp) (f s : ℕ) : Type 0 where
  pub in_kind : unused_in_kind op s ≡ 0
  pub in_k : unused_k op s ≡ 0
  pub in_marks : unused_marks op s ≡ 0
  pub fitting : has_misfit op s ≡ false
  pub progress : has_misused_p op f s ≡ false
  pub count : has_miscount op s ≡ false

pub or-left : (a b : Bool) → (a || b) ≡ false → a ≡ false
or-left true b h = h
or-left false b h = refl

pub or-right : (a b : Bool) → (a || b) ≡ false → b ≡ false
or-right true b h = cc
or-right false b h = h

zero-by : (n : ℕ) (b : Bool) → (n == 0) ≡ b → not b ≡ false → n ≡ 0
zero-by n true e h = eqb-true n 0 e
zero-by n false e h = cc

zero_of : (n : ℕ) → not (n == 0) ≡ false → n ≡ 0
zero_of n h = zero-by n (n == 0) refl h

pub keeps : (op : FullOp) (f s : ℕ) → breaks_rules op f s ≡ false → KeepsRules op f s
unfolding breaks_rules
keeps op f s h =
    let h5 = or-left _ _ h in
    let h4 = or-left _ _ h5 in
    let h3 = or-left _ _ h4 in
    let h2 = or-left _ _ h3 in
    record {
      in_kind = zero_of _ (or-left _ _ h2);
      in_k = zero_of _ (or-right _ _ h2);
      in_marks = zero_of _ (or-right _ _ h3);
      fitting = or-right _ _ h4;
      progress = or-right _ _ h5;
      count = or-right _ _ h;
    }

-- ---- the operation

pub bit-one : (n : ℕ) → n < 2 → bit_of (n == 1) ≡ n
bit-one n lt = of_choice (λ m. m ≡ n) (n == 1) 1 0 (λ one. sym (eqb-true n 1 one))
    (λ other. let no : n ≡ 1 → ⊥ = eqb-false n 1 other in omega arith)

-- a connective has bit 51 set, so its number differs from those of other operations
no-plain-kind : (k : Option ConnKind) (op : FullOp) → option_map Connective k ≡ Some op → full_number op < 32 → ⊥
no-plain-kind None op e lt = cc
no-plain-kind (Some k) op e lt =
    let one : Connective k ≡ op = cc in
    let number : full_number (Connective k) ≡ full_number op = ap full_number one in
    omega arith

kind-of-connective : (k : Option ConnKind) (j : ConnKind) → option_map Connective k ≡ Some (Connective j) → k ≡ Some j
kind-of-connective None j e = cc
kind-of-connective (Some k) j e = cc

-- the operation of a full word that is not a connective has the number in bits 51-59
plain-by : (b : Bool) (s : ℕ) (op : FullOp) → is_one s 51 ≡ b
    → (if b then option_map Connective (kind (later s 56 2)) else numbered_op (later s 55 5)) ≡ Some op
    → full_number op < 32
    → (later s 51 1 ≡ 0) × (full_number op ≡ later s 55 5)
plain-by true s op one e lt = absurd (no-plain-kind (kind (later s 56 2)) op e lt)
plain-by false s op one e lt =
    let no : later s 51 1 ≡ 1 → ⊥ = eqb-false _ _ one in
    (omega arith, number-numbered_op (later s 55 5) op e)

pub plain-full_op : (s : ℕ) (op : FullOp) → full_op s ≡ Some op → full_number op < 32
    → (later s 51 1 ≡ 0) × (full_number op ≡ later s 55 5)
unfolding full_op
plain-full_op s op e lt = plain-by (is_one s 51) s op refl e lt

connective-by : (b : Bool) (s : ℕ) (k : ConnKind) → is_one s 51 ≡ b
    → (if b then option_map Connective (kind (later s 56 2)) else numbered_op (later s 55 5)) ≡ Some (Connective k)
    → (later s 51 1 ≡ 1) × (kind_number k ≡ later s 56 2)
connective-by true s k one e =
    (eqb-true _ _ one, number-kind (later s 56 2) k (kind-of-connective (kind (later s 56 2)) k e))
connective-by false s k one e =
    let number : full_number (Connective k) ≡ later s 55 5 = number-numbered_op (later s 55 5) (Connective k) e in
    let no : ⊥ = omega arith in absurd no

pub connective-full_op : (s : ℕ) (k : ConnKind) → full_op s ≡ Some (Connective k)
    → (later s 51 1 ≡ 1) × (kind_number k ≡ later s 56 2)
unfolding full_op
connective-full_op s k e = connective-by (is_one s 51) s k refl e

-- ---- the second half-word

-- the second half-word of an instruction with two addresses is packed from its fields
second-by : (s o k : ℕ) → s < 2 ^ 32 → o ≡ later s 51 9 → k ≡ k_of s → second_bits (second_address_of s) o k ≡ s
second-by s o k lt same last =
    ap (λ n. second_bits (second_address_of s) n k) same
    ∙ ap (λ n. second_bits (second_address_of s) (later s 51 9) n) last
    ∙ second_bits-fields s lt

-- the second half-word of an operation on a field is packed from its fields
field-by : (s o : ℕ) → s < 2 ^ 32 → o ≡ later s 51 9 → k_of s ≡ 0
    → second_half_bits (p_of s) (length_of s) (byte_of s) (offset_of s) o ≡ s
field-by s o lt same none =
    ap (second_half_bits (p_of s) (length_of s) (byte_of s) (offset_of s)) same ∙ field_bits-fields s lt none

bit-later : (s a : ℕ) → later s a 1 < 2 → bit_of (is_one s a) ≡ later s a 1
bit-later s a lt = bit-one (later s a 1) lt

second-word : (op : FullOp) (f s : ℕ) → s < 2 ^ 32 → full_op s ≡ Some op → KeepsRules op f s
    → second_half (full_word_instruction op f s) ≡ Some s
unfolding full_word_instruction
second-word (Variable op) f s lt e kept =
    let number = plain-full_op s (Variable op) e (vfl_number-bound op) in
    let plain : later s 51 1 ≡ 0 = number.0 in
    let same : full_number (Variable op) ≡ later s 55 5 = number.1 in
    let d : bit_of (is_one s 52) ≡ later s 52 1 = bit-later s 52 (omega arith) in
    let u : bit_of (is_one s 53) ≡ later s 53 1 = bit-later s 53 (omega arith) in
    let n : bit_of (is_one s 54) ≡ later s 54 1 = bit-later s 54 (omega arith) in
    ap Some (field-by s _ lt (omega arith) kept.in_k)
second-word (Connective kind) f s lt e kept =
    let number = connective-full_op s kind e in
    let one : later s 51 1 ≡ 1 = number.0 in
    let same : kind_number kind ≡ later s 56 2 = number.1 in
    let rest : later s 58 2 ≡ 0 = kept.in_kind in
    ap Some (field-by s _ lt (omega arith) kept.in_k)
second-word (Transmission swap) f s lt e kept =
    let number = plain-full_op s (Transmission swap) e (swap-bound swap) in
    let plain : later s 51 1 ≡ 0 = number.0 in
    let same : full_number (Transmission swap) ≡ later s 55 5 = number.1 in
    let marks : later s 52 3 ≡ 0 = kept.in_marks in
    ap Some (second-by s _ _ lt (omega arith) (count_of-mod s))
second-word BitTest f s lt e kept =
    let number = plain-full_op s BitTest e (lit< tt) in
    let plain : later s 51 1 ≡ 0 = number.0 in
    let same : 26 ≡ later s 55 5 = number.1 in
    let sense : bit_of (is_one s 52) ≡ later s 52 1 = bit-later s 52 (omega arith) in
    ap Some (second-by s _ _ lt (omega arith) (sym kept.in_k))
second-word IndicatorTest f s lt e kept =
    let number = plain-full_op s IndicatorTest e (lit< tt) in
    let plain : later s 51 1 ≡ 0 = number.0 in
    let same : 27 ≡ later s 55 5 = number.1 in
    let sense : bit_of (is_one s 52) ≡ later s 52 1 = bit-later s 52 (omega arith) in
    let off : bit_of (is_one s 53) ≡ later s 53 1 = bit-later s 53 (omega arith) in
    let mark : later s 54 1 ≡ 0 = kept.in_marks in
    ap Some (second-by s _ _ lt (omega arith) (sym kept.in_k))
second-word (Order write) f s lt e kept =
    let number = plain-full_op s (Order write) e (order-bound write) in
    let plain : later s 51 1 ≡ 0 = number.0 in
    let same : full_number (Order write) ≡ later s 55 5 = number.1 in
    let marks : later s 52 3 ≡ 0 = kept.in_marks in
    ap Some (second-by s _ _ lt (omega arith) (sym kept.in_k))
second-word CounterStore f s lt e kept =
    let number = plain-full_op s CounterStore e (lit< tt) in
    let plain : later s 51 1 ≡ 0 = number.0 in
    let same : 30 ≡ later s 55 5 = number.1 in
    let marks : later s 52 3 ≡ 0 = kept.in_marks in
    ap Some (second-by s _ _ lt (omega arith) (sym kept.in_k))

second-full : (op : Option FullOp) (f s : ℕ) → s < 2 ^ 32 → full_op s ≡ op → second_half (full_word op f s) ≡ Some s
second-full None f s lt e = refl
second-full (Some op) f s lt e =
    of_choice (λ v. second_half v ≡ Some s) (breaks_rules op f s) _ _ (λ _. refl)
    (λ kept. second-word op f s lt e (keeps op f s kept))

second-branch : (op : Option BranchOp) (f : ℕ) → second_half (branch_instruction op f) ≡ None
second-branch None f = refl
second-branch (Some op) f = refl

second-index : (op : Option HalfOp) (f : ℕ) → second_half (index_instruction op f) ≡ None
second-index None f = refl
second-index (Some op) f = refl

second-half_word : (f : ℕ) → second_half (half_word f) ≡ None
unfolding half_word
second-half_word f =
    let P : Instr → Type 0 = λ v. second_half v ≡ None in
    of_choice P (operation_of f == 0) _ _ (λ _. refl)
    (λ _. of_choice P (operation_of f == 23) _ _
    (λ _. second-branch (branch_op (j_of f)) f)
    (λ _. second-index (half_op (operation_of f)) f))

second-by-format : (b : Bool) (f s : ℕ) → s < 2 ^ 32
    → second_half (if b then full_word (full_op s) f s else half_word f) ≡ (if b then Some s else None)
second-by-format true f s lt = second-full (full_op s) f s lt refl
second-by-format false f s lt = second-half_word f

-- the second half-word of a decoded instruction is the one that was decoded, if the first begins a
-- full word
pub second-instruction_of : (f s : ℕ) → s < 2 ^ 32
    → second_half (instruction_of f s) ≡ (if is_full f then Some s else None)
unfolding instruction_of
second-instruction_of f s lt = second-by-format (is_full f) f s lt
