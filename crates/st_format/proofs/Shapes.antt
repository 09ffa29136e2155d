-- A decoded instruction has its fields in range, and is invalid if and only if the bits break a
-- rule.
use Rattle.st_format.proofs.Common.{◌≡◌, ℕ, ◌%◌, ◌^◌, ◌<◌, ◌≤◌, ◌==◌, ◌&&◌, ◌||◌, Bool, true, false, if◌then◌else◌, Option, None, Some, refl, sym, ◌∙◌, ap, lit<, arith, nat_lt, nat_le, eqb-true, eqb-false, ltb-false, BranchOp, HalfOp, FullOp, Variable, Connective, Transmission, BitTest, IndicatorTest, Order, CounterStore, Instr, half_word_part, later, is_full, i_of, address_of, j_of, operation_of, bit_address_of, second_address_of, p_of, length_of, byte_of, offset_of, k_of, words_moved, or_greatest, half_op, branch_op, full_op, half_number, is_invalid_half, breaks_rules, is_invalid, is_refused, miscounts, branch_instruction, index_instruction, half_word, full_word_instruction, full_word, instruction_of, FitsHalf, FitsFull, FitsField, IsRefusal, IsShape, is_no_instruction}
use Rattle.st_format.proofs.Numbers.{half_op-none, branch_op-none, branch_op-some, half_number-unused, number-half_op}
use Rattle.st_format.proofs.Spelled.{of_choice, or-left, or-right, KeepsRules, keeps}

-- ---- bounds of the fields

fits-half : (f : ℕ) → FitsHalf (address_of f) (i_of f)
unfolding address_of i_of
fits-half f = record { address_fits = omega arith; i_fits = omega arith }

j-bound : (f : ℕ) → j_of f < 16
unfolding j_of
j-bound f = omega arith

operation-bound : (f : ℕ) → operation_of f < 32
unfolding operation_of
operation-bound f = omega arith

fits-full : (f : ℕ) → FitsFull (bit_address_of f) (i_of f)
unfolding bit_address_of i_of
fits-full f = record { address_fits = omega arith; i_fits = omega arith }

some-greatest : (g n : ℕ) → 1 ≤ g → 1 ≤ or_greatest g n
some-greatest g n some =
    of_choice (λ m. 1 ≤ m) (n == 0) g n (λ _. some) (λ other. let no : n ≡ 0 → ⊥ = eqb-false n 0 other in omega arith)

greatest-bound : (g n : ℕ) → n ≤ g → or_greatest g n ≤ g
greatest-bound g n lt = of_choice (λ m. m ≤ g) (n == 0) g n (λ _. omega arith) (λ _. lt)

fits-field : (s : ℕ) → FitsField (p_of s) (length_of s) (byte_of s) (offset_of s)
unfolding p_of length_of byte_of offset_of
fits-field s = record {
  p_fits = omega arith;
  some_bits = some-greatest 64 (later s 35 6) (omega arith);
  length_fits = greatest-bound 64 (later s 35 6) (omega arith);
  some_byte = some-greatest 8 (later s 41 3) (omega arith);
  byte_fits = greatest-bound 8 (later s 41 3) (omega arith);
  offset_fits = omega arith;
}

second-bound : (s : ℕ) → second_address_of s < 2 ^ 19
unfolding second_address_of
second-bound s = omega arith

some-count : (s : ℕ) → 1 ≤ words_moved s
unfolding words_moved k_of
some-count s = some-greatest 16 (later s 60 4) (omega arith)

count-bound : (s : ℕ) → words_moved s ≤ 16
unfolding words_moved k_of
count-bound s = greatest-bound 16 (later s 60 4) (omega arith)

-- ---- a full word

some-count-by : (n : ℕ) → (n == 0) ≡ false → 1 ≤ n
some-count-by n h = let no : n ≡ 0 → ⊥ = eqb-false n 0 h in omega arith

count-bound-by : (n : ℕ) → nat_lt 1000 n ≡ false → n ≤ 1000
count-bound-by n h = ltb-false 1000 n h

counts : (n : ℕ) → miscounts n ≡ false → (1 ≤ n) × (n ≤ 1000)
counts n h = (some-count-by n (or-left _ _ h), count-bound-by n (or-right _ _ h))

shape-word : (op : FullOp) (f s : ℕ) → KeepsRules op f s → IsShape (full_word_instruction op f s)
unfolding full_word_instruction
shape-word (Variable op) f s kept = (fits-full f, fits-field s, kept.fitting, kept.progress)
shape-word (Connective kind) f s kept = (fits-full f, fits-field s, omega arith, kept.progress)
shape-word (Transmission swap) f s kept = (fits-full f, second-bound s, some-count s, count-bound s)
shape-word BitTest f s kept = (fits-full f, omega arith, second-bound s)
shape-word IndicatorTest f s kept = (fits-full f, second-bound s)
shape-word (Order write) f s kept =
    let bounds = counts (second_address_of s) kept.count in (fits-full f, bounds.0, bounds.1)
shape-word CounterStore f s kept = (fits-full f, second-bound s)

pub invalid-full : (f s : ℕ) → is_full f ≡ true → is_invalid f s ≡ is_refused (full_op s) f s
invalid-full f s full = ap (λ b. if b then is_refused (full_op s) f s else is_invalid_half f) full

pub invalid-half : (f s : ℕ) → is_full f ≡ false → is_invalid f s ≡ is_invalid_half f
invalid-half f s short = ap (λ b. if b then is_refused (full_op s) f s else is_invalid_half f) short

refusal-full : (f s : ℕ) → f < 2 ^ 32 → s < 2 ^ 32 → is_full f ≡ true → is_refused (full_op s) f s ≡ true
    → IsRefusal f s true
refusal-full f s hf hs full refused = record {
  first_fits = hf;
  second_fits = hs;
  format = full;
  refused = invalid-full f s full ∙ refused;
  alone = λ e. cc;
}

shape-full : (op : Option FullOp) (f s : ℕ) → f < 2 ^ 32 → s < 2 ^ 32 → is_full f ≡ true → full_op s ≡ op
    → IsShape (full_word op f s)
shape-full None f s hf hs full e = refusal-full f s hf hs full (ap (λ o. is_refused o f s) e)
shape-full (Some op) f s hf hs full e =
    of_choice IsShape (breaks_rules op f s) _ _
    (λ broken. refusal-full f s hf hs full (ap (λ o. is_refused o f s) e ∙ broken))
    (λ kept. shape-word op f s (keeps op f s kept))

none-word : (op : FullOp) (f s : ℕ) → is_no_instruction (full_word_instruction op f s) ≡ false
unfolding full_word_instruction
none-word (Variable op) f s = refl
none-word _ f s = refl

none-by : (b : Bool) (op : FullOp) (f s : ℕ)
    → is_no_instruction (if b then Instr.Invalid f s true else full_word_instruction op f s) ≡ b
none-by true op f s = refl
none-by false op f s = none-word op f s

none-full : (op : Option FullOp) (f s : ℕ) → is_no_instruction (full_word op f s) ≡ is_refused op f s
none-full None f s = refl
none-full (Some op) f s = none-by (breaks_rules op f s) op f s

-- ---- a half-word

refusal-half : (f : ℕ) → f < 2 ^ 32 → is_full f ≡ false → is_invalid_half f ≡ true → IsRefusal f 0 false
refusal-half f hf short refused = record {
  first_fits = hf;
  second_fits = lit< tt;
  format = short;
  refused = invalid-half f 0 short ∙ refused;
  alone = λ _. refl;
}

-- the last four bits of the operation number are bits 24-27, so they are not all ones in a
-- half-word instruction
short-operation : (f : ℕ) → is_full f ≡ false → (operation_of f % 16 == 15) ≡ false
unfolding is_full operation_of
short-operation f short =
    let same : half_word_part f 23 5 % 16 ≡ half_word_part f 24 4 = omega arith in ap (λ n. n == 15) same ∙ short

refused-branch : (f : ℕ) → operation_of f ≡ 23 → branch_op (j_of f) ≡ None → is_invalid_half f ≡ true
unfolding is_invalid_half
refused-branch f group none =
    ap (λ o. o == 12 || (o == 23 && nat_le 6 (j_of f))) group ∙ branch_op-none (j_of f) none

allowed-branch : (f : ℕ) (op : BranchOp) → operation_of f ≡ 23 → branch_op (j_of f) ≡ Some op
    → is_invalid_half f ≡ false
unfolding is_invalid_half
allowed-branch f op group e =
    ap (λ o. o == 12 || (o == 23 && nat_le 6 (j_of f))) group ∙ branch_op-some (j_of f) op e

unused-by : (zero twelve group full late : Bool) → zero ≡ false → group ≡ false → full ≡ false
    → (zero || twelve || group || full) ≡ true → (twelve || (group && late)) ≡ true
unused-by zero true group full late z g f h = refl
unused-by zero false group full late z g f h =
    let no : false ≡ true = sym (ap (λ b. b || false || group || full) z ∙ ap (λ b. b || full) g ∙ f) ∙ h in cc

unused : (o j : ℕ) → (o == 0) ≡ false → (o == 23) ≡ false → (o % 16 == 15) ≡ false
    → (o == 0 || o == 12 || o == 23 || o % 16 == 15) ≡ true → (o == 12 || (o == 23 && nat_le 6 j)) ≡ true
unused o j zero group full h = unused-by (o == 0) (o == 12) (o == 23) (o % 16 == 15) (nat_le 6 j) zero group full h

refused-index : (f : ℕ) → is_full f ≡ false → (operation_of f == 0) ≡ false → (operation_of f == 23) ≡ false
    → half_op (operation_of f) ≡ None → is_invalid_half f ≡ true
unfolding is_invalid_half
refused-index f short zero group none =
    unused (operation_of f) (j_of f) zero group (short-operation f short)
    (half_op-none (operation_of f) (operation-bound f) none)

allowed-index : (f : ℕ) (op : HalfOp) → (operation_of f == 23) ≡ false → half_op (operation_of f) ≡ Some op
    → is_invalid_half f ≡ false
unfolding is_invalid_half
allowed-index f op group e =
    let same : half_number op ≡ operation_of f = number-half_op (operation_of f) op e in
    let used : (operation_of f == 12) ≡ false = ap (λ o. o == 12) (sym same) ∙ half_number-unused op in
    ap (λ b. b || (operation_of f == 23 && nat_le 6 (j_of f))) used ∙ ap (λ b. b && nat_le 6 (j_of f)) group

allowed-floating : (f : ℕ) → (operation_of f == 0) ≡ true → is_invalid_half f ≡ false
unfolding is_invalid_half
allowed-floating f zero = ap (λ o. o == 12 || (o == 23 && nat_le 6 (j_of f))) (eqb-true (operation_of f) 0 zero)

shape-branch : (op : Option BranchOp) (f : ℕ) → f < 2 ^ 32 → is_full f ≡ false → operation_of f ≡ 23
    → branch_op (j_of f) ≡ op → IsShape (branch_instruction op f)
shape-branch None f hf short group e = refusal-half f hf short (refused-branch f group e)
shape-branch (Some op) f hf short group e = fits-half f

shape-index : (op : Option HalfOp) (f : ℕ) → f < 2 ^ 32 → is_full f ≡ false → (operation_of f == 0) ≡ false
    → (operation_of f == 23) ≡ false → half_op (operation_of f) ≡ op → IsShape (index_instruction op f)
shape-index None f hf short zero group e = refusal-half f hf short (refused-index f short zero group e)
shape-index (Some op) f hf short zero group e = (fits-half f, j-bound f)

shape-half : (f : ℕ) → f < 2 ^ 32 → is_full f ≡ false → IsShape (half_word f)
unfolding half_word
shape-half f hf short =
    of_choice IsShape (operation_of f == 0) _ _ (λ _. (fits-half f, j-bound f))
    (λ zero. of_choice IsShape (operation_of f == 23) _ _
    (λ group. shape-branch (branch_op (j_of f)) f hf short (eqb-true _ _ group) refl)
    (λ group. shape-index (half_op (operation_of f)) f hf short zero group refl))

none-branch : (op : Option BranchOp) (f : ℕ) → operation_of f ≡ 23 → branch_op (j_of f) ≡ op
    → is_no_instruction (branch_instruction op f) ≡ is_invalid_half f
none-branch None f group e = sym (refused-branch f group e)
none-branch (Some op) f group e = sym (allowed-branch f op group e)

none-index : (op : Option HalfOp) (f : ℕ) → is_full f ≡ false → (operation_of f == 0) ≡ false
    → (operation_of f == 23) ≡ false → half_op (operation_of f) ≡ op
    → is_no_instruction (index_instruction op f) ≡ is_invalid_half f
none-index None f short zero group e = sym (refused-index f short zero group e)
none-index (Some op) f short zero group e = sym (allowed-index f op group e)

none-half : (f : ℕ) → is_full f ≡ false → is_no_instruction (half_word f) ≡ is_invalid_half f
unfolding half_word
none-half f short =
    let P : Instr → Type 0 = λ v. is_no_instruction v ≡ is_invalid_half f in
    of_choice P (operation_of f == 0) _ _ (λ zero. sym (allowed-floating f zero))
    (λ zero. of_choice P (operation_of f == 23) _ _
    (λ group. none-branch (branch_op (j_of f)) f (eqb-true _ _ group) refl)
    (λ group. none-index (half_op (operation_of f)) f short zero group refl))

-- ---- both formats

-- the instruction that two half-words decode to has its fields in range
pub shape-instruction_of : (f s : ℕ) → f < 2 ^ 32 → s < 2 ^ 32 → IsShape (instruction_of f s)
unfolding instruction_of
shape-instruction_of f s hf hs =
    of_choice IsShape (is_full f) _ _
    (λ full. shape-full (full_op s) f s hf hs full refl)
    (λ short. shape-half f hf short)

-- two half-words decode to an invalid instruction if and only if they break a rule
pub none-instruction_of : (f s : ℕ) → is_no_instruction (instruction_of f s) ≡ is_invalid f s
unfolding instruction_of
none-instruction_of f s =
    of_choice (λ v. is_no_instruction v ≡ is_invalid f s) (is_full f) _ _
    (λ full. none-full (full_op s) f s ∙ sym (invalid-full f s full))
    (λ short. none-half f short ∙ sym (invalid-half f s short))
