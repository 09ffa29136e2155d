-- The encoding of an instruction with its fields in range decodes to that instruction.
use Rattle.st_format.proofs.Common.{◌≡◌, ℕ, ◌+◌, ◌*◌, ◌%◌, ◌^◌, ◌<◌, ◌≤◌, ◌==◌, ◌&&◌, ◌||◌, Bool, true, false, if◌then◌else◌, Option, None, Some, refl, sym, ◌∙◌, ap, lit<, arith, nat_lt, nat_le, is_some, option_map, eqb-true, ne_eqb, le-ltb, BranchOp, HalfOp, VflOp, ConnKind, FullOp, Variable, Connective, Transmission, BitTest, IndicatorTest, Order, CounterStore, Instr, later, is_one, is_full, i_of, address_of, j_of, operation_of, bit_address_of, second_address_of, p_of, length_of, byte_of, offset_of, k_of, words_moved, half_bits, first_bits, second_half_bits, second_bits, full_ops, numbered_op, half_op, branch_op, kind, full_op, half_number, branch_number, kind_number, vfl_number, full_number, writes_field, is_invalid_half, breaks_rules, is_invalid, is_refused, misfits, misuses_p, miscounts, branch_instruction, index_instruction, half_word, full_word_instruction, full_word, instruction_of, first_half, second_half, bit_of, FitsHalf, FitsFull, FitsField, IsRefusal, IsShape}
use Rattle.std.specs.Prelude.{unwrap_or}
use Rattle.st_format.specs.declared.instruction.Instr.TheVariants.{Half, Branch, Floating, Vfl, Connect, Move, BitBranch, IndBranch, StoreCounter, Transfer, Invalid}
use Rattle.st_format.proofs.Windows.{address-half_bits, j-half_bits, operation-half_bits, i-half_bits, is_full-half_bits, address-first_bits, i-first_bits, is_full-first_bits, p-field_bits, length-field_bits, byte-field_bits, offset-field_bits, operation-field_bits, k-field_bits, second-second_bits, operation-second_bits, k-second_bits, count-second_bits}
use Rattle.st_format.proofs.Numbers.{half_op-number, branch_op-number, kind-number, numbered_op-vfl_number, half_number-bound, half_number-short, branch_number-bound, vfl_number-bound, kind_number-bound, half_number-floating, half_number-branch, swap-bound, order-bound, half_op-unused, branch_op-late}
use Rattle.st_format.proofs.Shapes.{invalid-full, invalid-half}

-- ---- a half-word

-- the bits of a half-word instruction decode as one half-word, with each of its fields
short-format : (f s : ℕ) → is_full f ≡ false → instruction_of f s ≡ half_word f
unfolding instruction_of
short-format f s short = ap (λ b. if b then full_word (full_op s) f s else half_word f) short

-- the decoding of a half-word whose operation is in the table
index-chosen : (f o : ℕ) (op : HalfOp) → (o == 0) ≡ false → (o == 23) ≡ false → half_op o ≡ Some op
    → operation_of f ≡ o → half_word f ≡ Half op (address_of f) (j_of f) (i_of f)
unfolding half_word
index-chosen f o op floating group known number =
    ap (λ n. if n == 0 then Floating (j_of f) (address_of f) (i_of f)
    else if n == 23 then branch_instruction (branch_op (j_of f)) f else index_instruction (half_op n) f) number
    ∙ ap (λ b. if b then Floating (j_of f) (address_of f) (i_of f)
    else if o == 23 then branch_instruction (branch_op (j_of f)) f else index_instruction (half_op o) f) floating
    ∙ ap (λ b. if b then branch_instruction (branch_op (j_of f)) f else index_instruction (half_op o) f) group
    ∙ ap (λ p. index_instruction p f) known

branch-chosen : (f : ℕ) (op : BranchOp) → operation_of f ≡ 23 → branch_op (j_of f) ≡ Some op
    → half_word f ≡ Branch op (address_of f) (i_of f)
unfolding half_word
branch-chosen f op number known =
    ap (λ n. if n == 0 then Floating (j_of f) (address_of f) (i_of f)
    else if n == 23 then branch_instruction (branch_op (j_of f)) f else index_instruction (half_op n) f) number
    ∙ ap (λ p. branch_instruction p f) known

floating-chosen : (f : ℕ) → operation_of f ≡ 0 → half_word f ≡ Floating (j_of f) (address_of f) (i_of f)
unfolding half_word
floating-chosen f number =
    ap (λ n. if n == 0 then Floating (j_of f) (address_of f) (i_of f)
    else if n == 23 then branch_instruction (branch_op (j_of f)) f else index_instruction (half_op n) f) number

half-back : (op : HalfOp) (a j i s : ℕ) → FitsHalf a i → j < 16
    → instruction_of (half_bits a j (half_number op) i) s ≡ Half op a j i
half-back op a j i s fits hj =
    let o = half_number op in
    let f = half_bits a j o i in
    let ho : o < 32 = half_number-bound op in
    let short : is_full f ≡ false = is_full-half_bits a j o i fits.i_fits ∙ half_number-short op in
    let number : operation_of f ≡ o = operation-half_bits a j o i fits.address_fits hj ho fits.i_fits in
    short-format f s short
    ∙ index-chosen f o op (half_number-floating op) (half_number-branch op) (half_op-number op) number
    ∙ ap (λ x. Half op x (j_of f) (i_of f)) (address-half_bits a j o i fits.address_fits hj ho fits.i_fits)
    ∙ ap (λ x. Half op a x (i_of f)) (j-half_bits a j o i fits.address_fits hj ho fits.i_fits)
    ∙ ap (Half op a j) (i-half_bits a j o i fits.i_fits)

branch-back : (op : BranchOp) (a i s : ℕ) → FitsHalf a i
    → instruction_of (half_bits a (branch_number op) 23 i) s ≡ Branch op a i
branch-back op a i s fits =
    let j = branch_number op in
    let f = half_bits a j 23 i in
    let six : j < 6 = branch_number-bound op in
    let hj : j < 16 = omega arith in
    let short : is_full f ≡ false = is_full-half_bits a j 23 i fits.i_fits in
    let number : operation_of f ≡ 23 = operation-half_bits a j 23 i fits.address_fits hj (lit< tt) fits.i_fits in
    let group : j_of f ≡ j = j-half_bits a j 23 i fits.address_fits hj (lit< tt) fits.i_fits in
    short-format f s short
    ∙ branch-chosen f op number (ap branch_op group ∙ branch_op-number op)
    ∙ ap (λ x. Branch op x (i_of f)) (address-half_bits a j 23 i fits.address_fits hj (lit< tt) fits.i_fits)
    ∙ ap (Branch op a) (i-half_bits a j 23 i fits.i_fits)

floating-back : (n a i s : ℕ) → FitsHalf a i → n < 16 → instruction_of (half_bits a n 0 i) s ≡ Floating n a i
floating-back n a i s fits hn =
    let f = half_bits a n 0 i in
    let short : is_full f ≡ false = is_full-half_bits a n 0 i fits.i_fits in
    let number : operation_of f ≡ 0 = operation-half_bits a n 0 i fits.address_fits hn (lit< tt) fits.i_fits in
    short-format f s short
    ∙ floating-chosen f number
    ∙ ap (λ x. Floating x (address_of f) (i_of f)) (j-half_bits a n 0 i fits.address_fits hn (lit< tt) fits.i_fits)
    ∙ ap (λ x. Floating n x (i_of f)) (address-half_bits a n 0 i fits.address_fits hn (lit< tt) fits.i_fits)
    ∙ ap (Floating n a) (i-half_bits a n 0 i fits.i_fits)

-- ---- a full word

-- the decoding of a full word with a known operation that breaks no rule
full-chosen : (op : FullOp) (f s : ℕ) → is_full f ≡ true → full_op s ≡ Some op → breaks_rules op f s ≡ false
    → instruction_of f s ≡ full_word_instruction op f s
unfolding instruction_of
full-chosen op f s full known kept =
    ap (λ b. if b then full_word (full_op s) f s else half_word f) full
    ∙ ap (λ o. full_word o f s) known
    ∙ ap (λ b. if b then Invalid f s true else full_word_instruction op f s) kept

-- the operation of a full word that is not a connective, by its number
plain-known : (op : FullOp) (s o n : ℕ) → later s 51 9 ≡ o → o < 256 → o % 32 ≡ n → numbered_op n ≡ Some op
    → full_op s ≡ Some op
unfolding full_op
plain-known op s o n same lt number known =
    let zero : later s 51 1 ≡ 0 = omega arith in
    let digits : later s 55 5 ≡ n = omega arith in
    ap (λ b. if b == 1 then option_map Connective (kind (later s 56 2)) else numbered_op (later s 55 5)) zero
    ∙ ap (numbered_op) digits
    ∙ known

connective-known : (k : ConnKind) (s : ℕ) → later s 51 1 ≡ 1 → later s 56 2 ≡ kind_number k
    → full_op s ≡ Some (Connective k)
unfolding full_op
connective-known k s one number =
    ap (λ b. if b == 1 then option_map Connective (kind (later s 56 2)) else numbered_op (later s 55 5)) one
    ∙ ap (λ n. option_map Connective (kind n)) number
    ∙ ap (option_map Connective) (kind-number k)

-- a bit of the second half-word as a Boolean, by its number
flag : (s a : ℕ) (b : Bool) → later s a 1 ≡ bit_of b → is_one s a ≡ b
flag s a true e = ap (λ n. n == 1) e
flag s a false e = ap (λ n. n == 1) e

bit-bound : (b : Bool) → bit_of b < 2
bit-bound true = lit< tt
bit-bound false = lit< tt

-- the rules of an operation on a field and of a connective, by the values of the fields
field-keeps : (op : VflOp) (f s : ℕ) (d u : Bool) (p l b i : ℕ)
    → k_of s ≡ 0 → is_one s 52 ≡ d → is_one s 53 ≡ u → p_of s ≡ p → length_of s ≡ l → byte_of s ≡ b → i_of f ≡ i
    → misfits d u l b ≡ false → misuses_p (writes_field (Variable op)) p l i ≡ false
    → breaks_rules (Variable op) f s ≡ false
unfolding breaks_rules
field-keeps op f s d u p l b i ek ed eu ep el eb ei fits used =
    simp (ek, ed, eu, ep, el, eb, ei, fits, used) refl

connective-keeps : (k : ConnKind) (f s : ℕ) (p l i : ℕ)
    → later s 58 2 ≡ 0 → k_of s ≡ 0 → p_of s ≡ p → length_of s ≡ l → i_of f ≡ i
    → misuses_p (writes_field (Connective k)) p l i ≡ false
    → breaks_rules (Connective k) f s ≡ false
unfolding breaks_rules
connective-keeps k f s p l i er ek ep el ei used = simp (er, ek, ep, el, ei, used) refl

vfl-back : (op : VflOp) (d u n : Bool) (p l b o a i : ℕ) → FitsFull a i → FitsField p l b o
    → misfits d u l b ≡ false → misuses_p (writes_field (Variable op)) p l i ≡ false
    → instruction_of (first_bits a i)
    (second_half_bits p l b o (bit_of d * 2 ^ 7 + bit_of u * 2 ^ 6 + bit_of n * 2 ^ 5 + vfl_number op))
    ≡ Vfl op d u n p l b o a i
unfolding full_word_instruction
vfl-back op d u n p l b o a i fits field good used =
    let code = bit_of d * 2 ^ 7 + bit_of u * 2 ^ 6 + bit_of n * 2 ^ 5 + vfl_number op in
    let f = first_bits a i in
    let s = second_half_bits p l b o code in
    let hd : bit_of d < 2 = bit-bound d in
    let hu : bit_of u < 2 = bit-bound u in
    let hn : bit_of n < 2 = bit-bound n in
    let hv : vfl_number op < 32 = vfl_number-bound op in
    let small : code < 256 = omega arith in
    let hc : code < 512 = omega arith in
    let same : later s 51 9 ≡ code = operation-field_bits p l b o code field.p_fits field.offset_fits hc in
    let ed : is_one s 52 ≡ d = flag s 52 d (omega arith) in
    let eu : is_one s 53 ≡ u = flag s 53 u (omega arith) in
    let en : is_one s 54 ≡ n = flag s 54 n (omega arith) in
    let ep : p_of s ≡ p = p-field_bits p l b o code field.p_fits field.offset_fits hc in
    let el : length_of s ≡ l =
    length-field_bits p l b o code field.p_fits field.some_bits field.length_fits field.offset_fits hc in
    let eb : byte_of s ≡ b =
    byte-field_bits p l b o code field.p_fits field.some_byte field.byte_fits field.offset_fits hc in
    let eo : offset_of s ≡ o = offset-field_bits p l b o code field.p_fits field.offset_fits hc in
    let ea : bit_address_of f ≡ a = address-first_bits a i fits.address_fits fits.i_fits in
    let ei : i_of f ≡ i = i-first_bits a i fits.i_fits in
    full-chosen (Variable op) f s (is_full-first_bits a i fits.i_fits)
    (plain-known (Variable op) s code (vfl_number op) same small (omega arith) (numbered_op-vfl_number op))
    (field-keeps op f s d u p l b i (k-field_bits p l b o code) ed eu ep el eb ei good used)
    ∙ simp (ed, eu, en, ep, el, eb, eo, ea, ei) refl

connect-back : (k : ConnKind) (t p l b o a i : ℕ) → FitsFull a i → FitsField p l b o → t < 16
    → misuses_p (writes_field (Connective k)) p l i ≡ false
    → instruction_of (first_bits a i) (second_half_bits p l b o (t * 2 ^ 4 + full_number (Connective k)))
    ≡ Connect k t p l b o a i
unfolding full_word_instruction
connect-back k t p l b o a i fits field ht used =
    let code = t * 2 ^ 4 + full_number (Connective k) in
    let f = first_bits a i in
    let s = second_half_bits p l b o code in
    let hk : kind_number k < 3 = kind_number-bound k in
    let hc : code < 512 = omega arith in
    let same : later s 51 9 ≡ code = operation-field_bits p l b o code field.p_fits field.offset_fits hc in
    let et : later s 52 4 ≡ t = omega arith in
    let ep : p_of s ≡ p = p-field_bits p l b o code field.p_fits field.offset_fits hc in
    let el : length_of s ≡ l =
    length-field_bits p l b o code field.p_fits field.some_bits field.length_fits field.offset_fits hc in
    let eb : byte_of s ≡ b =
    byte-field_bits p l b o code field.p_fits field.some_byte field.byte_fits field.offset_fits hc in
    let eo : offset_of s ≡ o = offset-field_bits p l b o code field.p_fits field.offset_fits hc in
    let ea : bit_address_of f ≡ a = address-first_bits a i fits.address_fits fits.i_fits in
    let ei : i_of f ≡ i = i-first_bits a i fits.i_fits in
    full-chosen (Connective k) f s (is_full-first_bits a i fits.i_fits)
    (connective-known k s (omega arith) (omega arith))
    (connective-keeps k f s p l i (omega arith) (k-field_bits p l b o code) ep el ei used)
    ∙ simp (et, ep, el, eb, eo, ea, ei) refl

-- the rules of the instructions with two addresses, by the values of the fields
move-keeps : (swap : Bool) (f s : ℕ) → later s 52 3 ≡ 0 → breaks_rules (Transmission swap) f s ≡ false
unfolding breaks_rules
move-keeps swap f s em = simp em refl

bit-keeps : (f s : ℕ) → k_of s ≡ 0 → breaks_rules BitTest f s ≡ false
unfolding breaks_rules
bit-keeps f s ek = simp ek refl

indicator-keeps : (f s : ℕ) → k_of s ≡ 0 → later s 54 1 ≡ 0 → breaks_rules IndicatorTest f s ≡ false
unfolding breaks_rules
indicator-keeps f s ek em = simp (ek, em) refl

store-keeps : (f s : ℕ) → k_of s ≡ 0 → later s 52 3 ≡ 0 → breaks_rules CounterStore f s ≡ false
unfolding breaks_rules
store-keeps f s ek em = simp (ek, em) refl

order-keeps : (write : Bool) (f s n : ℕ) → k_of s ≡ 0 → later s 52 3 ≡ 0 → second_address_of s ≡ n
    → miscounts n ≡ false → breaks_rules (Order write) f s ≡ false
unfolding breaks_rules
order-keeps write f s n ek em en good = simp (ek, em, en, good) refl

swap-known : (swap : Bool) → numbered_op (full_number (Transmission swap)) ≡ Some (Transmission swap)
unfolding numbered_op full_ops
swap-known true = refl
swap-known false = refl

write-known : (write : Bool) → numbered_op (full_number (Order write)) ≡ Some (Order write)
unfolding numbered_op full_ops
write-known true = refl
write-known false = refl

bit-known : numbered_op 26 ≡ Some BitTest
unfolding numbered_op full_ops
bit-known = refl

indicator-known : numbered_op 27 ≡ Some IndicatorTest
unfolding numbered_op full_ops
indicator-known = refl

store-known : numbered_op 30 ≡ Some CounterStore
unfolding numbered_op full_ops
store-known = refl

move-back : (swap : Bool) (a i w n : ℕ) → FitsFull a i → w < 2 ^ 19 → 1 ≤ n → n ≤ 16
    → instruction_of (first_bits a i) (second_bits w (full_number (Transmission swap)) (n % 16)) ≡ Move swap a i w n
unfolding full_word_instruction
move-back swap a i w n fits hw some many =
    let code = full_number (Transmission swap) in
    let f = first_bits a i in
    let s = second_bits w code (n % 16) in
    let hn : code < 32 = swap-bound swap in
    let hk : n % 16 < 16 = omega arith in
    let same : later s 51 9 ≡ code = operation-second_bits w code (n % 16) (omega arith) hk in
    let ew : second_address_of s ≡ w = second-second_bits w code (n % 16) hw (omega arith) hk in
    let en : words_moved s ≡ n = count-second_bits w code n some many in
    let ea : bit_address_of f ≡ a = address-first_bits a i fits.address_fits fits.i_fits in
    let ei : i_of f ≡ i = i-first_bits a i fits.i_fits in
    full-chosen (Transmission swap) f s (is_full-first_bits a i fits.i_fits)
    (plain-known (Transmission swap) s code code same (omega arith) (omega arith) (swap-known swap))
    (move-keeps swap f s (omega arith))
    ∙ simp (ew, en, ea, ei) refl

bit-back : (sense : Bool) (c a i w : ℕ) → FitsFull a i → c < 4 → w < 2 ^ 19
    → instruction_of (first_bits a i) (second_bits w (bit_of sense * 2 ^ 7 + c * 2 ^ 5 + 26) 0)
    ≡ BitBranch sense c a i w
unfolding full_word_instruction
bit-back sense c a i w fits hc hw =
    let code = bit_of sense * 2 ^ 7 + c * 2 ^ 5 + 26 in
    let f = first_bits a i in
    let s = second_bits w code 0 in
    let hs : bit_of sense < 2 = bit-bound sense in
    let ho : code < 256 = omega arith in
    let same : later s 51 9 ≡ code = operation-second_bits w code 0 (omega arith) (lit< tt) in
    let ek : k_of s ≡ 0 = k-second_bits w code 0 (lit< tt) in
    let es : is_one s 52 ≡ sense = flag s 52 sense (omega arith) in
    let ec : later s 53 2 ≡ c = omega arith in
    let ew : second_address_of s ≡ w = second-second_bits w code 0 hw (omega arith) (lit< tt) in
    let ea : bit_address_of f ≡ a = address-first_bits a i fits.address_fits fits.i_fits in
    let ei : i_of f ≡ i = i-first_bits a i fits.i_fits in
    full-chosen BitTest f s (is_full-first_bits a i fits.i_fits)
    (plain-known BitTest s code 26 same ho (omega arith) bit-known)
    (bit-keeps f s ek)
    ∙ simp (es, ec, ew, ea, ei) refl

indicator-back : (sense off : Bool) (a i w : ℕ) → FitsFull a i → w < 2 ^ 19
    → instruction_of (first_bits a i) (second_bits w (bit_of sense * 2 ^ 7 + bit_of off * 2 ^ 6 + 27) 0)
    ≡ IndBranch sense off a i w
unfolding full_word_instruction
indicator-back sense off a i w fits hw =
    let code = bit_of sense * 2 ^ 7 + bit_of off * 2 ^ 6 + 27 in
    let f = first_bits a i in
    let s = second_bits w code 0 in
    let hs : bit_of sense < 2 = bit-bound sense in
    let hf : bit_of off < 2 = bit-bound off in
    let ho : code < 256 = omega arith in
    let same : later s 51 9 ≡ code = operation-second_bits w code 0 (omega arith) (lit< tt) in
    let ek : k_of s ≡ 0 = k-second_bits w code 0 (lit< tt) in
    let es : is_one s 52 ≡ sense = flag s 52 sense (omega arith) in
    let ef : is_one s 53 ≡ off = flag s 53 off (omega arith) in
    let ew : second_address_of s ≡ w = second-second_bits w code 0 hw (omega arith) (lit< tt) in
    let ea : bit_address_of f ≡ a = address-first_bits a i fits.address_fits fits.i_fits in
    let ei : i_of f ≡ i = i-first_bits a i fits.i_fits in
    full-chosen IndicatorTest f s (is_full-first_bits a i fits.i_fits)
    (plain-known IndicatorTest s code 27 same ho (omega arith) indicator-known)
    (indicator-keeps f s ek (omega arith))
    ∙ simp (es, ef, ew, ea, ei) refl

store-back : (a i w : ℕ) → FitsFull a i → w < 2 ^ 19
    → instruction_of (first_bits a i) (second_bits w 30 0) ≡ StoreCounter a i w
unfolding full_word_instruction
store-back a i w fits hw =
    let f = first_bits a i in
    let s = second_bits w 30 0 in
    let same : later s 51 9 ≡ 30 = operation-second_bits w 30 0 (lit< tt) (lit< tt) in
    let ek : k_of s ≡ 0 = k-second_bits w 30 0 (lit< tt) in
    let ew : second_address_of s ≡ w = second-second_bits w 30 0 hw (lit< tt) (lit< tt) in
    let ea : bit_address_of f ≡ a = address-first_bits a i fits.address_fits fits.i_fits in
    let ei : i_of f ≡ i = i-first_bits a i fits.i_fits in
    full-chosen CounterStore f s (is_full-first_bits a i fits.i_fits)
    (plain-known CounterStore s 30 30 same (lit< tt) refl store-known)
    (store-keeps f s ek (omega arith))
    ∙ simp (ew, ea, ei) refl

good-count : (n : ℕ) → 1 ≤ n → n ≤ 1000 → miscounts n ≡ false
good-count n some many =
    let not_zero : (n == 0) ≡ false = ne_eqb n 0 (λ e. omega arith) in
    ap (λ b. b || nat_lt 1000 n) not_zero ∙ le-ltb 1000 n many

transfer-back : (write : Bool) (a i n : ℕ) → FitsFull a i → 1 ≤ n → n ≤ 1000
    → instruction_of (first_bits a i) (second_bits n (full_number (Order write)) 0) ≡ Transfer write a i n
unfolding full_word_instruction
transfer-back write a i n fits some many =
    let code = full_number (Order write) in
    let f = first_bits a i in
    let s = second_bits n code 0 in
    let hn : code < 32 = order-bound write in
    let same : later s 51 9 ≡ code = operation-second_bits n code 0 (omega arith) (lit< tt) in
    let ek : k_of s ≡ 0 = k-second_bits n code 0 (lit< tt) in
    let en : second_address_of s ≡ n = second-second_bits n code 0 (omega arith) (omega arith) (lit< tt) in
    let ea : bit_address_of f ≡ a = address-first_bits a i fits.address_fits fits.i_fits in
    let ei : i_of f ≡ i = i-first_bits a i fits.i_fits in
    full-chosen (Order write) f s (is_full-first_bits a i fits.i_fits)
    (plain-known (Order write) s code code same (omega arith) (omega arith) (write-known write))
    (order-keeps write f s n ek (omega arith) en (good-count n some many))
    ∙ simp (en, ea, ei) refl

-- ---- invalid bits

refused-word : (op : Option FullOp) (f s : ℕ) → is_refused op f s ≡ true → full_word op f s ≡ Invalid f s true
refused-word None f s h = refl
refused-word (Some op) f s h = ap (λ b. if b then Invalid f s true else full_word_instruction op f s) h

full-invalid : (f s : ℕ) → is_full f ≡ true → is_invalid f s ≡ true → instruction_of f s ≡ Invalid f s true
unfolding instruction_of
full-invalid f s full refused =
    ap (λ b. if b then full_word (full_op s) f s else half_word f) full
    ∙ refused-word (full_op s) f s (sym (invalid-full f s full) ∙ refused)

unused-word : (f : ℕ) → operation_of f ≡ 12 → half_word f ≡ Invalid f 0 false
unfolding half_word
unused-word f number =
    ap (λ n. if n == 0 then Floating (j_of f) (address_of f) (i_of f)
    else if n == 23 then branch_instruction (branch_op (j_of f)) f else index_instruction (half_op n) f) number
    ∙ ap (λ p. index_instruction p f) half_op-unused

late-word : (f : ℕ) → operation_of f ≡ 23 → branch_op (j_of f) ≡ None → half_word f ≡ Invalid f 0 false
unfolding half_word
late-word f number none =
    ap (λ n. if n == 0 then Floating (j_of f) (address_of f) (i_of f)
    else if n == 23 then branch_instruction (branch_op (j_of f)) f else index_instruction (half_op n) f) number
    ∙ ap (λ p. branch_instruction p f) none

refused-by : (f : ℕ) (unused group late : Bool) → (operation_of f == 12) ≡ unused → (operation_of f == 23) ≡ group
    → nat_le 6 (j_of f) ≡ late → (unused || (group && late)) ≡ true → half_word f ≡ Invalid f 0 false
refused-by f true group late eu eg el h = unused-word f (eqb-true _ _ eu)
refused-by f false true true eu eg el h =
    late-word f (eqb-true _ _ eg) (branch_op-late (j_of f) (branch_op (j_of f)) refl el)
refused-by f false true false eu eg el h = cc
refused-by f false false late eu eg el h = cc

refused-half : (f : ℕ) → is_invalid_half f ≡ true → half_word f ≡ Invalid f 0 false
unfolding is_invalid_half
refused-half f h = refused-by f _ _ _ refl refl refl h

half-invalid : (f s : ℕ) → is_full f ≡ false → is_invalid f 0 ≡ true → instruction_of f s ≡ Invalid f 0 false
half-invalid f s short refused =
    short-format f s short ∙ refused-half f (sym (invalid-half f 0 short) ∙ refused)

invalid-back : (f w : ℕ) (full : Bool) (s : ℕ) → IsRefusal f w full
    → instruction_of f (unwrap_or (if full then Some w else None) s) ≡ Invalid f w full
invalid-back f w true s r = full-invalid f w r.format r.refused
invalid-back f w false s r =
    let none : w ≡ 0 = r.alone refl in
    half-invalid f s r.format (ap (is_invalid f) (sym none) ∙ r.refused) ∙ ap (λ x. Invalid f x false) (sym none)

-- the half-word that follows a half-word instruction has no effect on the decoding
pub spells-itself : (v : Instr) (s : ℕ) → IsShape v → instruction_of (first_half v) (unwrap_or (second_half v) s) ≡ v
spells-itself (Half op a j i) s shape = half-back op a j i s shape.0 shape.1
spells-itself (Branch op a i) s shape = branch-back op a i s shape
spells-itself (Floating n a i) s shape = floating-back n a i s shape.0 shape.1
spells-itself (Vfl op d u n p l b o a i) s shape =
    vfl-back op d u n p l b o a i shape.0 shape.1 shape.2 shape.3
spells-itself (Connect k t p l b o a i) s shape = connect-back k t p l b o a i shape.0 shape.1 shape.2 shape.3
spells-itself (Move swap a i w n) s shape = move-back swap a i w n shape.0 shape.1 shape.2 shape.3
spells-itself (BitBranch sense c a i w) s shape = bit-back sense c a i w shape.0 shape.1 shape.2
spells-itself (IndBranch sense off a i w) s shape = indicator-back sense off a i w shape.0 shape.1
spells-itself (StoreCounter a i w) s shape = store-back a i w shape.0 shape.1
spells-itself (Transfer write a i n) s shape = transfer-back write a i n shape.0 shape.1 shape.2
spells-itself (Invalid f w full) s shape = invalid-back f w full s shape

-- the first half-word of an encoding begins a full word if and only if there is a second one
pub full-shape : (v : Instr) → IsShape v → is_full (first_half v) ≡ is_some (second_half v)
full-shape (Half op a j i) shape = is_full-half_bits a j (half_number op) i shape.0.i_fits ∙ half_number-short op
full-shape (Branch op a i) shape = is_full-half_bits a (branch_number op) 23 i shape.i_fits
full-shape (Floating n a i) shape = is_full-half_bits a n 0 i shape.0.i_fits
full-shape (Vfl op d u n p l b o a i) shape = is_full-first_bits a i shape.0.i_fits
full-shape (Connect k t p l b o a i) shape = is_full-first_bits a i shape.0.i_fits
full-shape (Move swap a i w n) shape = is_full-first_bits a i shape.0.i_fits
full-shape (BitBranch sense c a i w) shape = is_full-first_bits a i shape.0.i_fits
full-shape (IndBranch sense off a i w) shape = is_full-first_bits a i shape.0.i_fits
full-shape (StoreCounter a i w) shape = is_full-first_bits a i shape.0.i_fits
full-shape (Transfer write a i n) shape = is_full-first_bits a i shape.0.i_fits
full-shape (Invalid f w true) shape = shape.format
full-shape (Invalid f w false) shape = shape.format
