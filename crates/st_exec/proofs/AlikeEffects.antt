-- In states that differ only in indicators, a non-serializing entry has the same effect except on
-- indicators.
use Rattle.st_exec.proofs.Common.{◌≡◌, ℕ, ◌+◌, ◌*◌, ◌/◌, ◌%◌, ◌≤◌, Bool, true, false, ◌==◌, if◌then◌else◌, Option, None, Some, length, refl, sym, ◌∙◌, ap, subst, arith, IfSome, nat_le, bits, part, words_of_storage, HalfOp, Sx, Sv, Sc, Sr, Sva, ConnKind, BranchOp, Be, Bd, Bew, VflOp, Ke, Kfe, Kr, Kfr, length-set, length-bits, Variable, Connective, Instr, Half, Branch, Floating, Vfl, Connect, Move, BitBranch, IndBranch, StoreCounter, Transfer, Invalid, writes_field, Machine, IsMachine, word, state_with_indicators, Acc, Taken, InBase, result_of, Shape, Done, AreAlike, IndexChange, Prepared, no_words, one_run, field_words, operand_words, is_index_store, reads_field, reads, words_written, is_serial_branch, is_serial_operation, HasFields, AreInside, AreAbove, IsPrepared, field_at, operand_bits, accumulator, connection, bits_taken, result_by, operation_outcome, connects, with_register, with_accumulator, with_registers, with_field, with_result, shape_of, index_effect, branch_effect, indicator_effect, effect_of, carried_out, with_change, state_with_speculative_changes, state_counted_on, state_after_completion, predicted_state, is_mispredicted, counter}
use Rattle.st_exec.proofs.AlikeStates.{alike-stored, alike-indicators, alike-placed, alike-field_at, alike-accumulator}
use Rattle.st_exec.proofs.FieldLemmas.{result-field, connection-field}
use Rattle.st_exec.proofs.InsideLemmas.{some_words, inside-field, inside-field_if}
use Rattle.st_exec.proofs.SparedLemmas.{marks-registers}
use Rattle.st_exec.proofs.AheadLemmas.{late, completed-late, speculative-marks, predicted-right}
use Rattle.st_bin.specs.BinaryResult as binary
use Rattle.st_dec.specs.DecimalResult as decimal

-- ---- results

-- two results that differ only in indicators
pub record SameButIndicators (d e : Done) : Type 0 where
  pub acc : e.acc ≡ d.acc
  pub field : e.field ≡ d.field
  pub rm : e.rm ≡ d.rm
  pub ft : e.ft ≡ d.ft
  pub tr : e.tr ≡ d.tr
  pub counts : e.counts ≡ d.counts

same_result : (d : Done) → SameButIndicators d d
same_result d = record { acc = refl; field = refl; rm = refl; ft = refl; tr = refl; counts = refl }

same-based : (op : VflOp) (b : InBase) (t : Taken) (ft i j : ℕ) → SameButIndicators (result_of op b t ft i) (result_of op b t ft j)
same-based Ke b t ft i j = record { acc = refl; field = refl; rm = refl; ft = refl; tr = refl; counts = refl }
same-based Kfe b t ft i j = record { acc = refl; field = refl; rm = refl; ft = refl; tr = refl; counts = refl }
same-based Kr b t ft i j = record { acc = refl; field = refl; rm = refl; ft = refl; tr = refl; counts = refl }
same-based Kfr b t ft i j = record { acc = refl; field = refl; rm = refl; ft = refl; tr = refl; counts = refl }
same-based _ b t ft i j = same_result _

same-result : (d : Bool) (op : VflOp) (a : Acc) (x : ℕ) (h : Shape) (ft i j : ℕ)
    → SameButIndicators (result_by d op a x h ft i) (result_by d op a x h ft j)
unfolding binary.result decimal.result
same-result false op a x h ft i j = same-based op _ _ ft i j
same-result true op a x h ft i j = same-based op _ _ 0 i j

-- ---- reads

operand_by : (b : Bool) (e n x : ℕ) (s t : Machine) → AreAlike s t → n ≤ 64 → length s.words ≡ words_of_storage
    → AreInside (if b then no_words else field_words e n) → AreAbove (if b then no_words else field_words e n)
    → ◌≡◌ {A = ℕ} (if b then x else field_at t e n) (if b then x else field_at s e n)
unfolding field_words
operand_by true e n x s t h few size inside above = refl
operand_by false e n x s t h few size inside above =
    alike-field_at s t e n h (above.above (some_words (nat_le (e % 64 + n) 64)))
    (omega (arith, size, inside-field e n few inside))

alike-operand : (p e n : ℕ) (s t : Machine) → AreAlike s t → n ≤ 64 → length s.words ≡ words_of_storage
    → AreInside (operand_words p e n) → AreAbove (operand_words p e n) → operand_bits p e n t ≡ operand_bits p e n s
alike-operand p e n s t h few size inside above = operand_by (p == 1) e n (part e 40 n) s t h few size inside above

taken_by : (b : Bool) (p e n : ℕ) (s t : Machine) → AreAlike s t → n ≤ 64 → length s.words ≡ words_of_storage
    → AreInside (if b then operand_words p e n else no_words) → AreAbove (if b then operand_words p e n else no_words)
    → ◌≡◌ {A = ℕ} (if b then operand_bits p e n t else 0) (if b then operand_bits p e n s else 0)
taken_by true p e n s t h few size inside above = alike-operand p e n s t h few size inside above
taken_by false p e n s t h few size inside above = refl

-- ---- outcomes

same_results : (o q : Done) → q ≡ o → SameButIndicators o q
same_results o q e = subst (λ (x : Done). SameButIndicators o x) (sym e) (same_result o)

same-operated : (d : Bool) (op : VflOp) (h : Shape) (p e : ℕ) (s t : Machine) → AreAlike s t
    → bits_taken op p e h.length t ≡ bits_taken op p e h.length s → SameButIndicators (operation_outcome d op h p e s) (operation_outcome d op h p e t)
unfolding operation_outcome
same-operated d op h p e s t k same =
    let x = bits_taken op p e h.length s in
    let equal : result_by d op (accumulator t) (bits_taken op p e h.length t) h (word t 14) (word t 11)
    ≡ result_by d op (accumulator s) x h (word s 14) (word t 11) =
    ap (λ a. result_by d op a (bits_taken op p e h.length t) h (word t 14) (word t 11)) (alike-accumulator s t k)
    ∙ ap (λ y. result_by d op (accumulator s) y h (word t 14) (word t 11)) same
    ∙ ap (λ ft. result_by d op (accumulator s) x h ft (word t 11)) (k.words 14 (omega arith)) in
    subst (λ (y : Done). SameButIndicators (result_by d op (accumulator s) x h (word s 14) (word s 11)) y) (sym equal)
    (same-result d op (accumulator s) x h (word s 14) (word s 11) (word t 11))

same-connects : (kind : ConnKind) (table p e offset n : ℕ) (s t : Machine) → AreAlike s t
    → operand_bits p e n t ≡ operand_bits p e n s → SameButIndicators (connects kind table p e offset n s) (connects kind table p e offset n t)
unfolding connects
same-connects kind table p e offset n s t h same =
    same_results _ _
    (ap (λ a. connection kind table a offset (operand_bits p e n t) n) (alike-accumulator s t h)
    ∙ ap (λ x. connection kind table (accumulator s) offset x n) same)

-- ---- states after the results are written

alike-register : (w : ℕ) (x : Option ℕ) (s t : Machine) → AreAlike s t → AreAlike (with_register w x s) (with_register w x t)
alike-register w None s t h = h
alike-register w (Some x) s t h = alike-stored s t w x h

alike-registers : (o : Done) (s t : Machine) → AreAlike s t → AreAlike (with_registers o s) (with_registers o t)
unfolding with_registers
alike-registers o s t h =
    alike-register 7 o.counts _ _
    (alike-register 15 o.tr _ _
    (alike-register 14 o.ft _ _
    (alike-register 13 o.rm _ _
    (alike-stored _ _ 10 _ (alike-stored _ _ 9 _ (alike-stored s t 8 _ h))))))

same-registers : (o q : Done) (t : Machine) → SameButIndicators o q → with_registers q t ≡ with_registers o t
unfolding with_registers
same-registers o q t h =
    let f = λ (counts tr ft rm : Option ℕ) (a : Acc).
    with_register 7 counts
    (with_register 15 tr (with_register 14 ft (with_register 13 rm (with_accumulator a t)))) in
    ap (λ c. f c q.tr q.ft q.rm q.acc) h.counts
    ∙ ap (λ c. f o.counts c q.ft q.rm q.acc) h.tr
    ∙ ap (λ c. f o.counts o.tr c q.rm q.acc) h.ft
    ∙ ap (λ c. f o.counts o.tr o.ft c q.acc) h.rm
    ∙ ap (λ a. f o.counts o.tr o.ft o.rm a) h.acc

alike-field : (f : Option ℕ) (a n : ℕ) (s t : Machine) → AreAlike s t → IfSome f (λ _. a + n ≤ 64 * length s.words)
    → AreAlike (with_field f a n s) (with_field f a n t)
alike-field None a n s t h inside = h
alike-field (Some v) a n s t h inside = alike-placed s t a (bits n v) h (omega (arith, length-bits n v))

if_some : (f : Option ℕ) (m n : ℕ) (a : ℕ) → m ≡ n → IfSome f (λ _. a ≤ m) → IfSome f (λ _. a ≤ n)
if_some None m n a e h = tt
if_some (Some v) m n a e h = omega arith

alike-with_result : (o q : Done) (a n : ℕ) (s t : Machine) → AreAlike s t → SameButIndicators o q
    → IfSome o.field (λ _. a + n ≤ 64 * length s.words) → AreAlike (with_result o a n s) (with_result q a n t)
unfolding with_result
alike-with_result o q a n s t h same inside =
    let r = with_registers o s in
    let u = state_with_indicators o.ind r in
    let v = state_with_indicators q.ind (with_registers q t) in
    let registers : AreAlike r (with_registers q t) =
    subst (λ (y : Machine). AreAlike r y) (sym (same-registers o q t same)) (alike-registers o s t h) in
    let long : 64 * length s.words ≡ 64 * length u.words =
    ap (λ m. 64 * m) (sym (length-set r.words 11 _ ∙ (marks-registers o s).size)) in
    subst (λ (f : Option ℕ). AreAlike (with_field o.field a n u) (with_field f a n v)) (sym same.field)
    (alike-field o.field a n u v (alike-indicators r (with_registers q t) _ _ registers)
    (if_some o.field _ _ (a + n) long inside))

-- ---- effects

alike-index : (op : HalfOp) (e v : ℕ) (s t : Machine) → AreAlike s t → length s.words ≡ words_of_storage
    → AreInside (if is_index_store op then one_run (e / 64) 1 else no_words)
    → AreAlike (carried_out (index_effect op e v) s) (carried_out (index_effect op e v) t)
unfolding carried_out
alike-index Sx e v s t h size k = alike-placed s t (64 * (e / 64)) (bits 64 v) h (omega (arith, length-bits 64 v, k.inside (omega arith)))
alike-index Sv e v s t h size k = alike-placed s t (64 * (e / 64)) (bits 25 v) h (omega (arith, length-bits 25 v, k.inside (omega arith)))
alike-index Sc e v s t h size k = alike-placed s t (64 * (e / 64) + 28) (bits 18 v) h (omega (arith, length-bits 18 v, k.inside (omega arith)))
alike-index Sr e v s t h size k = alike-placed s t (64 * (e / 64) + 46) (bits 18 v) h (omega (arith, length-bits 18 v, k.inside (omega arith)))
alike-index Sva e v s t h size k = alike-placed s t (32 * (e / 32)) (bits 19 v) h (omega (arith, length-bits 19 v, k.inside (omega arith)))
alike-index _ e v s t h size k = h

alike-branch : (op : BranchOp) (s t : Machine) → AreAlike s t → is_serial_branch op ≡ false
    → AreAlike (carried_out (branch_effect op) s) (carried_out (branch_effect op) t)
unfolding carried_out
alike-branch Be s t h hazard_free = absurd (cc)
alike-branch Bd s t h hazard_free = absurd (cc)
alike-branch Bew s t h hazard_free = absurd (cc)
alike-branch _ s t h hazard_free = h

alike-indicator : (off : Bool) (e : ℕ) (s t : Machine) → AreAlike s t
    → AreAlike (carried_out (indicator_effect off e) s) (carried_out (indicator_effect off e) t)
unfolding carried_out
alike-indicator false e s t h = h
alike-indicator true e s t h = alike-indicators s t _ _ h

-- a field that is written only if its words are among the written ones lies in storage
inside-left : (f : Option ℕ) (b : Bool) (e n m : ℕ) → m ≡ words_of_storage → n ≤ 64 → IfSome f (λ _. b ≡ true)
    → AreInside (if b then field_words e n else no_words) → IfSome f (λ _. e + n ≤ 64 * m)
inside-left None b e n m size few only h = tt
inside-left (Some v) b e n m size few only h = omega (arith, size, inside-field_if b e n few h only)

alike-effect : (instr : Instr) (e v : ℕ) (s t : Machine) → AreAlike s t → length s.words ≡ words_of_storage
    → HasFields instr → is_serial_operation instr ≡ false → AreInside (reads instr e) → AreAbove (reads instr e)
    → AreInside (words_written instr e) → AreAlike (carried_out (effect_of instr e v s) s) (carried_out (effect_of instr e v t) t)
unfolding effect_of carried_out is_serial_operation reads words_written operation_outcome connects
alike-effect (Half op a j x) e v s t h size fields hazard_free inside above written = alike-index op e v s t h size written
alike-effect (Branch op a x) e v s t h size fields hazard_free inside above written = alike-branch op s t h hazard_free
alike-effect (Floating n a x) e v s t h size fields hazard_free inside above written = h
alike-effect (Vfl op d u n p l b o a x) e v s t h size fields hazard_free inside above written =
    let few : l ≤ 64 = fields.1.length_fits in
    alike-with_result _ _ e l s t h
    (same-operated d op (shape_of u n l b o) p e s t h (taken_by (reads_field op) p e l s t h few size inside above))
    (inside-left _ (writes_field (Variable op)) e l (length s.words) size few (result-field d op _ _ _ _ _) written)
alike-effect (Connect kind table p l b o a x) e v s t h size fields hazard_free inside above written =
    let few : l ≤ 64 = fields.1.length_fits in
    alike-with_result _ _ e l s t h
    (same-connects kind table p e o l s t h (alike-operand p e l s t h few size inside above))
    (inside-left _ (writes_field (Connective kind)) e l (length s.words) size few (connection-field kind _ _ _ _ _) written)
alike-effect (Move swap a x second n) e v s t h size fields hazard_free inside above written = absurd (cc)
alike-effect (BitBranch sense change a x second) e v s t h size fields hazard_free inside above written = absurd (cc)
alike-effect (IndBranch sense off a x second) e v s t h size fields hazard_free inside above written = alike-indicator off e s t h
alike-effect (StoreCounter a x second) e v s t h size fields hazard_free inside above written = absurd (cc)
alike-effect (Transfer w a x n) e v s t h size fields hazard_free inside above written = absurd (cc)
alike-effect (Invalid first second full) e v s t h size fields hazard_free inside above written = h

-- ---- entries

alike-change : (c : Option IndexChange) (s t : Machine) → AreAlike s t → AreAlike (with_change c s) (with_change c t)
alike-change None s t h = h
alike-change (Some c) s t h = alike-stored s t (16 + c.number) c.word h

alike-early : (p : Prepared) (s t : Machine) → AreAlike s t → AreAlike (state_with_speculative_changes p s) (state_with_speculative_changes p t)
unfolding state_with_speculative_changes
alike-early p s t h = alike-indicators _ _ _ _ (alike-change p.index s t h)

alike-late : (b : Bool) (p : Prepared) (s t : Machine) → p.suppressed ≡ b → IsPrepared p → p.serial ≡ false
    → length s.words ≡ words_of_storage → AreAlike s t → AreAlike (late b p s) (late b p t)
alike-late true p s t e h free size k = k
alike-late false p s t e h free size k =
    let entry = h.entry e in
    let ahead = h.ahead free in
    alike-effect p.instr p.e p.value s t k size h.shape (ahead.operation e) (rw entry.reads at h.reads_inside)
    (rw entry.reads at ahead.reads) (rw entry.writes at h.writes_inside)

alike-counted : (s t : Machine) (c d f : ℕ) → AreAlike s t
    → AreAlike (record (state_counted_on s c) { ic = f }) (record (state_counted_on t d) { ic = f })
alike-counted s t c d f h = record {
  size = h.size;
  words = h.words;
  ic = refl;
  enabled = h.enabled;
  waiting = h.waiting;
  done = ap (λ n. n + 1) h.done;
  reader = h.reader;
  printer = h.printer;
}

predicted-ahead : (b : Bool) (p : Prepared) (s : Machine) → b ≡ false
    → (if b then state_after_completion p s else record (state_after_completion p s) { ic = p.following }) ≡ record (state_after_completion p s) { ic = p.following }
predicted-ahead true p s e = absurd (cc)
predicted-ahead false p s e = refl

pub predicted-late : (p : Prepared) (s : Machine) → IsPrepared p → p.serial ≡ false
    → predicted_state p s
    ≡ record (state_counted_on (late p.suppressed p (state_with_speculative_changes p s)) (if p.suppressed then p.following else counter p (state_with_speculative_changes p s))) {
      ic = p.following;
    }
unfolding predicted_state
predicted-late p s h free =
    predicted-ahead p.serial p s free
    ∙ ap (λ (u : Machine). record u { ic = p.following }) (completed-late p s (h.ahead free).table)

pub predicted-alike : (p : Prepared) (s t : Machine) → IsPrepared p → IsMachine s → AreAlike s t → p.serial ≡ false
    → AreAlike (predicted_state p s) (predicted_state p t)
predicted-alike p s t h m k free =
    let size : length (state_with_speculative_changes p s).words ≡ words_of_storage = (speculative-marks p s).size ∙ m.size in
    let after = alike-late p.suppressed p (state_with_speculative_changes p s) (state_with_speculative_changes p t) refl h free size (alike-early p s t k) in
    let c : ℕ = if p.suppressed then p.following else counter p (state_with_speculative_changes p s) in
    let d : ℕ = if p.suppressed then p.following else counter p (state_with_speculative_changes p t) in
    let u = late p.suppressed p (state_with_speculative_changes p s) in
    let v = late p.suppressed p (state_with_speculative_changes p t) in
    subst (λ (y : Machine). AreAlike (predicted_state p s) y) (sym (predicted-late p t h free))
    (subst (λ (y : Machine). AreAlike y (record (state_counted_on v d) { ic = p.following })) (sym (predicted-late p s h free))
    (alike-counted u v c d p.following after))

pub completed-alike : (p : Prepared) (s t : Machine) → IsPrepared p → IsMachine s → AreAlike s t → p.serial ≡ false
    → is_mispredicted p s ≡ false → is_mispredicted p t ≡ false → AreAlike (state_after_completion p s) (state_after_completion p t)
completed-alike p s t h m k free right right' =
    subst (λ (u : Machine). AreAlike (state_after_completion p s) u) (predicted-right p t h right')
    (subst (λ (u : Machine). AreAlike u (predicted_state p t)) (predicted-right p s h right) (predicted-alike p s t h m k free))
