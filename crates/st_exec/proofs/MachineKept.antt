-- The completion of an entry keeps the invariant of the state.
use Rattle.st_exec.proofs.Common.{◌≡◌, ℕ, zero, suc, ◌+◌, ◌*◌, ◌/◌, ◌%◌, ◌^◌, ◌<◌, ◌≤◌, inl, inr, Bool, true, false, ◌==◌, if◌then◌else◌, Option, None, Some, length, refl, sym, ◌∙◌, ap, subst, arith, IfSome, is_some, get_or_past, leb_tells, mod-lt, pow-le-pow_right, pow_pos, bits, num, all_bits, field, put, part, register_word, words_of_storage, words_of_storage_is, HalfOp, Sx, Sv, Sc, Sr, Sva, BranchOp, Be, Bd, Bew, fixed-twice, fixed_below, Instr, Half, Branch, Floating, Vfl, Connect, Move, BitBranch, IndBranch, StoreCounter, Transfer, Invalid, Machine, IsMachine, HasArea, word, state_with_store, state_with_bits, indicator_word, state_with_indicators, Order, Acc, IndexChange, Prepared, reads_field, reads, words_written, state_at_entry, HasFields, AreInside, HasRoomInStorage, IsChange, IsPrepared, of_choice, fixed-indicators, is_machine-opened, field_at, operand_bits, accumulator, bits_taken, operation_outcome, connects, shape_of, with_accumulator, with_register, with_registers, with_field, with_result, Done, AreRuns, state_with_copy, state_with_exchange, index_effect, branch_effect, bit_effect, indicator_effect, move_effect, order_standing, machine_with_order, state_with_order, effect_of, effect, carried_out, with_change, state_with_speculative_changes, is_taken, target, counter, state_counted_on, state_after_effect, state_after_completion, Effect, Rest, Put, Copy, Exchange, TurnOff, Enable, Wait, Give, Leave}
use Rattle.st_state.proofs.Kept.{is_machine-with_word}
use Rattle.st_state.proofs.TurnedLemmas.{turned_below}
use Rattle.st_exec.proofs.ApartLemmas.{length-placed, word-placed_by}
use Rattle.st_exec.proofs.BitBounds.{field-below, field-put_below}
use Rattle.st_exec.proofs.InsideLemmas.{inside-move}
use Rattle.st_exec.proofs.ResultBounds.{FitsRegisters, is_decimal_shape, result-fits, connection-fits}

-- ---- one word

pub kept-stored : (s : Machine) (w x : ℕ) → IsMachine s → w < words_of_storage → register_word w x < 2 ^ 64 → IsMachine (state_with_store s w x)
kept-stored s w x m inside below = is_machine-with_word s w (register_word w x) m inside below (fixed-twice w x)

kept-word : (s : Machine) (w x : ℕ) → IsMachine s → w < words_of_storage → x < 2 ^ 64 → IsMachine (state_with_store s w x)
kept-word s w x m inside fits = kept-stored s w x m inside (fixed_below w x fits)

kept-applied : (s : Machine) (on off : ℕ) → IsMachine s → IsMachine (state_with_indicators (record { on = on; off = off }) s)
kept-applied s on off m =
    is_machine-with_word s 11 (indicator_word 64 on off (word s 11)) m (omega (arith, words_of_storage_is))
    (turned_below 64 on off (word s 11)) (fixed-indicators (indicator_word 64 on off (word s 11)))

-- ---- a field

word-placed_below : (s : Machine) (a n v i : ℕ) → word (state_with_bits s a (bits n v)) i < 2 ^ 64
word-placed_below s a n v i =
    elim (leb_tells (length s.words) i) [
      | inl p ↦
          let past : length s.words ≤ i = p.1 in
          let none : word (state_with_bits s a (bits n v)) i ≡ 0 =
          get_or_past (state_with_bits s a (bits n v)).words i 0 (omega (arith, length-placed s a (bits n v))) in
          omega arith
      | inr q ↦
          let x : ℕ = num (field (put (all_bits s.words) a (bits n v)) (64 * i) 64) in
          let is : word (state_with_bits s a (bits n v)) i ≡ register_word i x = word-placed_by s a (bits n v) i q.1 in
          subst (λ (y : ℕ). y < 2 ^ 64) (sym is) (fixed_below i x (field-put_below s.words a n v (64 * i) 64))
    ]

pub kept-placed : (s : Machine) (a n v : ℕ) → IsMachine s → IsMachine (state_with_bits s a (bits n v))
kept-placed s a n v m = record {
  size = length-placed s a (bits n v) ∙ m.size;
  counter = m.counter;
  below = word-placed_below s a n v;
  registers = λ i h.
      let here : i < length s.words = omega (arith, m.size, words_of_storage_is) in
      let is = word-placed_by s a (bits n v) i here in
      ap (register_word i) is ∙ fixed-twice i _ ∙ sym is;
  reader_area = m.reader_area;
  printer_area = m.printer_area;
}

-- ---- registers

fixed-counts : (x : ℕ) → register_word 7 x < 2 ^ 64
unfolding register_word
fixed-counts x = omega arith

fixed-sign_byte : (x : ℕ) → register_word 10 x < 2 ^ 64
unfolding register_word
fixed-sign_byte x = omega arith

kept-register : (w : ℕ) (x : Option ℕ) (s : Machine) → IsMachine s → w < words_of_storage → IfSome x (λ y. register_word w y < 2 ^ 64)
    → IsMachine (with_register w x s)
kept-register w None s m inside h = m
kept-register w (Some x) s m inside h = kept-stored s w x m inside h

some-below : (w : ℕ) (x : Option ℕ) → IfSome x (λ y. y < 2 ^ 64) → IfSome x (λ y. register_word w y < 2 ^ 64)
some-below w None h = tt
some-below w (Some x) h = fixed_below w x h

some-counts : (x : Option ℕ) → IfSome x (λ y. register_word 7 y < 2 ^ 64)
some-counts None = tt
some-counts (Some x) = fixed-counts x

kept-accumulator : (a : Acc) (s : Machine) → IsMachine s → a.mag < 2 ^ 128 → IsMachine (with_accumulator a s)
kept-accumulator a s m h =
    let near : 16 < words_of_storage = omega (arith, words_of_storage_is) in
    kept-stored _ 10 (a.sb * 2 ^ 56)
    (kept-word _ 9 (a.mag % 2 ^ 64) (kept-word s 8 (a.mag / 2 ^ 64) m (omega arith) (omega arith)) (omega arith) (omega arith))
    (omega arith) (fixed-sign_byte (a.sb * 2 ^ 56))

kept-registers : (o : Done) (s : Machine) → IsMachine s → FitsRegisters o → IsMachine (with_registers o s)
unfolding with_registers
kept-registers o s m h =
    let near : 16 < words_of_storage = omega (arith, words_of_storage_is) in
    kept-register 7 o.counts _
    (kept-register 15 o.tr _
    (kept-register 14 o.ft _
    (kept-register 13 o.rm _ (kept-accumulator o.acc s m h.acc) (omega arith) (some-below 13 o.rm h.rm))
    (omega arith) (some-below 14 o.ft h.ft))
    (omega arith) (some-below 15 o.tr h.tr))
    (omega arith) (some-counts o.counts)

kept-field : (f : Option ℕ) (a n : ℕ) (s : Machine) → IsMachine s → IsMachine (with_field f a n s)
kept-field None a n s m = m
kept-field (Some v) a n s m = kept-placed s a n v m

kept-with_result : (o : Done) (a n : ℕ) (s : Machine) → IsMachine s → FitsRegisters o → IsMachine (with_result o a n s)
unfolding with_result
kept-with_result o a n s m h =
    kept-field o.field a n _ (kept-applied (with_registers o s) o.ind.on o.ind.off (kept-registers o s m h))

-- ---- ranges of words

kept-copied : (from to n : ℕ) (s : Machine) → IsMachine s → to + n ≤ words_of_storage → IsMachine (state_with_copy from to n s)
unfolding state_with_copy
kept-copied from to zero s m inside = m
kept-copied from to (suc n) s m inside =
    kept-copied (from + 1) (to + 1) n (state_with_store s to (word s from)) (kept-word s to (word s from) m (omega arith) (m.below from)) (omega arith)

kept-exchanged : (from to n : ℕ) (s : Machine) → IsMachine s → from + n ≤ words_of_storage → to + n ≤ words_of_storage
    → IsMachine (state_with_exchange from to n s)
unfolding state_with_exchange
kept-exchanged from to zero s m here there = m
kept-exchanged from to (suc n) s m here there =
    kept-exchanged (from + 1) (to + 1) n _
    (kept-word (state_with_store s from (word s to)) to (word s from)
    (kept-word s from (word s to) m (omega arith) (m.below to)) (omega arith) (m.below from))
    (omega arith) (omega arith)

-- ---- orders

kept-order : (write : Bool) (order : Order) (s : Machine) → IsMachine s → HasArea (Some order) → IsMachine (machine_with_order write order s)
kept-order false order s m h = record {
  size = m.size;
  counter = m.counter;
  below = m.below;
  registers = m.registers;
  reader_area = h;
  printer_area = m.printer_area;
}
kept-order true order s m h = record {
  size = m.size;
  counter = m.counter;
  below = m.below;
  registers = m.registers;
  reader_area = m.reader_area;
  printer_area = h;
}

kept-given : (write : Bool) (order : Order) (s : Machine) → IsMachine s → HasArea (Some order) → IsMachine (state_with_order write order s)
kept-given write order s m h =
    of_choice IsMachine (is_some (order_standing write s)) _ _ (kept-applied s _ 0 m) (kept-order write order s m h)

-- ---- effects

-- the words and numbers of an effect fit their places
abbrev pub HasPlace : Effect → Type 0
HasPlace (Copy from to n) = AreRuns from to n
HasPlace (Exchange from to n) = AreRuns from to n
HasPlace (Give write order) = HasArea (Some order)
HasPlace (Leave o a n) = FitsRegisters o
HasPlace _ = Unit {0}

kept-marks : (s : Machine) (enabled waiting : Bool) → IsMachine s → IsMachine (record s { enabled = enabled; waiting = waiting })
kept-marks s enabled waiting m = record {
  size = m.size;
  counter = m.counter;
  below = m.below;
  registers = m.registers;
  reader_area = m.reader_area;
  printer_area = m.printer_area;
}

pub kept-done : (d : Effect) (s : Machine) → IsMachine s → HasPlace d → IsMachine (carried_out d s)
unfolding carried_out
kept-done Rest s m h = m
kept-done (Put a n v) s m h = kept-placed s a n v m
kept-done (Copy from to n) s m h = kept-copied from to n s m h.to_inside
kept-done (Exchange from to n) s m h = kept-exchanged from to n s m h.from_inside h.to_inside
kept-done (TurnOff i) s m h = kept-applied s 0 _ m
kept-done (Enable enabled) s m h = kept-marks s enabled s.waiting m
kept-done Wait s m h = kept-marks s true true m
kept-done (Give write order) s m h = kept-given write order s m h
kept-done (Leave o a n) s m h = kept-with_result o a n s m h

place-index : (op : HalfOp) (e v : ℕ) → HasPlace (index_effect op e v)
place-index Sx e v = tt
place-index Sv e v = tt
place-index Sc e v = tt
place-index Sr e v = tt
place-index Sva e v = tt
place-index _ e v = tt

place-branch : (op : BranchOp) → HasPlace (branch_effect op)
place-branch Be = tt
place-branch Bd = tt
place-branch Bew = tt
place-branch _ = tt

place-bit : (change e b : ℕ) → HasPlace (bit_effect change e b)
place-bit zero e b = tt
place-bit (suc zero) e b = tt
place-bit (suc (suc zero)) e b = tt
place-bit (suc (suc (suc _))) e b = tt

place-indicator : (off : Bool) (e : ℕ) → HasPlace (indicator_effect off e)
place-indicator false e = tt
place-indicator true e = tt

place-move : (swap : Bool) (from to n : ℕ) → AreRuns from to n → HasPlace (move_effect swap from to n)
place-move false from to n h = h
place-move true from to n h = h

accumulator-below : (s : Machine) → IsMachine s → (accumulator s).mag < 2 ^ 128
accumulator-below s m =
    let left : word s 8 < 2 ^ 64 = m.below 8 in
    let right : word s 9 < 2 ^ 64 = m.below 9 in
    omega arith

power-few : (n : ℕ) → n ≤ 64 → 2 ^ n ≤ 2 ^ 64
power-few n few = pow-le-pow_right (omega arith) few

operand-below : (p e n : ℕ) (s : Machine) → n ≤ 64 → operand_bits p e n s < 2 ^ 64
operand-below p e n s few =
    let room : 2 ^ n ≤ 2 ^ 64 = power-few n few in
    let address : part e 40 n < 2 ^ n = mod-lt _ (pow_pos n) in
    let stands : field_at s e n < 2 ^ n = field-below s.words e n in
    of_choice (λ (x : ℕ). x < 2 ^ 64) (p == 1) _ _ (omega arith) (omega arith)

pub place-effect : (instr : Instr) (e v : ℕ) (s : Machine) → IsMachine s → HasFields instr → AreInside (reads instr e)
    → AreInside (words_written instr e) → HasRoomInStorage instr e → HasPlace (effect_of instr e v s)
unfolding effect_of operation_outcome connects
place-effect (Half op a j i) e v s m fields h k room = place-index op e v
place-effect (Branch op a i) e v s m fields h k room = place-branch op
place-effect (Floating n a i) e v s m fields h k room = tt
place-effect (Vfl op d u n p l b o a i) e v s m fields h k room =
    result-fits d op (accumulator s) (bits_taken op p e l s) (shape_of u n l b o) (word s 14) (word s 11)
    (is_decimal_shape d u n p l b o fields.1 fields.2) (accumulator-below s m)
    (of_choice (λ (x : ℕ). x < 2 ^ 64) (reads_field op) (operand_bits p e l s) 0 (operand-below p e l s fields.1.length_fits) (omega arith))
place-effect (Connect kind table p l b o a i) e v s m fields h k room =
    connection-fits kind table (accumulator s) o _ l (accumulator-below s m)
place-effect (Move swap a i second n) e v s m fields h k room =
    place-move swap (e / 64) (second / 2) n (inside-move swap a i second n e fields.2 h k)
place-effect (BitBranch sense change a i second) e v s m fields h k room = place-bit change e _
place-effect (IndBranch sense off a i second) e v s m fields h k room = place-indicator off e
place-effect (StoreCounter a i second) e v s m fields h k room = tt
place-effect (Transfer write a i n) e v s m fields h k room = room
place-effect (Invalid first second full) e v s m fields h k room = tt

-- ---- entries

kept-change : (c : Option IndexChange) (s : Machine) → IsMachine s → IfSome c IsChange → IsMachine (with_change c s)
kept-change None s m h = m
kept-change (Some c) s m h =
    let near : 32 < words_of_storage = omega (arith, words_of_storage_is) in
    let number : c.number < 16 = h.number in
    kept-word s (16 + c.number) c.word m (omega arith) h.word

pub kept-early : (p : Prepared) (s : Machine) → IsMachine s → IfSome p.index IsChange → IsMachine (state_with_speculative_changes p s)
unfolding state_with_speculative_changes
kept-early p s m h = kept-applied (with_change p.index s) p.ind.on p.ind.off (kept-change p.index s m h)

target-below : (instr : Instr) (following : ℕ) → HasFields instr → following < 2 ^ 19 → target instr following < 2 ^ 19
unfolding target
target-below (BitBranch sense change a i second) f fields h = fields.2
target-below (IndBranch sense off a i second) f fields h = fields.1
target-below (Half op a j i) f fields h = h
target-below (Branch op a i) f fields h = h
target-below (Floating n a i) f fields h = h
target-below (Vfl op d u n p l b o a i) f fields h = h
target-below (Connect kind table p l b o a i) f fields h = h
target-below (Move swap a i second n) f fields h = h
target-below (StoreCounter a i second) f fields h = h
target-below (Transfer write a i n) f fields h = h
target-below (Invalid first second full) f fields h = h

kept-counted : (s : Machine) (c : ℕ) → IsMachine s → c < 2 ^ 19 → IsMachine (state_counted_on s c)
kept-counted s c m h = record {
  size = m.size;
  counter = h;
  below = m.below;
  registers = m.registers;
  reader_area = m.reader_area;
  printer_area = m.printer_area;
}

kept-finished : (b : Bool) (p : Prepared) (s : Machine) → p.suppressed ≡ b → IsPrepared p → IsMachine s
    → IsMachine (if b then state_counted_on s p.following else state_counted_on (carried_out (effect p s) s) (counter p s))
kept-finished true p s e h m = kept-counted s p.following m h.following
kept-finished false p s e h m =
    let entry = h.entry e in
    kept-counted (carried_out (effect p s) s) (counter p s)
    (kept-done (effect p s) s m
    (place-effect p.instr p.e p.value s m h.shape (rw entry.reads at h.reads_inside) (rw entry.writes at h.writes_inside) entry.area))
    (of_choice (λ (c : ℕ). c < 2 ^ 19) (is_taken p.instr p.e s) _ _ (target-below p.instr p.following h.shape h.following) h.following)

pub kept-completed : (p : Prepared) (s : Machine) → IsPrepared p → IsMachine s → IsMachine (state_after_completion p s)
unfolding state_after_completion state_after_effect
kept-completed p s h m =
    kept-finished p.suppressed p (state_with_speculative_changes p (state_at_entry p.place.table s)) refl h
    (kept-early p (state_at_entry p.place.table s) (is_machine-opened p.place.table s m) h.change)
