-- The words that an entry, serializing or not, leaves unchanged, also in the predicted state.
use Rattle.st_exec.proofs.Common.{◌≡◌, ◌≢◌, ℕ, zero, suc, ◌+◌, ◌*◌, ◌/◌, ◌^◌, ◌<◌, ◌≤◌, ◌⊎◌, inl, inr, Bool, true, false, ◌==◌, if◌then◌else◌, Option, None, Some, length, refl, sym, ◌∙◌, ap, subst, arith, get_or-set_other, IfSome, is_some, nat_tests, words_of_storage, words_of_storage_is, BranchOp, Be, Bd, Bew, Instr, Half, Branch, Floating, Vfl, Connect, Move, BitBranch, IndBranch, StoreCounter, Transfer, Invalid, Machine, IsMachine, word, state_with_store, Order, fixed-word, Prepared, words_after, no_words, one_run, words_moved_to, words_written, is_serial_operation, index_words, state_at_entry, HasFields, AreInside, IsPrepared, of_choice, are_index_words, is_machine-opened, state_with_copy, state_with_exchange, order_standing, machine_with_order, state_with_order, branch_effect, bit_effect, move_effect, effect_of, effect, carried_out, state_with_speculative_changes, counter, state_counted_on, state_after_effect, state_after_completion, predicted_state, IsNotAmong, IsPast, Effect, Rest, Put, Copy, Exchange, TurnOff, Enable, Wait, Give, Leave}
use Rattle.st_exec.proofs.AheadLemmas.{speculative-marks, speculative-index, index-at, length-index_words, length-words_after, completed-past}
use Rattle.st_exec.proofs.MachineKept.{kept-early, kept-completed}
use Rattle.st_exec.proofs.SparedLemmas.{IsApart, Spares, apart-word, spares-effect, kept-above, Stands, done-keeps}
use Rattle.st_exec.proofs.Unchanged.{stored-other, opened-above, early-above, completed-done}

-- ---- words that an effect does not write

-- word i is not among the n words from word w
abbrev pub IsBeside : ℕ → ℕ → ℕ → Type 0
IsBeside i w n = (i < w) ⊎ (w + n ≤ i)

pub beside-rest : (i w n : ℕ) → IsBeside i w (suc n) → IsBeside i (w + 1) n
beside-rest i w n (inl before) = inl (omega arith)
beside-rest i w n (inr after) = inr (omega arith)

pub beside-first : (i w n : ℕ) → IsBeside i w (suc n) → i ≢ w
beside-first i w n (inl before) e = omega arith
beside-first i w n (inr after) e = omega arith

copied-other : (from to n : ℕ) (t : Machine) (i : ℕ) → IsBeside i to n → word (state_with_copy from to n t) i ≡ word t i
unfolding state_with_copy
copied-other from to zero t i h = refl
copied-other from to (suc n) t i h =
    copied-other (from + 1) (to + 1) n (state_with_store t to (word t from)) i (beside-rest i to n h)
    ∙ stored-other t to (word t from) i (beside-first i to n h)

exchanged-other : (from to n : ℕ) (t : Machine) (i : ℕ) → IsBeside i from n → IsBeside i to n
    → word (state_with_exchange from to n t) i ≡ word t i
unfolding state_with_exchange
exchanged-other from to zero t i h k = refl
exchanged-other from to (suc n) t i h k =
    let u = state_with_store t from (word t to) in
    exchanged-other (from + 1) (to + 1) n (state_with_store u to (word t from)) i (beside-rest i from n h) (beside-rest i to n k)
    ∙ stored-other u to (word t from) i (beside-first i to n k)
    ∙ stored-other t from (word t to) i (beside-first i from n h)

with_order-other : (write : Bool) (order : Order) (t : Machine) (i : ℕ) → word (machine_with_order write order t) i ≡ word t i
with_order-other false order t i = refl
with_order-other true order t i = refl

given-other : (write : Bool) (order : Order) (t : Machine) (i : ℕ) → i ≢ 11 → word (state_with_order write order t) i ≡ word t i
given-other write order t i other =
    of_choice (λ (u : Machine). word u i ≡ word t i) (is_some (order_standing write t)) _ _
    (get_or-set_other t.words 11 i _ 0 other) (with_order-other write order t i)

-- an effect that leaves word i unchanged, which is not a register
abbrev pub SparesAbove : Effect → ℕ → Type 0
SparesAbove Rest i = Unit {0}
SparesAbove (Put a n v) i = IsApart a n i
SparesAbove (Copy from to n) i = IsBeside i to n
SparesAbove (Exchange from to n) i = IsBeside i from n × IsBeside i to n
SparesAbove (TurnOff k) i = Unit {0}
SparesAbove (Enable enabled) i = Unit {0}
SparesAbove Wait i = Unit {0}
SparesAbove (Give write order) i = Unit {0}
SparesAbove (Leave o a n) i = IfSome o.field (λ _. IsApart a n i)

spared : (d : Effect) (i : ℕ) → Spares d i → SparesAbove d i
spared Rest i h = tt
spared (Put a n v) i h = h
spared (Copy from to n) i h = absurd h
spared (Exchange from to n) i h = absurd h
spared (TurnOff k) i h = tt
spared (Enable enabled) i h = tt
spared Wait i h = tt
spared (Give write order) i h = tt
spared (Leave o a n) i h = h

done-above : (d : Effect) (t : Machine) (i x : ℕ) → length t.words ≡ words_of_storage → 32 ≤ i → SparesAbove d i
    → Stands t i x → word (carried_out d t) i ≡ x
unfolding carried_out
done-above Rest t i x size above k h = h.is
done-above (Put a n v) t i x size above k h = done-keeps (Put a n v) t i x size (kept-above i (omega arith)) k h
done-above (Copy from to n) t i x size above k h = copied-other from to n t i k ∙ h.is
done-above (Exchange from to n) t i x size above k h = exchanged-other from to n t i k.0 k.1 ∙ h.is
done-above (TurnOff j) t i x size above k h = get_or-set_other t.words 11 i _ 0 (omega arith) ∙ h.is
done-above (Enable enabled) t i x size above k h = h.is
done-above Wait t i x size above k h = h.is
done-above (Give write order) t i x size above k h = given-other write order t i (omega arith) ∙ h.is
done-above (Leave o a n) t i x size above k h = done-keeps (Leave o a n) t i x size (kept-above i (omega arith)) k h

-- ---- the effect of each operation

above-branch : (op : BranchOp) (i : ℕ) → SparesAbove (branch_effect op) i
above-branch Be i = tt
above-branch Bd i = tt
above-branch Bew i = tt
above-branch _ i = tt

above-move : (swap : Bool) (from to n i : ℕ) → IsNotAmong i (words_moved_to swap from to n)
    → SparesAbove (move_effect swap from to n) i
above-move false from to n i k = k.first
above-move true from to n i k = (k.first, k.second)

some_more : (n : ℕ) → (suc (suc (suc n)) == 0) ≡ false
some_more n = grind (arith, nat_tests)

above-bit : (change e b i : ℕ) → AreInside (if change == 0 then no_words else one_run (e / 64) 1)
    → IsNotAmong i (if change == 0 then no_words else one_run (e / 64) 1) → SparesAbove (bit_effect change e b) i
above-bit zero e b i h k = tt
above-bit (suc zero) e b i h k = apart-word (e / 64) e 1 i h (omega arith) (omega arith) k
above-bit (suc (suc zero)) e b i h k = apart-word (e / 64) e 1 i h (omega arith) (omega arith) k
above-bit (suc (suc (suc n))) e b i h k =
    apart-word (e / 64) e 1 i (rw (some_more n) at h) (omega arith) (omega arith) (rw (some_more n) at k)

above-effect : (instr : Instr) (e v : ℕ) (t : Machine) (i : ℕ) → HasFields instr → AreInside (words_written instr e)
    → IsNotAmong i (words_written instr e) → SparesAbove (effect_of instr e v t) i
unfolding effect_of words_written is_serial_operation
above-effect (Half op a j x) e v t i fields h k = spared _ i (spares-effect (Half op a j x) e v t i fields refl h k)
above-effect (Branch op a x) e v t i fields h k = above-branch op i
above-effect (Floating n a x) e v t i fields h k = tt
above-effect (Vfl op d u n p l b o a x) e v t i fields h k =
    spares-effect (Vfl op d u n p l b o a x) e v t i fields refl h k
above-effect (Connect kind table p l b o a x) e v t i fields h k =
    spares-effect (Connect kind table p l b o a x) e v t i fields refl h k
above-effect (Move swap a x second n) e v t i fields h k = above-move swap (e / 64) (second / 2) n i k
above-effect (BitBranch sense change a x second) e v t i fields h k = above-bit change e _ i h k
above-effect (IndBranch sense off a x second) e v t i fields h k =
    spared _ i (spares-effect (IndBranch sense off a x second) e v t i fields refl h k)
above-effect (StoreCounter a x second) e v t i fields h k =
    apart-word (e / 64) (32 * (e / 32)) 19 i h (omega arith) (omega arith) k
above-effect (Transfer w a x n) e v t i fields h k = tt
above-effect (Invalid first second full) e v t i fields h k = tt

-- ---- entries

finished-unwritten : (b : Bool) (p : Prepared) (t : Machine) (i x : ℕ) → p.suppressed ≡ b → IsPrepared p
    → length t.words ≡ words_of_storage → 32 ≤ i → IsNotAmong i p.writes → Stands t i x
    → word (if b then state_counted_on t p.following else state_counted_on (carried_out (effect p t) t) (counter p t)) i ≡ x
finished-unwritten true p t i x e h size above k stands = stands.is
finished-unwritten false p t i x e h size above k stands =
    let entry = h.entry e in
    done-above (effect p t) t i x size above
    (above-effect p.instr p.e p.value t i h.shape (rw entry.writes at h.writes_inside) (rw entry.writes at k))
    stands

pub completed-unwritten : (p : Prepared) (s : Machine) (w : ℕ) → IsPrepared p → IsMachine s → 32 ≤ w
    → IsNotAmong w p.writes → word (state_after_completion p s) w ≡ word s w
unfolding state_after_completion state_after_effect
completed-unwritten p s w h m above k =
    let u = state_at_entry p.place.table s in
    let t = state_with_speculative_changes p u in
    let size : length t.words ≡ words_of_storage =
    (kept-early p u (is_machine-opened p.place.table s m) h.change).size in
    finished-unwritten p.suppressed p t w (word s w) refl h size above k
    (record {
      is = early-above p u w h.change above ∙ opened-above p.place.table s w above;
      below = m.below w;
      fits = fixed-word s w m;
    })

-- ---- index words after the speculative change

opened-other : (table : Option ℕ) (s : Machine) (i : ℕ) → i ≢ 11 → word (state_at_entry table s) i ≡ word s i
opened-other None s i other = refl
opened-other (Some k) s i other = get_or-set_other s.words 11 i _ 0 other

pub speculative-index_words : (p : Prepared) (s : Machine) (table : Option ℕ) → IsPrepared p → IsMachine s
    → index_words (state_with_speculative_changes p (state_at_entry table s)) ≡ words_after (index_words s) p.index
speculative-index_words p s table h m =
    let u = state_at_entry table s in
    let x = index_words u in
    let n = is_machine-opened table s m in
    let long : 32 ≤ length s.words = omega (arith, m.size, words_of_storage_is) in
    let long' : 32 ≤ length u.words = omega (arith, n.size, words_of_storage_is) in
    let size : length (state_with_speculative_changes p u).words ≡ length u.words = (speculative-marks p u).size in
    let same : index_words s ≡ x =
    are_index_words u (index_words s) long' (length-index_words s long)
    (λ k few. index-at s k few ∙ sym (opened-other table s (16 + k) (omega arith))) in
    let after : words_after x p.index ≡ index_words (state_with_speculative_changes p u) =
    are_index_words (state_with_speculative_changes p u) (words_after x p.index) (omega arith)
    (length-words_after x p.index ∙ length-index_words u long')
    (λ k few. sym (speculative-index p u k long' few h.change)) in
    sym after ∙ ap (λ y. words_after y p.index) (sym same)

-- ---- the predicted state

kept-counter : (s : Machine) (c : ℕ) → IsMachine s → c < 2 ^ 19 → IsMachine (record s { ic = c })
kept-counter s c m h = record {
  size = m.size;
  counter = h;
  below = m.below;
  registers = m.registers;
  reader_area = m.reader_area;
  printer_area = m.printer_area;
}

predicted-rest_by : (b : Bool) (u : Machine) (c : ℕ)
    → (if b then u else record u { ic = c }) ≡ record u { ic = (if b then u else record u { ic = c }).ic }
predicted-rest_by true u c = refl
predicted-rest_by false u c = refl

-- the predicted state is the completed state except for the program counter
pub predicted-rest : (p : Prepared) (s : Machine) → predicted_state p s ≡ record (state_after_completion p s) { ic = (predicted_state p s).ic }
unfolding predicted_state
predicted-rest p s = predicted-rest_by p.serial (state_after_completion p s) p.following

pub predicted-machine : (p : Prepared) (s : Machine) → IsPrepared p → IsMachine s → IsMachine (predicted_state p s)
unfolding predicted_state
predicted-machine p s h m =
    let after = kept-completed p s h m in
    of_choice IsMachine p.serial (state_after_completion p s) (record (state_after_completion p s) { ic = p.following }) after
    (kept-counter (state_after_completion p s) p.following after h.following)

pub predicted-alone : (p : Prepared) (s : Machine) → p.serial ≡ true → predicted_state p s ≡ state_after_completion p s
unfolding predicted_state
predicted-alone p s e = ap (λ b. if b then state_after_completion p s else record (state_after_completion p s) { ic = p.following }) e

pub predicted-following : (p : Prepared) (s : Machine) → p.serial ≡ false → (predicted_state p s).ic ≡ p.following
unfolding predicted_state
predicted-following p s e =
    ap (λ b. (if b then state_after_completion p s else record (state_after_completion p s) { ic = p.following }).ic) e

pub predicted-done : (p : Prepared) (s : Machine) → (predicted_state p s).done ≡ s.done + 1
predicted-done p s = ap (λ (u : Machine). u.done) (predicted-rest p s) ∙ completed-done p s

pub predicted-unwritten : (p : Prepared) (s : Machine) (w : ℕ) → IsPrepared p → IsMachine s → 32 ≤ w
    → IsNotAmong w p.writes → word (predicted_state p s) w ≡ word s w
predicted-unwritten p s w h m above k =
    ap (λ (u : Machine). word u w) (predicted-rest p s) ∙ completed-unwritten p s w h m above k

past-counter : (p : Prepared) (s u : Machine) (c : ℕ) → IsPast p s u → IsPast p s (record u { ic = c })
unfolding index_words
past-counter p s u c h = record {
  size = h.size;
  index = h.index;
  storage = h.storage;
  low = h.low;
  mask = h.mask;
  enabled = h.enabled;
  waiting = h.waiting;
  reader = h.reader;
  printer = h.printer;
  done = h.done;
}

pub predicted-past : (p : Prepared) (s : Machine) → IsPrepared p → IsMachine s → p.serial ≡ false
    → IsPast p s (predicted_state p s)
predicted-past p s h m free =
    subst (IsPast p s) (sym (predicted-rest p s))
    (past-counter p s (state_after_completion p s) (predicted_state p s).ic (completed-past p s h m free))
