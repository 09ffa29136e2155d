-- The predicted state after a non-serializing entry does not depend on the orders.
use Rattle.st_exec.proofs.Common.{◌≡◌, ℕ, Bool, true, false, if◌then◌else◌, Option, None, Some, refl, sym, ◌∙◌, ap, subst, get_or-set_other, length-set, Instr, Half, Branch, Floating, Vfl, Connect, Move, BitBranch, IndBranch, StoreCounter, Transfer, Invalid, Machine, IsMachine, with_word, state_with_indicators, state_with_signal, Order, AreAlike, IndexChange, Prepared, is_serial_operation, IsPrepared, operation_outcome, connects, with_accumulator, with_register, with_registers, with_field, with_result, Done, effect_of, effect, carried_out, Effect, Rest, Put, Copy, Exchange, TurnOff, Enable, Wait, Give, Leave, with_change, state_with_speculative_changes, counter, state_counted_on, predicted_state, read_in, printed_out}
use Rattle.st_prep.specs.BesideOrders.{AreAlikeBesideOrders}
use Rattle.st_prep.proofs.BesideLemmas.{with_orders, alike-orders}
use Rattle.st_exec.proofs.SparedLemmas.{IsQuiet, quiet-effect}
use Rattle.st_exec.proofs.AheadLemmas.{late}
use Rattle.st_exec.proofs.AlikeEffects.{predicted-late, predicted-alike}

-- ---- changes of a state with other orders

change-orders : (r q : Option Order) (c : Option IndexChange) (s : Machine)
    → with_change c (with_orders r q s) ≡ with_orders r q (with_change c s)
change-orders r q None s = refl
change-orders r q (Some c) s = refl

early-orders : (r q : Option Order) (p : Prepared) (s : Machine)
    → state_with_speculative_changes p (with_orders r q s) ≡ with_orders r q (state_with_speculative_changes p s)
unfolding state_with_speculative_changes
early-orders r q p s = ap (state_with_indicators p.ind) (change-orders r q p.index s)

register-orders : (r q : Option Order) (w : ℕ) (x : Option ℕ) (t : Machine)
    → with_register w x (with_orders r q t) ≡ with_orders r q (with_register w x t)
register-orders r q w None t = refl
register-orders r q w (Some x) t = refl

field-orders : (r q : Option Order) (f : Option ℕ) (a n : ℕ) (t : Machine)
    → with_field f a n (with_orders r q t) ≡ with_orders r q (with_field f a n t)
field-orders r q None a n t = refl
field-orders r q (Some x) a n t = refl

registers-orders : (r q : Option Order) (o : Done) (t : Machine)
    → with_registers o (with_orders r q t) ≡ with_orders r q (with_registers o t)
unfolding with_registers
registers-orders r q o t =
    let a = with_accumulator o.acc t in
    let rm = with_register 13 o.rm a in
    let ft = with_register 14 o.ft rm in
    ap (λ u. with_register 7 o.counts (with_register 15 o.tr (with_register 14 o.ft u)))
    (register-orders r q 13 o.rm a)
    ∙ ap (λ u. with_register 7 o.counts (with_register 15 o.tr u)) (register-orders r q 14 o.ft rm)
    ∙ ap (with_register 7 o.counts) (register-orders r q 15 o.tr ft)
    ∙ register-orders r q 7 o.counts (with_register 15 o.tr ft)

with_result-orders : (r q : Option Order) (o : Done) (a n : ℕ) (t : Machine)
    → with_result o a n (with_orders r q t) ≡ with_orders r q (with_result o a n t)
unfolding with_result
with_result-orders r q o a n t =
    ap (λ u. with_field o.field a n (state_with_indicators o.ind u)) (registers-orders r q o t)
    ∙ field-orders r q o.field a n (state_with_indicators o.ind (with_registers o t))

done-orders : (r q : Option Order) (d : Effect) (t : Machine) → IsQuiet d
    → carried_out d (with_orders r q t) ≡ with_orders r q (carried_out d t)
unfolding carried_out
done-orders r q Rest t k = refl
done-orders r q (Put a n v) t k = refl
done-orders r q (Copy from to n) t k = absurd k
done-orders r q (Exchange from to n) t k = absurd k
done-orders r q (TurnOff i) t k = refl
done-orders r q (Enable enabled) t k = absurd k
done-orders r q Wait t k = absurd k
done-orders r q (Give write order) t k = absurd k
done-orders r q (Leave o a n) t k = with_result-orders r q o a n t

effect-orders : (r q : Option Order) (instr : Instr) (e v : ℕ) (t : Machine)
    → effect_of instr e v (with_orders r q t) ≡ effect_of instr e v t
unfolding effect_of operation_outcome connects
effect-orders r q (Half op a j i) e v t = refl
effect-orders r q (Branch op a i) e v t = refl
effect-orders r q (Floating n a i) e v t = refl
effect-orders r q (Vfl op d u n p l b o a i) e v t = refl
effect-orders r q (Connect kind table p l b o a i) e v t = refl
effect-orders r q (Move swap a i second n) e v t = refl
effect-orders r q (BitBranch sense change a i second) e v t = refl
effect-orders r q (IndBranch sense off a i second) e v t = refl
effect-orders r q (StoreCounter a i second) e v t = refl
effect-orders r q (Transfer w a i n) e v t = refl
effect-orders r q (Invalid first second full) e v t = refl

late-orders : (r q : Option Order) (b : Bool) (p : Prepared) (t : Machine) → p.suppressed ≡ b → IsPrepared p
    → p.serial ≡ false → late b p (with_orders r q t) ≡ with_orders r q (late b p t)
late-orders r q true p t e h free = refl
late-orders r q false p t e h free =
    let hazard_free : is_serial_operation p.instr ≡ false = (h.ahead free).operation e in
    ap (λ d. carried_out d (with_orders r q t)) (effect-orders r q p.instr p.e p.value t)
    ∙ done-orders r q (effect p t) t (quiet-effect p.instr p.e p.value t hazard_free)

-- ---- the predicted state

-- the predicted state does not depend on the counter before it is set
counted-orders : (r q : Option Order) (u : Machine) (c d f : ℕ)
    → record (state_counted_on (with_orders r q u) c) { ic = f } ≡ with_orders r q (record (state_counted_on u d) { ic = f })
counted-orders r q u c d f = refl

predicted-orders : (r q : Option Order) (p : Prepared) (s : Machine) → IsPrepared p → p.serial ≡ false
    → predicted_state p (with_orders r q s) ≡ with_orders r q (predicted_state p s)
predicted-orders r q p s h free =
    let u = with_orders r q s in
    let t = state_with_speculative_changes p s in
    let c : ℕ = if p.suppressed then p.following else counter p (state_with_speculative_changes p u) in
    let d : ℕ = if p.suppressed then p.following else counter p t in
    let same : late p.suppressed p (state_with_speculative_changes p u) ≡ with_orders r q (late p.suppressed p t) =
    ap (late p.suppressed p) (early-orders r q p s) ∙ late-orders r q p.suppressed p t refl h free in
    predicted-late p u h free
    ∙ ap (λ y. record (state_counted_on y c) { ic = p.following }) same
    ∙ counted-orders r q (late p.suppressed p t) c d p.following
    ∙ ap (with_orders r q) (sym (predicted-late p s h free))

-- two states that are alike except for the orders of one of them
beside-orders : (s t : Machine) (r q : Option Order) → AreAlike s (with_orders r q t) → AreAlikeBesideOrders s t
beside-orders s t r q h = record {
  size = h.size;
  words = h.words;
  ic = h.ic;
  enabled = h.enabled;
  waiting = h.waiting;
  done = h.done;
}

pub predicted-beside : (p : Prepared) (s t : Machine) → IsPrepared p → IsMachine s → AreAlikeBesideOrders s t
    → p.serial ≡ false → AreAlikeBesideOrders (predicted_state p s) (predicted_state p t)
predicted-beside p s t h m k free =
    let alike = predicted-alike p s (with_orders s.reader s.printer t) h m (alike-orders s t k) free in
    beside-orders (predicted_state p s) (predicted_state p t) s.reader s.printer
    (subst (AreAlike (predicted_state p s)) (predicted-orders s.reader s.printer p t h free) alike)

-- ---- pairs of states that differ only in indicators and orders

pub beside-same : (s : Machine) → AreAlikeBesideOrders s s
beside-same s = record {
  size = refl;
  words = λ w other. refl;
  ic = refl;
  enabled = refl;
  waiting = refl;
  done = refl;
}

pub beside-then : (s t u : Machine) → AreAlikeBesideOrders s t → AreAlikeBesideOrders t u → AreAlikeBesideOrders s u
beside-then s t u h k = record {
  size = k.size ∙ h.size;
  words = λ w other. k.words w other ∙ h.words w other;
  ic = k.ic ∙ h.ic;
  enabled = k.enabled ∙ h.enabled;
  waiting = k.waiting ∙ h.waiting;
  done = k.done ∙ h.done;
}

-- setting the indicators and the orders to any values keeps the states alike
beside-indicators : (r q : Option Order) (x : ℕ) (s : Machine)
    → AreAlikeBesideOrders s (with_word (with_orders r q s) 11 x)
beside-indicators r q x s = record {
  size = length-set s.words 11 x;
  words = λ w other. get_or-set_other s.words 11 w x 0 other;
  ic = refl;
  enabled = refl;
  waiting = refl;
  done = refl;
}

pub beside-signalled : (s : Machine) (i : ℕ) → AreAlikeBesideOrders s (state_with_signal s i)
beside-signalled s i = beside-indicators s.reader s.printer _ s

pub beside-printed : (s : Machine) → AreAlikeBesideOrders s (printed_out s)
beside-printed s = beside-indicators s.reader None _ s

pub beside-no_card : (s : Machine) (w : ℕ) → AreAlikeBesideOrders s (read_in s w None)
beside-no_card s w = beside-indicators None s.printer _ s
