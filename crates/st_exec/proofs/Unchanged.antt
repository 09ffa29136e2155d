-- The parts of the state that a step leaves unchanged: the count of completed instructions, and
-- words that it does not name.
use Rattle.st_exec.proofs.Common.{◌≡◌, ◌≢◌, ℕ, zero, suc, ◌+◌, ◌<◌, ◌≤◌, Bool, true, false, if◌then◌else◌, List, Option, None, Some, refl, sym, ◌∙◌, ap, arith, get_or-set_other, IfSome, register_word, Machine, word, state_with_store, Order, IndexChange, Prepared, state_at_entry, IsChange, IsPrepared, of_choice, AreFirstOperands, AreRead, with_register, with_registers, with_field, with_result, Done, state_with_copy, state_with_exchange, machine_with_order, state_with_order, effect, carried_out, with_change, state_with_speculative_changes, counter, state_counted_on, state_after_effect, state_after_completion, Effect, Rest, Put, Copy, Exchange, TurnOff, Enable, Wait, Give, Leave}

-- ---- the count of completed instructions

pub opened-done : (table : Option ℕ) (s : Machine) → (state_at_entry table s).done ≡ s.done
opened-done None s = refl
opened-done (Some i) s = refl

with_change-done : (c : Option IndexChange) (s : Machine) → (with_change c s).done ≡ s.done
with_change-done None s = refl
with_change-done (Some c) s = refl

pub early-done : (p : Prepared) (s : Machine) → (state_with_speculative_changes p s).done ≡ s.done
unfolding state_with_speculative_changes
early-done p s = with_change-done p.index s

copied-done : (from to n : ℕ) (t : Machine) → (state_with_copy from to n t).done ≡ t.done
unfolding state_with_copy
copied-done from to zero t = refl
copied-done from to (suc n) t = copied-done (from + 1) (to + 1) n (state_with_store t to (word t from))

exchanged-done : (from to n : ℕ) (t : Machine) → (state_with_exchange from to n t).done ≡ t.done
unfolding state_with_exchange
exchanged-done from to zero t = refl
exchanged-done from to (suc n) t =
    exchanged-done (from + 1) (to + 1) n (state_with_store (state_with_store t from (word t to)) to (word t from))

with_order-done : (write : Bool) (order : Order) (t : Machine) → (machine_with_order write order t).done ≡ t.done
with_order-done false order t = refl
with_order-done true order t = refl

given-done : (write : Bool) (order : Order) (t : Machine) → (state_with_order write order t).done ≡ t.done
given-done write order t = of_choice (λ (u : Machine). u.done ≡ t.done) _ _ _ refl (with_order-done write order t)

with_register-done : (w : ℕ) (x : Option ℕ) (t : Machine) → (with_register w x t).done ≡ t.done
with_register-done w None t = refl
with_register-done w (Some x) t = refl

with_registers-done : (o : Done) (t : Machine) → (with_registers o t).done ≡ t.done
unfolding with_registers
with_registers-done o t =
    with_register-done 7 o.counts _
    ∙ with_register-done 15 o.tr _
    ∙ with_register-done 14 o.ft _
    ∙ with_register-done 13 o.rm _

with_field-done : (f : Option ℕ) (a n : ℕ) (t : Machine) → (with_field f a n t).done ≡ t.done
with_field-done None a n t = refl
with_field-done (Some x) a n t = refl

with_result-done : (o : Done) (a n : ℕ) (t : Machine) → (with_result o a n t).done ≡ t.done
unfolding with_result
with_result-done o a n t = with_field-done o.field a n _ ∙ with_registers-done o t

pub done-done : (d : Effect) (t : Machine) → (carried_out d t).done ≡ t.done
unfolding carried_out
done-done Rest t = refl
done-done (Put a n v) t = refl
done-done (Copy from to n) t = copied-done from to n t
done-done (Exchange from to n) t = exchanged-done from to n t
done-done (TurnOff i) t = refl
done-done (Enable enabled) t = refl
done-done Wait t = refl
done-done (Give write order) t = given-done write order t
done-done (Leave outcome a n) t = with_result-done outcome a n t

finished-done : (b : Bool) (p : Prepared) (t : Machine)
    → (if b then state_counted_on t p.following else state_counted_on (carried_out (effect p t) t) (counter p t)).done ≡ t.done + 1
finished-done true p t = refl
finished-done false p t = ap (λ n. n + 1) (done-done (effect p t) t)

-- the completion of an entry counts one instruction
pub completed-done : (p : Prepared) (s : Machine) → (state_after_completion p s).done ≡ s.done + 1
unfolding state_after_completion state_after_effect
completed-done p s =
    finished-done p.suppressed p (state_with_speculative_changes p (state_at_entry p.place.table s))
    ∙ ap (λ n. n + 1) (early-done p (state_at_entry p.place.table s) ∙ opened-done p.place.table s)

-- ---- words above the registers, before the operands are read

pub stored-other : (s : Machine) (w x i : ℕ) → i ≢ w → word (state_with_store s w x) i ≡ word s i
stored-other s w x i other = get_or-set_other s.words w i (register_word w x) 0 other

pub opened-above : (table : Option ℕ) (s : Machine) (i : ℕ) → 32 ≤ i → word (state_at_entry table s) i ≡ word s i
opened-above None s i above = refl
opened-above (Some k) s i above = get_or-set_other s.words 11 i _ 0 (omega arith)

with_change-above : (c : Option IndexChange) (s : Machine) (i : ℕ) → IfSome c IsChange → 32 ≤ i
    → word (with_change c s) i ≡ word s i
with_change-above None s i h above = refl
with_change-above (Some c) s i h above =
    let number : c.number < 16 = h.number in stored-other s (16 + c.number) c.word i (omega arith)

pub early-above : (p : Prepared) (s : Machine) (i : ℕ) → IfSome p.index IsChange → 32 ≤ i
    → word (state_with_speculative_changes p s) i ≡ word s i
unfolding state_with_speculative_changes
early-above p s i h above =
    get_or-set_other (with_change p.index s).words 11 i _ 0 (omega arith) ∙ with_change-above p.index s i h above

-- the operands are the words of the state after the speculative change, except registers
pub operands-read : (p : Prepared) (operands : List ℕ) (s : Machine) → IsPrepared p → AreFirstOperands p.reads operands s
    → AreRead p.reads operands (state_with_speculative_changes p (state_at_entry p.place.table s))
operands-read p operands s h r =
    let same : (i : ℕ) → 32 ≤ i → word s i ≡ word (state_with_speculative_changes p (state_at_entry p.place.table s)) i =
    λ i above. sym (early-above p (state_at_entry p.place.table s) i h.change above ∙ opened-above p.place.table s i above) in
    record { first = λ k few some above. r.first k few some ∙ same (p.reads.first + k) above }
