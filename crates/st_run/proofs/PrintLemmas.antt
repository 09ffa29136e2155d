-- At most one print occurs between two steps: the printer has at most one order, and gets none in
-- between.
use Rattle.st_run.proofs.Common.{slice_get, ◌≡◌, ℕ, ◌+◌, ◌≤◌, List, [], ◌∷◌, length, length-append, Option, None, Some, refl, ap, arith, Machine, state_with_store, is_due, next_device, Order, Device, Reader, Printer, of_choice, rests, all_stored, read_in, Scene, Transition, with_due_signals, with_signals_at_rest, if_due, with_due_orders, with_device, with_order_at_rest, with_wait, interlude, uneventful, and_then, with_order}
use Rattle.st_run.proofs.SignalLemmas.{kept-while}

-- the number of orders of the printer
orders : Option Order → ℕ
orders None = 0
orders (Some order) = 1

orders-few : (o : Option Order) → orders o ≤ 1
unfolding orders
orders-few None = omega arith
orders-few (Some order) = omega arith

-- the prints that occurred and those that are still possible are at most those that were possible
-- before
record PrintsWithin (c : Scene) (r : Transition) : Type 0 where
  few : length r.happened + orders r.scene.machine.printer ≤ orders c.machine.printer

-- ---- signals and the reader print nothing

rest-printer : (c : Scene) → (with_signals_at_rest c).machine.printer ≡ c.machine.printer
rest-printer c = kept-while (λ d. d.machine.printer ≡ c.machine.printer) (λ d x xs is. is) (λ s x. rests s) c.signals c refl

stored-printer : (m : Machine) (w : ℕ) (xs : List ℕ) → (all_stored m w xs).printer ≡ m.printer
unfolding all_stored
stored-printer m w [] = refl
stored-printer m w (x ∷ xs) = stored-printer (state_with_store m w x) (w + 1) xs

read-printer : (m : Machine) (w : ℕ) (card : Option (List ℕ)) → (read_in m w card).printer ≡ m.printer
read-printer m w None = refl
read-printer m w (Some card) = stored-printer (record m { reader = None }) w card

reader-prints : (o : Option Order) (c : Scene) → PrintsWithin c (with_order Reader o c)
reader-prints None c = record { few = omega arith }
reader-prints (Some order) c =
    let same = ap orders (read-printer c.machine order.word (slice_get c.cards 0)) in
    record { few = omega (arith, same) }

-- ---- the printer

printer-prints : (o : Option Order) (c : Scene) → orders o ≤ orders c.machine.printer → PrintsWithin c (with_order Printer o c)
unfolding orders
printer-prints None c few = record { few = omega arith }
printer-prints (Some order) c few = record { few = few }

if_due-few : (done : ℕ) (o : Option Order) → orders (if_due done o) ≤ orders o
unfolding orders
if_due-few done o = of_choice (λ p. orders p ≤ orders o) (is_due done o) o None (omega arith) (omega arith)

-- ---- successive transitions

then-prints : (c : Scene) (r : Transition) (f : Scene → Transition) → PrintsWithin c r → PrintsWithin r.scene (f r.scene)
    → PrintsWithin c (and_then r f)
then-prints c r f first second =
    record { few = omega (arith, first.few, second.few, length-append r.happened (f r.scene).happened) }

due_orders-prints : (c : Scene) → PrintsWithin c (with_due_orders c)
unfolding with_due_orders
due_orders-prints c =
    let r = with_order Reader (if_due c.machine.done c.machine.reader) c in
    let d = r.scene in
    then-prints c r (λ e. with_order Printer (if_due e.machine.done e.machine.printer) e)
    (reader-prints (if_due c.machine.done c.machine.reader) c)
    (printer-prints (if_due d.machine.done d.machine.printer) d (if_due-few d.machine.done d.machine.printer))

device-prints : (d : Option Device) (c : Scene) → PrintsWithin c (with_device d c)
device-prints None c = record { few = omega arith }
device-prints (Some Reader) c = reader-prints c.machine.reader c
device-prints (Some Printer) c = printer-prints c.machine.printer c (omega arith)

order_at_rest-prints : (c : Scene) → PrintsWithin c (with_order_at_rest c)
unfolding with_order_at_rest
order_at_rest-prints c =
    of_choice (λ r. PrintsWithin c r) (rests c.machine) (with_device (next_device c.machine) c) (uneventful c)
    (device-prints (next_device c.machine) c) (record { few = omega arith })

wait-prints : (c : Scene) → PrintsWithin c (with_wait c)
unfolding with_wait
wait-prints c =
    let r = with_order_at_rest c in
    let q = and_then r with_order_at_rest in
    let e = q.scene in
    let same = ap orders (rest-printer e) in
    then-prints c q (λ d. uneventful (with_signals_at_rest d))
    (then-prints c r with_order_at_rest (order_at_rest-prints c) (order_at_rest-prints r.scene))
    (record { few = omega (arith, same) })

pub settled-one : (c : Scene) → length (interlude c).happened ≤ 1
unfolding interlude
settled-one c =
    let d = with_due_signals c in
    let all = then-prints d (with_due_orders d) with_wait (due_orders-prints d) (wait-prints (with_due_orders d).scene) in
    omega (arith, all.few, orders-few d.machine.printer)
