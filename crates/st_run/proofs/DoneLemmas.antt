-- The transition between two steps does not change the count of completed instructions, and a step
-- adds one.
use Rattle.st_run.proofs.Common.{slice_get, ◌≡◌, ℕ, List, Bool, true, false, Option, None, Some, refl, ◌∙◌, Machine, next_device, Order, Device, Reader, Printer, rests, read_in, Signal, Scene, with_due_signals, with_signals_while, if_due, with_due_orders, with_device, with_order_at_rest, with_wait, interlude, uneventful, with_order, all_stored-done}
use Rattle.std.proofs.Common.{nat_le, if◌then◌else◌}
use Rattle.st_run.proofs.SignalLemmas.{kept-while}

either : {A : Type 0} (f : A → ℕ) (n : ℕ) (b : Bool) (x y : A) → f x ≡ n → f y ≡ n → f (if b then x else y) ≡ n
either f n true x y p q = p
either f n false x y p q = q

signals-done : (holds : Machine → Signal → Bool) (c : Scene) → (with_signals_while holds c.signals c).machine.done ≡ c.machine.done
signals-done holds c = kept-while (λ d. d.machine.done ≡ c.machine.done) (λ d x xs is. is) holds c.signals c refl

read_in-done : (m : Machine) (w : ℕ) (card : Option (List ℕ)) → (read_in m w card).done ≡ m.done
read_in-done m w None = refl
read_in-done m w (Some card) = all_stored-done (record m { reader = None }) w card

reader-done : (o : Option Order) (c : Scene) → (with_order Reader o c).scene.machine.done ≡ c.machine.done
reader-done None c = refl
reader-done (Some order) c = read_in-done c.machine order.word (slice_get c.cards 0)

printer-done : (o : Option Order) (c : Scene) → (with_order Printer o c).scene.machine.done ≡ c.machine.done
printer-done None c = refl
printer-done (Some order) c = refl

device-done : (d : Option Device) (c : Scene) → (with_device d c).scene.machine.done ≡ c.machine.done
device-done None c = refl
device-done (Some Reader) c = reader-done c.machine.reader c
device-done (Some Printer) c = printer-done c.machine.printer c

due_orders-done : (c : Scene) → (with_due_orders c).scene.machine.done ≡ c.machine.done
unfolding with_due_orders
due_orders-done c =
    let d = (with_order Reader (if_due c.machine.done c.machine.reader) c).scene in
    printer-done (if_due d.machine.done d.machine.printer) d ∙ reader-done (if_due c.machine.done c.machine.reader) c

order_at_rest-done : (c : Scene) → (with_order_at_rest c).scene.machine.done ≡ c.machine.done
unfolding with_order_at_rest
order_at_rest-done c = either (λ r. r.scene.machine.done) c.machine.done (rests c.machine) (with_device (next_device c.machine) c) (uneventful c) (device-done (next_device c.machine) c) refl

wait-done : (c : Scene) → (with_wait c).scene.machine.done ≡ c.machine.done
unfolding with_wait
wait-done c =
    let d = (with_order_at_rest c).scene in
    let e = (with_order_at_rest d).scene in
    signals-done (λ s x. rests s) e ∙ (order_at_rest-done d ∙ order_at_rest-done c)

pub settled-done : (c : Scene) → (interlude c).scene.machine.done ≡ c.machine.done
unfolding interlude
settled-done c =
    let d = with_due_signals c in
    wait-done (with_due_orders d).scene ∙ (due_orders-done d ∙ signals-done (λ s x. nat_le x.count s.done) c)
