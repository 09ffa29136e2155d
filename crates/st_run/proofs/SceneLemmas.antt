-- The transition between two steps and a step keep the invariant of a scene.
use Rattle.st_run.proofs.Common.{IfSome, slice_get, ℕ, Bool, List, [], ◌∷◌, Option, None, Some, All, All-head, All-tail, Machine, HasArea, is_due, next_device, Order, Device, Reader, Printer, plan, of_choice, plan-prepared, rests, interrupt, step, Signal, Scene, with_due_signals, with_signals_while, if_due, with_due_orders, with_device, with_order_at_rest, with_wait, interlude, scene_after_step, uneventful, with_order, IsCard, IsScene, interrupt-below}
use Rattle.std.specs.Prelude.{drop}
use Rattle.std.proofs.Common.{nat_le}
use Rattle.st_exec.proofs.MachineKept.{kept-completed}
use Rattle.st_run.proofs.SignalLemmas.{kept-while}
use Rattle.st_refine.proofs.StateLemmas.{signalled-machine, read-machine, printed-machine}

-- ---- states

first-is : (cards : List (List ℕ)) → All IsCard cards → IfSome (slice_get cards 0) IsCard
first-is [] are = tt
first-is (card ∷ cards) are = All-head IsCard card cards are

rest-cards : (cards : List (List ℕ)) → All IsCard cards → All IsCard (drop 1 cards)
rest-cards [] are = are
rest-cards (card ∷ cards) are = All-tail IsCard card cards are

-- ---- scenes

pub signals-scene : (holds : Machine → Signal → Bool) (c : Scene) → IsScene c → IsScene (with_signals_while holds c.signals c)
signals-scene holds c is =
    kept-while IsScene (λ d x xs h. record { machine = signalled-machine d.machine x.indicator h.machine; cards = h.cards })
    holds c.signals c is

reader-scene : (o : Option Order) (c : Scene) → IsScene c → HasArea o → IsScene (with_order Reader o c).scene
reader-scene None c is area = is
reader-scene (Some order) c is area = record {
  machine = read-machine c.machine order.word (slice_get c.cards 0) is.machine area.1 (first-is c.cards is.cards);
  cards = rest-cards c.cards is.cards;
}

printer-scene : (o : Option Order) (c : Scene) → IsScene c → IsScene (with_order Printer o c).scene
printer-scene None c is = is
printer-scene (Some order) c is = record {
  machine = printed-machine c.machine is.machine;
  cards = is.cards;
}

area-if_due : (done : ℕ) (o : Option Order) → HasArea o → HasArea (if_due done o)
area-if_due done o area = of_choice HasArea (is_due done o) o None area tt

due_orders-scene : (c : Scene) → IsScene c → IsScene (with_due_orders c).scene
unfolding with_due_orders
due_orders-scene c is =
    let s = c.machine in
    let d = (with_order Reader (if_due s.done s.reader) c).scene in
    printer-scene (if_due d.machine.done d.machine.printer) d
    (reader-scene (if_due s.done s.reader) c is (area-if_due s.done s.reader is.machine.reader_area))

device-scene : (d : Option Device) (c : Scene) → IsScene c → IsScene (with_device d c).scene
device-scene None c is = is
device-scene (Some Reader) c is = reader-scene c.machine.reader c is is.machine.reader_area
device-scene (Some Printer) c is = printer-scene c.machine.printer c is

order_at_rest-scene : (c : Scene) → IsScene c → IsScene (with_order_at_rest c).scene
unfolding with_order_at_rest
order_at_rest-scene c is =
    of_choice (λ r. IsScene r.scene) (rests c.machine) (with_device (next_device c.machine) c) (uneventful c)
    (device-scene (next_device c.machine) c is) is

wait-scene : (c : Scene) → IsScene c → IsScene (with_wait c).scene
unfolding with_wait
wait-scene c is =
    let d = (with_order_at_rest c).scene in
    let e = (with_order_at_rest d).scene in
    let kept : IsScene e = order_at_rest-scene d (order_at_rest-scene c is) in
    signals-scene (λ s x. rests s) e kept

pub settled-scene : (c : Scene) → IsScene c → IsScene (interlude c).scene
unfolding interlude
settled-scene c is =
    let d = with_due_signals c in
    wait-scene (with_due_orders d).scene (due_orders-scene d (signals-scene (λ s x. nat_le x.count s.done) c is))

pub stepped-scene : (c : Scene) → IsScene c → IsScene (scene_after_step c)
unfolding step
stepped-scene c is =
    let s = c.machine in
    let t = interrupt s in
    record {
      machine = kept-completed (plan s t) s (plan-prepared s t is.machine (interrupt-below s)) is.machine;
      cards = is.cards;
    }
