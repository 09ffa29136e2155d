-- The unmarked lines of a report are those of the events of the plain run.
use Rattle.st_top.proofs.Common.{◌≡◌, ℕ, Bool, true, false, if◌then◌else◌, List, [], ◌∷◌, ◌++◌, map, reverse, zero, suc, Option, None, Some, refl, sym, ◌∙◌, ap, subst, ◌+◌, map-append, filter-append, flat_map, Asked, Order, rests, interrupt, Scene, PlainEvent, Prints, Interrupts, Executes, interlude, with_due_signals, with_due_orders, if_due, with_device, with_order_at_rest, with_wait, interrupts_by, uneventful, with_order, prt_line, trc_line, row_line, drop_line, int_line, time_line, end_line, done_line, ticks_line, TimetableEvent, Timed, Completes, Drops, Shows, Happens, plain_run, drop_of, snapshot, Moment, Standing, next_state, standing_at, next_moment, ends_segment, event_at, ticks_before, snapshots_from, drops, drops_if_ends, happening_at, events_between, snapshot_at, completion, until_done, last_snapshot_at, last_events, timed_from, TimedReportedEvent, reported_events, timed_reported_event, reported_event, settled-done, timed-none, timed-step, lines_unmarked, marked_report, joined, parts_at, line_if, block, snapshot_lines}
use Rattle.std.specs.Prelude.{not, filter}
use Rattle.std.proofs.lemmas.List.{append-nil}
use Rattle.st_top.proofs.MarkLemmas.{lines-append}
use Rattle.std.proofs.lemmas.Grind.{flat_map-append}
use Rattle.st_state.specs.Orders.{next_device}
use Rattle.st_state.specs.declared.devices.Device.{Device}
use Rattle.st_state.specs.declared.devices.Device.TheVariants.{Reader, Printer}
use Rattle.st_exch.specs.Printer.{line_of_words}
use Rattle.st_run.specs.Run.{Ends}
use Rattle.st_run.specs.Events.{plain_events_of as plain_event}
use Rattle.st_telling.specs.Report.{Part as Marked, varying as with_marks, fixed as without_marks}

-- a property of both branches holds for the conditional
of_choice : {A : Type 0} (P : A → Type 0) (b : Bool) (x y : A) → P x → P y → P (if b then x else y)
of_choice P true x y p q = p
of_choice P false x y p q = q

-- ---- unmarked lines

pub unmarked-append : (xs ys : List Marked) → lines_unmarked (xs ++ ys) ≡ lines_unmarked xs ++ lines_unmarked ys
unfolding lines_unmarked
unmarked-append xs ys =
    ap joined (filter-append (λ (p : Marked). not p.varies) xs ys)
    ∙ lines-append (filter (λ (p : Marked). not p.varies) xs) (filter (λ (p : Marked). not p.varies) ys)

pub unmarked-plain : (lines : List (List ℕ)) → lines_unmarked (without_marks lines) ≡ lines
unfolding lines_unmarked
unmarked-plain lines = refl

pub unmarked-marked : (lines : List (List ℕ)) → lines_unmarked (with_marks lines) ≡ []
unfolding lines_unmarked
unmarked-marked lines = refl

pub unmarked-before : (xs ys : List (List ℕ)) → lines_unmarked (without_marks xs ++ with_marks ys) ≡ xs
unmarked-before xs ys =
    unmarked-append (without_marks xs) (with_marks ys)
    ∙ ap (λ rest. lines_unmarked (without_marks xs) ++ rest) (unmarked-marked ys)
    ∙ append-nil (lines_unmarked (without_marks xs))
    ∙ unmarked-plain xs

pub unmarked-between : (xs ys zs : List (List ℕ)) → lines_unmarked (without_marks xs ++ with_marks ys ++ without_marks zs) ≡ xs ++ zs
unmarked-between xs ys zs =
    unmarked-append (without_marks xs ++ with_marks ys) (without_marks zs)
    ∙ ap (λ issue. issue ++ lines_unmarked (without_marks zs)) (unmarked-before xs ys)
    ∙ ap (λ rest. xs ++ rest) (unmarked-plain zs)

-- ---- the events of the plain run, as lines

pub happening_lines : Bool → List (ℕ × ℕ) → PlainEvent → List (List ℕ)
happening_lines trace dumps (Prints s words) = prt_line (line_of_words words) ∷ []
happening_lines trace dumps (Interrupts s i) = int_line i s.done ∷ block dumps s
happening_lines trace dumps (Executes s address) = line_if trace (trc_line s.done address)
happening_lines trace dumps (Ends s rests) = end_line rests ∷ done_line s.done ∷ block dumps s

-- the count of completed instructions at an event is that of its state
pub HappensAt : ℕ → PlainEvent → Type 0
HappensAt done (Prints s words) = Unit {0}
HappensAt done (Interrupts s i) = done ≡ s.done
HappensAt done (Executes s address) = done ≡ s.done
HappensAt done (Ends s rests) = done ≡ s.done

pub ComesAt : ℕ → TimetableEvent → Type 0
ComesAt done (Completes s address row) = done ≡ s.done
ComesAt done (Drops address p) = Unit {0}
ComesAt done (Shows tick s levels) = Unit {0}
ComesAt done (Happens happening) = HappensAt done happening

pub AreCounted : List Timed → Type 0
AreCounted [] = Unit {0}
AreCounted (x ∷ xs) = ComesAt x.done x.event × AreCounted xs

abbrev marked_lines : Asked → TimedReportedEvent → List Marked
marked_lines asked t = parts_at asked t.done t.tick t.event

happens-lines : (asked : Asked) (done tick : ℕ) (h : PlainEvent) → HappensAt done h
    → lines_unmarked (marked_lines asked (record { done = done; tick = tick; event = reported_event (Happens h) }))
    ≡ happening_lines asked.trace asked.dumps h
unfolding lines_unmarked happening_lines HappensAt
happens-lines asked done tick (Prints s words) is = refl
happens-lines asked done tick (Interrupts s i) is =
    unmarked-between (int_line i done ∷ []) (line_if asked.time (time_line tick)) (block asked.dumps s)
    ∙ ap (λ (d : ℕ). int_line i d ∷ block asked.dumps s) is
happens-lines asked done tick (Executes s address) is =
    unmarked-before (line_if asked.trace (trc_line done address)) (line_if asked.chart (row_line done address 0 0 0))
    ∙ ap (λ (d : ℕ). line_if asked.trace (trc_line d address)) is
happens-lines asked done tick (Ends s rests) is =
    unmarked-between (end_line rests ∷ done_line done ∷ []) (line_if asked.time (ticks_line tick)) (block asked.dumps s)
    ∙ ap (λ (d : ℕ). end_line rests ∷ done_line d ∷ block asked.dumps s) is

event-lines : (asked : Asked) (done tick : ℕ) (e : TimetableEvent) → ComesAt done e
    → lines_unmarked (marked_lines asked (record { done = done; tick = tick; event = reported_event e }))
    ≡ flat_map (happening_lines asked.trace asked.dumps) (plain_event e)
unfolding ComesAt happening_lines
event-lines asked done tick (Completes s address row) is =
    unmarked-before (line_if asked.trace (trc_line done address)) (line_if asked.chart (row_line done address row.p row.r row.c))
    ∙ ap (λ (d : ℕ). line_if asked.trace (trc_line d address)) is
    ∙ sym (append-nil (line_if asked.trace (trc_line s.done address)))
event-lines asked done tick (Drops address p) is = unmarked-marked (line_if asked.chart (drop_line address p))
event-lines asked done tick (Shows at s levels) is = unmarked-marked (snapshot_lines asked done at s levels)
event-lines asked done tick (Happens h) is =
    happens-lines asked done tick h is ∙ sym (append-nil (happening_lines asked.trace asked.dumps h))

pub report-lines : (asked : Asked) (xs : List Timed) → AreCounted xs
    → lines_unmarked (marked_report asked (reported_events xs)) ≡ flat_map (happening_lines asked.trace asked.dumps) (plain_run xs)
unfolding AreCounted marked_report reported_events plain_run lines_unmarked
report-lines asked [] are = refl
report-lines asked (x ∷ xs) are =
    let lines = happening_lines asked.trace asked.dumps in
    unmarked-append (marked_lines asked (timed_reported_event x)) (marked_report asked (reported_events xs))
    ∙ ap (λ issue. issue ++ lines_unmarked (marked_report asked (reported_events xs))) (event-lines asked x.done x.tick x.event are.0)
    ∙ ap (λ rest. flat_map lines (plain_event x.event) ++ rest) (report-lines asked xs are.1)
    ∙ sym (flat_map-append lines (plain_event x.event) (plain_run xs))

-- ---- only prints occur between two steps

ArePrints : List PlainEvent → Type 0
ArePrints [] = Unit {0}
ArePrints (Prints s words ∷ hs) = ArePrints hs
ArePrints (Interrupts s i ∷ hs) = ⊥
ArePrints (Executes s address ∷ hs) = ⊥
ArePrints (Ends s rests ∷ hs) = ⊥

prints-append : (xs ys : List PlainEvent) → ArePrints xs → ArePrints ys → ArePrints (xs ++ ys)
unfolding ArePrints
prints-append [] ys p q = q
prints-append (Prints s words ∷ xs) ys p q = prints-append xs ys p q
prints-append (Interrupts s i ∷ xs) ys p q = absurd p
prints-append (Executes s address ∷ xs) ys p q = absurd p
prints-append (Ends s rests ∷ xs) ys p q = absurd p

reader-prints : (o : Option Order) (c : Scene) → ArePrints (with_order Reader o c).happened
unfolding ArePrints
reader-prints None c = tt
reader-prints (Some order) c = tt

printer-prints : (o : Option Order) (c : Scene) → ArePrints (with_order Printer o c).happened
unfolding ArePrints
printer-prints None c = tt
printer-prints (Some order) c = tt

device-prints : (d : Option Device) (c : Scene) → ArePrints (with_device d c).happened
unfolding ArePrints
device-prints None c = tt
device-prints (Some Reader) c = reader-prints c.machine.reader c
device-prints (Some Printer) c = printer-prints c.machine.printer c

due-prints : (c : Scene) → ArePrints (with_due_orders c).happened
unfolding with_due_orders
due-prints c =
    let d = (with_order Reader (if_due c.machine.done c.machine.reader) c).scene in
    prints-append (with_order Reader (if_due c.machine.done c.machine.reader) c).happened
    (with_order Printer (if_due d.machine.done d.machine.printer) d).happened
    (reader-prints (if_due c.machine.done c.machine.reader) c)
    (printer-prints (if_due d.machine.done d.machine.printer) d)

rest-prints : (c : Scene) → ArePrints (with_order_at_rest c).happened
unfolding with_order_at_rest ArePrints
rest-prints c =
    of_choice (λ r. ArePrints r.happened) (rests c.machine) (with_device (next_device c.machine) c) (uneventful c)
    (device-prints (next_device c.machine) c) tt

settled-prints : (c : Scene) → ArePrints (interlude c).happened
unfolding interlude with_wait ArePrints
settled-prints c =
    let d = with_due_signals c in
    let e = (with_due_orders d).scene in
    let f = (with_order_at_rest e).scene in
    let first = (with_order_at_rest e).happened in
    let second = (with_order_at_rest f).happened in
    prints-append (with_due_orders d).happened (first ++ second ++ []) (due-prints d)
    (prints-append (first ++ second) [] (prints-append first second (rest-prints e) (rest-prints f)) tt)

-- ---- the events of a run are counted

counted-append : (xs ys : List Timed) → AreCounted xs → AreCounted ys → AreCounted (xs ++ ys)
unfolding AreCounted
counted-append [] ys p q = q
counted-append (x ∷ xs) ys p q = (p.0, counted-append xs ys p.1 q)

counted-map : {A : Type 0} (f : A → Timed) (xs : List A) → ((x : A) → ComesAt (f x).done (f x).event) → AreCounted (map f xs)
unfolding AreCounted
counted-map f [] each = tt
counted-map f (x ∷ xs) each = (each x, counted-map f xs each)

counted-prints : (m : Moment) (hs : List PlainEvent) → ArePrints hs → AreCounted (map (happening_at m) hs)
unfolding AreCounted ArePrints ComesAt HappensAt
counted-prints m [] are = tt
counted-prints m (Prints s words ∷ hs) are = (tt, counted-prints m hs are)
counted-prints m (Interrupts s i ∷ hs) are = absurd are
counted-prints m (Executes s address ∷ hs) are = absurd are
counted-prints m (Ends s rests ∷ hs) are = absurd are

counted-interrupt : (m : Moment) (i : Option ℕ) → AreCounted (map (happening_at m) (interrupts_by i (next_state m)))
unfolding AreCounted ComesAt HappensAt
counted-interrupt m None = tt
counted-interrupt m (Some i) = (sym (settled-done m.scene), tt)

counted-drops : (m : Moment) → AreCounted (drops m)
unfolding drops ComesAt
counted-drops m = counted-map (λ a. event_at m.tick m.scene.machine (drop_of a)) (reverse m.dropped) (λ a. tt)

counted-drops_if : (b : Bool) (m : Moment) → AreCounted (if b then drops m else [])
unfolding AreCounted
counted-drops_if true m = counted-drops m
counted-drops_if false m = tt

counted-between : (m : Moment) → AreCounted (events_between m)
unfolding events_between
counted-between m =
    let hs = (interlude m.scene).happened in
    let is = interrupts_by (interrupt (next_state m)) (next_state m) in
    counted-append (drops_if_ends m) (map (happening_at m) (hs ++ is)) (counted-drops_if (ends_segment m) m)
    (subst AreCounted (sym (map-append (happening_at m) hs is))
    (counted-append (map (happening_at m) hs) (map (happening_at m) is) (counted-prints m hs (settled-prints m.scene))
    (counted-interrupt m (interrupt (next_state m)))))

counted-until_done : (ds : List ℕ) (n : ℕ) (p : Standing) (snaps : List ℕ) → AreCounted (until_done ds n p snaps)
unfolding until_done snapshot AreCounted ComesAt
counted-until_done ds n p snaps =
    let due = ticks_before (next_moment ds n p).tick snaps in
    counted-append (map (snapshot_at ds n p) due) (completion ds n p ∷ [])
    (counted-map (snapshot_at ds n p) due (λ x. tt)) (refl, tt)

counted-last : (m : Moment) (snaps : List ℕ) → AreCounted (last_events m snaps)
unfolding last_events AreCounted ComesAt HappensAt
counted-last m snaps =
    let hs = (interlude m.scene).happened in
    let due = ticks_before (m.tick + 1) snaps in
    let last = happening_at m (Ends (next_state m) (rests (next_state m))) in
    counted-append (drops m ++ map (happening_at m) hs ++ map (last_snapshot_at m) due) (last ∷ [])
    (counted-append (drops m ++ map (happening_at m) hs) (map (last_snapshot_at m) due)
    (counted-append (drops m) (map (happening_at m) hs) (counted-drops m) (counted-prints m hs (settled-prints m.scene)))
    (counted-map (last_snapshot_at m) due (λ x. tt)))
    (sym (settled-done m.scene), tt)

pub counted-run : (ds : List ℕ) (n left : ℕ) (m : Moment) (snaps : List ℕ) → AreCounted (timed_from ds n left m snaps)
counted-run ds n zero m snaps = rw (timed-none ds n m snaps) (counted-last m (snapshots_from m.tick snaps))
counted-run ds n (suc left) m snaps =
    let p = standing_at m in
    let next = next_moment ds n p in
    let due = snapshots_from m.tick snaps in
    let rest = timed_from ds n left next snaps in
    rw (timed-step ds n left m snaps)
    (of_choice AreCounted (rests (next_state m)) (last_events m due) (events_between m ++ until_done ds n p due ++ rest)
    (counted-last m due)
    (counted-append (events_between m ++ until_done ds n p due) rest
    (counted-append (events_between m) (until_done ds n p due) (counted-between m) (counted-until_done ds n p due))
    (counted-run ds n left next snaps)))
