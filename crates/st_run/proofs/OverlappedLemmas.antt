-- The changes of an overlapped machine by external events.
use Rattle.st_run.proofs.Common.{IfSome, IsSome, is_none, is_some, if◌then◌else◌, ◌≡◌, ℕ, ◌≤◌, Bool, true, false, ◌||◌, ◌&&◌, List, Option, None, Some, refl, sym, subst, ◌∙◌, ap, inr, Machine, pending, state_with_signal, Order, AreAlikeBesideOrders, rests, read_in, printed_out, beside-printed, beside-no_card, beside-signalled, beside-then, Overlap, interrupt_due, machine_after_segment, signalled_by, read_in_by, printed_by, MayServe, serve-settles, settled-waits, IsLed, IsLedOn, IsCard, IsSince, IsChanged}
use Rattle.st_ahead.specs.Calls.{machine_after_settling as settled_of}
use Rattle.st_run.specs.OverlappedLaws.{or-none}
use Rattle.st_run.proofs.EndedLemmas.{ended-behind, ended-since, ended-state, ended-serves}
use Rattle.st_run.proofs.LedLemmas.{signal-led, settle-led, print-led, read-led}

or-some : (a : Bool) → true ≡ (a || true)
or-some true = refl
or-some false = refl

-- only the state has changed
since-state : (o m k : Overlap) (over : Bool) → m ≡ record (if over then machine_after_segment o else o) { state = m.state } → k ≡ record m { state = k.state }
    → k ≡ record (if over then machine_after_segment o else o) { state = k.state }
since-state o m k over first next = next ∙ ap (λ (x : Overlap). record x { state = k.state }) first

changed-state : (m : Overlap) (s : Machine) → AreAlikeBesideOrders m.state s → IsLedOn m (record m { state = s })
    → IsChanged false m (record m { state = s })
changed-state m s alike led = record {
  since = λ b before behind since.
      subst {A = Bool} (λ o. IsSince b.machine o (record m { state = s })) (or-none before)
      (record {
        machine = since-state b.machine m (record m { state = s }) before since.machine refl;
        alike = λ open_still. beside-then _ _ _ (since.alike open_still) alike;
      });
  serves = λ may. may;
  led = led;
}

-- the segment has ended
changed-ended : (m : Overlap) (s : Machine) → IsLedOn m (record (machine_after_segment m) { state = s })
    → IsChanged true m (record (machine_after_segment m) { state = s })
changed-ended m s led = record {
  since = λ b before behind since.
      subst {A = Bool} (λ o. IsSince b.machine o (record (machine_after_segment m) { state = s })) (or-some before)
      (record {
        machine =
            ap (λ (x : Overlap). record x { state = s }) (ended-since b m before behind since)
            ∙ sym (ap (λ (x : Overlap). record x { state = s }) (ended-behind b behind));
        alike = λ open_still. absurd (cc open_still);
      });
  serves = λ may. ended-serves m may;
  led = led;
}

-- ---- a signal, and the printer

pub signal-changed : (m k : Overlap) (i : ℕ) → i ≤ 13 → MayServe m → k ≡ signalled_by i m → IsChanged false m k
signal-changed m k i known may same =
    subst {A = Overlap} (IsChanged false m) (sym same)
    (changed-state m (state_with_signal m.state i) (beside-signalled m.state i) (λ start. signal-led m i known (inr may)))

pub print-changed : (m k : Overlap) → IsSome m.state.printer → MayServe m → k ≡ printed_by m → IsChanged false m k
print-changed m k some may same =
    subst {A = Overlap} (IsChanged false m) (sym same) (changed-state m (printed_out m.state) (beside-printed m.state) (λ start. print-led m some may))

-- ---- the reader

card-changed : (m : Overlap) (order : Order) (card : Option (List ℕ)) → m.state.reader ≡ Some order → IfSome card IsCard → MayServe m
    → IsChanged (is_some card) m (read_in_by order.word card m)
card-changed m order None given is may = changed-state m (read_in m.state order.word None) (beside-no_card m.state order.word) (λ start. read-led m order None given is may)
card-changed m order (Some card) given is may = changed-ended m (read_in m.state order.word (Some card)) (λ start. read-led m order (Some card) given is may)

pub read-changed : (o : Option Order) (m k : Overlap) (card : Option (List ℕ)) → m.state.reader ≡ o → IsSome o → IfSome card IsCard → MayServe m
    → IfSome o (λ order. k ≡ read_in_by order.word card m) → IsChanged (is_some card) m k
read-changed None m k card given some is may same = absurd (cc some)
read-changed (Some order) m k card given some is may same =
    subst {A = Overlap} (IsChanged (is_some card) m) (sym same) (card-changed m order card given is may)

card-state : (w : ℕ) (card : Option (List ℕ)) (m : Overlap) → (read_in_by w card m).state ≡ read_in m.state w card
card-state w None m = refl
card-state w (Some card) m = refl

pub read-state : (o : Option Order) (m k : Overlap) (card : Option (List ℕ)) → IfSome o (λ order. k ≡ read_in_by order.word card m)
    → IfSome o (λ order. k.state ≡ read_in m.state order.word card)
read-state None m k card same = same
read-state (Some order) m k card same = ap (λ (x : Overlap). x.state) same ∙ card-state order.word card m

-- ---- a wait

quiet-by : (none enabled waiting : Bool) (o : Option ℕ) → (waiting && is_none o) ≡ true
    → (if none then (if enabled then o else None) else None) ≡ None
quiet-by false enabled waiting o e = refl
quiet-by true false waiting o e = refl
quiet-by true true waiting None e = refl
quiet-by true true true (Some i) e = absurd (cc e)
quiet-by true true false (Some i) e = absurd (cc e)

-- a machine at rest takes no interrupt
pub rests-quiet : (m : Overlap) → rests m.state ≡ true → interrupt_due m ≡ None
rests-quiet m waits = quiet-by (is_none m.taken) m.state.enabled m.state.waiting (pending m.state) waits

pub rest-ends : (m : Overlap) → rests m.state ≡ true → settled_of m ≡ machine_after_segment m
rest-ends m waits = sym (settled-waits m (rests-quiet m waits) waits)

pub rest-changed : (m k : Overlap) → rests m.state ≡ true → MayServe m → k ≡ settled_of m → IsChanged true m k
rest-changed m k waits may same =
    subst {A = Overlap} (IsChanged true m) (sym (same ∙ rest-ends m waits))
    (changed-ended m (machine_after_segment m).state (λ start led. subst {A = Overlap} (IsLed start) (rest-ends m waits) (settle-led m (serve-settles m.phase may) led)))

pub rest-state : (m k : Overlap) → rests m.state ≡ true → k ≡ settled_of m → k.state ≡ m.state
rest-state m k waits same = ap (λ (x : Overlap). x.state) (same ∙ rest-ends m waits) ∙ ended-state m
