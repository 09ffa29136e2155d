-- The events between two entries change the words from 32 on only in the area of the reader's card,
-- and an entry changes only the words that it writes.
use Rattle.st_account.proofs.Common.{Bool, if◌then◌else◌, nat_le, option_map, All, ◌≡◌, ℕ, suc, ◌+◌, ◌<◌, ◌≤◌, ◌≢◌, ◌⊎◌, inl, inr, true, false, List, [], ◌∷◌, length, Option, None, Some, get_or-set_other, refl, sym, ◌∙◌, ap, subst, arith, All-head, All-tail, Signal, Machine, IsMachine, word, state_with_store, is_due, next_device, plan, Prepared, IsNotAmong, state_after_completion, state_after_execution, rests, IsCard, Scene, with_due_signals, if_due, with_due_orders, with_device, with_order_at_rest, with_wait, interlude, uneventful, with_order, with_signals_while, IsOutsideArea}
use Rattle.st_bits.specs.Registers.{register_word}
use Rattle.st_state.specs.Interrupts.{state_with_signal}
use Rattle.st_state.specs.declared.devices.Order.{Order}
use Rattle.st_state.specs.declared.devices.Device.{Device}
use Rattle.st_state.specs.declared.devices.Device.TheVariants.{Reader, Printer}
use Rattle.st_prep.specs.Ranges.{IsPrepared}
use Rattle.st_exec.specs.Transfer.{all_stored, read_in}
use Rattle.st_exec.proofs.Laws.{entries_leave_what_they_do_not_write}
use Rattle.st_run.proofs.SignalLemmas.{kept-while}

-- ---- an entry

pub entry-left : (s u : Machine) (taken : Option ℕ) (q : Prepared) → IsMachine s → IsPrepared q → q ≡ plan s taken → u ≡ state_after_execution taken s
    → (w : ℕ) → 32 ≤ w → IsNotAmong w q.writes → word u w ≡ word s w
entry-left s u taken q m prepared planned made w above among =
    ap (λ t. word t w) made
    ∙ ap (λ p. word (state_after_completion p s) w) (sym planned)
    ∙ entries_leave_what_they_do_not_write.completed q s w prepared m above among

-- ---- between two entries

-- the area of the reader's card
abbrev pub area : Option Order → Option ℕ
area o = option_map (λ (order : Order). order.word) o

-- a state differs from another only in these words, and the reader keeps its order or has none
record IsLeftBy (s t : Machine) : Type 0 where
  words : (w : ℕ) → 32 ≤ w → IsOutsideArea w (area s.reader) → word t w ≡ word s w
  reader : (t.reader ≡ s.reader) ⊎ (t.reader ≡ None)

left-same : (s : Machine) → IsLeftBy s s
left-same s = record { words = λ w above beside. refl; reader = inl refl }

still-beside : (w : ℕ) (o p : Option Order) → (p ≡ o) ⊎ (p ≡ None) → IsOutsideArea w (area o) → IsOutsideArea w (area p)
still-beside w o p (inl same) beside = subst (λ r. IsOutsideArea w (area r)) (sym same) beside
still-beside w o p (inr none) beside = subst (λ r. IsOutsideArea w (area r)) (sym none) tt

order-then : (o p q : Option Order) → (p ≡ o) ⊎ (p ≡ None) → (q ≡ p) ⊎ (q ≡ None) → (q ≡ o) ⊎ (q ≡ None)
order-then o p q (inl same) (inl again) = inl (again ∙ same)
order-then o p q (inr none) (inl again) = inr (again ∙ none)
order-then o p q first (inr none) = inr none

left-then : (s t u : Machine) → IsLeftBy s t → IsLeftBy t u → IsLeftBy s u
left-then s t u h k = record {
  words = λ w above beside. k.words w above (still-beside w s.reader t.reader h.reader beside) ∙ h.words w above beside;
  reader = order-then s.reader t.reader u.reader h.reader k.reader;
}

left-signal : (s : Machine) (i : ℕ) → IsLeftBy s (state_with_signal s i)
left-signal s i = record { words = λ w above beside. get_or-set_other s.words 11 w _ 0 (omega arith); reader = inl refl }

stored-other : (s : Machine) (a v : ℕ) (xs : List ℕ) → (v < a) ⊎ (a + length xs ≤ v) → word (all_stored s a xs) v ≡ word s v
unfolding all_stored
stored-other s a v [] beside = refl
stored-other s a v (x ∷ xs) beside =
    stored-other (state_with_store s a x) (a + 1) v xs (behind a v (length xs) beside)
    ∙ get_or-set_other s.words a v (register_word a x) 0 (apart a v (length xs) beside)
  where
    behind : (a v n : ℕ) → (v < a) ⊎ (a + suc n ≤ v) → (v < a + 1) ⊎ (a + 1 + n ≤ v)
    behind a v n (inl p) = inl (omega (arith, p))
    behind a v n (inr p) = inr (omega (arith, p))

    apart : (a v n : ℕ) → (v < a) ⊎ (a + suc n ≤ v) → v ≢ a
    apart a v n (inl p) = λ e. omega (arith, p, e)
    apart a v n (inr p) = λ e. omega (arith, p, e)

stored-reader : (s : Machine) (w : ℕ) (xs : List ℕ) → (all_stored s w xs).reader ≡ s.reader
unfolding all_stored
stored-reader s w [] = refl
stored-reader s w (x ∷ xs) = stored-reader (state_with_store s w x) (w + 1) xs

-- ---- scenes with cards of eight words

record IsSceneLeftBy (c d : Scene) : Type 0 where
  machine : IsLeftBy c.machine d.machine
  cards : All IsCard d.cards

scene-same : (c : Scene) → All IsCard c.cards → IsSceneLeftBy c c
scene-same c each = record { machine = left-same c.machine; cards = each }

scene-then : (c d e : Scene) → IsSceneLeftBy c d → (All IsCard d.cards → IsSceneLeftBy d e) → IsSceneLeftBy c e
scene-then c d e h more =
    let k = more h.cards in
    record { machine = left-then c.machine d.machine e.machine h.machine k.machine; cards = k.cards }

either : {A : Type 0} (P : A → Type 0) (b : Bool) (x y : A) → P x → P y → P (if b then x else y)
either P true x y p q = p
either P false x y p q = q

signals-left : (holds : Machine → Signal → Bool) (c : Scene) → IsLeftBy c.machine (with_signals_while holds c.signals c).machine
signals-left holds c =
    kept-while (λ d. IsLeftBy c.machine d.machine) (λ d x xs is. left-then c.machine d.machine _ is (left-signal d.machine x.indicator))
    holds c.signals c (left-same c.machine)

due-cards : (c : Scene) → (with_due_signals c).cards ≡ c.cards
due-cards c = kept-while (λ d. d.cards ≡ c.cards) (λ d x xs is. is) (λ s x. nat_le x.count s.done) c.signals c refl

-- a card is read
card-left : (s : Machine) (order : Order) (card : List ℕ) → s.reader ≡ Some order → length card ≡ 8 → IsLeftBy s (read_in s order.word (Some card))
card-left s order card is eight =
    let t = all_stored (record s { reader = None }) order.word card in
    record {
      words = λ w above beside.
          get_or-set_other t.words 11 w _ 0 (omega arith)
          ∙ stored-other (record s { reader = None }) order.word w card
          (whole w (length card) eight (subst (λ o. IsOutsideArea w (area o)) is beside));
      reader = inr (stored-reader (record s { reader = None }) order.word card);
    }
  where
    whole : (w n : ℕ) → n ≡ 8 → (w < order.word) ⊎ (order.word + 8 ≤ w) → (w < order.word) ⊎ (order.word + n ≤ w)
    whole w n same (inl p) = inl p
    whole w n same (inr p) = inr (omega (arith, same, p))

none-left : (s : Machine) (w : ℕ) → IsLeftBy s (read_in s w None)
none-left s w = record { words = λ v above beside. get_or-set_other s.words 11 v _ 0 (omega arith); reader = inr refl }

reader-left : (o : Option Order) (s : Machine) (xs : List Signal) (cards : List (List ℕ)) → (o ≡ s.reader) ⊎ (o ≡ None) → All IsCard cards
    → IsSceneLeftBy (record { machine = s; signals = xs; cards = cards }) (with_order Reader o (record { machine = s; signals = xs; cards = cards })).scene
reader-left None s xs cards is each = scene-same _ each
reader-left (Some order) s xs cards (inr none) each = absurd (cc)
reader-left (Some order) s xs [] (inl is) each = record { machine = none-left s order.word; cards = each }
reader-left (Some order) s xs (card ∷ cards) (inl is) each =
    let one : IsCard card = All-head IsCard card cards each in
    record { machine = card-left s order card (sym is) one.size; cards = All-tail IsCard card cards each }

printer-left : (o : Option Order) (c : Scene) → All IsCard c.cards → IsSceneLeftBy c (with_order Printer o c).scene
printer-left None c each = scene-same c each
printer-left (Some order) c each = record {
  machine = record { words = λ w above beside. get_or-set_other c.machine.words 11 w _ 0 (omega arith); reader = inl refl };
  cards = each;
}

if-due : (done : ℕ) (o : Option Order) → (if_due done o ≡ o) ⊎ (if_due done o ≡ None)
if-due done o = go (is_due done o)
  where
    go : (b : Bool) → ((if b then o else None) ≡ o) ⊎ ((if b then o else None) ≡ None)
    go true = inl refl
    go false = inr refl

due_orders-left : (c : Scene) → All IsCard c.cards → IsSceneLeftBy c (with_due_orders c).scene
unfolding with_due_orders
due_orders-left c each =
    let d = (with_order Reader (if_due c.machine.done c.machine.reader) c).scene in
    scene-then c d _ (reader-left (if_due c.machine.done c.machine.reader) c.machine c.signals c.cards (if-due c.machine.done c.machine.reader) each)
    (λ more. printer-left (if_due d.machine.done d.machine.printer) d more)

device-left : (d : Option Device) (c : Scene) → All IsCard c.cards → IsSceneLeftBy c (with_device d c).scene
device-left None c each = scene-same c each
device-left (Some Reader) c each = reader-left c.machine.reader c.machine c.signals c.cards (inl refl) each
device-left (Some Printer) c each = printer-left c.machine.printer c each

order_at_rest-left : (c : Scene) → All IsCard c.cards → IsSceneLeftBy c (with_order_at_rest c).scene
unfolding with_order_at_rest
order_at_rest-left c each =
    either (λ r. IsSceneLeftBy c r.scene) (rests c.machine) (with_device (next_device c.machine) c) (uneventful c) (device-left (next_device c.machine) c each) (scene-same c each)

wait-left : (c : Scene) → All IsCard c.cards → IsLeftBy c.machine (with_wait c).scene.machine
unfolding with_wait
wait-left c each =
    let d = (with_order_at_rest c).scene in
    let e = (with_order_at_rest d).scene in
    let both = scene-then c d e (order_at_rest-left c each) (order_at_rest-left d) in
    left-then c.machine e.machine _ both.machine (signals-left (λ s x. rests s) e)

pub between-left : (c : Scene) → All IsCard c.cards → (w : ℕ) → 32 ≤ w → IsOutsideArea w (area c.machine.reader) → word (interlude c).scene.machine w ≡ word c.machine w
unfolding interlude
between-left c each w above beside =
    let d = with_due_signals c in
    let e = (with_due_orders d).scene in
    let orders = due_orders-left d (subst (All IsCard) (sym (due-cards c)) each) in
    let all = left-then c.machine d.machine _ (signals-left (λ s x. nat_le x.count s.done) c)
    (left-then d.machine e.machine _ orders.machine (wait-left e orders.cards)) in
    all.words w above beside
