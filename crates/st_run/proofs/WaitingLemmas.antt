-- The order of the pending events.
use Rattle.st_run.proofs.Common.{map, reverse, is_some, option_map, ◌≡◌, ℕ, ◌<◌, ◌≤◌, false, true, length, arith, List, [], ◌∷◌, ◌++◌, Option, None, Some, refl, ◌∙◌, ap, reverse-append, Machine, Dropped, Printed, Interrupted, option_to_list, reported_plain_event, interrupts_by, OutputQueue, queued_events}

reverse-push : (drops : List (ℕ × ℕ)) (d : ℕ × ℕ) → reverse (drops ++ d ∷ []) ≡ d ∷ reverse drops
reverse-push drops d = reverse-append drops (d ∷ [])

-- the youngest flushed entry is first
pub waiting_events-drop : (w : OutputQueue) (drops : List (ℕ × ℕ)) (d : ℕ × ℕ) (s : Machine) → w.drops ≡ drops ++ d ∷ []
    → queued_events w s ≡ Dropped d.0 d.1 ∷ queued_events (record w { drops = drops }) s
unfolding queued_events
waiting_events-drop w drops d s same =
    ap (λ xs. map (λ (e : ℕ × ℕ). Dropped e.0 e.1) xs ++ map Printed (option_to_list w.text) ++ map reported_plain_event (interrupts_by w.taken s)) (ap reverse same ∙ reverse-push drops d)

-- the text follows the flushed entries
pub waiting_events-text : (w v : OutputQueue) (text : List ℕ) (s : Machine) → w.drops ≡ [] → w.text ≡ Some text
    → v ≡ record { drops = []; text = None; taken = w.taken } → queued_events w s ≡ Printed text ∷ queued_events v s
unfolding queued_events
waiting_events-text w v text s none same is = rw (none, same, is) refl

-- the interrupt follows the text
pub waiting_events-taken : (w v : OutputQueue) (i : ℕ) (s : Machine) → w.drops ≡ [] → w.text ≡ None → w.taken ≡ Some i
    → v ≡ record { drops = []; text = None; taken = None } → queued_events w s ≡ Interrupted i s ∷ queued_events v s
unfolding queued_events
waiting_events-taken w v i s none empty same is = rw (none, empty, same, is) refl

-- no event follows the interrupt
pub waiting_events-none : (w : OutputQueue) (s : Machine) → w.drops ≡ [] → w.text ≡ None → w.taken ≡ None → queued_events w s ≡ []
unfolding queued_events
waiting_events-none w s none empty same = rw (none, empty, same) refl

-- a list without items
pub no-items : (xs : List (ℕ × ℕ)) → (0 < length xs → false ≡ true) → xs ≡ []
no-items [] none = refl
no-items (x ∷ xs) none = let some : 0 < length (x ∷ xs) = omega arith in absurd (cc (none some))

-- pending events are equal if their parts are
pub waiting-same : (v w : OutputQueue) → v.drops ≡ w.drops → v.text ≡ w.text → v.taken ≡ w.taken → v ≡ w
waiting-same v w drops text taken =
    ap {A = List (ℕ × ℕ)} (λ xs. record v { drops = xs }) drops
    ∙ ap {A = Option (List ℕ)} (λ o. record w { text = o; taken = v.taken }) text
    ∙ ap {A = Option ℕ} (λ o. record w { taken = o }) taken

pub without-items : (xs : List (ℕ × ℕ)) → length xs ≤ 0 → xs ≡ []
without-items [] none = refl
without-items (x ∷ xs) none = absurd (omega (arith, none))

pub none-mapped : {A : Type 0} {B : Type 0} (f : A → B) (o : Option A) → is_some o ≡ false → option_map f o ≡ None
none-mapped f None none = refl
none-mapped f (Some x) none = absurd (cc none)

pub none-there : {A : Type 0} (o : Option A) → is_some o ≡ false → o ≡ None
none-there None none = refl
none-there (Some x) none = absurd (cc none)
