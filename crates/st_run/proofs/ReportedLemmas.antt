-- The reported events between two entries and at the end.
use Rattle.st_run.proofs.Common.{map, reverse, if◌then◌else◌, ◌≡◌, ℕ, ◌+◌, Bool, true, false, List, [], ◌∷◌, ◌++◌, Option, None, refl, sym, ◌∙◌, ap, append_assoc, All, reverse-append, map-append, All-head, All-tail, map-map, interrupt, rests, PlainEvent, Ends, interlude, interrupts_by, Ahead, Timed, address_ahead, drop_of, Moment, Standing, next_state, ends_segment, next_moment, event_at, ticks_before, last_snapshot_at, snapshot_at, drops, drops_if_ends, happening_at, events_between, completion, until_done, last_events, timed_from, timed_behind, ReportedEvent, Dropped, Shown, TimedReportedEvent, reported_plain_event, timed_reported_event, reported_events, Printed, AreTexts, queued_events, at_once, told_at_end, option_to_list}
use Rattle.st_run.specs.ReportedEvents.{Ended}
use Rattle.st_run.proofs.DoneLemmas.{settled-done}

-- a reported event with this count and tick
abbrev pub once : ℕ → ℕ → ReportedEvent → TimedReportedEvent
once done tick event = record { done = done; tick = tick; event = event }

pub told-append : (xs ys : List Timed) → reported_events (xs ++ ys) ≡ reported_events xs ++ reported_events ys
unfolding reported_events
told-append [] ys = refl
told-append (x ∷ xs) ys = ap (λ (rest : List TimedReportedEvent). timed_reported_event x ∷ rest) (told-append xs ys)

-- the reported forms of events of one kind
told-each : {A : Type 0} (event : A → Timed) (tell : A → TimedReportedEvent) (xs : List A) → ((x : A) → timed_reported_event (event x) ≡ tell x)
    → reported_events (map event xs) ≡ map tell xs
unfolding reported_events
told-each event tell [] each = refl
told-each event tell (x ∷ xs) each = rw (each x) (ap (λ (rest : List TimedReportedEvent). tell x ∷ rest) (told-each event tell xs each))

reverse-map : {A B : Type 0} (f : A → B) (xs : List A) → reverse (map f xs) ≡ map f (reverse xs)
reverse-map f [] = refl
reverse-map {A} {B} f (x ∷ xs) =
    reverse-append (f x ∷ []) (map f xs)
    ∙ ap (λ (ys : List B). ys ++ f x ∷ []) (reverse-map f xs)
    ∙ sym (map-append f (reverse xs) (x ∷ []))
    ∙ ap (map f) (sym (reverse-append (x ∷ []) xs))

-- a flushed entry by its address and tick
abbrev pub dropped_at : Ahead → ℕ × ℕ
dropped_at a = (address_ahead a, a.row.p)

abbrev dropped_told : ℕ × ℕ → ReportedEvent
dropped_told d = Dropped d.0 d.1

module _ (m : Moment) where
  abbrev tell : ReportedEvent → TimedReportedEvent
  tell event = once m.scene.machine.done m.tick event

  tell-drops : reported_events (drops m) ≡ map tell (map dropped_told (reverse (map dropped_at m.dropped)))
  unfolding drops
  tell-drops =
      told-each (λ (a : Ahead). event_at m.tick m.scene.machine (drop_of a)) (λ (a : Ahead). tell (dropped_told (dropped_at a))) (reverse m.dropped) (λ a. refl)
      ∙ sym (map-map tell (λ (a : Ahead). dropped_told (dropped_at a)) (reverse m.dropped))
      ∙ ap (map tell) (sym (map-map dropped_told dropped_at (reverse m.dropped))
      ∙ ap (map dropped_told) (sym (reverse-map dropped_at m.dropped)))

  tell-happenings : (hs : List PlainEvent) → reported_events (map (happening_at m) hs) ≡ map tell (map reported_plain_event hs)
  tell-happenings hs =
      told-each (happening_at m) (λ (h : PlainEvent). tell (reported_plain_event h)) hs (λ h. refl)
      ∙ sym (map-map tell reported_plain_event hs)

  -- the flushed entries, if the segment ends
  abbrev pub drops_by : Bool → List (ℕ × ℕ)
  drops_by ends = if ends then map dropped_at m.dropped else []

  tell-drops_by : (ends : Bool) → reported_events (if ends then drops m else []) ≡ map tell (map dropped_told (reverse (drops_by ends)))
  unfolding reported_events
  tell-drops_by true = tell-drops
  tell-drops_by false = refl

  tell-between : (text : Option (List ℕ)) → AreTexts text (interlude m.scene).happened
      → reported_events (events_between m)
      ≡ map tell (queued_events (record { drops = drops_by (ends_segment m); text = text; taken = interrupt (next_state m) }) (next_state m))
  unfolding events_between queued_events
  tell-between text same =
      let hs = (interlude m.scene).happened in
      let s = next_state m in
      let is = interrupts_by (interrupt s) s in
      let ds : List ReportedEvent = map dropped_told (reverse (drops_by (ends_segment m))) in
      told-append (drops_if_ends m) (map (happening_at m) (hs ++ is))
      ∙ ap (λ (xs : List TimedReportedEvent). xs ++ reported_events (map (happening_at m) (hs ++ is))) (tell-drops_by (ends_segment m))
      ∙ ap (λ (xs : List TimedReportedEvent). map tell ds ++ xs) (tell-happenings (hs ++ is)
      ∙ ap (map tell) (map-append reported_plain_event hs is))
      ∙ sym (map-append tell ds (map reported_plain_event hs ++ map reported_plain_event is))
      ∙ ap (map tell) (sym (append_assoc ds (map reported_plain_event hs) (map reported_plain_event is))
      ∙ ap (λ (xs : List ReportedEvent). ds ++ xs ++ map reported_plain_event is) (sym same))

  -- the reported events between two entries, where the state after them has the same count
  pub told-between : (text : Option (List ℕ)) → AreTexts text (interlude m.scene).happened
      → reported_events (events_between m)
      ≡ map (at_once m.tick (next_state m))
      (queued_events (record { drops = drops_by (ends_segment m); text = text; taken = interrupt (next_state m) }) (next_state m))
  told-between text same =
      let ws = queued_events (record { drops = drops_by (ends_segment m); text = text; taken = interrupt (next_state m) }) (next_state m) in
      tell-between text same
      ∙ ap (λ (d : ℕ). map (once d m.tick) ws) (sym (settled-done m.scene))

  tell-last : (text : Option (List ℕ)) (snaps : List ℕ) → AreTexts text (interlude m.scene).happened
      → reported_events (last_events m snaps)
      ≡ map tell (queued_events (record { drops = map dropped_at m.dropped; text = text; taken = None }) (next_state m))
      ++ (map (λ (x : ℕ). tell (Shown x (next_state m) [])) (ticks_before (m.tick + 1) snaps)
      ++ tell (Ended (rests (next_state m)) (next_state m)) ∷ [])
  unfolding last_events queued_events reported_events
  tell-last text snaps same =
      let hs = (interlude m.scene).happened in
      let s = next_state m in
      let due = ticks_before (m.tick + 1) snaps in
      let shows = map (last_snapshot_at m) due in
      let last = happening_at m (Ends s (rests s)) in
      let ds : List ReportedEvent = map dropped_told (reverse (map dropped_at m.dropped)) in
      let showing : List TimedReportedEvent = map (λ (x : ℕ). tell (Shown x s [])) due in
      let ending : List TimedReportedEvent = tell (Ended (rests s) s) ∷ [] in
      told-append (drops m ++ map (happening_at m) hs ++ shows) (last ∷ [])
      ∙ ap (λ (xs : List TimedReportedEvent). xs ++ ending)
      (told-append (drops m ++ map (happening_at m) hs) shows
      ∙ ap (λ (xs : List TimedReportedEvent). reported_events (drops m ++ map (happening_at m) hs) ++ xs)
      (told-each (last_snapshot_at m) (λ (x : ℕ). tell (Shown x s [])) due (λ x. refl))
      ∙ ap (λ (xs : List TimedReportedEvent). xs ++ showing)
      (told-append (drops m) (map (happening_at m) hs)
      ∙ ap (λ (xs : List TimedReportedEvent). xs ++ reported_events (map (happening_at m) hs)) tell-drops
      ∙ ap (λ (xs : List TimedReportedEvent). map tell ds ++ xs) (tell-happenings hs)
      ∙ sym (map-append tell ds (map reported_plain_event hs))
      ∙ ap (λ (xs : List ReportedEvent). map tell (ds ++ xs)) (sym same)
      ∙ ap (map tell) (sym (append-none (ds ++ map Printed (option_to_list text))))))
      ∙ append_assoc (map tell (ds ++ map Printed (option_to_list text) ++ [])) showing ending
    where
      append-none : (xs : List ReportedEvent) → xs ++ [] ≡ xs
      append-none [] = refl
      append-none (x ∷ xs) = ap (λ (ys : List ReportedEvent). x ∷ ys) (append-none xs)

  pub told-last : (text : Option (List ℕ)) (snaps : List ℕ) → AreTexts text (interlude m.scene).happened
      → reported_events (last_events m snaps)
      ≡ map (at_once m.tick (next_state m)) (queued_events (record { drops = map dropped_at m.dropped; text = text; taken = None }) (next_state m))
      ++ told_at_end (rests (next_state m)) m.tick snaps (next_state m)
  unfolding told_at_end
  told-last text snaps same =
      let s = next_state m in
      let ws = queued_events (record { drops = map dropped_at m.dropped; text = text; taken = None }) s in
      let due = ticks_before (m.tick + 1) snaps in
      tell-last text snaps same
      ∙ ap (λ (d : ℕ). map (once d m.tick) ws
      ++ (map (λ (x : ℕ). once d m.tick (Shown x s [])) due ++ once d m.tick (Ended (rests s) s) ∷ [])) (sym (settled-done m.scene))

-- ---- the next completion is among the remaining events

all-behind : (P : TimedReportedEvent → Type 0) (xs ys : List TimedReportedEvent) → All P (xs ++ ys) → All P ys
all-behind P [] ys all = all
all-behind P (x ∷ xs) ys all = all-behind P xs ys (All-tail P x (xs ++ ys) all)

pub told-completion : (P : TimedReportedEvent → Type 0) (ds : List ℕ) (n left : ℕ) (p : Standing) (snaps : List ℕ)
    → All P (reported_events (timed_behind ds n left p snaps)) → P (timed_reported_event (completion ds n p))
unfolding until_done reported_events
told-completion P ds n left p snaps all =
    let shows = map (snapshot_at ds n p) (ticks_before (next_moment ds n p).tick snaps) in
    let last = completion ds n p in
    let rest = timed_from ds n left (next_moment ds n p) snaps in
    let joined : reported_events (timed_behind ds n left p snaps) ≡ reported_events shows ++ (timed_reported_event last ∷ reported_events rest) =
    told-append (shows ++ last ∷ []) rest
    ∙ ap (λ (xs : List TimedReportedEvent). xs ++ reported_events rest) (told-append shows (last ∷ []))
    ∙ append_assoc (reported_events shows) (timed_reported_event last ∷ []) (reported_events rest) in
    All-head P (timed_reported_event last) (reported_events rest) (all-behind P (reported_events shows) (timed_reported_event last ∷ reported_events rest) (rw joined at all))
