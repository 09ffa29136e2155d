-- The events of a timetable's entries, in the order of ticks.
--
-- Proved: by their `ensures` clauses these calls do what definitions here say: `end_tick`
-- (moments.rt), `happenings` (moments.rt), `moments_of` (moments.rt), `push` (moments.rt), and
-- others.
-- Read by: definitions in Log.
-- Laws: LogsGoForward (specs/Laws.antt).
-- Change: the meaning is fixed by docs/chart.md, since the contract of `st_draw::draw` unfolds to a
-- definition here. The form is free, with the proofs that unfold it.
use Rattle.std.specs.Prelude.{ℕ, ◌+◌, ◌≤◌, nat_le, max, if◌then◌else◌, List, [], ◌∷◌, ◌++◌, ⊤}
use Rattle.st_io.specs.Count.{count_after}
use Rattle.st_entries.specs.Phases.{first_tick}
use Rattle.st_entries.specs.declared.moments.LogMoment.{LogMoment}
use Rattle.st_entries.specs.declared.moments.LogStep.{LogStep}
use Rattle.st_entries.specs.declared.moments.LogStep.TheVariants.{Begin, Ready, Turn, End}
use Rattle.st_entries.specs.declared.timetable.DrawnEntry.{DrawnEntry}
use Rattle.st_entries.specs.declared.timetable.DrawnEntry.TheVariants.{Done, Dropped, Taken, Shown}

-- the tick at which an entry's operands are available; not before it begins
abbrev pub ready_tick : DrawnEntry → ℕ
ready_tick (Done n a p r t c) = max p r
ready_tick (Dropped a p end) = p
ready_tick (Taken i t) = t
ready_tick (Shown t) = t

-- the tick at which an entry's turn comes; not before its operands are available
abbrev pub turn_tick : DrawnEntry → ℕ
turn_tick (Done n a p r t c) = max (max p r) t
turn_tick (Dropped a p end) = p
turn_tick (Taken i t) = t
turn_tick (Shown t) = t

-- the tick at which an entry ends, not before it begins; an interrupt and a snapshot last one tick
abbrev pub end_tick : DrawnEntry → ℕ
end_tick (Done n a p r t c) = max (max (max p r) t) c
end_tick (Dropped a p end) = max p end
end_tick (Taken i t) = count_after t 1
end_tick (Shown t) = count_after t 1

-- the tick of an event of an entry
abbrev pub moment_tick : LogStep → DrawnEntry → ℕ
moment_tick Begin e = first_tick e
moment_tick Ready e = ready_tick e
moment_tick Turn e = turn_tick e
moment_tick End e = end_tick e

-- an event of the entry with a number
abbrev pub moment : ℕ → LogStep → DrawnEntry → LogMoment
moment k step e = record { tick = moment_tick step e; number = k; step = step; entry = e }

-- the events that an entry's operands are available and that its turn comes; only a completed
-- instruction has them
abbrev pub waits_of : ℕ → DrawnEntry → List LogMoment
waits_of k (Done n a p r t c) = moment k Ready (Done n a p r t c) ∷ moment k Turn (Done n a p r t c)
    ∷ []
waits_of k (Dropped a p end) = []
waits_of k (Taken i t) = []
waits_of k (Shown t) = []

-- all events of the entry with a number
unfoldable pub moments_of : ℕ → DrawnEntry → List LogMoment
moments_of k e = moment k Begin e ∷ waits_of k e ++ moment k End e ∷ []

-- all events of entries, which are numbered from k on
abbrev pub moments : ℕ → List DrawnEntry → List LogMoment
moments k [] = []
moments k (e ∷ es) = moments_of k e ++ moments (k + 1) es

-- a list with an item inserted before the first item whose key is not lower
unfoldable pub ordered_with : {X : Type 0} → (X → ℕ) → X → List X → List X
ordered_with key x [] = x ∷ []
ordered_with key x (y ∷ ys) =
    if nat_le (key x) (key y) then x ∷ y ∷ ys else y ∷ ordered_with key x ys

-- items sorted by their keys; items with equal keys keep their order
unfoldable pub in_order : {X : Type 0} → (X → ℕ) → List X → List X
in_order key [] = []
in_order key (x ∷ xs) = ordered_with key x (in_order key xs)

-- the events of entries in the order of ticks; the entries are numbered from 0 on in the order in
-- which they begin
unfoldable pub happenings : List DrawnEntry → List LogMoment
happenings entries = in_order (λ (m : LogMoment). m.tick) (moments 0 (in_order first_tick entries))

-- no item of a list has a lower key than the one before it, and the first item's key is not below
-- this number
abbrev pub KeysRise : {X : Type 0} → (X → ℕ) → ℕ → List X → Type 0
KeysRise key n [] = ⊤
KeysRise key n (x ∷ xs) = (n ≤ key x) × KeysRise key (key x) xs

-- no moment of a list comes before the one that precedes it, and the first does not come before
-- this tick
abbrev pub GoForward : ℕ → List LogMoment → Type 0
GoForward tick ms = KeysRise (λ (m : LogMoment). m.tick) tick ms
