-- The order of events.
--
-- Proved: no `ensures` clause names a definition of this file.
-- Read by: definitions in Telling.
-- Laws: EventsComeInOrder (specs/Laws.antt), SnapshotsAreShownUpToTheEnd (specs/Laws.antt),
-- RunsAreInTime (specs/Laws.antt), TheLastMomentEndsTheRun (specs/Laws.antt), and others.
-- Change: no page fixes these definitions, since no contract of a program unfolds to them; they
-- change together with the clauses, definitions and laws that name them. docs/machine.md describes
-- the subject.
use Rattle.std.specs.Prelude.{ℕ, ◌+◌, ◌≤◌, List, [], ◌∷◌}
use Rattle.std.specs.List.{flat_map}
use Rattle.st_run.specs.Events.{TimetableEvent, Timed, Shows}

-- the tick of an event: the requested tick of a snapshot, and the tick of the last completion of
-- any other event
abbrev pub told_at : ℕ → TimetableEvent → ℕ
told_at tick (Shows asked s levels) = asked
told_at tick _ = tick

-- the events are in order of their ticks, none before the tick t
unfoldable pub AreEventsInOrder : ℕ → List Timed → Type 0
AreEventsInOrder t [] = Unit {0}
AreEventsInOrder t (x ∷ xs) = (t ≤ told_at x.tick x.event)
    × AreEventsInOrder (told_at x.tick x.event) xs

-- the ticks are strictly increasing, none before the tick t
unfoldable pub AreRising : ℕ → List ℕ → Type 0
AreRising t [] = Unit {0}
AreRising t (x ∷ xs) = (t ≤ x) × AreRising (x + 1) xs

-- ---- snapshots, and the last tick

-- the tick of a snapshot, as a list
abbrev pub asked_by : TimetableEvent → List ℕ
asked_by (Shows asked s levels) = asked ∷ []
asked_by _ = []

-- the ticks of the snapshots in a list of events
unfoldable pub shown_ticks : List Timed → List ℕ
shown_ticks = flat_map (λ x. asked_by x.event)

-- the tick of the last completion at the end of a list of events, t before it
unfoldable pub last_completion : ℕ → List Timed → ℕ
last_completion t [] = t
last_completion t (x ∷ xs) = last_completion x.tick xs
