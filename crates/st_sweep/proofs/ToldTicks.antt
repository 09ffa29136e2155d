-- The tick of the last event.
use Rattle.st_sweep.proofs.Common.{Signal, ◌≡◌, ℕ, ◌<◌, List, [], ◌∷◌, ◌++◌, length, refl, ◌∙◌, ap, arith, Machine, last_completion, timed_run, moment_at_start, tick-same, last_told, without_cards, ticks, map}
use Rattle.st_run.specs.Events.{Timed}
use Rattle.st_run.specs.ReportedEvents.{TimedReportedEvent, reported_events}
use Rattle.st_run.specs.Telling.{AreLeftOut, row_told}

pub told-last : (t : ℕ) (xs : List Timed) → last_told t (reported_events xs) ≡ last_completion t xs
unfolding last_told reported_events last_completion
told-last t [] = refl
told-last t (x ∷ xs) = told-last x.tick xs

pub last_told-next : (t : ℕ) (x : TimedReportedEvent) (xs rest : List TimedReportedEvent) → rest ≡ x ∷ xs → last_told t rest ≡ last_told x.tick xs
unfolding last_told
last_told-next t x xs rest same = rw same refl

pub last_told-end : (t : ℕ) (rest : List TimedReportedEvent) → rest ≡ [] → last_told t rest ≡ t
unfolding last_told
last_told-end t rest same = rw same refl

-- skipped completions
rows-last : (rows new : List TimedReportedEvent) (last : TimedReportedEvent) (t : ℕ) → last_told t (rows ++ last ∷ new) ≡ last_told last.tick new
unfolding last_told
rows-last [] new last t = refl
rows-last (x ∷ rows) new last t = rows-last rows new last x.tick

pub last_told-left_out : (last : _) (old new : List TimedReportedEvent) → AreLeftOut last old new → (t : ℕ) → last_told t old ≡ last_told (row_told last).tick new
last_told-left_out last old new is t = ap (last_told t) is.rest ∙ rows-last (map row_told is.passed) new (row_told last) t

rows-fewer : (rows new : List TimedReportedEvent) (last : TimedReportedEvent) → length new < length (rows ++ last ∷ new)
rows-fewer [] new last = omega arith
rows-fewer (x ∷ rows) new last = let fewer = rows-fewer rows new last in omega (arith, fewer)

-- the events of a whole run
pub told-whole : (ds : List ℕ) (n left : ℕ) (s : Machine) (xs : List Signal) (cards : List (List ℕ)) (rest : List TimedReportedEvent)
    → rest ≡ reported_events (timed_run ds n left (record { machine = s; signals = xs; cards = cards }) []) → cards ≡ []
    → last_told 0 rest ≡ ticks ds n left (without_cards s xs)
unfolding ticks
told-whole ds n left s xs cards rest tells none =
    let run = λ (ys : List (List ℕ)). timed_run ds n left (record { machine = s; signals = xs; cards = ys }) [] in
    ap (last_told 0) tells ∙ told-last 0 (run cards) ∙ ap (λ ys. last_completion 0 (run ys)) none
    ∙ tick-same ds n left 0 (moment_at_start (without_cards s xs)) []
