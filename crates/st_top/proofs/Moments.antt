-- The moment of the last event of a run is that of its end.
use Rattle.st_top.proofs.Common.{moment_at_start, last-same, tick-same, ◌≡◌, ℕ, List, [], ◌∷◌, refl, ◌∙◌, ap, subst, Result, Ok, Err, IsErr, Asked, OutputState, Failed, WritesLines, at_moment, Scene, Timed, last_completion, TimedReportedEvent, reported_events, report, Machine, states_of_run, lines_of_steps_back, last_state, events_of_run, moment_at_end, run_report, WritesEvents, last_moment, LEVELS, events_cut, events_then}
use Rattle.st_run.proofs.LastLemmas.{last_done, run-done}
use Rattle.st_telling.specs.declared.moment.Moment.{Moment}

last-told : (m : Moment) (xs : List Timed) → last_moment m (reported_events xs) ≡ record { done = last_done m.done xs; tick = last_completion m.tick xs }
unfolding last_moment reported_events last_completion last_done
last-told m [] = refl
last-told m (x ∷ xs) = last-told (record { done = x.done; tick = x.tick }) xs

pub last-is : (asked : Asked) (start : Scene) (m : Moment) → last_moment m (reported_events (events_of_run asked start)) ≡ moment_at_end asked start
unfolding moment_at_end
last-is asked start m =
    let with_done : ℕ → Moment = λ d. record { done = d; tick = last_completion m.tick (events_of_run asked start) } in
    let with_tick : ℕ → Moment = λ t. record { done = (last_state asked start).done; tick = t } in
    last-told m (events_of_run asked start)
    ∙ (ap with_done (run-done asked.delays LEVELS asked.budget start asked.snaps m.done
    ∙ ap (λ (s : Machine). s.done) (last-same asked.delays LEVELS asked.budget (moment_at_start start)))
    ∙ ap with_tick (tick-same asked.delays LEVELS asked.budget m.tick (moment_at_start start) asked.snaps))

-- the events of a run from its start, followed by the lines of the state before its end
tells-is : (s t : OutputState) (asked : Asked) (start : Scene) (m n : Moment) (rest : List TimedReportedEvent) (r : Result (Unit {0}) Failed)
    → rest ≡ reported_events (events_of_run asked start) → WritesEvents s t (report asked rest) (last_moment m rest) n r
    → WritesEvents s t (report asked (reported_events (events_of_run asked start))) (moment_at_end asked start) n r
tells-is s t asked start m n rest r is w =
    subst (λ l. WritesEvents s t (report asked (reported_events (events_of_run asked start))) l n r) (last-is asked start m)
    (subst (λ xs. WritesEvents s t (report asked xs) (last_moment m xs) n r) is w)

pub report_cut : (s t : OutputState) (asked : Asked) (start : Scene) (m n : Moment) (rest : List TimedReportedEvent) (e : Failed) (r : Result (Unit {0}) Failed)
    → IsErr r → rest ≡ reported_events (events_of_run asked start) → WritesEvents s t (report asked rest) (last_moment m rest) n (Err e)
    → WritesEvents s t (run_report asked start) (moment_at_end asked start) n r
unfolding run_report
report_cut s t asked start m n rest e r f is w =
    events_cut s t (report asked (reported_events (events_of_run asked start)))
    (at_moment (moment_at_end asked start).done (moment_at_end asked start).tick (lines_of_steps_back asked (states_of_run asked start) (last_state asked start)))
    (moment_at_end asked start) n e r f (tells-is s t asked start m n rest (Err e) is w)

pub report_then : (s t u : OutputState) (asked : Asked) (start : Scene) (m n : Moment) (rest : List TimedReportedEvent) (x : Unit {0}) (r : Result (Unit {0}) Failed)
    → rest ≡ reported_events (events_of_run asked start) → WritesEvents s t (report asked rest) (last_moment m rest) n (Ok x)
    → WritesLines t u (lines_of_steps_back asked (states_of_run asked start) (last_state asked start)) r
    → WritesEvents s u (run_report asked start) (moment_at_end asked start) n r
unfolding run_report
report_then s t u asked start m n rest x r is w lines =
    events_then s t u (report asked (reported_events (events_of_run asked start))) (lines_of_steps_back asked (states_of_run asked start) (last_state asked start))
    (moment_at_end asked start) n x r (tells-is s t asked start m n rest (Ok x) is w) lines
