-- The unmarked lines of a run depend only on the plain run.
use Rattle.st_top.proofs.Common.{Machine, timed_run, last-same, ◌≡◌, ℕ, Bool, List, ◌++◌, sym, ◌∙◌, ap, flat_map, Asked, Scene, run, moment_at_start, reported_events, lines_unmarked, marked_report, marked_run, states, states_of_run, events_of_run, last_state, lines_of_steps_back, LEVELS}
use Rattle.st_top.proofs.Rewinds.{states-same}
use Rattle.st_run.proofs.Untimed.{timed-plain}
use Rattle.st_telling.specs.Report.{fixed as without_marks}
use Rattle.st_top.proofs.PlainEventLemmas.{unmarked-append, unmarked-plain, happening_lines, report-lines, counted-run}

-- the lines of the plain run, and of the requested state before its end
abbrev pub run_lines : Asked → Scene → List (List ℕ)
run_lines asked c =
    flat_map (happening_lines asked.trace asked.dumps) (run asked.budget c).happened
    ++ lines_of_steps_back asked (states asked.budget c) (run asked.budget c).scene.machine

pub run-unmarked : (asked : Asked) (c : Scene) → lines_unmarked (marked_run asked c) ≡ run_lines asked c
unfolding marked_run
run-unmarked asked c =
    let xs = events_of_run asked c in
    let lines = happening_lines asked.trace asked.dumps in
    let back = lines_of_steps_back asked (states_of_run asked c) (last_state asked c) in
    let all = timed_run asked.delays LEVELS asked.budget c asked.snaps in
    unmarked-append (marked_report asked (reported_events xs)) (without_marks back)
    ∙ ap (λ issue. issue ++ lines_unmarked (without_marks back))
    (report-lines asked all (counted-run asked.delays LEVELS asked.budget (moment_at_start c) asked.snaps)
    ∙ ap (flat_map lines) (timed-plain asked.delays LEVELS asked.budget (moment_at_start c) asked.snaps))
    ∙ ap (λ rest. flat_map lines (run asked.budget c).happened ++ rest)
    (unmarked-plain back
    ∙ ap (λ (ss : List Machine). lines_of_steps_back asked ss (last_state asked c)) (sym (states-same asked.delays LEVELS asked.budget (moment_at_start c)))
    ∙ ap (lines_of_steps_back asked (states asked.budget c)) (sym (last-same asked.delays LEVELS asked.budget (moment_at_start c))))

-- other delays, snapshots and marks do not change them
pub run-same : (asked : Asked) (ds snaps : List ℕ) (time chart : Bool) (c : Scene)
    → lines_unmarked (marked_run (record asked { delays = ds; snaps = snaps; time = time; chart = chart }) c)
    ≡ lines_unmarked (marked_run asked c)
run-same asked ds snaps time chart c =
    run-unmarked (record asked { delays = ds; snaps = snaps; time = time; chart = chart }) c ∙ sym (run-unmarked asked c)
