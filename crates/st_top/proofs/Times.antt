-- The ticks of an answer are bounded.
use Rattle.st_top.proofs.Common.{moment_at_start, last-same, tick-same, ◌≡◌, ℕ, ◌+◌, ◌*◌, ◌≤◌, List, [], ◌∷◌, ◌++◌, All, nat_le, length, slice_index_or, sym, subst, arith, and_parts, leb-true, All-nil, All-cons, All-head, All-tail, All-append, AllPass, slice_index, OutputState, Event, at_moment, StoppedAt, Asked, is_in_range, MOST_DELAY, Scene, Timed, reported_events, timed_reported_event, state_next, scenes, run, IsScene, report, lines_told, Machine, last_completion, timed_run, states_of_run, lines_of_steps_back, last_state, events_of_run, moment_at_end, run_report, ticks, sweep_lines, sweep_start, sweep_of, output_of_run, output_of_sweep, Writes, KeepsTime, Answer, Done, Refused, Usage, JobTooLong, ReadFault, WriteFault, NoMemory, LEVELS}
use Rattle.st_rows.specs.Ranges.{AreDelaysUpTo}
use Rattle.st_run.proofs.Bounds.{run-time}
use Rattle.st_run.proofs.EndLemmas.{run-ends}
use Rattle.st_top.specs.declared.answer.Status.{Status}

-- an event whose tick keeps the bound
abbrev InTime : ℕ → Event → Type 0
InTime b e = e.ticks ≤ b * (e.done + 1)

-- a timed event whose tick keeps the bound
abbrev TimedInTime : ℕ → Timed → Type 0
TimedInTime b x = x.tick ≤ b * (x.done + 1)

moment-time : (b done tick : ℕ) (lines : List (List ℕ)) → tick ≤ b * (done + 1) → All (InTime b) (at_moment done tick lines)
moment-time b done tick [] le = All-nil (InTime b)
moment-time b done tick (l ∷ ls) le =
    let first : InTime b (record { line = l; done = done; ticks = tick }) = le in
    All-cons (InTime b) (record { line = l; done = done; ticks = tick }) (at_moment done tick ls) first (moment-time b done tick ls le)

report-time : (b : ℕ) (asked : Asked) (xs : List Timed) → All (TimedInTime b) xs → All (InTime b) (report asked (reported_events xs))
unfolding report reported_events
report-time b asked [] all = All-nil (InTime b)
report-time b asked (x ∷ xs) all =
    All-append (InTime b) (at_moment x.done x.tick (lines_told asked (timed_reported_event x))) (report asked (reported_events xs))
    (moment-time b x.done x.tick (lines_told asked (timed_reported_event x)) (All-head (TimedInTime b) x xs all))
    (report-time b asked xs (All-tail (TimedInTime b) x xs all))

-- if all events keep the bound, the one at which the writing stopped keeps it too
behind-time : (b : ℕ) (earlier : List Event) (e : Event) (later : List Event) → All (InTime b) (earlier ++ e ∷ later) → InTime b e
behind-time b [] e later all = All-head (InTime b) e later all
behind-time b (x ∷ xs) e later all = behind-time b xs e later (All-tail (InTime b) x (xs ++ e ∷ later) all)

stopped-time : (b : ℕ) (s t : OutputState) (events : List Event) (done tick : ℕ) → All (InTime b) events → StoppedAt s t events done tick → tick ≤ b * (done + 1)
stopped-time b s t events done tick all h =
    let there : InTime b h.failed = behind-time b h.earlier h.failed h.later (subst (All (InTime b)) h.order all) in
    subst (λ k. k ≤ b * (done + 1)) (sym h.ticks_then) (subst (λ n. h.failed.ticks ≤ b * (n + 1)) (sym h.done_then) there)

-- an answer whose ticks keep the bound for delays up to a number
abbrev IsIn : ℕ → Answer → Type 0
IsIn most answer = answer.ticks ≤ 64 * (most + 4) * (answer.done + 1)

-- the events of a run keep the bound
module _ (most : ℕ) (asked : Asked) (start : Scene) (are : AreDelaysUpTo most asked.delays) (is : IsScene start) where
  end-time : (moment_at_end asked start).tick ≤ 64 * (most + 4) * ((moment_at_end asked start).done + 1)
  unfolding moment_at_end
  end-time =
      let few : LEVELS ≤ 8 = omega arith in
      subst (λ k. k ≤ 64 * (most + 4) * ((last_state asked start).done + 1)) (tick-same asked.delays LEVELS asked.budget 0 (moment_at_start start) asked.snaps)
      (subst (λ (s : Machine). last_completion 0 (timed_run asked.delays LEVELS asked.budget start asked.snaps) ≤ 64 * (most + 4) * (s.done + 1))
      (last-same asked.delays LEVELS asked.budget (moment_at_start start))
      (run-ends most LEVELS asked.delays are few asked.budget start asked.snaps 0 is))

  events-time : (listed : List (List ℕ)) → All (InTime (64 * (most + 4))) (at_moment 0 0 listed ++ run_report asked start)
  unfolding run_report
  events-time listed =
      let b = 64 * (most + 4) in
      let few : LEVELS ≤ 8 = omega arith in
      let each : All (TimedInTime b) (events_of_run asked start) = run-time most LEVELS asked.delays are few asked.budget start asked.snaps is in
      let back = lines_of_steps_back asked (states_of_run asked start) (last_state asked start) in
      let behind = at_moment (moment_at_end asked start).done (moment_at_end asked start).tick back in
      All-append (InTime b) (at_moment 0 0 listed) (report asked (reported_events (events_of_run asked start)) ++ behind)
      (moment-time b 0 0 listed (omega arith))
      (All-append (InTime b) (report asked (reported_events (events_of_run asked start))) behind (report-time b asked (events_of_run asked start) each)
      (moment-time b (moment_at_end asked start).done (moment_at_end asked start).tick back end-time))

  whole-time : (answer : Answer) → answer.done ≡ (moment_at_end asked start).done → answer.ticks ≡ (moment_at_end asked start).tick → IsIn most answer
  whole-time answer done ticks =
      subst (λ k. k ≤ 64 * (most + 4) * (answer.done + 1)) (sym ticks)
      (subst (λ n. (moment_at_end asked start).tick ≤ 64 * (most + 4) * (n + 1)) (sym done) end-time)

  by-status : (status : Status) (s t : OutputState) (listed : List (List ℕ)) (answer : Answer)
      → Writes status s t (output_of_run listed asked start) answer → IsIn most answer
  by-status Done s t listed answer w = whole-time answer w.done w.ticks
  by-status Refused s t listed answer w = whole-time answer w.done w.ticks
  by-status WriteFault s t listed answer w =
      stopped-time (64 * (most + 4)) s t (at_moment 0 0 listed ++ run_report asked start) answer.done answer.ticks (events-time listed) w
  by-status NoMemory s t listed answer w =
      let none : answer.ticks ≡ 0 = w.1.no_ticks in omega (arith, none)
  by-status Usage s t listed answer w = absurd w
  by-status JobTooLong s t listed answer w = absurd w
  by-status ReadFault s t listed answer w = absurd w

  pub writes_time : (s t : OutputState) (listed : List (List ℕ)) (answer : Answer)
      → Writes answer.status s t (output_of_run listed asked start) answer → IsIn most answer
  writes_time s t listed answer w = by-status answer.status s t listed answer w

-- a sweep keeps the bound
module _ (most : ℕ) (image : List ℕ) (first : ℕ) (asked : Asked) (are : AreDelaysUpTo most asked.delays) (is : IsScene (sweep_start image first asked)) where
  eight-time : slice_index (sweep_of image first asked).ticks 7 ≤ 64 * (most + 4) * ((sweep_of image first asked).done + 1)
  unfolding sweep_of ticks run
  eight-time =
      let few : 8 ≤ 8 = omega arith in
      let c = sweep_start image first asked in
      subst (λ k. k ≤ 64 * (most + 4) * ((state_next (scenes asked.budget c).last).done + 1)) (tick-same asked.delays 8 asked.budget 0 (moment_at_start c) [])
      (run-ends most 8 asked.delays are few asked.budget c [] 0 is)

  swept-whole : (answer : Answer) → answer.done ≡ (sweep_of image first asked).done → answer.ticks ≡ slice_index (sweep_of image first asked).ticks 7
      → IsIn most answer
  swept-whole answer done ticks =
      subst (λ k. k ≤ 64 * (most + 4) * (answer.done + 1)) (sym ticks)
      (subst (λ n. slice_index (sweep_of image first asked).ticks 7 ≤ 64 * (most + 4) * (n + 1)) (sym done) eight-time)

  swept-status : (status : Status) (s t : OutputState) (answer : Answer)
      → Writes status s t (output_of_sweep asked.delays (sweep_of image first asked)) answer → IsIn most answer
  swept-status Done s t answer w = swept-whole answer w.done w.ticks
  swept-status Refused s t answer w = swept-whole answer w.done w.ticks
  swept-status WriteFault s t answer w =
      let lines = sweep_lines (sweep_of image first asked) in
      stopped-time (64 * (most + 4)) s t (at_moment 0 0 lines) answer.done answer.ticks (moment-time (64 * (most + 4)) 0 0 lines (omega arith)) w
  swept-status NoMemory s t answer w =
      let none : answer.ticks ≡ 0 = w.1.no_ticks in omega (arith, none)
  swept-status Usage s t answer w = absurd w
  swept-status JobTooLong s t answer w = absurd w
  swept-status ReadFault s t answer w = absurd w

  pub swept_time : (s t : OutputState) (answer : Answer)
      → Writes answer.status s t (output_of_sweep asked.delays (sweep_of image first asked)) answer → IsIn most answer
  swept_time s t answer w = swept-status answer.status s t answer w

-- valid delays, none of which exceeds a number
pub delays_within : (most : ℕ) (ds : List ℕ) → 1 ≤ length ds → AllPass (is_in_range 1 MOST_DELAY) ds → All (λ d. d ≤ most) ds → AreDelaysUpTo most ds
delays_within most ds some limits below = record {
  some = some;
  each = λ k d lt.
      let x = slice_index_or ds k d in
      let least : 1 ≤ x = leb-true 1 x (and_parts (nat_le 1 x) (nat_le x MOST_DELAY) (limits k d lt)).0 in
      (least, below k d lt);
}

-- the delays of a job bound the ticks of its run
pub keeps_time : (asked : Asked) (start : Scene) (s t : OutputState) (listed : List (List ℕ)) (answer : Answer)
    → 1 ≤ length asked.delays → AllPass (is_in_range 1 MOST_DELAY) asked.delays → IsScene start
    → Writes answer.status s t (output_of_run listed asked start) answer → KeepsTime asked.delays answer
keeps_time asked start s t listed answer some limits is w = λ most below.
    writes_time most asked start (delays_within most asked.delays some limits below) is s t listed answer w

-- the delays of a job bound the ticks of its sweep
pub keeps_sweep : (image : List ℕ) (first : ℕ) (asked : Asked) (s t : OutputState) (answer : Answer)
    → 1 ≤ length asked.delays → AllPass (is_in_range 1 MOST_DELAY) asked.delays → IsScene (sweep_start image first asked)
    → Writes answer.status s t (output_of_sweep asked.delays (sweep_of image first asked)) answer → KeepsTime asked.delays answer
keeps_sweep image first asked s t answer some limits is w = λ most below.
    swept_time most image first asked (delays_within most asked.delays some limits below) is s t answer w

-- an answer without ticks keeps the bound
pub keeps_still : (delays : List ℕ) (answer : Answer) → answer.ticks ≡ 0 → KeepsTime delays answer
keeps_still delays answer none = λ most below. omega (arith, none)
