-- Proofs of the laws of machines that are reached by calls within the protocol.
use Rattle.std.specs.Prelude.{if◌then◌else◌}
use Rattle.std.proofs.Common.{◌≡◌, ℕ, zero, suc, ◌+◌, ◌-◌, ◌<◌, ◌≤◌, ◌^◌, None, Some, refl, sym, subst, ◌∙◌, ap, arith}
use Rattle.st_ahead.specs.Overlap.{Ready, Overlap}
use Rattle.st_ahead.specs.Calls.{is_done, machine_after_tick, machine_after_segment, machine_after_settling}
use Rattle.st_ahead.specs.RunTo.{after_ticks, ArePassed, RunsTo}
use Rattle.st_ahead.specs.declared.events.Row.{Row}
use Rattle.st_ahead.proofs.Passing.{ticked-settles, passed-keeps, passed-now}
use Rattle.st_refine.specs.Reached.{IsReachedFrom, MayTick, Ticks, Settles}
use Rattle.st_refine.specs.Laws.{IsLedTo, RunsAreReached, MachinesKeepTheirDelays, HeldWordsAreThoseOfReads, BanksHaveTheFirstReads, CompletionsComeInTime, LevelsAreLent, OpeningsAreKept, OpeningsFollow, RowsTellTheLevels, CompletionsAreSteps, LevelsAreUnwound, TheStateIsSplit, SignalsLeaveLevels}
use Rattle.st_refine.proofs.Kept.{made-settled, served, kept}
use Rattle.st_refine.proofs.InTime.{made-ticks, in-time, all-in_time, settled-state, levels-few}
use Rattle.st_refine.proofs.StartLemmas.{start-delays, start-levels}
use Rattle.st_refine.proofs.HeldLemmas.{held-words}
use Rattle.st_refine.proofs.ReadLemmas.{have-first}
use Rattle.st_refine.proofs.LentLemmas.{ring-count, ring-level, ring-word, ring-slot, ring-undone, index-shown}
use Rattle.st_refine.specs.Openings.{Signalled, ReadIn, PrintedOut}
use Rattle.st_refine.proofs.OpeningLemmas.{stands-started, stands-ticked, stands-goes, stands-changed, stands-ended, stands-stopped, ended-again, stands-interrupt, stands-mispredicted, waits-ended, stands-card}
use Rattle.st_refine.proofs.RowLemmas.{rows-done, levels-ahead, levels-told, next-told}
use Rattle.st_refine.proofs.RefinedLemmas.{table-is, tick-state, tick-oldest, tick-row, tick-times, tick-mispredicted, tick-passed, goes-more, interrupt-unwinds, mispredicted-unwinds, waits-unwinds, stop-unwinds, card-unwinds, start-unwound}
use Rattle.st_refine.proofs.SplitLemmas.{shown-done, shown-tick, shown-index, shown-none, shown-eight, shown-level, shown-behind, seen-settled, seen-mispredicted, seen-ended}
use Rattle.st_exec.specs.Transfer.{read_in, printed_out}
use Rattle.st_exec.proofs.BesideEntries.{beside-printed, beside-no_card}
use Rattle.st_refine.proofs.StillLemmas.{still-done, still-signalled}

-- the machine is reached, and no settle is owed
record IsLedOver (start : Overlap) (made k : ℕ) (m new : Overlap) : Type 0 where
  pub led : IsLedTo start (made + k) new
  pub settled : new.phase ≡ Ready
  pub now : new.now ≡ m.now + k
  pub done : new.state.done < 2 ^ 63

led-by : (k count made since : ℕ) (start m new : Overlap) → IsReachedFrom start m made since → m.phase ≡ Ready → m.state.done < 2 ^ 63
    → m.now + k ≤ 2 ^ 63 → count ≤ 2 ^ 63 → ArePassed count k m new → IsLedOver start made k m new
unfolding after_ticks
led-by zero count made since start m new from owes few soon most are =
    let same : made ≡ made + 0 = omega arith in
    subst {A = Overlap} (λ x. IsLedOver start made 0 m x) (sym are.after) (record {
      led = record { since = since; from = subst {A = ℕ} (λ k. IsReachedFrom start m k since) same from };
      settled = owes;
      now = omega arith;
      done = few;
    })
led-by (suc k) count made since start m new from owes few soon most are =
    let keeps = passed-keeps count m (are.each 0 (omega arith)) most few in
    let tick = Ticks m made since from.reached (record { ready = owes; tick = omega arith; done = few }) in
    let next = Settles (machine_after_tick m) (made + 1) (if is_done m then 0 else since + 1) tick (ticked-settles m) in
    let rest = led-by k count (made + 1) (if is_done m then 0 else since + 1) start (machine_after_settling (machine_after_tick m)) new
    (record { reached = next; begun = from.begun }) keeps.0 keeps.2
    (omega (arith, keeps.1, soon)) most (record { each = λ i before. are.each (suc i) (omega (arith, before)); after = are.after }) in
    let same : made + 1 + k ≡ made + suc k = omega arith in
    record {
      led = subst {A = ℕ} (λ x. IsLedTo start x new) same rest.led;
      settled = rest.settled;
      now = omega (arith, rest.now, keeps.1);
      done = rest.done;
    }

done-reached : (start m new : Overlap) (made since count last : ℕ) (row : Row) → IsReachedFrom start m made since → MayTick m →
    count ≤ 2 ^ 63 → last < 2 ^ 63 → RunsTo count last (Some row) m new → IsReachedFrom start new (row.c + 1) 0
done-reached start m new made since count last row from may most soon ran =
    let at : ran.before.now ≡ m.now + ran.ticks = passed-now ran.ticks count m ran.before ran.passed in
    let led = led-by ran.ticks count made since start m ran.before from may.ready may.done (omega (arith, at, ran.soon, soon)) most ran.passed in
    let tick = Ticks ran.before (made + ran.ticks) led.led.since led.led.from.reached (record {
      ready = led.settled;
      tick = omega (arith, ran.soon, soon);
      done = led.done;
    }) in
    let ticks : IsReachedFrom start (machine_after_tick ran.before) (made + ran.ticks + 1) (if is_done ran.before then 0 else led.led.since + 1) =
    record { reached = tick; begun = led.led.from.begun } in
    let all : made ≡ m.now = made-ticks from.reached ∙ made-settled m.phase m.now may.ready in
    let row_c : row.c ≡ ran.before.now = ap (λ (r : Row). r.c) ran.row_is in
    let same : made + ran.ticks + 1 ≡ row.c + 1 = omega (arith, all, at, row_c) in
    let none : (if is_done ran.before then 0 else led.led.since + 1) ≡ 0 = rw ran.done refl in
    subst {A = Overlap} (λ x. IsReachedFrom start x (row.c + 1) 0) (sym ran.after)
    (subst {A = ℕ} (λ k. IsReachedFrom start (machine_after_tick ran.before) k 0) same
    (subst {A = ℕ} (λ k. IsReachedFrom start (machine_after_tick ran.before) (made + ran.ticks + 1) k) none ticks))

passed-led : (start m new : Overlap) (made since count last : ℕ) → IsReachedFrom start m made since → MayTick m →
    count ≤ 2 ^ 63 → last < 2 ^ 63 → RunsTo count last None m new → IsLedTo start (made + (last + 1 - m.now)) new
passed-led start m new made since count last from may most soon ran =
    (led-by (last + 1 - m.now) count made since start m new from may.ready may.done (omega (arith, may.tick, soon)) most ran).led

pub runs_are_reached : RunsAreReached
runs_are_reached = record {
  done = done-reached;
  passed = passed-led;
}

pub machines_keep_their_delays : MachinesKeepTheirDelays
machines_keep_their_delays = record {
  delays = λ m made since reached. start-delays reached;
  levels = λ m made since reached. start-levels reached;
}

pub held_words_are_those_of_reads : HeldWordsAreThoseOfReads
held_words_are_those_of_reads = held-words

pub banks_have_the_first_reads : BanksHaveTheFirstReads
banks_have_the_first_reads = have-first

pub completions_come_in_time : CompletionsComeInTime
completions_come_in_time = record {
  since = in-time;
  all = all-in_time;
}

pub levels_are_lent : LevelsAreLent
levels_are_lent = record {
  count = ring-count;
  prepared = λ m ring level k are there.
      let is = ring-level m ring level k are there in
      (is.prepared, is.p);
  words = ring-word;
  slots = λ m ring level k slot are there free few two. ring-slot m ring level k slot are there two free few;
  index = index-shown;
  undone = ring-undone;
}

pub openings_are_kept : OpeningsAreKept
openings_are_kept = record {
  start = stands-started;
  tick = stands-ticked;
  goes = stands-goes;
  signal = λ m i j o xs is. stands-changed m (Signalled i) j o xs is;
  unread = λ m w j o xs is. stands-changed m (ReadIn w None) j o xs is;
  print = λ m j o xs is. stands-changed m PrintedOut j o xs is;
}

pub openings_follow : OpeningsFollow
openings_follow = record {
  end = stands-ended;
  again = ended-again;
  stop = λ m j o changes is. stands-stopped (machine_after_segment m) j o changes is;
  last = λ m made since from over may. cc (sym over ∙ may.ready);
  interrupt = λ m made since i d ic k o xs from owed is stands. stands-interrupt m i d ic k o xs is stands;
  mispredicted = λ m made since k o xs from owed is stands. stands-mispredicted m k o xs owed is stands;
  waits = waits-ended;
  card = stands-card;
}

pub rows_tell_the_levels : RowsTellTheLevels
rows_tell_the_levels = record {
  done = rows-done;
  ahead = levels-ahead;
  levels = levels-told;
  next = next-told;
}

pub completions_are_steps : CompletionsAreSteps
completions_are_steps = record {
  table = table-is;
  state = λ m made since row from may is. tick-state m made since from may is.0;
  oldest = λ m made since row from may is. tick-oldest m made since from may is.0;
  row = λ m made since row from may is.
      let told = tick-row m made since from may is.0 in (
        ap (λ (r : Row). r.number) is.1 ∙ told.0,
        ap (λ (r : Row). r.address) is.1 ∙ told.1,
        ap (λ (r : Row). r.c) is.1 ∙ told.2,
      );
  times = λ m row is.
      let told = tick-times m is.0 in (
        ap (λ (r : Row). r.p) is.1 ∙ told.0,
        ap (λ (r : Row). r.r) is.1 ∙ told.1,
        ap (λ (r : Row). r.c) is.1 ∙ told.2,
      );
  mispredicted = λ m row is. tick-mispredicted m is.0;
  passed = tick-passed;
}

pub levels_are_unwound : LevelsAreUnwound
levels_are_unwound = record {
  settle = settled-state;
  goes = goes-more;
  interrupt = interrupt-unwinds;
  mispredicted = mispredicted-unwinds;
  waits = waits-unwinds;
  stop = stop-unwinds;
  card = card-unwinds;
  start = start-unwound;
}

pub the_state_is_split : TheStateIsSplit
the_state_is_split = record {
  done = shown-done;
  tick = shown-tick;
  index = shown-index;
  none = shown-none;
  few = λ m made since from. (levels-few m, (kept from).few);
  eight = shown-eight;
  level = shown-level;
  behind = shown-behind;
  state = seen-settled;
  mispredicted = seen-mispredicted;
  ended = seen-ended;
}

pub signals_leave_levels : SignalsLeaveLevels
signals_leave_levels = record {
  signal = still-signalled;
  unread = λ m made since w from may.
      (refl, still-done m (read_in m.state w None) (kept from) (served m.phase may) (beside-no_card m.state w));
  print = λ m made since from may. still-done m (printed_out m.state) (kept from) (served m.phase may) (beside-printed m.state);
}
