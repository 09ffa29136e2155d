-- The ticks at which reads are accepted and answered. The list of delays is ds.
--
-- Proved: by their `ensures` clauses these calls do what definitions here say: `read` (bus.rt),
-- `request` (bus.rt), `new` (bus.rt).
-- Read by: definitions in Asked, Notes, Uses, Rows, and others.
-- Laws: ReadsAreNoLater (specs/Laws.antt), ReadsComeInOrder (specs/Laws.antt),
-- LateReadsChangeNothing (specs/Laws.antt), MadeReadsAreAnsweredSoon (specs/Laws.antt), and others.
-- Change: the meaning is fixed by docs/timetable.md, since the contracts of `st_top::stretch` and
-- `st_account::ledger` unfold to a definition here. The form is free, with the proofs that unfold
-- it.
use Rattle.std.specs.Prelude.{ℕ, ◌+◌, Bool, true, if◌then◌else◌, List, replicate, Option, None, Some}
use Rattle.st_banks.specs.Bank.{accept_tick, answered_at}
use Rattle.st_banks.specs.Delay.{answer_tick}
use Rattle.st_banks.specs.declared.answers.LastAnswers.{LastAnswers}
use Rattle.st_fetch.specs.Planned.{no_word, tick_of, asked_for}
use Rattle.st_rows.specs.declared.bus.Bus.{Bus}

-- a read: its word, the tick of its request, and whether the word is held from then on
pub record Read : Type 0 where
  pub w : ℕ
  pub want : ℕ
  pub fetch : Bool

-- the bus of a segment that starts at the tick start, with no word held
abbrev pub no_reads : LastAnswers → ℕ → Bus
no_reads banks start =
    record { banks = banks; free = start; held = record { words = replicate 4 no_word } }

-- the tick at which a read of the word w, requested at the tick want, is accepted
abbrev pub accept_at : Bus → ℕ → ℕ → ℕ
accept_at b w want = accept_tick b.banks.ticks w b.free want

module _ (ds : List ℕ) (b : Bus) (w want : ℕ) where
  -- the tick at which the read is answered
  abbrev pub answer_at : ℕ
  answer_at = answer_tick ds (accept_at b w want)

  -- the bus after the read
  unfoldable pub bus_after_read : Bus
  bus_after_read = record b {
    banks = record { ticks = answered_at b.banks.ticks w answer_at };
    free = accept_at b w want + 1;
  }

  -- the tick at which a word arrives; a word that needs no read arrives at the given tick
  abbrev pub answer_if : Option ℕ → ℕ
  answer_if (Some tick) = tick
  answer_if None = answer_at

module _ (ds : List ℕ) (b : Bus) where
  -- the bus after a read
  abbrev pub after_one : Read → Bus
  after_one r = let next = bus_after_read ds b r.w r.want in
      let held = asked_for b.held.words r.w (answer_at ds b r.w r.want) in
      if r.fetch then record next { held = record { words = held } } else next

  -- the bus after a word is used; it does not change if the word needs no read
  abbrev pub bus_if : Read → Option ℕ → Bus
  bus_if r (Some tick) = b
  bus_if r None = after_one r

  module _ (w want : ℕ) where
    -- the bus after a request for the instruction word w; it does not change if the word is held,
    -- given the tick of its answer
    abbrev pub requested_if : Option ℕ → Bus
    requested_if o = bus_if (record { w = w; want = want; fetch = true }) o

    -- the bus after a request for the instruction word w
    unfoldable pub bus_after_request : Bus
    bus_after_request = requested_if (tick_of b.held.words w)

    -- the tick at which the instruction word w is answered
    unfoldable pub answer_tick_on : ℕ
    answer_tick_on = answer_if ds b w want (tick_of b.held.words w)
