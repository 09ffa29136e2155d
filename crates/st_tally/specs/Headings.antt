-- The headings under which rows are counted by their reason.
--
-- Proved: by their `ensures` clauses these calls do what definitions here say: `heading_at`
-- (headings.rt), `heading_of` (headings.rt), `heading_of_reason` (headings.rt), `heading_of_start`
-- (headings.rt), and others.
-- Read by: definitions in Tally, Slots, TallyLines.
-- Laws: HeadingsShareTheLostTicks (specs/Laws.antt), HeadingsShareTheRowsWithReasons
-- (specs/Laws.antt).
-- Change: the meaning is fixed by docs/ledger.md, since the contract of `st_account::ledger`
-- unfolds to a definition here. The form is free, with the proofs that unfold it.
use Rattle.std.specs.Prelude.{ℕ, Bool, false, nat_eq, nat_lt, if◌then◌else◌, List, [], ◌∷◌, Option, None, Some}
use Rattle.st_ledger.specs.declared.because.Reason.{Reason}
use Rattle.st_ledger.specs.declared.because.Reason.TheVariants.{Serial as ForSerial, Store as ForStore, Level as ForLevel, Forwarding as ForForwarding, Bus as ForBus, Order as ForOrder}
use Rattle.st_ledger.specs.declared.because.StallCause.{StallCause}
use Rattle.st_ledger.specs.declared.because.StallCause.TheVariants.{Start, Prefetch as ForPrefetch, Earlier}
use Rattle.st_lines.specs.declared.facts.EntryDone.{EntryDone}
use Rattle.st_lines.specs.declared.lines.Why.{Why}
use Rattle.st_lines.specs.declared.lines.Why.TheVariants.{Run as RunBegins, Interrupt as Interrupted, Mispredicted, Card as CardRead}
use Rattle.st_tally.specs.declared.headings.Heading.{Heading}
use Rattle.st_tally.specs.declared.headings.Heading.TheVariants.{Run, Interrupt, Missed, Card, Serial, Store, Level, Forwarding, Bus, Prefetch, Order}

-- the headings in the order of their lines
abbrev pub headings : List Heading
headings = Run ∷ Interrupt ∷ Missed ∷ Card ∷ Serial ∷ Store ∷ Level ∷ Forwarding ∷ Bus ∷ Prefetch
    ∷ Order ∷ []

-- the position of a heading in that order
abbrev pub heading_number : Heading → ℕ
heading_number Run = 0
heading_number Interrupt = 1
heading_number Missed = 2
heading_number Card = 3
heading_number Serial = 4
heading_number Store = 5
heading_number Level = 6
heading_number Forwarding = 7
heading_number Bus = 8
heading_number Prefetch = 9
heading_number Order = 10

-- the heading of a row whose cause is the start of its segment, by why the segment begins
abbrev pub heading_of_start : Why → Heading
heading_of_start RunBegins = Run
heading_of_start (Interrupted i) = Interrupt
heading_of_start Mispredicted = Missed
heading_of_start CardRead = Card

-- the heading of a row that an earlier row delayed
abbrev pub heading_of_reason : Reason → Heading
heading_of_reason ForSerial = Serial
heading_of_reason ForStore = Store
heading_of_reason ForLevel = Level
heading_of_reason ForForwarding = Forwarding
heading_of_reason ForBus = Bus
heading_of_reason ForOrder = Order

-- the heading of a cause, given why the row's segment begins
abbrev pub heading_of : Why → StallCause → Heading
heading_of why (Start tick) = heading_of_start why
heading_of why (ForPrefetch x) = Prefetch
heading_of why (Earlier x) = heading_of_reason x.reason

-- the heading of a completed entry, given why its segment begins; none if it has no line BECAUSE:
-- the previous entry completed when the entry's operands were available, or later
unfoldable pub heading_at : Why → EntryDone → Option Heading
heading_at why d =
    if nat_lt d.before d.row.ticks.r then Some (heading_of why d.because) else None

-- whether a heading is the listed one
abbrev pub is_heading : Heading → Option Heading → Bool
is_heading h None = false
is_heading h (Some g) = nat_eq (heading_number h) (heading_number g)
