-- Bounds of the numbers in tables, and the lines of tables by these numbers.
--
-- Proved: by their `ensures` clauses these calls do what definitions here say: `fill_reason`
-- (lines.rt), `add` (tables.rt), `add_card` (tables.rt), `add_reason` (tables.rt), and others.
-- Read by: definitions in Tallying of st_account.
-- Laws: none names a definition of this file itself.
-- Change: no page fixes these definitions, since no contract of a program unfolds to them; they
-- change together with the clauses, definitions and laws that name them. docs/ledger.md describes
-- the subject.
use Rattle.std.specs.Prelude.{ℕ, ◌≡◌, ◌+◌, ◌≤◌, ◌<◌, ◌^◌, true, List, ◌++◌, length, get_or, set, Option, None, Some}
use Rattle.st_io.specs.Lines.{lines_for}
use Rattle.st_ledger.specs.Charges.{all_ticks, ticks_for}
use Rattle.st_ledger.specs.Totals.{sum_at, AreWithin}
use Rattle.st_ledger.specs.declared.charges.Stage.{Stage}
use Rattle.st_ledger.specs.Sums.{waited_at, row_stalled, is_parted, AreWaitsWithin}
use Rattle.st_ledger.specs.declared.sums.Shares.{Shares}
use Rattle.st_ledger.specs.declared.sums.WaitTotals.{WaitTotals}
use Rattle.st_ledger.specs.declared.totals.Totals.{Totals}
use Rattle.st_ledger.specs.declared.waits.Stall.{Stall}
use Rattle.st_rows.specs.declared.uses.Use.{Use}
use Rattle.st_lines.specs.EntryLines.{charges_of_entry}
use Rattle.st_lines.specs.declared.facts.EntryDone.{EntryDone}
use Rattle.st_tally.specs.Headings.{headings, heading_number}
use Rattle.st_tally.specs.Laws.{sum_below}
use Rattle.st_tally.specs.Tally.{lost_by, late_of, no_reason_sum, card_sum, reason_sum}
use Rattle.st_tally.specs.TallyLines.{card_lines_by, reason_line, lines_by_heading, count_lines}
use Rattle.st_tally.specs.declared.headings.Heading.{Heading}
use Rattle.st_tally.specs.declared.tables.CardSum.{CardSum}
use Rattle.st_tally.specs.declared.tables.ReasonSum.{ReasonSum}
use Rattle.st_tally.specs.declared.tables.Tables.{Tables}

-- ---- bounds

-- no number is greater than t
pub record IsCardSumWithin (t : ℕ) (sum : CardSum) : Type 0 where
  pub rows : sum.rows ≤ t
  pub sums : AreWithin t sum.sums
  pub waits : AreWaitsWithin t sum.waits

pub record IsReasonSumWithin (t : ℕ) (sum : ReasonSum) : Type 0 where
  pub rows : sum.rows ≤ t
  pub ticks : sum.ticks ≤ t
  pub late : sum.late ≤ t

-- the ticks of a stage in all slots together
abbrev pub slots_ticks : Stage → Tables → ℕ
slots_ticks s x =
    sum_at s x.others.sums
    + sum_below (λ k. sum_at s (card_sum x k).sums) (length x.cards.items)

-- the ticks of one kind of wait in a stage in all slots together
abbrev pub slots_waited : Stage → Stall → Tables → ℕ
slots_waited r s x =
    waited_at r s x.others.waits
    + sum_below (λ k. waited_at r s (card_sum x k).waits) (length x.cards.items)

-- no number is greater than t, except the ticks of waits for a level, nor any sum of ticks over all
-- slots
pub record AreTablesWithin (t : ℕ) (x : Tables) : Type 0 where
  pub cards : (k : ℕ) → k < length x.cards.items → IsCardSumWithin t (card_sum x k)
  pub others : IsCardSumWithin t x.others
  pub stages : (s : Stage) → slots_ticks s x ≤ t
  pub waits : (r : Stage) (s : Stall) → is_parted r ≡ true → slots_waited r s x ≤ t
  pub reasons : (h : Heading) → IsReasonSumWithin t (reason_sum x h)
  pub mispredicted : x.mispredicted ≤ t
  pub level_rows : x.level_rows ≤ t

-- the tables of no rows: all numbers are 0
pub record AreTablesOfNone (x : Tables) : Type 0 where
  pub cards : (k : ℕ) → k < length x.cards.items → IsCardSumWithin 0 (card_sum x k)
  pub others : IsCardSumWithin 0 x.others
  pub reasons : (h : Heading) → IsReasonSumWithin 0 (reason_sum x h)
  pub mispredicted : x.mispredicted ≡ 0
  pub level_rows : x.level_rows ≡ 0
  pub level_ticks : x.level_ticks ≡ 0

-- the ticks of a completed entry are in order, and its charges reach to its completion
pub record IsInOrder (d : EntryDone) : Type 0 where
  pub later : d.before < d.row.ticks.c
  pub ready : d.row.ticks.r ≤ d.row.ticks.c
  pub early : d.row.ticks.c < 2 ^ 64
  pub reach : d.before + all_ticks (charges_of_entry d) ≡ d.row.ticks.c

-- an entry only executes: its other stages end before its charges begin
pub record OnlyExecutes (d : EntryDone) : Type 0 where
  pub started : d.start ≤ d.before
  pub formed : d.row.ticks.a ≤ d.before
  pub prepared : d.row.ticks.p ≤ d.before
  pub ready : d.row.ticks.r ≤ d.before

-- ---- a row more

-- an entry that uses some words, as the entry before it uses others, has been added to the sums of
-- a card, none of which is then greater than the tick at which the entry completes
pub record AddsCard (d : EntryDone) (uses before : List Use) (old new : CardSum) : Type 0 where
  pub rows : new.rows ≡ old.rows + 1
  pub stages : (s : Stage) → sum_at s new.sums ≡ sum_at s old.sums
      + ticks_for s (charges_of_entry d)
  pub waits : (r : Stage) (s : Stall) → is_parted r ≡ true →
      waited_at r s new.waits ≡ waited_at r s old.waits
      + row_stalled r s uses before (charges_of_entry d)
  pub within : IsCardSumWithin d.row.ticks.c new

-- two numbers can be added
pub record CanAddTotals (a b : Totals) : Type 0 where
  pub restart : a.restart + b.restart < 2 ^ 64
  pub instruction : a.instruction + b.instruction < 2 ^ 64
  pub address : a.address + b.address < 2 ^ 64
  pub index : a.index + b.index < 2 ^ 64
  pub preparing : a.preparing + b.preparing < 2 ^ 64
  pub operand : a.operand + b.operand < 2 ^ 64
  pub executing : a.executing + b.executing < 2 ^ 64

pub record CanAddShares (a b : Shares) : Type 0 where
  pub turn : a.turn + b.turn < 2 ^ 64
  pub bank : a.bank + b.bank < 2 ^ 64
  pub storage : a.storage + b.storage < 2 ^ 64

pub record CanAddWaits (a b : WaitTotals) : Type 0 where
  pub instruction : CanAddShares a.instruction b.instruction
  pub index : CanAddShares a.index b.index
  pub operand : CanAddShares a.operand b.operand

-- the sums of two lists of ticks
abbrev pub both_totals : Totals → Totals → Totals
both_totals a b = record {
  restart = a.restart + b.restart;
  instruction = a.instruction + b.instruction;
  address = a.address + b.address;
  index = a.index + b.index;
  preparing = a.preparing + b.preparing;
  operand = a.operand + b.operand;
  executing = a.executing + b.executing;
}

-- the sums of two lists of waits
abbrev pub both_shares : Shares → Shares → Shares
both_shares a b =
    record { turn = a.turn + b.turn; bank = a.bank + b.bank; storage = a.storage + b.storage }

abbrev pub both_waits : WaitTotals → WaitTotals → WaitTotals
both_waits a b = record {
  instruction = both_shares a.instruction b.instruction;
  index = both_shares a.index b.index;
  operand = both_shares a.operand b.operand;
}

-- the sums of a heading with an entry more
abbrev pub with_entry : EntryDone → ReasonSum → ReasonSum
with_entry d sum = record {
  rows = sum.rows + 1;
  ticks = sum.ticks + lost_by d;
  late = sum.late + late_of d;
}

-- the sums of all headings with an entry more, given the heading of the entry's reason
abbrev pub with_reason : Option Heading → EntryDone → List ReasonSum → List ReasonSum
with_reason None d sums = sums
with_reason (Some h) d sums =
    set sums (heading_number h) (with_entry d (get_or sums (heading_number h) no_reason_sum))

-- ---- lines

-- the lines of the sums of card k
abbrev pub slot_lines : ℕ → CardSum → List (List ℕ)
slot_lines k sum =
    card_lines_by k sum.rows (λ s. sum_at s sum.sums) (λ r s. waited_at r s sum.waits)

-- the line of the sums of a heading
abbrev pub reason_sum_line : Heading → ReasonSum → List ℕ
reason_sum_line h sum = reason_line h sum.rows sum.ticks sum.late

-- the lines of tables
abbrev pub tables_lines : Tables → ℕ → List (List ℕ)
tables_lines t dropped =
    (lines_for (λ k. slot_lines k (card_sum t k)) (length t.cards.items) 0
    ++ lines_by_heading (λ h. reason_sum_line h (reason_sum t h)) headings)
    ++ count_lines t.mispredicted t.level_rows t.level_ticks dropped
