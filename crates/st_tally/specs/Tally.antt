-- The tables of a run as sums over its rows.
--
-- Proved: by their `ensures` clauses these calls do what definitions here say: `stage_totals`
-- (totals.rt), `wait_totals` (totals.rt), `add` (tables.rt), `add_card` (tables.rt), and others.
-- Read by: definitions in TallyLines, Slots, Tallying of st_account, LedgerTables of st_account,
-- and others.
-- Laws: CardsShareTheRows (specs/Laws.antt), HeadingsShareTheLostTicks (specs/Laws.antt),
-- HeadingsShareTheRowsWithReasons (specs/Laws.antt), LostTicksAreThoseOfOtherStages
-- (specs/Laws.antt), and others.
-- Change: the meaning is fixed by docs/ledger.md, since the contract of `st_account::ledger`
-- unfolds to a definition here. The form is free, with the proofs that unfold it.
use Rattle.std.specs.Prelude.{ℕ, ◌≡◌, ◌-◌, ◌<◌, Bool, true, not, min, nat_eq, nat_lt, List, length, get_or, Option, None, Some}
use Rattle.std.specs.List.{filter, sum_by}
use Rattle.st_rows.specs.declared.uses.Use.{Use}
use Rattle.st_ledger.specs.Charges.{ticks_for}
use Rattle.st_ledger.specs.Totals.{sum_at}
use Rattle.st_ledger.specs.declared.charges.Stage.{Stage}
use Rattle.st_ledger.specs.declared.totals.Totals.{Totals}
use Rattle.st_ledger.specs.Sums.{row_stalled, is_parted, waited_at}
use Rattle.st_ledger.specs.declared.because.StallCause.{StallCause}
use Rattle.st_ledger.specs.declared.because.StallCause.TheVariants.{Start, Prefetch, Earlier}
use Rattle.st_ledger.specs.declared.sums.WaitTotals.{WaitTotals}
use Rattle.st_ledger.specs.declared.waits.Stall.{Stall}
use Rattle.st_lines.specs.EntryLines.{charges_of_entry}
use Rattle.st_lines.specs.declared.facts.EntryDone.{EntryDone}
use Rattle.st_lines.specs.declared.lines.Why.{Why}
use Rattle.st_lines.specs.declared.origins.Origin.{Origin}
use Rattle.st_tally.specs.Headings.{heading_number, heading_at, is_heading}
use Rattle.st_tally.specs.declared.headings.Heading.{Heading}
use Rattle.st_tally.specs.declared.tables.CardSum.{CardSum}
use Rattle.st_tally.specs.declared.tables.ReasonSum.{ReasonSum}
use Rattle.st_tally.specs.declared.tables.Tables.{Tables}

-- a row with why its segment begins, the words that it uses, and those of the row before it in its
-- segment
pub record TalliedRow : Type 0 where
  pub done : EntryDone
  pub why : Why
  pub uses : List Use
  pub before : List Use

-- ---- one row

-- the number of the card that a row's half-word comes from, as in its line LAID; 0 without one
abbrev pub card_by_origin : Option Origin → ℕ
card_by_origin None = 0
card_by_origin (Some o) = o.card

abbrev pub card_of : TalliedRow → ℕ
card_of x = card_by_origin x.done.origin

-- the heading of a row's reason, if it has one
abbrev pub reason_of : TalliedRow → Option Heading
reason_of x = heading_at x.why x.done

-- the ticks that an entry lost: from the completion of the previous entry until its operands were
-- available
abbrev pub lost_by : EntryDone → ℕ
lost_by d = d.row.ticks.r - d.before

-- the ticks by which an entry was later for its cause, at most those that it lost
abbrev pub late_by : StallCause → ℕ → ℕ
late_by (Start tick) lost = lost
late_by (Prefetch x) lost = min x.late lost
late_by (Earlier x) lost = min x.late lost

abbrev pub late_of : EntryDone → ℕ
late_of d = late_by d.because (lost_by d)

-- whether a row waited for a level
abbrev pub has_level_wait : TalliedRow → Bool
has_level_wait x = not (nat_eq x.done.row.level_wait 0)

-- ---- many rows

-- the rows of card k
unfoldable pub rows_of_card : ℕ → List TalliedRow → List TalliedRow
rows_of_card k xs = filter (λ x. nat_eq (card_of x) k) xs

-- the rows whose card is none of those below n
unfoldable pub rows_elsewhere : ℕ → List TalliedRow → List TalliedRow
rows_elsewhere n xs = filter (λ x. not (nat_lt (card_of x) n)) xs

-- the rows whose reason has a heading
unfoldable pub rows_for : Heading → List TalliedRow → List TalliedRow
rows_for h xs = filter (λ x. is_heading h (reason_of x)) xs

-- the ticks that rows are charged in a stage
unfoldable pub stage_ticks : Stage → List TalliedRow → ℕ
stage_ticks s xs = sum_by (λ x. ticks_for s (charges_of_entry x.done)) xs

-- the ticks of one kind of wait in a stage of rows
unfoldable pub wait_ticks : Stage → Stall → List TalliedRow → ℕ
wait_ticks r s xs = sum_by (λ x. row_stalled r s x.uses x.before (charges_of_entry x.done)) xs

-- the ticks that rows lost
unfoldable pub lost_ticks : List TalliedRow → ℕ
lost_ticks xs = sum_by (λ x. lost_by x.done) xs

-- the ticks by which rows were later for their causes
unfoldable pub late_ticks : List TalliedRow → ℕ
late_ticks xs = sum_by (λ x. late_of x.done) xs

-- the rows that are mispredicted branches
unfoldable pub mispredicted_rows : List TalliedRow → List TalliedRow
mispredicted_rows xs = filter (λ x. x.done.mispredicted) xs

-- the rows that waited for a level
unfoldable pub level_rows : List TalliedRow → List TalliedRow
level_rows xs = filter has_level_wait xs

-- the ticks for which rows waited for a level
unfoldable pub level_ticks : List TalliedRow → ℕ
level_ticks xs = sum_by (λ x. x.done.row.level_wait) xs

-- ---- the tables

-- the sums of no rows
abbrev pub no_ticks : Totals
no_ticks = record {
  restart = 0;
  instruction = 0;
  address = 0;
  index = 0;
  preparing = 0;
  operand = 0;
  executing = 0;
}

abbrev pub no_waits : WaitTotals
no_waits = record {
  instruction = record { turn = 0; bank = 0; storage = 0 };
  index = record { turn = 0; bank = 0; storage = 0 };
  operand = record { turn = 0; bank = 0; storage = 0 };
}

abbrev pub no_card_sum : CardSum
no_card_sum = record { rows = 0; sums = no_ticks; waits = no_waits }

abbrev pub no_reason_sum : ReasonSum
no_reason_sum = record { rows = 0; ticks = 0; late = 0 }

-- the sums of card k in a table, by its index
abbrev pub card_sum : Tables → ℕ → CardSum
card_sum t k = get_or t.cards.items k no_card_sum

-- the sums of a heading in a table
abbrev pub reason_sum : Tables → Heading → ReasonSum
reason_sum t h = get_or t.reasons (heading_number h) no_reason_sum

-- the sums are those of some rows
pub record IsCardSum (xs : List TalliedRow) (sum : CardSum) : Type 0 where
  pub rows : sum.rows ≡ length xs
  pub stages : (s : Stage) → sum_at s sum.sums ≡ stage_ticks s xs
  pub waits : (r : Stage) (s : Stall) → is_parted r ≡ true →
      waited_at r s sum.waits ≡ wait_ticks r s xs

pub record IsReasonSum (xs : List TalliedRow) (sum : ReasonSum) : Type 0 where
  pub rows : sum.rows ≡ length xs
  pub ticks : sum.ticks ≡ lost_ticks xs
  pub late : sum.late ≡ late_ticks xs

-- the tables are those of some rows
pub record IsTally (xs : List TalliedRow) (t : Tables) : Type 0 where
  pub cards : (k : ℕ) → k < length t.cards.items → IsCardSum (rows_of_card k xs) (card_sum t k)
  pub others : IsCardSum (rows_elsewhere (length t.cards.items) xs) t.others
  pub reasons : (h : Heading) → IsReasonSum (rows_for h xs) (reason_sum t h)
  pub mispredicted : t.mispredicted ≡ length (mispredicted_rows xs)
  pub level_rows : t.level_rows ≡ length (level_rows xs)
  pub level_ticks : t.level_ticks ≡ level_ticks xs
