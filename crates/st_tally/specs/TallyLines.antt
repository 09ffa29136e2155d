-- The lines of the tables of a run.
--
-- Proved: by their `ensures` clauses these calls do what definitions here say: `fill_card`
-- (lines.rt), `fill_dropped` (lines.rt), `fill_level` (lines.rt), `fill_missed` (lines.rt), and
-- others.
-- Read by: definitions in Slots, LedgerSums of st_account.
-- Laws: TotalsAreTheLedgerWithoutRows (specs/Laws.antt of st_causes).
-- Change: the meaning is fixed by docs/ledger.md, since the contract of `st_account::ledger`
-- unfolds to a definition here. The form is free, with the proofs that unfold it.
use Rattle.std.specs.Prelude.{ℕ, nat_eq, if◌then◌else◌, List, [], ◌∷◌, ◌++◌, length, codes, decimal}
use Rattle.st_text.specs.Bytes.{lf}
use Rattle.st_io.specs.Lines.{lines_for}
use Rattle.st_ledger.specs.Totals.{stages, sums_by, sum_lines}
use Rattle.st_ledger.specs.declared.charges.Stage.{Stage}
use Rattle.st_ledger.specs.Sums.{wait_sums_by}
use Rattle.st_ledger.specs.declared.waits.Stall.{Stall}
use Rattle.st_lines.specs.WaitLines.{wait_sum_lines}
use Rattle.st_tally.specs.Headings.{headings}
use Rattle.st_tally.specs.Tally.{TalliedRow, rows_of_card, rows_for, stage_ticks, wait_ticks, lost_ticks, late_ticks, mispredicted_rows, level_rows, level_ticks}
use Rattle.st_tally.specs.declared.headings.Heading.{Heading}
use Rattle.st_tally.specs.declared.headings.Heading.TheVariants.{Run, Interrupt, Missed, Card, Serial, Store, Level, Forwarding, Bus, Prefetch, Order}

-- ---- cards

-- the line of a card that some rows come from
abbrev pub card_line : ℕ → ℕ → List ℕ
card_line k rows = codes "CARD " ++ decimal k ++ codes " ROWS " ++ decimal rows ++ lf

-- the lines of a card with its number of rows and its ticks by stage, and by stage and kind of
-- wait; none without rows
unfoldable pub card_lines_by : ℕ → ℕ → (Stage → ℕ) → (Stage → Stall → ℕ) → List (List ℕ)
card_lines_by k rows f g =
    if nat_eq rows 0 then []
    else card_line k rows ∷ (sum_lines (sums_by f stages) ++ wait_sum_lines (wait_sums_by g))

-- the lines of card k
unfoldable pub card_lines : List TalliedRow → ℕ → List (List ℕ)
card_lines xs k =
    let ys = rows_of_card k xs in
    card_lines_by k (length ys) (λ s. stage_ticks s ys) (λ r s. wait_ticks r s ys)

-- ---- reasons

abbrev pub heading_name : Heading → List ℕ
heading_name Run = codes "RUN"
heading_name Interrupt = codes "INTERRUPT"
heading_name Missed = codes "MISSED"
heading_name Card = codes "CARD"
heading_name Serial = codes "SERIAL"
heading_name Store = codes "STORE"
heading_name Level = codes "LEVEL"
heading_name Forwarding = codes "FORWARDING"
heading_name Bus = codes "BUS"
heading_name Prefetch = codes "PREFETCH"
heading_name Order = codes "ORDER"

-- the line of a heading with its number of rows, the ticks that they lost, and the ticks by which
-- they were later for their reason
abbrev pub reason_line : Heading → ℕ → ℕ → ℕ → List ℕ
reason_line h rows ticks late =
    codes "REASON " ++ heading_name h ++ codes " ROWS " ++ decimal rows
    ++ codes " TICKS " ++ decimal ticks ++ codes " LATE " ++ decimal late ++ lf

abbrev pub reason_line_of : List TalliedRow → Heading → List ℕ
reason_line_of xs h =
    let ys = rows_for h xs in
    reason_line h (length ys) (lost_ticks ys) (late_ticks ys)

-- the lines that a function gives for each of some headings
unfoldable pub lines_by_heading : (Heading → List ℕ) → List Heading → List (List ℕ)
lines_by_heading f [] = []
lines_by_heading f (h ∷ hs) = f h ∷ lines_by_heading f hs

-- ---- counts

abbrev pub missed_count_line : ℕ → List ℕ
missed_count_line n = codes "COUNT MISSED " ++ decimal n ++ lf

abbrev pub level_count_line : ℕ → ℕ → List ℕ
level_count_line rows ticks =
    codes "COUNT LEVEL ROWS " ++ decimal rows ++ codes " TICKS " ++ decimal ticks ++ lf

abbrev pub drop_count_line : ℕ → List ℕ
drop_count_line n = codes "COUNT DROP " ++ decimal n ++ lf

-- the lines of the numbers of mispredicted branches, of waits for a level with their ticks, and of
-- dropped entries
abbrev pub count_lines : ℕ → ℕ → ℕ → ℕ → List (List ℕ)
count_lines mispredicted rows ticks dropped =
    missed_count_line mispredicted ∷ level_count_line rows ticks ∷ drop_count_line dropped ∷ []

-- ---- the tables

-- the lines of the tables of some rows, with the cards below the listed number and the number of
-- dropped entries
unfoldable pub table_lines : ℕ → List TalliedRow → ℕ → List (List ℕ)
table_lines cards xs dropped =
    (lines_for (card_lines xs) cards 0 ++ lines_by_heading (reason_line_of xs) headings)
    ++ count_lines (length (mispredicted_rows xs)) (length (level_rows xs)) (level_ticks xs) dropped
