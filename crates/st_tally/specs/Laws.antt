-- Laws of the tables of a run.
--
-- Proved: each law has its lemma in proofs/Laws.antt, with its name in small letters.
-- Read by: definitions in Slots.
-- Claimed: docs/CLAIMS.md names CardsShareTheRows, HeadingsShareTheLostTicks,
-- HeadingsShareTheRowsWithReasons, LostTicksAreThoseOfOtherStages.
-- Change: docs/promises.txt lists each law, and the gate compares the list with the laws.
use Rattle.std.specs.Prelude.{ℕ, ◌≡◌, ◌+◌, ◌≤◌, ◌<◌, zero, suc, List, All}
use Rattle.std.specs.List.{filter, sum_by}
use Rattle.std.specs.Option.{is_some}
use Rattle.st_ledger.specs.Charges.{ticks_for, all_ticks}
use Rattle.st_ledger.specs.declared.charges.Stage.TheVariants.{Executing}
use Rattle.st_lines.specs.EntryLines.{charges_of_entry}
use Rattle.st_lines.specs.declared.facts.EntryDone.{EntryDone}
use Rattle.st_tally.specs.Headings.{headings}
use Rattle.st_tally.specs.Tally.{TalliedRow, card_of, reason_of, lost_by, rows_of_card, rows_for, lost_ticks}

-- the sum of a function over the numbers below n
unfoldable pub sum_below : (ℕ → ℕ) → ℕ → ℕ
sum_below f zero = 0
sum_below f (suc n) = sum_below f n + f n

-- If each row comes from a card below n, or from no card, the cards share the rows: the sums over
-- the rows of each card add up to the sum over all rows.
abbrev pub CardsShareTheRows : Type 0
CardsShareTheRows = (f : TalliedRow → ℕ) (n : ℕ) (xs : List TalliedRow) →
    All (λ x. card_of x < n) xs →
    sum_below (λ k. sum_by f (rows_of_card k xs)) n ≡ sum_by f xs

-- The headings share the rows that have a reason: the sums over the rows of each heading add up to
-- the sum over these rows.
abbrev pub HeadingsShareTheRowsWithReasons : Type 0
HeadingsShareTheRowsWithReasons = (f : TalliedRow → ℕ) (xs : List TalliedRow) →
    sum_by (λ h. sum_by f (rows_for h xs)) headings
    ≡ sum_by f (filter (λ x. is_some (reason_of x)) xs)

-- The headings share all lost ticks: rows without a reason lost none.
abbrev pub HeadingsShareTheLostTicks : Type 0
HeadingsShareTheLostTicks = (xs : List TalliedRow) →
    sum_by (λ h. lost_ticks (rows_for h xs)) headings ≡ lost_ticks xs

-- The ticks that an entry lost are those of its charges that are not of EXECUTING, if it is prepared
-- in its segment, and its operands are available then or later.
abbrev pub LostTicksAreThoseOfOtherStages : Type 0
LostTicksAreThoseOfOtherStages = (d : EntryDone) →
    d.start ≤ d.row.ticks.p → d.row.ticks.a ≤ d.row.ticks.p → d.row.ticks.p ≤ d.row.ticks.r →
    lost_by d + ticks_for Executing (charges_of_entry d) ≡ all_ticks (charges_of_entry d)
