-- The waits of a row are those of three of its stages.
use Rattle.st_lines.proofs.Common.{Bool, if◌then◌else◌, ◌≡◌, ℕ, ◌+◌, ◌-◌, ◌≤◌, max, true, false, inl, inr, List, [], refl, sym, ◌∙◌, ap, subst, arith, leb_tells, Use, StagePart, Stage, charges_behind, part_charges, parts_of_row, charge_waits, stage_waits, stalled_for, AreSharesWithin, AreWaitsWithin, WaitTotals, Stall, AddsWaits}
use Rattle.st_rows.specs.declared.issue.EntryTicks.{EntryTicks}
use Rattle.st_ledger.specs.declared.charges.Stage.TheVariants.{Restart, Instruction, Address, Index, Preparing, Operand, Executing}
use Rattle.st_ledger.specs.declared.sums.Shares.{Shares}
use Rattle.st_lines.proofs.WaitLemmas.{part_stalled, part_added, part_end, parts_taken, parts_passed, next_within}

shares-later : (t u : ℕ) (shares : Shares) → t ≤ u → AreSharesWithin t shares → AreSharesWithin u shares
shares-later t u shares low h = record {
  turn = omega (arith, low, h.turn);
  bank = omega (arith, low, h.bank);
  storage = omega (arith, low, h.storage);
}

pub waits-later : (t u : ℕ) (sums : WaitTotals) → t ≤ u → AreWaitsWithin t sums → AreWaitsWithin u sums
waits-later t u sums low h = record {
  instruction = shares-later t u sums.instruction low h.instruction;
  index = shares-later t u sums.index low h.index;
  operand = shares-later t u sums.operand low h.operand;
}

module _ (uses before : List Use) where
  either : (b : Bool) (n : ℕ) → n ≡ n + (if b then 0 else 0)
  either true n = omega arith
  either false n = omega arith

  -- a stage has no waits
  none-stalled : (r : Stage) (s : Stall) (t : ℕ) (x : StagePart) (n : ℕ) (b : Bool) → n ≡ n + (if b then stalled_for s [] else 0)
  unfolding stalled_for
  none-stalled r s t x n b = either b n

  unwaited : (t bound : ℕ) (x : StagePart) (sums : WaitTotals) → charge_waits (record { from = t; to = x.end; stage = x.stage }) uses before ≡ [] → bound ≡ max t x.end
      → AreWaitsWithin t sums → AddsWaits uses before t (part_charges t x) sums sums
  unwaited t bound x sums none top within = record {
    within = subst (λ m. AreWaitsWithin m sums) (sym (part_end t bound x top)) (waits-later t bound sums (omega (arith, top)) within);
    sums = λ r s parted.
        elim (leb_tells x.end t) [
          | inl p ↦ part_stalled r s uses before t x _ p.1
          | inr p ↦ part_added r s uses before t x [] _ _ (omega (arith, p.1)) (sym none) (none-stalled r s t x _ _)
        ];
  }

  pub row_waits : (from start : ℕ) (row : EntryTicks) (begun formed prepared : ℕ) (old one two new : WaitTotals) → AreWaitsWithin from old
      → begun ≡ max from start → AddsWaits uses before begun (part_charges begun (record { stage = Instruction; end = row.a - 1 })) old one
      → formed ≡ max (max begun (row.a - 1)) row.a → AddsWaits uses before formed (part_charges formed (record { stage = Index; end = row.p - 1 })) one two
      → prepared ≡ max (max formed (row.p - 1)) row.p → AddsWaits uses before prepared (part_charges prepared (record { stage = Operand; end = row.r })) two new
      → AddsWaits uses before from (charges_behind from (parts_of_row start row)) old new
  unfolding stage_waits
  row_waits from start row begun formed prepared old one two new within b first f second p third =
      let requested = max begun (row.a - 1) in
      let indexed = max formed (row.p - 1) in
      let read = max prepared row.r in
      let after_first : AreWaitsWithin requested one = next_within uses before begun requested _ old one refl first in
      let after_second : AreWaitsWithin indexed two = next_within uses before formed indexed _ one two refl second in
      let after_third : AreWaitsWithin read new = next_within uses before prepared read _ two new refl third in
      parts_taken uses before from begun (parts_of_row start row) _ (record { stage = Restart; end = start }) old old new refl b
      (unwaited from begun (record { stage = Restart; end = start }) old refl b within)
      (parts_taken uses before begun requested _ _ (record { stage = Instruction; end = row.a - 1 }) old one new refl refl first
      (parts_taken uses before requested formed _ _ (record { stage = Address; end = row.a }) one one new refl f
      (unwaited requested formed (record { stage = Address; end = row.a }) one refl f after_first)
      (parts_taken uses before formed indexed _ _ (record { stage = Index; end = row.p - 1 }) one two new refl refl second
      (parts_taken uses before indexed prepared _ _ (record { stage = Preparing; end = row.p }) two two new refl p
      (unwaited indexed prepared (record { stage = Preparing; end = row.p }) two refl p after_second)
      (parts_taken uses before prepared read _ _ (record { stage = Operand; end = row.r }) two new new refl refl third
      (parts_taken uses before read (max read row.c) _ [] (record { stage = Executing; end = row.c }) new new new refl refl
      (unwaited read (max read row.c) (record { stage = Executing; end = row.c }) new refl refl after_third)
      (parts_passed uses before (max read row.c) [] new refl (waits-later read (max read row.c) new (omega arith) after_third))))))))

  -- no total is greater than the tick at which the second or third of them begins
  pub ready_then : (t bound between end : ℕ) (x : StagePart) (old new : WaitTotals) → between ≡ max t x.end → bound ≡ max between end
      → AddsWaits uses before t (part_charges t x) old new → AreWaitsWithin bound new
  ready_then t bound between end x old new mid top is =
      waits-later (max t x.end) bound new (omega (arith, mid, top)) (next_within uses before t (max t x.end) x old new refl is)

  -- the ends of stages as the code computes them
  pub row_waits_by : (from start : ℕ) (row : EntryTicks) (begun requested late formed indexed due prepared : ℕ) (old one two new : WaitTotals) → AreWaitsWithin from old
      → begun ≡ max from start → requested ≡ row.a - 1
      → AddsWaits uses before begun (part_charges begun (record { stage = Instruction; end = requested })) old one
      → late ≡ max begun requested → formed ≡ max late row.a → indexed ≡ row.p - 1
      → AddsWaits uses before formed (part_charges formed (record { stage = Index; end = indexed })) one two
      → due ≡ max formed indexed → prepared ≡ max due row.p
      → AddsWaits uses before prepared (part_charges prepared (record { stage = Operand; end = row.r })) two new
      → AddsWaits uses before from (charges_behind from (parts_of_row start row)) old new
  row_waits_by from start row begun requested late formed indexed due prepared old one two new within b r first l f i second d p third =
      row_waits from start row begun formed prepared old one two new within b
      (subst (λ k. AddsWaits uses before begun (part_charges begun (record { stage = Instruction; end = k })) old one) r first)
      (f ∙ ap (λ k. max k row.a) l ∙ ap (λ k. max (max begun k) row.a) r)
      (subst (λ k. AddsWaits uses before formed (part_charges formed (record { stage = Index; end = k })) one two) i second)
      (p ∙ ap (λ k. max k row.p) d ∙ ap (λ k. max (max formed k) row.p) i)
      third
