-- Lemmas on an entry that only executes.
use Rattle.st_tally.proofs.Common.{◌≡◌, ℕ, ◌+◌, ◌-◌, ◌≤◌, ◌<◌, true, List, [], ◌∷◌, refl, sym, ◌∙◌, ap, arith, le-ltb, lt-ltb, true≢false, Use, charges_behind, ticks_for, sum_at, StagePart, Charge, Stage, Restart, Instruction, Address, Index, Preparing, Operand, Executing, Totals, charge-added, charges_of_entry, EntryDone, row_stalled, is_parted, Stall, OnlyExecutes}

-- a stage that ended has no charge
ended : (t : ℕ) (x : StagePart) (xs : List StagePart) → x.end ≤ t → charges_behind t (x ∷ xs) ≡ charges_behind t xs
unfolding charges_behind
ended t x xs past = rw (le-ltb t x.end past) refl

-- the only charge
abbrev whole : EntryDone → Charge
whole d = record { from = d.before; to = d.row.ticks.c; stage = Executing }

charged : (t c : ℕ) → t < c → charges_behind t (record { stage = Executing; end = c } ∷ []) ≡ record { from = t; to = c; stage = Executing } ∷ []
unfolding charges_behind
charged t c later = rw (lt-ltb t c later) refl

pub only-charge : (d : EntryDone) → OnlyExecutes d → d.before < d.row.ticks.c → charges_of_entry d ≡ whole d ∷ []
only-charge d is later =
    let r = d.row.ticks in
    ended d.before (record { stage = Restart; end = d.start }) _ is.started
    ∙ ended d.before (record { stage = Instruction; end = r.a - 1 }) _ (omega (arith, is.formed))
    ∙ ended d.before (record { stage = Address; end = r.a }) _ is.formed
    ∙ ended d.before (record { stage = Index; end = r.p - 1 }) _ (omega (arith, is.prepared))
    ∙ ended d.before (record { stage = Preparing; end = r.p }) _ is.prepared
    ∙ ended d.before (record { stage = Operand; end = r.r }) _ is.ready
    ∙ charged d.before r.c later

-- the sums with the ticks of such an entry
pub executing-added : (s : Stage) (d : EntryDone) (a : Totals) → OnlyExecutes d → d.before < d.row.ticks.c
    → sum_at s (record a { executing = a.executing + (d.row.ticks.c - d.before) }) ≡ sum_at s a + ticks_for s (charges_of_entry d)
executing-added s d a is later = charge-added s Executing (whole d) a refl ∙ ap (λ xs. sum_at s a + ticks_for s xs) (sym (only-charge d is later))

-- such an entry has no waits
none-executing : (r : Stage) (s : Stall) (uses before : List Use) (x : Charge) → x.stage ≡ Executing → is_parted r ≡ true
    → row_stalled r s uses before (x ∷ []) ≡ 0
unfolding row_stalled
none-executing Restart s uses before x at parted = rw at refl
none-executing Instruction s uses before x at parted = rw at refl
none-executing Address s uses before x at parted = rw at refl
none-executing Index s uses before x at parted = rw at refl
none-executing Preparing s uses before x at parted = rw at refl
none-executing Operand s uses before x at parted = rw at refl
none-executing Executing s uses before x at parted = absurd (true≢false (sym parted))

pub executing-stalled : (r : Stage) (s : Stall) (uses before : List Use) (d : EntryDone) → OnlyExecutes d → d.before < d.row.ticks.c → is_parted r ≡ true
    → row_stalled r s uses before (charges_of_entry d) ≡ 0
executing-stalled r s uses before d is later parted =
    ap (row_stalled r s uses before) (only-charge d is later) ∙ none-executing r s uses before (whole d) refl parted
