-- Lemmas on a whole ledger, part by part.
use Rattle.st_account.proofs.Common.{Result, Ok, Err, IsErr, ◌≡◌, ℕ, true, List, [], ◌++◌, refl, sym, subst, Machine, OutputState, Failed, WritesLines, lines_then, lines_cut, Scene, moment_at_start, Stage, Instruction, Index, Operand, is_parted, waited_at, wait_sums_by, WaitTotals, Stall, Turn, Bank, Storage, Totals, ticks_for, entries_of, all_charges, sum_at, stages, sums_by, sum_lines, machine_lines, Origin, end_from, ledger_totals, ledger_sums, tallied_of, dropped_of, table_lines, lines_from, totals_lines, stalled_from, wait_totals_lines, with_totals, ledger}
use Rattle.std.specs.Prelude.{Option}
use Rattle.st_lines.specs.WaitLines.{wait_sum_lines}
use Rattle.st_ledger.proofs.Added.{sums-same}

wait-sums-same : (f g : Stage → Stall → ℕ) → ((r : Stage) (s : Stall) → is_parted r ≡ true → f r s ≡ g r s) → wait_sums_by f ≡ wait_sums_by g
wait-sums-same f g same =
    rw (
      same Instruction Turn refl,
      same Instruction Bank refl,
      same Instruction Storage refl,
      same Index Bank refl,
      same Index Storage refl,
      same Operand Turn refl,
      same Operand Bank refl,
      same Operand Storage refl,
    ) refl

pub ledger-is : (origin : Machine → ℕ → Option Origin) (ds : List ℕ) (n left : ℕ) (c : Scene)
    → ledger origin ds n left c ≡ with_totals ds n left c (lines_from origin ds n left 0 c.machine [] (moment_at_start c))
unfolding ledger
ledger-is origin ds n left c = refl

pub sums-is : (ds : List ℕ) (n left : ℕ) (c : Scene) → ledger_totals ds n left c ≡ with_totals ds n left c (end_from ds n left (moment_at_start c))
unfolding ledger_totals
sums-is ds n left c = refl

-- the tables follow the totals
pub tables-behind : (o : Machine → ℕ → Option Origin) (ds : List ℕ) (n left cards : ℕ) (c : Scene) (s u : OutputState) (r : Result (Unit {0}) Failed)
    → WritesLines s u (ledger_totals ds n left c ++ table_lines cards (tallied_of o ds n left c) (dropped_of ds n left c)) r
    → WritesLines s u (ledger_sums o ds n left cards c) r
unfolding ledger_sums
tables-behind o ds n left cards c s u r h = h

module _ (all run_lines : List (List ℕ)) (ds : List ℕ) (n left : ℕ) (c : Scene) (is : all ≡ with_totals ds n left c run_lines) (s u : OutputState) (list : List ℕ)
    (same : list ≡ ds) where
  sums : List (List ℕ)
  sums = totals_lines (all_charges ds n (entries_of ds n left c))

  waits : List (List ℕ)
  waits = wait_totals_lines (λ r s. stalled_from r s ds n left [] (moment_at_start c))

  whole : (r : Result (Unit {0}) Failed) → WritesLines s u (((machine_lines ds n ++ run_lines) ++ sums) ++ waits) r → WritesLines s u all r
  unfolding sums waits
  whole r h = subst (λ ls. WritesLines s u ls r) (sym is) h

  machine : (v : OutputState) (r : Result (Unit {0}) Failed) → WritesLines s v (machine_lines list n) r → WritesLines s v (machine_lines ds n) r
  machine v r h = subst (λ xs. WritesLines s v (machine_lines xs n) r) same h

  -- the run is not written completely
  before-sums : (e : Failed) (r : Result (Unit {0}) Failed) → IsErr r → WritesLines s u (machine_lines ds n ++ run_lines) (Err e) → WritesLines s u all r
  before-sums e r f h =
      whole r (lines_cut s u ((machine_lines ds n ++ run_lines) ++ sums) waits e r f (lines_cut s u (machine_lines ds n ++ run_lines) sums e (Err e) refl h))

  pub machine-fails : (e : Failed) (r : Result (Unit {0}) Failed) → IsErr r → WritesLines s u (machine_lines list n) (Err e) → WritesLines s u all r
  machine-fails e r f h = before-sums e r f (lines_cut s u (machine_lines ds n) run_lines e (Err e) refl (machine u (Err e) h))

  pub run-fails : (v : OutputState) (x : Unit {0}) (e : Failed) (r : Result (Unit {0}) Failed) → IsErr r → WritesLines s v (machine_lines list n) (Ok x)
      → WritesLines v u run_lines (Err e) → WritesLines s u all r
  run-fails v x e r f h later = before-sums e r f (lines_then s v u (machine_lines ds n) run_lines x (Err e) (machine v (Ok x) h) later)

  -- the run is written completely
  module _ (v w : OutputState) (x y : Unit {0}) (h : WritesLines s v (machine_lines list n) (Ok x))
      (later : WritesLines v w run_lines (Ok y)) (totals : Totals)
      (each : (stage : Stage) → sum_at stage totals ≡ ticks_for stage (all_charges ds n (entries_of ds n left c))) where
    behind-run : (o : OutputState) (r : Result (Unit {0}) Failed) → WritesLines w o (sum_lines (sums_by (λ stage. sum_at stage totals) stages)) r
        → WritesLines s o ((machine_lines ds n ++ run_lines) ++ sums) r
    unfolding sums
    behind-run o r told =
        lines_then s w o (machine_lines ds n ++ run_lines) sums y r (lines_then s v w (machine_lines ds n) run_lines x (Ok y) (machine v (Ok x) h) later)
        (subst (λ xs. WritesLines w o (sum_lines xs) r)
        (sums-same (λ stage. sum_at stage totals) (λ stage. ticks_for stage (all_charges ds n (entries_of ds n left c))) stages each) told)

    pub sums-fail : (e : Failed) (r : Result (Unit {0}) Failed) → IsErr r → WritesLines w u (sum_lines (sums_by (λ stage. sum_at stage totals) stages)) (Err e)
        → WritesLines s u all r
    sums-fail e r f told = whole r (lines_cut s u ((machine_lines ds n ++ run_lines) ++ sums) waits e r f (behind-run u (Err e) told))

    pub all-written : (o : OutputState) (z : Unit {0}) (r : Result (Unit {0}) Failed) (waited : WaitTotals)
        → WritesLines w o (sum_lines (sums_by (λ stage. sum_at stage totals) stages)) (Ok z)
        → ((r : Stage) (s : Stall) → is_parted r ≡ true → waited_at r s waited ≡ stalled_from r s ds n left [] (moment_at_start c))
        → WritesLines o u (wait_sum_lines (wait_sums_by (λ r s. waited_at r s waited))) r → WritesLines s u all r
    unfolding waits
    all-written o z r waited told all last =
        whole r (lines_then s o u ((machine_lines ds n ++ run_lines) ++ sums) waits z r (behind-run o (Ok z) told)
        (subst (λ xs. WritesLines o u (wait_sum_lines xs) r)
        (wait-sums-same (λ r s. waited_at r s waited) (λ r s. stalled_from r s ds n left [] (moment_at_start c)) all) last))
