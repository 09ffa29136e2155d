-- Lemmas on writing charges with their waits in sequence.
use Rattle.st_lines.proofs.Common.{if◌then◌else◌, Result, Ok, Err, IsErr, ◌≡◌, ℕ, ◌+◌, ◌≤◌, ◌<◌, max, true, List, [], ◌∷◌, ◌++◌, refl, sym, ◌∙◌, ap, subst, append_assoc, arith, lt-ltb, le-ltb, append-nil, OutputState, Failed, WritesLines, lines_then, lines_cut, wrote_nothing, Use, StagePart, Stage, charges_behind, part_charges, is_stage, all_ticks, charge_line, charge_waits, stalled_for, row_stalled, is_parted, waited_at, AreWaitsWithin, all_stalled, WaitTotals, Stall, AddsWaits, wait_line, wait_lines, charged_lines, wait_sum_line, wait_sum_lines}
use Rattle.st_ledger.specs.declared.charges.Charge.{Charge}
use Rattle.st_ledger.proofs.Added.{reach-end, reach-later}
use Rattle.st_ledger.proofs.Told.{charged-parts}
use Rattle.st_ledger.specs.Words.{AreWordsInTime}
use Rattle.st_ledger.specs.declared.sums.WaitSum.{WaitSum}
use Rattle.st_ledger.specs.declared.waits.Wait.{Wait}
use Rattle.st_ledger.proofs.Laws.{waits_are_within_their_charge}

-- ---- waits in sequence

waits-first : (waits xs : List Wait) (x : Wait) → waits ≡ x ∷ xs → wait_lines waits ≡ (wait_line x ∷ []) ++ wait_lines xs
unfolding wait_lines
waits-first waits xs x is = rw is refl

pub waits_cut : (s u : OutputState) (waits xs : List Wait) (x : Wait) (e : Failed) (r : Result (Unit {0}) Failed) → IsErr r → waits ≡ x ∷ xs
    → WritesLines s u (wait_line x ∷ []) (Err e) → WritesLines s u (wait_lines waits) r
waits_cut s u waits xs x e r f is h =
    subst (λ ls. WritesLines s u ls r) (sym (waits-first waits xs x is)) (lines_cut s u (wait_line x ∷ []) (wait_lines xs) e r f h)

pub waits_then : (s v u : OutputState) (waits xs : List Wait) (x : Wait) (o : Unit {0}) (r : Result (Unit {0}) Failed) → waits ≡ x ∷ xs
    → WritesLines s v (wait_line x ∷ []) (Ok o) → WritesLines v u (wait_lines xs) r → WritesLines s u (wait_lines waits) r
waits_then s v u waits xs x o r is h k =
    subst (λ ls. WritesLines s u ls r) (sym (waits-first waits xs x is)) (lines_then s v u (wait_line x ∷ []) (wait_lines xs) o r h k)

pub waits_none : (s : OutputState) (waits : List Wait) (o : Unit {0}) → waits ≡ [] → WritesLines s s (wait_lines waits) (Ok o)
unfolding wait_lines
waits_none s waits o is = subst (λ xs. WritesLines s s (wait_lines xs) (Ok o)) (sym is) (record { ok = wrote_nothing s; err = tt })

-- ---- totals in sequence

sums-first : (sums xs : List WaitSum) (x : WaitSum) → sums ≡ x ∷ xs → wait_sum_lines sums ≡ (wait_sum_line x ∷ []) ++ wait_sum_lines xs
unfolding wait_sum_lines
sums-first sums xs x is = rw is refl

pub wait_sums_cut : (s u : OutputState) (sums xs : List WaitSum) (x : WaitSum) (e : Failed) (r : Result (Unit {0}) Failed) → IsErr r → sums ≡ x ∷ xs
    → WritesLines s u (wait_sum_line x ∷ []) (Err e) → WritesLines s u (wait_sum_lines sums) r
wait_sums_cut s u sums xs x e r f is h =
    subst (λ ls. WritesLines s u ls r) (sym (sums-first sums xs x is)) (lines_cut s u (wait_sum_line x ∷ []) (wait_sum_lines xs) e r f h)

pub wait_sums_then : (s v u : OutputState) (sums xs : List WaitSum) (x : WaitSum) (o : Unit {0}) (r : Result (Unit {0}) Failed) → sums ≡ x ∷ xs
    → WritesLines s v (wait_sum_line x ∷ []) (Ok o) → WritesLines v u (wait_sum_lines xs) r → WritesLines s u (wait_sum_lines sums) r
wait_sums_then s v u sums xs x o r is h k =
    subst (λ ls. WritesLines s u ls r) (sym (sums-first sums xs x is)) (lines_then s v u (wait_sum_line x ∷ []) (wait_sum_lines xs) o r h k)

pub wait_sums_none : (s : OutputState) (sums : List WaitSum) (o : Unit {0}) → sums ≡ [] → WritesLines s s (wait_sum_lines sums) (Ok o)
unfolding wait_sum_lines
wait_sums_none s sums o is = subst (λ xs. WritesLines s s (wait_sum_lines xs) (Ok o)) (sym is) (record { ok = wrote_nothing s; err = tt })

-- ---- the charge of a stage

pub part_left : (s : OutputState) (uses before : List Use) (t : ℕ) (x : StagePart) (o : Unit {0}) → x.end ≤ t
    → WritesLines s s (charged_lines uses before (part_charges t x)) (Ok o)
unfolding charged_lines
part_left s uses before t x o past = rw (le-ltb t x.end past) (record { ok = wrote_nothing s; err = tt })

-- the tick at which the charge of a stage ends
pub part_end : (t bound : ℕ) (x : StagePart) → bound ≡ max t x.end → t + all_ticks (part_charges t x) ≡ bound
unfolding charges_behind all_ticks
part_end t bound x top =
    let none : bound + 0 ≡ bound = omega arith in
    sym (reach-later t bound (x ∷ []) [] x refl top) ∙ none

pub part_stalled : (r : Stage) (s : Stall) (uses before : List Use) (t : ℕ) (x : StagePart) (n : ℕ) → x.end ≤ t
    → n ≡ n + row_stalled r s uses before (part_charges t x)
unfolding row_stalled
part_stalled r s uses before t x n past = rw (le-ltb t x.end past) (omega arith)

charge-lines : (uses before : List Use) (t : ℕ) (x : StagePart) (c : Charge) → t < x.end → c ≡ record { from = t; to = x.end; stage = x.stage }
    → charged_lines uses before (part_charges t x) ≡ charge_line c ∷ wait_lines (charge_waits c uses before)
unfolding charged_lines
charge-lines uses before t x c early is = rw (lt-ltb t x.end early, is) (append-nil _)

pub part_told : (s u : OutputState) (uses before : List Use) (t : ℕ) (x : StagePart) (c : Charge) (waits : List Wait) (r : Result (Unit {0}) Failed)
    → t < x.end → c ≡ record { from = t; to = x.end; stage = x.stage } → waits ≡ charge_waits c uses before
    → WritesLines s u (charge_line c ∷ wait_lines waits) r → WritesLines s u (charged_lines uses before (part_charges t x)) r
part_told s u uses before t x c waits r early is waits_is h =
    subst (λ ls. WritesLines s u ls r) (ap (λ ws. charge_line c ∷ wait_lines ws) waits_is ∙ sym (charge-lines uses before t x c early is)) h

pub part_added : (r : Stage) (s : Stall) (uses before : List Use) (t : ℕ) (x : StagePart) (waits : List Wait) (n m : ℕ) → t < x.end
    → waits ≡ charge_waits (record { from = t; to = x.end; stage = x.stage }) uses before
    → m ≡ n + (if is_stage r x.stage then stalled_for s waits else 0)
    → m ≡ n + row_stalled r s uses before (part_charges t x)
unfolding row_stalled
part_added r s uses before t x waits n m early waits_is h =
    h ∙ rw (lt-ltb t x.end early, sym waits_is) (omega arith)

pub part_passed : (uses before : List Use) (t : ℕ) (x : StagePart) (sums : WaitTotals) → x.end ≤ t → AreWaitsWithin t sums
    → AddsWaits uses before t (part_charges t x) sums sums
part_passed uses before t x sums past within = record {
  within = subst (λ m. AreWaitsWithin m sums) (sym (part_end t t x (omega (arith, past)))) within;
  sums = λ r s parted. part_stalled r s uses before t x _ past;
}

pub part_taken : (uses before : List Use) (t : ℕ) (x : StagePart) (waits : List Wait) (old new : WaitTotals) → t < x.end
    → waits ≡ charge_waits (record { from = t; to = x.end; stage = x.stage }) uses before → AreWaitsWithin x.end new
    → ((r : Stage) (s : Stall) → is_parted r ≡ true → waited_at r s new ≡ waited_at r s old + (if is_stage r x.stage then stalled_for s waits else 0))
    → AddsWaits uses before t (part_charges t x) old new
part_taken uses before t x waits old new early waits_is within sums = record {
  within = subst (λ m. AreWaitsWithin m new) (sym (part_end t x.end x (omega (arith, early)))) within;
  sums = λ r s parted. part_added r s uses before t x waits _ _ early waits_is (sums r s parted);
}

pub part_few : (uses before : List Use) (t : ℕ) (x : StagePart) (waits : List Wait) → t < x.end → AreWordsInTime uses → AreWordsInTime before
    → waits ≡ charge_waits (record { from = t; to = x.end; stage = x.stage }) uses before → t + all_stalled waits ≤ x.end
part_few uses before t x waits early new old is =
    omega (arith, early, ap all_stalled is, waits_are_within_their_charge (record { from = t; to = x.end; stage = x.stage }) uses before new.each old.each)

-- ---- the charges of the remaining stages

charged-append : (uses before : List Use) (xs ys : List Charge)
    → charged_lines uses before (xs ++ ys) ≡ charged_lines uses before xs ++ charged_lines uses before ys
unfolding charged_lines
charged-append uses before [] ys = refl
charged-append uses before (x ∷ xs) ys =
    ap (λ ls. (charge_line x ∷ wait_lines (charge_waits x uses before)) ++ ls) (charged-append uses before xs ys)
    ∙ sym (append_assoc (charge_line x ∷ wait_lines (charge_waits x uses before)) (charged_lines uses before xs) (charged_lines uses before ys))

charged-first : (uses before : List Use) (t : ℕ) (parts : List StagePart) (x : StagePart) (xs : List StagePart) → parts ≡ x ∷ xs
    → charged_lines uses before (charges_behind t parts)
    ≡ charged_lines uses before (part_charges t x) ++ charged_lines uses before (charges_behind (max t x.end) xs)
charged-first uses before t parts x xs is =
    ap (λ ps. charged_lines uses before (charges_behind t ps)) is
    ∙ ap (charged_lines uses before) (charged-parts t x xs)
    ∙ charged-append uses before (part_charges t x) (charges_behind (max t x.end) xs)

pub charged_cut : (s u : OutputState) (uses before : List Use) (t : ℕ) (parts : List StagePart) (x : StagePart) (xs : List StagePart) (e : Failed) (r : Result (Unit {0}) Failed)
    → IsErr r → parts ≡ x ∷ xs → WritesLines s u (charged_lines uses before (part_charges t x)) (Err e)
    → WritesLines s u (charged_lines uses before (charges_behind t parts)) r
charged_cut s u uses before t parts x xs e r f is h =
    subst (λ ls. WritesLines s u ls r) (sym (charged-first uses before t parts x xs is))
    (lines_cut s u (charged_lines uses before (part_charges t x)) (charged_lines uses before (charges_behind (max t x.end) xs)) e r f h)

pub charged_then : (s v u : OutputState) (uses before : List Use) (t bound : ℕ) (parts : List StagePart) (x : StagePart) (xs : List StagePart) (o : Unit {0})
    (r : Result (Unit {0}) Failed) → parts ≡ x ∷ xs → bound ≡ max t x.end
    → WritesLines s v (charged_lines uses before (part_charges t x)) (Ok o)
    → WritesLines v u (charged_lines uses before (charges_behind bound xs)) r
    → WritesLines s u (charged_lines uses before (charges_behind t parts)) r
charged_then s v u uses before t bound parts x xs o r is top h k =
    subst (λ ls. WritesLines s u ls r) (sym (charged-first uses before t parts x xs is))
    (lines_then s v u (charged_lines uses before (part_charges t x)) (charged_lines uses before (charges_behind (max t x.end) xs)) o r h
    (subst (λ n. WritesLines v u (charged_lines uses before (charges_behind n xs)) r) top k))

pub charged_none : (s : OutputState) (uses before : List Use) (t : ℕ) (parts : List StagePart) (o : Unit {0}) → parts ≡ []
    → WritesLines s s (charged_lines uses before (charges_behind t parts)) (Ok o)
unfolding charges_behind charged_lines
charged_none s uses before t parts o is =
    subst (λ ps. WritesLines s s (charged_lines uses before (charges_behind t ps)) (Ok o)) (sym is) (record { ok = wrote_nothing s; err = tt })

stalled-append : (r : Stage) (s : Stall) (uses before : List Use) (xs ys : List Charge)
    → row_stalled r s uses before (xs ++ ys) ≡ row_stalled r s uses before xs + row_stalled r s uses before ys
unfolding row_stalled
stalled-append r s uses before [] ys = omega arith
stalled-append r s uses before (x ∷ xs) ys = omega (arith, stalled-append r s uses before xs ys)

stalled_more : (r : Stage) (s : Stall) (uses before : List Use) (t bound : ℕ) (parts xs : List StagePart) (x : StagePart) (n m k : ℕ) → parts ≡ x ∷ xs
    → bound ≡ max t x.end → m ≡ n + row_stalled r s uses before (part_charges t x)
    → k ≡ m + row_stalled r s uses before (charges_behind bound xs) → k ≡ n + row_stalled r s uses before (charges_behind t parts)
stalled_more r s uses before t bound parts xs x n m k is top first rest =
    let all : row_stalled r s uses before (charges_behind t parts)
    ≡ row_stalled r s uses before (part_charges t x) + row_stalled r s uses before (charges_behind (max t x.end) xs) =
    ap (λ ps. row_stalled r s uses before (charges_behind t ps)) is
    ∙ ap (row_stalled r s uses before) (charged-parts t x xs)
    ∙ stalled-append r s uses before (part_charges t x) (charges_behind (max t x.end) xs) in
    let later : row_stalled r s uses before (charges_behind bound xs) ≡ row_stalled r s uses before (charges_behind (max t x.end) xs) =
    ap (λ u. row_stalled r s uses before (charges_behind u xs)) top in
    omega (arith, all, later, first, rest)

stalled_none : (r : Stage) (s : Stall) (uses before : List Use) (t : ℕ) (parts : List StagePart) (n : ℕ) → parts ≡ []
    → n ≡ n + row_stalled r s uses before (charges_behind t parts)
unfolding charges_behind row_stalled
stalled_none r s uses before t parts n is = rw is (omega arith)

pub parts_passed : (uses before : List Use) (t : ℕ) (parts : List StagePart) (sums : WaitTotals) → parts ≡ [] → AreWaitsWithin t sums
    → AddsWaits uses before t (charges_behind t parts) sums sums
parts_passed uses before t parts sums is within = record {
  within = subst (λ m. AreWaitsWithin m sums) (reach-end t parts is) within;
  sums = λ r s parted. stalled_none r s uses before t parts _ is;
}

pub parts_taken : (uses before : List Use) (t bound : ℕ) (parts xs : List StagePart) (x : StagePart) (old mid new : WaitTotals) → parts ≡ x ∷ xs → bound ≡ max t x.end
    → AddsWaits uses before t (part_charges t x) old mid → AddsWaits uses before bound (charges_behind bound xs) mid new
    → AddsWaits uses before t (charges_behind t parts) old new
parts_taken uses before t bound parts xs x old mid new is top first rest = record {
  within = subst (λ m. AreWaitsWithin m new) (reach-later t bound parts xs x is top) rest.within;
  sums = λ r s parted. stalled_more r s uses before t bound parts xs x _ _ _ is top (first.sums r s parted) (rest.sums r s parted);
}

-- no total is greater than the tick at which the next charges begin
pub next_within : (uses before : List Use) (t bound : ℕ) (x : StagePart) (old new : WaitTotals) → bound ≡ max t x.end
    → AddsWaits uses before t (part_charges t x) old new → AreWaitsWithin bound new
next_within uses before t bound x old new top is = subst (λ m. AreWaitsWithin m new) (part_end t bound x top) is.within
