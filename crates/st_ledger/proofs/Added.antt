-- Lemmas on the ticks that a charge adds to the totals.
use Rattle.st_ledger.proofs.Common.{if◌then◌else◌, Result, Ok, Err, IsErr, ◌≡◌, ℕ, ◌+◌, ◌-◌, ◌≤◌, inl, inr, max, List, [], ◌∷◌, ◌++◌, refl, sym, ◌∙◌, ap, subst, arith, le-ltb, Charge, StagePart, Stage, Restart, Address, Preparing, Executing, charges_behind, part_charges, is_stage, ticks_for, ticks_of, all_ticks, sum_line}
use Rattle.st_io.specs.Output.{OutputState}
use Rattle.st_io.specs.declared.Failed.{Failed}
use Rattle.st_io.specs.Lines.{WritesLines}
use Rattle.st_io.proofs.Progress.{lines_then, lines_cut, wrote_nothing}
use Rattle.st_ledger.specs.declared.charges.Stage.TheVariants.{Instruction, Index, Operand}
use Rattle.st_ledger.specs.declared.totals.StageSum.{StageSum}
use Rattle.st_ledger.specs.declared.totals.Totals.{Totals}
use Rattle.st_ledger.specs.Totals.{sum_at, AreWithin, sums_by, sum_lines}
use Rattle.st_ledger.proofs.ChargeSums.{lt-cases}
use Rattle.st_ledger.proofs.Told.{charged-parts}
use Rattle.st_ledger.proofs.Runs.{ticks_for-append}

-- the totals with n more ticks for a stage
abbrev pub added : Stage → ℕ → Totals → Totals
added Restart n a = record a { restart = a.restart + n }
added Instruction n a = record a { instruction = a.instruction + n }
added Address n a = record a { address = a.address + n }
added Index n a = record a { index = a.index + n }
added Preparing n a = record a { preparing = a.preparing + n }
added Operand n a = record a { operand = a.operand + n }
added Executing n a = record a { executing = a.executing + n }

added-at : (s r : Stage) (n : ℕ) (a : Totals) → sum_at s (added r n a) ≡ sum_at s a + (if is_stage s r then n else 0)
added-at Restart Restart n a = refl
added-at Restart Instruction n a = omega arith
added-at Restart Address n a = omega arith
added-at Restart Index n a = omega arith
added-at Restart Preparing n a = omega arith
added-at Restart Operand n a = omega arith
added-at Restart Executing n a = omega arith
added-at Instruction Restart n a = omega arith
added-at Instruction Instruction n a = refl
added-at Instruction Address n a = omega arith
added-at Instruction Index n a = omega arith
added-at Instruction Preparing n a = omega arith
added-at Instruction Operand n a = omega arith
added-at Instruction Executing n a = omega arith
added-at Address Restart n a = omega arith
added-at Address Instruction n a = omega arith
added-at Address Address n a = refl
added-at Address Index n a = omega arith
added-at Address Preparing n a = omega arith
added-at Address Operand n a = omega arith
added-at Address Executing n a = omega arith
added-at Index Restart n a = omega arith
added-at Index Instruction n a = omega arith
added-at Index Address n a = omega arith
added-at Index Index n a = refl
added-at Index Preparing n a = omega arith
added-at Index Operand n a = omega arith
added-at Index Executing n a = omega arith
added-at Preparing Restart n a = omega arith
added-at Preparing Instruction n a = omega arith
added-at Preparing Address n a = omega arith
added-at Preparing Index n a = omega arith
added-at Preparing Preparing n a = refl
added-at Preparing Operand n a = omega arith
added-at Preparing Executing n a = omega arith
added-at Operand Restart n a = omega arith
added-at Operand Instruction n a = omega arith
added-at Operand Address n a = omega arith
added-at Operand Index n a = omega arith
added-at Operand Preparing n a = omega arith
added-at Operand Operand n a = refl
added-at Operand Executing n a = omega arith
added-at Executing Restart n a = omega arith
added-at Executing Instruction n a = omega arith
added-at Executing Address n a = omega arith
added-at Executing Index n a = omega arith
added-at Executing Preparing n a = omega arith
added-at Executing Operand n a = omega arith
added-at Executing Executing n a = refl

one-charge : (s r : Stage) (x : Charge) → x.stage ≡ r → ticks_for s (x ∷ []) ≡ (if is_stage s r then x.to - x.from else 0)
unfolding ticks_for
one-charge s r x is = ap (λ q. (if is_stage s q then ticks_of x else 0) + 0) is ∙ none-more (if is_stage s r then ticks_of x else 0)
  where
    none-more : (n : ℕ) → n + 0 ≡ n
    none-more n = omega arith

pub charge-added : (s r : Stage) (x : Charge) (a : Totals) → x.stage ≡ r
    → sum_at s (added r (x.to - x.from) a) ≡ sum_at s a + ticks_for s (x ∷ [])
charge-added s r x a is = added-at s r (x.to - x.from) a ∙ ap (λ n. sum_at s a + n) (sym (one-charge s r x is))

-- ---- a stage, and those behind it

pub part-none : (s : Stage) (t : ℕ) (x : StagePart) (n : ℕ) → x.end ≤ t → n ≡ n + ticks_for s (part_charges t x)
unfolding ticks_for
part-none s t x n past = rw (le-ltb t x.end past) (omega arith)

pub parts-none : (s : Stage) (t : ℕ) (parts : List StagePart) (n : ℕ) → parts ≡ [] → n ≡ n + ticks_for s (charges_behind t parts)
unfolding charges_behind ticks_for
parts-none s t parts n none = rw none (omega arith)

pub parts-more : (s : Stage) (t late : ℕ) (parts xs : List StagePart) (x : StagePart) (n m k : ℕ) → parts ≡ x ∷ xs → late ≡ max t x.end
    → m ≡ n + ticks_for s (part_charges t x) → k ≡ m + ticks_for s (charges_behind late xs) → k ≡ n + ticks_for s (charges_behind t parts)
parts-more s t late parts xs x n m k is top first rest =
    let all : ticks_for s (charges_behind t parts) ≡ ticks_for s (part_charges t x) + ticks_for s (charges_behind (max t x.end) xs) =
    ap (λ ps. ticks_for s (charges_behind t ps)) is
    ∙ ap (ticks_for s) (charged-parts t x xs)
    ∙ ticks_for-append s (part_charges t x) (charges_behind (max t x.end) xs) in
    let later : ticks_for s (charges_behind late xs) ≡ ticks_for s (charges_behind (max t x.end) xs) = ap (λ u. ticks_for s (charges_behind u xs)) top in
    omega (arith, all, later, first, rest)

-- so far the ticks of charges reach
all-append : (xs ys : List Charge) → all_ticks (xs ++ ys) ≡ all_ticks xs + all_ticks ys
unfolding all_ticks
all-append [] ys = omega arith
all-append (x ∷ xs) ys = omega (arith, all-append xs ys)

part-reach : (t : ℕ) (x : StagePart) → t + all_ticks (part_charges t x) ≡ max t x.end
unfolding all_ticks
part-reach t x = elim (lt-cases t x.end) [
  | inl y ↦ rw y.0 (omega (arith, y.1))
  | inr n ↦ rw n.0 (omega (arith, n.1))
]

pub reach-later : (t late : ℕ) (parts xs : List StagePart) (x : StagePart) → parts ≡ x ∷ xs → late ≡ max t x.end
    → late + all_ticks (charges_behind late xs) ≡ t + all_ticks (charges_behind t parts)
reach-later t late parts xs x is top =
    let all : all_ticks (charges_behind t parts) ≡ all_ticks (part_charges t x) + all_ticks (charges_behind (max t x.end) xs) =
    ap (λ ps. all_ticks (charges_behind t ps)) is
    ∙ ap all_ticks (charged-parts t x xs)
    ∙ all-append (part_charges t x) (charges_behind (max t x.end) xs) in
    let later : all_ticks (charges_behind late xs) ≡ all_ticks (charges_behind (max t x.end) xs) = ap (λ u. all_ticks (charges_behind u xs)) top in
    omega (arith, all, later, top, part-reach t x)

pub reach-end : (t : ℕ) (parts : List StagePart) → parts ≡ [] → t ≡ t + all_ticks (charges_behind t parts)
unfolding charges_behind all_ticks
reach-end t parts none = rw none (omega arith)

pub reach-more : (t late : ℕ) (parts xs : List StagePart) (x : StagePart) (a : Totals) → parts ≡ x ∷ xs → late ≡ max t x.end
    → AreWithin (late + all_ticks (charges_behind late xs)) a → AreWithin (t + all_ticks (charges_behind t parts)) a
reach-more t late parts xs x a is top within = subst (λ m. AreWithin m a) (reach-later t late parts xs x is top) within

-- ---- lines

lines-first : (sums xs : List StageSum) (x : StageSum) → sums ≡ x ∷ xs → sum_lines sums ≡ (sum_line x.stage x.ticks ∷ []) ++ sum_lines xs
unfolding sum_lines
lines-first sums xs x is = rw is refl

pub sums_cut : (s u : OutputState) (sums xs : List StageSum) (x : StageSum) (e : Failed) (r : Result (Unit {0}) Failed) → IsErr r → sums ≡ x ∷ xs
    → WritesLines s u (sum_line x.stage x.ticks ∷ []) (Err e) → WritesLines s u (sum_lines sums) r
sums_cut s u sums xs x e r f is h =
    subst (λ ls. WritesLines s u ls r) (sym (lines-first sums xs x is)) (lines_cut s u (sum_line x.stage x.ticks ∷ []) (sum_lines xs) e r f h)

pub sums_then : (s v u : OutputState) (sums xs : List StageSum) (x : StageSum) (o : Unit {0}) (r : Result (Unit {0}) Failed) → sums ≡ x ∷ xs
    → WritesLines s v (sum_line x.stage x.ticks ∷ []) (Ok o) → WritesLines v u (sum_lines xs) r → WritesLines s u (sum_lines sums) r
sums_then s v u sums xs x o r is h k =
    subst (λ ls. WritesLines s u ls r) (sym (lines-first sums xs x is)) (lines_then s v u (sum_line x.stage x.ticks ∷ []) (sum_lines xs) o r h k)

pub sums_none : (s : OutputState) (sums : List StageSum) (o : Unit {0}) → sums ≡ [] → WritesLines s s (sum_lines sums) (Ok o)
unfolding sum_lines
sums_none s sums o is = subst (λ xs. WritesLines s s (sum_lines xs) (Ok o)) (sym is) (record { ok = wrote_nothing s; err = tt })

-- totals of equal functions are equal
pub sums-same : (f g : Stage → ℕ) (ss : List Stage) → ((s : Stage) → f s ≡ g s) → sums_by f ss ≡ sums_by g ss
sums-same f g [] each = refl
sums-same f g (s ∷ ss) each =
    ap (λ n. record { stage = s; ticks = n } ∷ sums_by f ss) (each s)
    ∙ ap (λ xs. record { stage = s; ticks = g s } ∷ xs) (sums-same f g ss each)
