-- Lemmas on the ticks at which the charges of a row begin and end.
use Rattle.st_ledger.proofs.Common.{nat_le, nat_lt, All, ◌≡◌, ℕ, ◌+◌, ◌-◌, ◌≤◌, ◌<◌, inl, inr, true, List, [], ◌∷◌, refl, ◌∙◌, ap, arith, cond_both, leb-false, All-nil, All-cons, All-head, All-tail, EntryTicks, charges_behind, stage_at, parts_of_row, Charge, Stage, Restart, Address, Preparing, Executing, StagePart, is_parted}
use Rattle.st_ledger.specs.declared.charges.Stage.TheVariants.{Instruction as AtInstruction, Index as AtIndex, Operand as AtOperand}
use Rattle.st_ledger.proofs.ChargeSums.{lt-cases, charges-stages}

-- ---- where charges begin and end

-- the tick at which a stage of a row ends
unfoldable pub end_of : ℕ → EntryTicks → Stage → ℕ
end_of start row Restart = start
end_of start row AtInstruction = row.a - 1
end_of start row Address = row.a
end_of start row AtIndex = row.p - 1
end_of start row Preparing = row.p
end_of start row AtOperand = row.r
end_of start row Executing = row.c

unfoldable EndAt : (Stage → ℕ) → List StagePart → Type 0
EndAt e [] = Unit {0}
EndAt e (x ∷ xs) = (x.end ≡ e x.stage) × EndAt e xs

ends-of : (e : Stage → ℕ) (t : ℕ) (xs : List StagePart) → EndAt e xs → All (λ (c : Charge). (c.from < c.to) × (c.to ≡ e c.stage)) (charges_behind t xs)
unfolding charges_behind EndAt
ends-of e t [] all = All-nil (λ (c : Charge). (c.from < c.to) × (c.to ≡ e c.stage))
ends-of e t (x ∷ xs) all = elim (lt-cases t x.end) [
  | inl y ↦ rw y.0 (All-cons (λ (c : Charge). (c.from < c.to) × (c.to ≡ e c.stage)) _ _ (y.1, all.0) (ends-of e x.end xs all.1))
  | inr m ↦ rw m.0 (ends-of e t xs all.1)
]

pub row-ends : (t start : ℕ) (row : EntryTicks) → All (λ (c : Charge). (c.from < c.to) × (c.to ≡ end_of start row c.stage)) (charges_behind t (parts_of_row start row))
unfolding end_of EndAt
row-ends t start row = ends-of (end_of start row) t (parts_of_row start row) (refl, (refl, (refl, (refl, (refl, (refl, (refl, tt)))))))

pub index-after : (start : ℕ) (row : EntryTicks) (u : ℕ) → stage_at start row u ≡ AtIndex → row.a < u
unfolding stage_at
index-after start row u =
    cond_both (nat_le u start) _ _ (λ s. s ≡ AtIndex → row.a < u) (λ y is. absurd (cc))
    (λ m. cond_both (nat_lt u row.a) _ _ (λ s. s ≡ AtIndex → row.a < u) (λ y is. absurd (cc))
    (λ k. cond_both (nat_le u row.a) _ _ (λ s. s ≡ AtIndex → row.a < u) (λ y is. absurd (cc)) (λ j is. leb-false _ _ j)))

pub operand-after : (start : ℕ) (row : EntryTicks) (u : ℕ) → stage_at start row u ≡ AtOperand → row.p < u
unfolding stage_at
operand-after start row u =
    cond_both (nat_le u start) _ _ (λ s. s ≡ AtOperand → row.p < u) (λ y is. absurd (cc))
    (λ m. cond_both (nat_lt u row.a) _ _ (λ s. s ≡ AtOperand → row.p < u) (λ y is. absurd (cc))
    (λ k. cond_both (nat_le u row.a) _ _ (λ s. s ≡ AtOperand → row.p < u) (λ y is. absurd (cc))
    (λ j. cond_both (nat_lt u row.p) _ _ (λ s. s ≡ AtOperand → row.p < u) (λ y is. absurd (cc))
    (λ i. cond_both (nat_le u row.p) _ _ (λ s. s ≡ AtOperand → row.p < u) (λ y is. absurd (cc)) (λ h is. leb-false _ _ h)))))

-- ---- charges with waits begin when the previous entry completes, or later

not-empty : (t : ℕ) (xs : List StagePart) → All (λ (c : Charge). c.from < c.to) (charges_behind t xs)
unfolding charges_behind
not-empty t [] = All-nil (λ (c : Charge). c.from < c.to)
not-empty t (x ∷ xs) = elim (lt-cases t x.end) [
  | inl y ↦ rw y.0 (All-cons (λ (c : Charge). c.from < c.to) _ _ y.1 (not-empty x.end xs))
  | inr m ↦ rw m.0 (not-empty t xs)
]

stage-late : (start u : ℕ) (row : EntryTicks) (s : Stage) → stage_at start row u ≡ s → is_parted s ≡ true → start < u
unfolding stage_at
stage-late start u row s is parted =
    cond_both (nat_le u start) _ _ (λ r. r ≡ s → start < u)
    (λ y e. let no : is_parted Restart ≡ true = ap is_parted e ∙ parted in absurd (cc))
    (λ m e. leb-false _ _ m) is

pub both : {A : Type 0} (P Q R : A → Type 0) → ((a : A) → P a → Q a → R a) → (xs : List A) → All P xs → All Q xs → All R xs
both P Q R to [] p q = All-nil R
both P Q R to (x ∷ xs) p q =
    All-cons R x xs (to x (All-head P x xs p) (All-head Q x xs q)) (both P Q R to xs (All-tail P x xs p) (All-tail Q x xs q))

pub charges-late : (t start : ℕ) (row : EntryTicks) → All (λ (c : Charge). is_parted c.stage ≡ true → start ≤ c.from) (charges_behind t (parts_of_row start row))
charges-late t start row =
    both (λ (c : Charge). c.from < c.to) (λ (c : Charge). (u : ℕ) → c.from < u → u ≤ c.to → stage_at start row u ≡ c.stage)
    (λ (c : Charge). is_parted c.stage ≡ true → start ≤ c.from)
    (λ c some at parted. omega (arith, stage-late start (c.from + 1) row c.stage (at (c.from + 1) (omega arith) (omega (arith, some))) parted))
    (charges_behind t (parts_of_row start row)) (not-empty t (parts_of_row start row)) (charges-stages t start row)
