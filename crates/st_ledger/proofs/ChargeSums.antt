-- Lemmas on ticks that are charged to consecutive stages.
use Rattle.st_ledger.proofs.Common.{nat_lt, nat_le, if◌then◌else◌, Bool, All, ◌≡◌, ℕ, ◌+◌, ◌-◌, ◌<◌, ◌≤◌, ◌⊎◌, inl, inr, max, true, false, List, [], ◌∷◌, ◌++◌, refl, ◌∙◌, arith, cases_Bool, ltb-true, ltb-false, le-leb, lt-leb, nat_tests, All-nil, All-cons, All-weaker, Charge, StagePart, Stage, EntryTicks, Restart, Address, Preparing, Executing, stage_at, parts_of_row, charges_behind, is_stage, all_ticks, ticks_for, Follow}
use Rattle.st_ledger.specs.declared.charges.Stage.TheVariants.{Instruction, Index, Operand}

-- a tick is before another, or it is not
pub lt-cases : (a t : ℕ) → ((nat_lt a t ≡ true) × (a < t)) ⊎ ((nat_lt a t ≡ false) × (t ≤ a))
lt-cases a t = elim (cases_Bool (nat_lt a t)) [ inl y ↦ inl (y, ltb-true a t y) | inr n ↦ inr (n, ltb-false a t n) ]

-- the latest of a tick and of the ends of stages
unfoldable pub reach : ℕ → List StagePart → ℕ
reach t [] = t
reach t (x ∷ xs) = reach (max t x.end) xs

-- ---- charges are consecutive

pub charged-follow : (t : ℕ) (xs : List StagePart) → Follow t (reach t xs) (charges_behind t xs)
unfolding charges_behind reach Follow
charged-follow t [] = refl
charged-follow t (x ∷ xs) = elim (lt-cases t x.end) [
  | inl y ↦
      let top : max t x.end ≡ x.end = omega (arith, y.1) in
      rw (y.0, top) (refl, y.1, charged-follow x.end xs)
  | inr n ↦
      let top : max t x.end ≡ t = omega (arith, n.1) in
      rw (n.0, top) (charged-follow t xs)
]

pub follow-sum : (t c : ℕ) (xs : List Charge) → Follow t c xs → t + all_ticks xs ≡ c
unfolding all_ticks Follow
follow-sum t c [] h = omega (arith, h)
follow-sum t c (x ∷ xs) h =
    let rest : x.to + all_ticks xs ≡ c = follow-sum x.to c xs h.2 in
    omega (arith, rest, h.0, h.1)

-- ---- the last stage

last-alone : (t : ℕ) (x : StagePart) → is_stage x.stage x.stage ≡ true → ticks_for x.stage (charges_behind t (x ∷ [])) ≡ x.end - t
unfolding charges_behind ticks_for
last-alone t x own = elim (lt-cases t x.end) [
  | inl y ↦ rw (y.0, own) (omega arith)
  | inr n ↦ rw n.0 (omega (arith, n.1))
]

-- none of these stages is the given one
unfoldable pub AreOthers : Stage → List StagePart → Type 0
AreOthers s [] = Unit {0}
AreOthers s (x ∷ xs) = (is_stage s x.stage ≡ false) × AreOthers s xs

pub charged-last : (t : ℕ) (xs : List StagePart) (x : StagePart) → is_stage x.stage x.stage ≡ true → AreOthers x.stage xs
    → ticks_for x.stage (charges_behind t (xs ++ x ∷ [])) ≡ x.end - reach t xs
unfolding charges_behind reach ticks_for AreOthers
charged-last t [] x own others = last-alone t x own
charged-last t (y ∷ ys) x own others =
    elim (lt-cases t y.end) [
      | inl l ↦
          let top : max t y.end ≡ y.end = omega (arith, l.1) in
          let rest = charged-last y.end ys x own others.1 in
          rw (l.0, top, others.0) (omega (arith, rest))
      | inr n ↦
          let top : max t y.end ≡ t = omega (arith, n.1) in
          rw (n.0, top) (charged-last t ys x own others.1)
    ]

-- ---- the first stage

charged-none : (s : Stage) (t : ℕ) (xs : List StagePart) → AreOthers s xs → ticks_for s (charges_behind t xs) ≡ 0
unfolding charges_behind ticks_for AreOthers
charged-none s t [] others = refl
charged-none s t (x ∷ xs) others = elim (lt-cases t x.end) [
  | inl y ↦
      let rest = charged-none s x.end xs others.1 in
      rw (y.0, others.0) (omega (arith, rest))
  | inr n ↦ rw n.0 (charged-none s t xs others.1)
]

pub charged-first : (t : ℕ) (x : StagePart) (xs : List StagePart) → is_stage x.stage x.stage ≡ true → AreOthers x.stage xs
    → ticks_for x.stage (charges_behind t (x ∷ xs)) ≡ x.end - t
unfolding charges_behind ticks_for
charged-first t x xs own others = elim (lt-cases t x.end) [
  | inl y ↦
      let rest = charged-none x.stage x.end xs others in
      rw (y.0, own) (omega (arith, rest))
  | inr n ↦
      let rest = charged-none x.stage t xs others in
      rw n.0 (omega (arith, rest, n.1))
]

-- ---- the stage of a tick

-- the first of the stages that has not ended before tick u
unfoldable pub first_at : ℕ → Stage → List StagePart → Stage
first_at u last [] = last
first_at u last (x ∷ xs) = if nat_le u x.end then x.stage else first_at u last xs

first-passed : (u : ℕ) (last : Stage) (x : StagePart) (xs : List StagePart) → x.end < u → first_at u last (x ∷ xs) ≡ first_at u last xs
unfolding first_at
first-passed u last x xs late = rw (lt-leb u x.end late) refl

-- a charge begins at a tick or later, and its ticks belong to its stage
HasStage : Stage → ℕ → List StagePart → Charge → Type 0
HasStage last t xs y = (t ≤ y.from) × ((u : ℕ) → y.from < u → u ≤ y.to → first_at u last xs ≡ y.stage)

behind-stage : (last : Stage) (t from : ℕ) (x : StagePart) (xs : List StagePart) (y : Charge) → t ≤ from → x.end ≤ from → HasStage last from xs y
    → HasStage last t (x ∷ xs) y
unfolding HasStage
behind-stage last t from x xs y later past h =
    (omega (arith, h.0), λ u after to. first-passed u last x xs (omega (arith, h.0)) ∙ h.1 u after to)

own-stage : (last : Stage) (t : ℕ) (x : StagePart) (xs : List StagePart) → HasStage last t (x ∷ xs) (record { from = t; to = x.end; stage = x.stage })
unfolding HasStage first_at
own-stage last t x xs = (omega arith, λ u after to. rw (le-leb u x.end to) refl)

charged-stages : (last : Stage) (t : ℕ) (xs : List StagePart) → All (HasStage last t xs) (charges_behind t xs)
unfolding charges_behind
charged-stages last t [] = All-nil (HasStage last t [])
charged-stages last t (x ∷ xs) = elim (lt-cases t x.end) [
  | inl y ↦
      let here : HasStage last t (x ∷ xs) (record { from = t; to = x.end; stage = x.stage }) = own-stage last t x xs in
      rw y.0 (All-cons (HasStage last t (x ∷ xs)) _ _ here
      (All-weaker (HasStage last x.end xs) (HasStage last t (x ∷ xs)) (λ z h. behind-stage last t x.end x xs z (omega (arith, y.1)) (omega arith) h)
      (charges_behind x.end xs) (charged-stages last x.end xs)))
  | inr n ↦
      rw n.0 (All-weaker (HasStage last t xs) (HasStage last t (x ∷ xs)) (λ z h. behind-stage last t t x xs z (omega arith) n.1 h)
      (charges_behind t xs) (charged-stages last t xs))
]

-- the ticks belong to the stage of the row
below-le : (u a : ℕ) → 1 ≤ u → nat_lt u a ≡ nat_le u (a - 1)
below-le u a some = grind (arith, nat_tests)

last-either : (b : Bool) (start : ℕ) (row : EntryTicks) (u : ℕ) →
    (if nat_le u start then Restart else if nat_le u (row.a - 1) then Instruction else if nat_le u row.a then Address
    else if nat_le u (row.p - 1) then Index else if nat_le u row.p then Preparing else if nat_le u row.r then Operand else Executing)
    ≡ (if nat_le u start then Restart else if nat_le u (row.a - 1) then Instruction else if nat_le u row.a then Address
    else if nat_le u (row.p - 1) then Index else if nat_le u row.p then Preparing else if nat_le u row.r then Operand
    else if b then Executing else Executing)
last-either true start row u = refl
last-either false start row u = refl

stage-first : (start : ℕ) (row : EntryTicks) (u : ℕ) → 1 ≤ u → stage_at start row u ≡ first_at u Executing (parts_of_row start row)
unfolding stage_at first_at
stage-first start row u some = rw (below-le u row.a some, below-le u row.p some) (last-either (nat_le u row.c) start row u)

pub charges-stages : (t start : ℕ) (row : EntryTicks)
    → All (λ (x : Charge). (u : ℕ) → x.from < u → u ≤ x.to → stage_at start row u ≡ x.stage) (charges_behind t (parts_of_row start row))
unfolding HasStage
charges-stages t start row =
    All-weaker (HasStage Executing t (parts_of_row start row)) (λ (x : Charge). (u : ℕ) → x.from < u → u ≤ x.to → stage_at start row u ≡ x.stage)
    (λ x h u after to. stage-first start row u (omega arith) ∙ h.1 u after to)
    (charges_behind t (parts_of_row start row)) (charged-stages Executing t (parts_of_row start row))
