-- Lemmas on the steps and marks of an axis, by the remaining rounds.
use Rattle.std.proofs.Common.{◌≡◌, ℕ, suc, zero, ◌+◌, ◌-◌, ◌*◌, ◌^◌, ◌≤◌, ◌<◌, [], ◌∷◌, List, refl, arith}
use Rattle.st_draw.specs.Axis.{lowest_tick, step_from, marks_from}
use Rattle.st_entries.specs.declared.timetable.DrawnEntry.{DrawnEntry}

-- no first tick is above the largest number
pub lowest_bound : (es : List DrawnEntry) → lowest_tick es ≤ 2 ^ 64 - 1
lowest_bound [] = omega arith
lowest_bound (e ∷ es) = omega (arith, lowest_bound es)

pub step_from-none : (n u s : ℕ) → n ≡ 0 → step_from n u s ≡ u
unfolding step_from
step_from-none zero u s e = refl
step_from-none (suc n) u s e = let no : ⊥ = omega arith in absurd no

pub step_from-one : (n u s : ℕ) → 0 < n → s ≤ 5 * u → step_from n u s ≡ u
unfolding step_from
step_from-one zero u s some a = let no : ⊥ = omega arith in absurd no
step_from-one (suc n) u s some a = grind arith

pub step_from-two : (n u s : ℕ) → 0 < n → 5 * u < s → s ≤ 10 * u → step_from n u s ≡ 2 * u
unfolding step_from
step_from-two zero u s some a b = let no : ⊥ = omega arith in absurd no
step_from-two (suc n) u s some a b = grind arith

pub step_from-five : (n u s : ℕ) → 0 < n → 10 * u < s → s ≤ 25 * u → step_from n u s ≡ 5 * u
unfolding step_from
step_from-five zero u s some a b = let no : ⊥ = omega arith in absurd no
step_from-five (suc n) u s some a b = let past : 5 * u < s = omega arith in grind arith

pub step_from-ten : (n u s : ℕ) → 0 < n → 25 * u < s → step_from n u s ≡ step_from (n - 1) (10 * u) s
unfolding step_from
step_from-ten zero u s some a = let no : ⊥ = omega arith in absurd no
step_from-ten (suc n) u s some a =
    let past : 5 * u < s = omega arith in
    let past' : 10 * u < s = omega arith in
    let less : suc n - 1 ≡ n = omega arith in
    rw less (grind arith)

pub marks_from-none : (n t step last : ℕ) → n ≡ 0 → marks_from n t step last ≡ []
unfolding marks_from
marks_from-none zero t step last e = refl
marks_from-none (suc n) t step last e = let no : ⊥ = omega arith in absurd no

pub marks_from-past : (n t step last : ℕ) → last < t → marks_from n t step last ≡ []
unfolding marks_from
marks_from-past zero t step last a = refl
marks_from-past (suc n) t step last a = grind arith

pub marks_from-more : (n t step last : ℕ) → 0 < n → t ≤ last
    → marks_from n t step last ≡ t ∷ marks_from (n - 1) (t + step) step last
unfolding marks_from
marks_from-more zero t step last some a = let no : ⊥ = omega arith in absurd no
marks_from-more (suc n) t step last some a = let less : suc n - 1 ≡ n = omega arith in rw less (grind arith)
