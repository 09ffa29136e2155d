-- No two rows of a segment complete at the same tick.
use Rattle.st_ledger.proofs.Common.{zero, suc, take, replicate, All, ◌≡◌, ℕ, ◌≤◌, ◌<◌, List, [], ◌∷◌, inl, inr, refl, ap, arith, get_or-take, cases_lt, length-take, All-head, All-tail, LastAnswers, no_runs, completion_of, issue_after_entry, tick_c, Past, Told, IsTold, issue_of}
use Rattle.std.specs.Prelude.{length}
use Rattle.st_ledger.proofs.CoverLaw.{past-within}

-- ---- the completion of one of some entries

within-each : (m : ℕ) (past : List Past) (k : ℕ) → All (λ (p : Past). p.c ≤ m) past → completion_of past k ≤ m
within-each m [] k all = omega arith
within-each m (x ∷ past) zero all = All-head (λ (p : Past). p.c ≤ m) x past all
within-each m (x ∷ past) (suc k) all = within-each m past k (All-tail (λ (p : Past). p.c ≤ m) x past all)

none-each : (k j : ℕ) → completion_of (replicate k (record { c = 0; writes = no_runs })) j ≡ 0
none-each zero j = refl
none-each (suc k) zero = refl
none-each (suc k) (suc j) = none-each k j

kept-each : (past : List Past) (k : ℕ) → k < 7 → completion_of (take 7 past) k ≡ completion_of past k
kept-each past k few = ap (λ (p : Past). p.c) (get_or-take 7 past k (record { c = 0; writes = no_runs }) few)

beyond-each : (past : List Past) (k : ℕ) → length past ≤ k → completion_of past k ≡ 0
beyond-each [] k long = refl
beyond-each (x ∷ past) zero long = let no : ⊥ = omega (arith, long) in absurd no
beyond-each (x ∷ past) (suc k) long = beyond-each past k (omega (arith, long))

gone-each : (past : List Past) (k : ℕ) → 7 ≤ k → completion_of (take 7 past) k ≡ 0
gone-each past k many = beyond-each (take 7 past) k (omega (arith, length-take 7 past, many))

-- ---- the segment

module _ (ds : List ℕ) (n : ℕ) (banks : LastAnswers) (start : ℕ) where
  pub done-apart : (rows : List Told) (i j : ℕ) → All IsTold rows → i < j → 1 ≤ completion_of (issue_of ds n banks start rows).past j
      → completion_of (issue_of ds n banks start rows).past j < completion_of (issue_of ds n banks start rows).past i
  unfolding issue_of issue_after_entry tick_c
  done-apart [] i j all order some = let no : ⊥ = omega (arith, some, none-each 8 j) in absurd no
  done-apart (x ∷ rows) i zero all order some = let no : ⊥ = omega (arith, order) in absurd no
  done-apart (x ∷ rows) zero (suc j) all order some =
      let f = issue_of ds n banks start rows in
      elim (cases_lt j 7) [
        | inr many ↦ let no : ⊥ = omega (arith, some, gone-each f.past j many) in absurd no
        | inl few ↦
            omega (
              arith,
              kept-each f.past j few,
              within-each f.c f.past j (past-within ds n banks start rows).each,
              (All-head IsTold x rows all).entry.costs.0,
            )
      ]
  done-apart (x ∷ rows) (suc i) (suc j) all order some =
      let f = issue_of ds n banks start rows in
      elim (cases_lt j 7) [
        | inr many ↦ let no : ⊥ = omega (arith, some, gone-each f.past j many) in absurd no
        | inl few ↦
            let before = kept-each f.past i (omega (arith, few, order)) in
            let after = kept-each f.past j few in
            omega (arith, before, after, done-apart rows i j (All-tail IsTold x rows all) (omega (arith, order)) (omega (arith, some, after)))
      ]
