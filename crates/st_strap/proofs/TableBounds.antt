-- Properties that all rows of a table share.
use Rattle.st_strap.proofs.Common.{◌≡◌, ◌<◌, ℕ, List, [], ◌∷◌, true, false, cond, Option, Some, None, Result, subst, sym, lit<, IfSome, ok_or, IfOk, Fault, is_same, row_of, index_fields}

-- the values of all rows are below a bound
abbrev pub AllBelow : ℕ → List (List ℕ × ℕ) → Type 0
AllBelow most [] = Unit {0}
AllBelow most (row ∷ rows) = (row.1 < most) × AllBelow most rows

-- the value of the row that is found is below the bound
pub found_below : (most : ℕ) (word : List ℕ) (rows : List (List ℕ × ℕ)) → AllBelow most rows →
    IfSome (row_of word rows) (λ n. n < most)
found_below most word [] all = tt
found_below most word (row ∷ rows) all =
    elim (is_same word row.0) as (λ v. IfSome (cond v (Some row.1) (row_of word rows)) (λ n. n < most)) [
      | true ↦ all.0
      | false ↦ found_below most word rows all.1
    ]

-- an index field names one of the 16 index words
pub index_below : (field : List ℕ) → IfSome (row_of field index_fields) (λ j. j < 16)
unfolding index_fields
index_below field = found_below 16 field index_fields (
  lit< tt,
  (
    lit< tt,
    (
      lit< tt,
      (
        lit< tt,
        (
          lit< tt,
          (
            lit< tt,
            (
              lit< tt,
              (
                lit< tt,
                (lit< tt, (lit< tt, (lit< tt, (lit< tt, (lit< tt, (lit< tt, (lit< tt, (lit< tt, tt)))))))),
              ),
            ),
          ),
        ),
      ),
    ),
  ),
)

-- a reading that is a row of the index fields is below 16
pub reading_below : (field : List ℕ) (fault : Fault) (row : Option ℕ) (answer : Result ℕ Fault) → row ≡ row_of field index_fields →
    answer ≡ ok_or row fault → IfOk answer (λ j. j < 16)
reading_below field fault row answer is_row is_answer =
    let some : IfSome row (λ j. j < 16) =
    subst (λ (o : Option ℕ). IfSome o (λ j. j < 16)) (sym is_row) (index_below field) in
    let ok = λ (o : Option ℕ). IfOk (ok_or o fault) (λ j. j < 16) in
    let each : (o : Option ℕ) → IfSome o (λ j. j < 16) → ok o =
    λ o. elim o as (λ v. IfSome v (λ j. j < 16) → ok v) [ None ↦ λ h. tt | Some n ↦ λ h. h ] in
    subst (λ (r : Result ℕ Fault). IfOk r (λ j. j < 16)) (sym is_answer) (each row some)
