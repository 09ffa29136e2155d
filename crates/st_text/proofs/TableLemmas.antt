-- The search of a table row by row.
use Rattle.st_text.proofs.Common.{◌≡◌, ◌<◌, ◌+◌, ℕ, suc, List, ◌∷◌, length, get_or, drop, Bool, true, false, cond, Some, ap, sym, ◌∙◌, drop-cons, add-one}
use Rattle.std.specs.Borrow.{Bor}
use Rattle.st_text.specs.Tables.{is_same, row_of, rows_of}

module _ {T : Type 0} where
  -- the remaining rows, from the first of them
  rows_left : (rows : List (Bor (List ℕ) × T)) (i : ℕ) (row : Bor (List ℕ) × T) → i < length rows →
      row ≡ get_or rows i row → drop i rows ≡ row ∷ drop (i + 1) rows
  rows_left rows i row within is_row =
      drop-cons rows i row within
      ∙ (ap (λ (r : Bor (List ℕ) × T). r ∷ drop (suc i) rows) (sym is_row)
      ∙ ap (λ n. row ∷ drop n rows) (sym (add-one i)))

  -- the row has the word
  pub row_found : (word : List ℕ) (rows : List (Bor (List ℕ) × T)) (i : ℕ) (row : Bor (List ℕ) × T) → i < length rows →
      row ≡ get_or rows i row → is_same word row.0.now ≡ true →
      row_of word (rows_of (drop i rows)) ≡ Some row.1
  row_found word rows i row within is_row same =
      ap (λ (rs : List (Bor (List ℕ) × T)). row_of word (rows_of rs)) (rows_left rows i row within is_row)
      ∙ ap (λ (b : Bool). cond b (Some row.1) (row_of word (rows_of (drop (i + 1) rows)))) same

  -- the row does not have the word
  pub row_passed : (word : List ℕ) (rows : List (Bor (List ℕ) × T)) (i : ℕ) (row : Bor (List ℕ) × T) → i < length rows →
      row ≡ get_or rows i row → is_same word row.0.now ≡ false →
      row_of word (rows_of (drop i rows)) ≡ row_of word (rows_of (drop (i + 1) rows))
  row_passed word rows i row within is_row other =
      ap (λ (rs : List (Bor (List ℕ) × T)). row_of word (rows_of rs)) (rows_left rows i row within is_row)
      ∙ ap (λ (b : Bool). cond b (Some row.1) (row_of word (rows_of (drop (i + 1) rows)))) other
