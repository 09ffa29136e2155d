-- Tables whose rows are looked up by a word.
--
-- Proved: by their `ensures` clauses these calls do what definitions here say: `row_of`
-- (tables.rt), `system_value` (system.rt of st_expr), `define` (values.rt of st_expr), `define_in`
-- (values.rt of st_expr), and others.
-- Read by: definitions in Symbols of st_asm, Meaning of st_object, Keywords of st_card, Term of
-- st_expr, and others.
-- Laws: SymbolsAgree (specs/Laws.antt of st_laws).
-- Change: the meaning is fixed by docs/strap.md, since the contracts of `st_top::stretch` and
-- `st_account::ledger` unfold to a definition here. The form is free, with the proofs that unfold
-- it.
use Rattle.std.specs.Prelude.{ℕ, Bool, nat_eq, List, map, Option}
use Rattle.std.specs.Cmp.Lexicographic.{pointwise}
use Rattle.std.specs.Map.{lookup}
use Rattle.std.specs.Borrow.{Bor}

-- whether two words are equal
abbrev pub is_same : List ℕ → List ℕ → Bool
is_same a b = pointwise nat_eq a b

module _ {T : Type 0} where
  -- the value of the first row with a word, None if there is none
  abbrev pub row_of : List ℕ → List (List ℕ × T) → Option T
  row_of word rows = lookup (λ key. is_same word key) rows

  -- the rows of a table of the code
  abbrev pub rows_of : List (Bor (List ℕ) × T) → List (List ℕ × T)
  rows_of rows = map (λ row. (row.0.now, row.1)) rows
