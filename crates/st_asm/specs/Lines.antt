-- A card as the form pass hands it to the later passes: its number, its name and its statement.
--
-- Proved: by their `ensures` clauses these calls do what definitions here say: `name_field`
-- (line.rt), `name_in` (line.rt), `silent` (line.rt), `statement_field` (line.rt).
-- Read by: definitions in Forming, Stops.
-- Laws: none names a definition of this file itself.
-- Change: the meaning is fixed by docs/strap.md, since the contracts of `st_top::stretch` and
-- `st_account::ledger` unfold to a definition here. The form is free, with the proofs that unfold
-- it.
use Rattle.std.specs.Prelude.{ℕ, List, [], ◌∷◌, take, drop, Option, Some, None}
use Rattle.st_text.specs.Blanks.{without_front_blanks, without_end_blanks}
use Rattle.st_expr.specs.Name.{padded_name}
use Rattle.st_strap.specs.Statements.{Statement}
use Rattle.st_asm.specs.declared.line.ReadCard.{ReadCard}

-- the name of a statement card: columns 2 to 9 without the blanks at both ends
unfoldable pub name_field : List ℕ → List ℕ
name_field text = without_end_blanks (without_front_blanks (take 8 (drop 1 text)))

-- the statement of a statement card: columns 10 to 72
unfoldable pub statement_field : List ℕ → List ℕ
statement_field text = drop 9 (take 72 text)

-- the name in a field, padded with blanks to eight bytes; None for an empty field
unfoldable pub name_in : List ℕ → Option (List ℕ)
name_in [] = None
name_in (c ∷ cs) = Some (padded_name (c ∷ cs))

-- a card without a name and statement: a comment or a control card
abbrev pub silent_line : ℕ → ReadCard
silent_line card = record { card = card; name = None; statement = None }

-- a statement card with its number, name and statement
abbrev pub saying : ℕ → Option (List ℕ) → Statement → ReadCard
saying card name statement = record { card = card; name = name; statement = Some statement }
