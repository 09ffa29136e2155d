-- The names in a statement's expressions, and whether they are defined.
--
-- Proved: by their `ensures` clauses these calls do what definitions here say: `names_in`
-- (symbols.rt), `knows` (symbols.rt), `knows_all` (symbols.rt), `is_known` (naming.rt), and others.
-- Read by: definitions in Naming, Alone, Assembly, Stops, and others.
-- Laws: none names a definition of this file itself.
-- Change: the meaning is fixed by docs/strap.md, since the contracts of `st_top::stretch` and
-- `st_account::ledger` unfold to a definition here. The form is free, with the proofs that unfold
-- it.
use Rattle.std.specs.Prelude.{ℕ, Bool, true, List, [], ◌∷◌, map, Some, is_some}
use Rattle.std.specs.List.{list_all, list_any, filter_map}
use Rattle.arrayvec.specs.ArrayVec.{ArrayVec}
use Rattle.st_text.specs.Tables.{is_same, row_of}
use Rattle.st_expr.specs.declared.terms.Term.{Term}
use Rattle.st_expr.specs.declared.terms.Atom.{Atom}
use Rattle.st_expr.specs.declared.terms.Atom.TheVariants.{Number, Name}
use Rattle.st_strap.specs.Statements.{Statement}
use Rattle.st_strap.specs.declared.statement.Statement.TheVariants.{Half, Branch, Floating, Vfl, Connect, Move, BitBranch, IndBranch, StoreCounter, Transfer, IndexWord, Synonym, SetLocation, Reserve, End}
use Rattle.st_asm.specs.declared.line.ReadCard.{ReadCard}
use Rattle.st_asm.specs.declared.naming.Symbol.{Symbol}

-- symbols as a table from names to values
abbrev pub table : List Symbol → List (List ℕ × ℕ)
table symbols = map (λ s. (s.name, s.value)) symbols

-- the expressions of a statement
abbrev pub expressions : Statement → List (ArrayVec Term)
expressions (Half op j at) = at.expr ∷ []
expressions (Branch op (Some at)) = at.expr ∷ []
expressions (Floating number at) = at.expr ∷ []
expressions (Vfl op negated form at offset) = at.expr ∷ []
expressions (Connect kind truth form at offset) = at.expr ∷ []
expressions (Move swap at second count) = at.expr ∷ second ∷ []
expressions (BitBranch sense change at second) = at.expr ∷ second ∷ []
expressions (IndBranch sense off at second) = at.expr ∷ second ∷ []
expressions (StoreCounter at second) = at.expr ∷ second ∷ []
expressions (Transfer write at count) = at.expr ∷ []
expressions (IndexWord value count refill flags) = value ∷ refill ∷ []
expressions (Synonym at) = at ∷ []
expressions (SetLocation at) = at ∷ []
expressions (Reserve at) = at ∷ []
expressions (End at) = at ∷ []
expressions _ = []

-- whether a test accepts the name of a term; true for a number
abbrev pub accepts_atom : (List ℕ → Bool) → Atom → Bool
accepts_atom test (Number n) = true
accepts_atom test (Name name) = test name

-- whether a test accepts each name in an expression
abbrev pub accepts : (List ℕ → Bool) → List Term → Bool
accepts test terms = list_all (λ term. accepts_atom test term.atom) terms

-- whether a test accepts each name in a statement's expressions
unfoldable pub accepts_all : (List ℕ → Bool) → Statement → Bool
accepts_all test statement = list_all (λ e. accepts test e.items) (expressions statement)

-- whether a name is in a list
abbrev pub has_name : List (List ℕ) → List ℕ → Bool
has_name names name = list_any (λ other. is_same name other) names

-- whether a name is in a table
abbrev pub is_defined : List (List ℕ × ℕ) → List ℕ → Bool
is_defined symbols name = is_some (row_of name symbols)

-- the names that cards define
unfoldable pub names_of : List ReadCard → List (List ℕ)
names_of lines = filter_map (λ line. line.name) lines
