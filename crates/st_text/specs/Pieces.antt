-- A text split at a byte.
--
-- Proved: by their `ensures` clauses these calls do what definitions here say: `cut` (pieces.rt),
-- `first_word` (words.rt), `first_line` (cards.rt of st_card), `without_return` (cards.rt of
-- st_card), and others.
-- Read by: definitions in Cards of st_card, Controls of st_card, Keywords of st_card, Term of
-- st_expr, and others.
-- Laws: CardsAreLines (specs/Laws.antt of st_dis), OneExecutesAtATick (specs/Laws.antt of
-- st_entries).
-- Change: the meaning is fixed by docs/strap.md, since the contracts of `st_top::stretch` and
-- `st_account::ledger` and `st_draw::draw` unfold to a definition here. The form is free, with the
-- proofs that unfold it.
use Rattle.std.specs.Prelude.{◌≡◌, ◌≤◌, ◌-◌, ℕ, ◌==◌, Bool, not, List, [], ◌∷◌, length, take, drop, filter, if◌then◌else◌}
use Rattle.std.specs.List.{list_all}
use Rattle.st_text.specs.Bytes.{blank}
use Rattle.st_text.specs.Number.{is_filled}

-- the pieces with a byte put before the first one
abbrev pub onto_first : ℕ → List (List ℕ) → List (List ℕ)
onto_first c [] = (c ∷ []) ∷ []
onto_first c (piece ∷ pieces) = (c ∷ piece) ∷ pieces

-- the pieces of a text between the occurrences of a byte
abbrev pub pieces_of : ℕ → List ℕ → List (List ℕ)
pieces_of at [] = [] ∷ []
pieces_of at (c ∷ cs) = if c == at then [] ∷ pieces_of at cs else onto_first c (pieces_of at cs)

-- whether a text does not contain a byte
abbrev pub lacks : ℕ → List ℕ → Bool
lacks at text = list_all (λ c. not (c == at)) text

-- front is a prefix of text
pub record IsFront (front text : List ℕ) : Type 0 where
  pub same : front ≡ take (length front) text
  pub within : length front ≤ length text

-- back is a suffix of text
pub record IsBehind (back text : List ℕ) : Type 0 where
  pub same : back ≡ drop (length text - length back) text
  pub within : length back ≤ length text

-- the words of a text, which are separated by blanks
abbrev pub words : List ℕ → List (List ℕ)
words text = filter is_filled (pieces_of blank text)
