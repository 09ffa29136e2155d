-- The listing of a job: a line for each card, then one for each symbol.
--
-- Proved: by their `ensures` clauses these calls do what definitions here say: `answer_run`
-- (execution.rt), `execute` (execution.rt), `write_output` (execution.rt), `write_front`
-- (listing.rt), and others.
-- Read by: definitions in Marks, Output.
-- Laws: none names a definition of this file itself.
-- Change: the meaning is fixed by docs/running.md, since the contract of `st_top::stretch` unfolds
-- to a definition here. The form is free, with the proofs that unfold it.
use Rattle.std.specs.Prelude.{◌≡◌, ℕ, if◌then◌else◌, List, [], ◌∷◌, ◌++◌, length, map, All, Option, None, Some}
use Rattle.st_card.specs.Cards.{cards_of, text_in, IsCardOf}
use Rattle.st_card.specs.declared.cards.Card.{Card}
use Rattle.st_asm.specs.Assembly.{Assembly}
use Rattle.st_asm.specs.Sound.{IsRow}
use Rattle.st_asm.specs.declared.naming.Symbol.{Symbol}
use Rattle.st_asm.specs.declared.valuing.Listed.{Listed}
use Rattle.st_report.specs.Line.{soak_line}
use Rattle.st_report.specs.Listing.{listed_line, symbol_line}

-- the cards of an assembled job: each has its text in the job, no fault, and a row of the
-- listing
pub record HasCards (job : List ℕ) (rows : List Listed) (cards : List Card) : Type 0 where
  pub cards_are : cards ≡ cards_of job
  pub texts : All (IsCardOf job) cards
  pub good : All (λ card. card.fault ≡ None) cards
  pub rows_fit : All IsRow rows
  pub same : length rows ≡ length cards

-- the line of a card, given its row
abbrev pub listing_row_line : List ℕ → Listed → Card → List ℕ
listing_row_line job row card = listed_line row.card row.location row.bits row.length
    (text_in job card)

-- the lines of cards, given the row of each
abbrev pub rows_lines : List ℕ → List Listed → List Card → List (List ℕ)
rows_lines job (row ∷ rows) (card ∷ cards) = listing_row_line job row card
    ∷ rows_lines job rows cards
rows_lines job _ _ = []

-- the lines of symbols
abbrev pub symbols_lines : List Symbol → List (List ℕ)
symbols_lines symbols = map (λ s. symbol_line s.name s.value) symbols

-- the listing of an assembled job, if it is requested
unfoldable pub listing : List ℕ → Assembly → List (List ℕ)
listing job a = if a.asked.list then rows_lines job a.rows (cards_of job) ++ symbols_lines a.symbols
    else []

-- the line of a generated deck, given its seed and its number of cards
abbrev pub made_lines : Option (ℕ × ℕ) → List (List ℕ)
made_lines None = []
made_lines (Some made) = soak_line made.0 made.1 ∷ []

-- the lines before the report of an assembled job
abbrev pub front_lines : Option (ℕ × ℕ) → List ℕ → Assembly → List (List ℕ)
front_lines made job a = made_lines made ++ listing job a
