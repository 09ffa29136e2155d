-- The cards in the card reader, and the words that it reads from each.
--
-- Proved: by their `ensures` clauses these calls do what definitions here say: `behind_statements`
-- (hopper.rt), `card_words` (hopper.rt), `column` (hopper.rt), `is_statement` (hopper.rt), and
-- others.
-- Read by: definitions in Marks of st_top, Delays of st_top, Output of st_top, Answers of
-- st_account.
-- Laws: CardsAreEightWords (specs/Laws.antt).
-- Change: the meaning is fixed by docs/machine.md, since the contracts of `st_top::stretch` and
-- `st_account::ledger` unfold to a definition here. The form is free, with the proofs that unfold
-- it.
use Rattle.std.specs.Prelude.{ℕ, ◌+◌, ◌-◌, ◌*◌, ◌^◌, Bool, true, false, List, [], ◌∷◌, map, filter, slice_index_or, if◌then◌else◌}
use Rattle.std.specs.List.{list_any}
use Rattle.st_text.specs.Bytes.{blank}
use Rattle.st_card.specs.Cards.{cards_of, text_in}
use Rattle.st_card.specs.declared.cards.CardKind.{CardKind}
use Rattle.st_card.specs.declared.cards.CardKind.TheVariants.{Comment, Statement}
use Rattle.st_card.specs.declared.cards.Card.{Card}

-- column c of a card, counted from 1; a blank if the card has no such column
abbrev pub column_of_card : List ℕ → ℕ → ℕ
column_of_card text c = slice_index_or text (c - 1) blank

-- the word in the eight columns from column c, eight bits each
unfoldable pub word_from : List ℕ → ℕ → ℕ
word_from text c = column_of_card text c * 2 ^ 56 + column_of_card text (c + 1) * 2 ^ 48
    + column_of_card text (c + 2) * 2 ^ 40 + column_of_card text (c + 3) * 2 ^ 32
    + column_of_card text (c + 4) * 2 ^ 24 + column_of_card text (c + 5) * 2 ^ 16
    + column_of_card text (c + 6) * 2 ^ 8 + column_of_card text (c + 7)

-- the words that the reader reads from a card: its columns 2 to 65
unfoldable pub card_words : List ℕ → List ℕ
card_words text = map (word_from text) (2 ∷ 10 ∷ 18 ∷ 26 ∷ 34 ∷ 42 ∷ 50 ∷ 58 ∷ [])

-- whether a card is a comment card
abbrev pub is_comment : CardKind → Bool
is_comment Comment = true
is_comment _ = false

-- whether a card is a statement card
abbrev pub is_statement : CardKind → Bool
is_statement Statement = true
is_statement _ = false

-- whether any of the cards is a statement card
abbrev pub has_statement : List Card → Bool
has_statement cards = list_any (λ card. is_statement card.kind) cards

-- the cards after the last statement card
unfoldable pub behind_statements : List Card → List Card
behind_statements [] = []
behind_statements (card ∷ cards) =
    if has_statement (card ∷ cards) then behind_statements cards else card ∷ cards

-- the words of the comment cards among these cards
unfoldable pub texts_in : List ℕ → List Card → List (List ℕ)
texts_in job cards = map (λ card. card_words (text_in job card))
    (filter (λ card. is_comment card.kind) cards)

-- the cards in the reader of a job: the comment cards after the last statement card
unfoldable pub reader_cards : List ℕ → List (List ℕ)
reader_cards job = texts_in job (behind_statements (cards_of job))
