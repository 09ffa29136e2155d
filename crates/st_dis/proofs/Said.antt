-- The statements of a deck's cards in order, and their lines in the passes.
use Rattle.st_dis.proofs.Common.{◌≡◌, ℕ, zero, suc, ◌+◌, ◌==◌, if◌then◌else◌, Program, statement_of, Statement, silent_line, saying, location_statement, end_text, statements_of}
use Rattle.std.specs.Prelude.{List, [], ◌∷◌, ◌++◌, Ok, None}

-- the type of a thing
abbrev pub type_of : {X : Type 0} → X → Type 0
type_of {X} x = X

-- a card as the form pass hands it to the later passes
abbrev pub ReadCard : Type 0
ReadCard = type_of (silent_line 0)

-- the statements of word w, given the word before it; none if word w is zero
abbrev pub word_statements : ℕ → ℕ → ℕ → List (List ℕ)
word_statements w before word =
    if word == 0 then [] else (if before == 0 then location_statement w ∷ [] else []) ++ statements_of word

-- the statements of the words from word w on, given the word before them
abbrev pub statements_from : ℕ → ℕ → List ℕ → List (List ℕ)
statements_from w before [] = []
statements_from w before (x ∷ xs) = word_statements w before x ++ statements_from (w + 1) x xs

-- all statements of a deck
abbrev pub deck_statements : Program → List (List ℕ)
deck_statements p = statements_from 0 0 p.words ++ end_text p.start ∷ []

-- texts that are read as these statements, one by one
abbrev pub AreRead : List (List ℕ) → List Statement → Type 0
AreRead [] ss = ss ≡ []
AreRead (t ∷ ts) [] = ⊥
AreRead (t ∷ ts) (s ∷ ss) = (statement_of [] t ≡ Ok s) × AreRead ts ss

-- the lines of statement cards without names, from card n on
abbrev pub spoken_lines : ℕ → List Statement → List ReadCard
spoken_lines n [] = []
spoken_lines n (s ∷ ss) = saying n None s ∷ spoken_lines (n + 1) ss

-- the lines of k cards without statements, from card n on
abbrev pub silent_lines : ℕ → ℕ → List ReadCard
silent_lines n zero = []
silent_lines n (suc k) = silent_line n ∷ silent_lines (n + 1) k
