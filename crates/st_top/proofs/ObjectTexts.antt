-- Object texts and decks, line by line.
use Rattle.st_top.proofs.Common.{◌≡◌, ◌+◌, ◌==◌, ℕ, List, [], ◌∷◌, ◌++◌, length, map, take, true, false, if◌then◌else◌, refl, sym, ◌∙◌, ap, subst, append_assoc, take_at, length_push, Ok, flat_map, OutputState, text, LinesSoFar, lf, pieces_of, onto_first, line_text, Program, IsProgram, object_text, read_text, deck_cards, deck_text, object_text_lines, deck_lines, whole_lines}
use Rattle.st_object.specs.Draft.{draft_at_start}
use Rattle.st_object.specs.Object.{object_lines as lines_of}
use Rattle.st_object.proofs.ProgramLines.{made_again}
use Rattle.st_object.proofs.AcceptedTexts.{accepted}
use Rattle.st_object.proofs.ReadBack.{parted-text_of}
use Rattle.st_dis.proofs.Printable.{deck_pieces}

-- a line with a line end comes first, followed by the lines after it
ended-onto : (line : List ℕ) (c : ℕ) (pieces : List (List ℕ)) → whole_lines (line ∷ onto_first c pieces) ≡ (line ++ lf) ∷ whole_lines (onto_first c pieces)
ended-onto line c [] = refl
ended-onto line c (piece ∷ pieces) = refl

pub ended-line : (line after : List ℕ) → whole_lines (line ∷ pieces_of 10 after) ≡ (line ++ lf) ∷ whole_lines (pieces_of 10 after)
ended-line line [] = refl
ended-line line (c ∷ cs) =
    elim (c == 10) as (λ v. whole_lines (line ∷ (if v then [] ∷ pieces_of 10 cs else onto_first c (pieces_of 10 cs)))
    ≡ (line ++ lf) ∷ whole_lines (if v then [] ∷ pieces_of 10 cs else onto_first c (pieces_of 10 cs))) [
      | true ↦ refl
      | false ↦ ended-onto line c (pieces_of 10 cs)
    ]

-- the first line of a text, with its line end
first_ended : (line after rest : List ℕ) → rest ≡ line ++ 10 ∷ after → take (length line + 1) rest ≡ line ++ lf
first_ended line after rest e =
    let whole : rest ≡ (line ++ lf) ++ after = e ∙ sym (append_assoc line lf after) in
    ap (λ (s : List ℕ). take (length line + 1) s) whole ∙ take_at (line ++ lf) after (length line + 1) (length_push line 10)

-- if the lines of a text remain, its first line comes next
pub ended_next : (s t : OutputState) (all : List (List ℕ)) (rest line after whole : List ℕ) → pieces_of 10 rest ≡ line ∷ pieces_of 10 after → rest ≡ line ++ 10 ∷ after → whole ≡ take (length line + 1) rest → LinesSoFar s t all (whole_lines (pieces_of 10 rest)) → LinesSoFar s t all ((whole ∷ []) ++ whole_lines (pieces_of 10 after))
ended_next s t all rest line after whole pieces same cut h =
    let first : line ++ lf ≡ whole = sym (cut ∙ first_ended line after rest same) in
    subst (LinesSoFar s t all) (ap whole_lines pieces ∙ (ended-line line after ∙ ap (λ w. w ∷ whole_lines (pieces_of 10 after)) first)) h

ended-map : {X : Type 0} (f : X → List ℕ) (items : List X) → whole_lines (map f items ++ [] ∷ []) ≡ map (λ item. f item ++ lf) items
ended-map f [] = refl
ended-map f (item ∷ []) = refl
ended-map f (item ∷ next ∷ more) = ap (λ ls. (f item ++ lf) ∷ ls) (ended-map f (next ∷ more))

text-map : {X : Type 0} (f : X → List ℕ) (items : List X) → text (map f items) ≡ flat_map f items
text-map f [] = refl
text-map f (item ∷ more) = ap (λ (s : List ℕ). f item ++ s) (text-map f more)

-- the lines of an object text, joined, are the text
pub text-object_lines : (p : Program) → text (object_text_lines p) ≡ object_text p
unfolding object_text_lines
text-object_lines p = text-map (λ item. line_text item ++ lf) (lines_of p)

-- the lines of an object text are those of its program
pub object_text-lines : (p : Program) (written : List ℕ) → written ≡ object_text p → IsProgram p → read_text written ≡ Ok p → whole_lines (pieces_of 10 written) ≡ object_text_lines p
unfolding object_text_lines
object_text-lines p written e is read =
    let makes = made_again p is (accepted written p read).words in
    ap (λ (s : List ℕ). whole_lines (pieces_of 10 s)) e
    ∙ (ap whole_lines (parted-text_of (lines_of p) draft_at_start makes.last makes.steps) ∙ ended-map line_text (lines_of p))

ended-pieces : (pieces : List (List ℕ)) → whole_lines (pieces ++ [] ∷ []) ≡ map (λ piece. piece ++ lf) pieces
ended-pieces [] = refl
ended-pieces (piece ∷ []) = refl
ended-pieces (piece ∷ next ∷ more) = ap (λ ls. (piece ++ lf) ∷ ls) (ended-pieces (next ∷ more))

-- the lines of a deck are its cards
pub deck_text-lines : (p : Program) → whole_lines (pieces_of 10 (deck_text p)) ≡ deck_lines p
unfolding deck_lines
deck_text-lines p = ap whole_lines (deck_pieces p) ∙ ended-pieces (deck_cards p)

-- the lines of a deck, joined, are the deck
pub text-deck_lines : (p : Program) → text (deck_lines p) ≡ deck_text p
unfolding deck_lines deck_text
text-deck_lines p = text-map (λ card. card ++ lf) (deck_cards p)
