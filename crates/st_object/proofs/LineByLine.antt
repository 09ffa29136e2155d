-- Lemmas on reading a text line by line.
use Rattle.st_object.proofs.Common.{◌≡◌, ◌+◌, ℕ, List, [], ◌∷◌, ◌++◌, length, Option, Some, None, Result, Err, arith, refl, ap, sym, ◌∙◌, append_assoc, append-nil, length-append, option_map_or, option_and_then, pieces_of, first_piece, line_text, object_text_of, Draft, IsDraft, lines_read, with_item, item_in, Program, draft_with_line, read_from, Item}
use Rattle.st_object.proofs.LineMeanings.{told}
use Rattle.st_object.proofs.FurtherLines.{grown}
use Rattle.st_object.proofs.DraftLemmas.{kept}
use Rattle.st_object.proofs.WrittenLines.{text_of-append}
use Rattle.st_object.proofs.Completions.{IsOrderly, ordered}

-- reading the first of several lines
pub read_step : (d : Draft) (n : ℕ) (line next : List ℕ) (before more : List (List ℕ)) →
    read_from d n (line ∷ before ++ next ∷ more) ≡ option_map_or (λ e. read_from e (n + 1) (before ++ next ∷ more)) (draft_with_line d line) (Err n)
read_step d n line next [] more = refl
read_step d n line next (first ∷ before) more = refl

first_line : (d : Draft) (n : ℕ) (line rest after : List ℕ) → pieces_of 10 rest ≡ line ∷ pieces_of 10 after →
    read_from d n (pieces_of 10 rest) ≡ option_map_or (λ e. read_from e (n + 1) (pieces_of 10 after)) (draft_with_line d line) (Err n)
first_line d n line rest after cut = let first = first_piece 10 after in rw (cut, first.1.1)

-- reading a bad line
pub line_refused : (d : Draft) (n : ℕ) (line rest after : List ℕ) (read : Result Program ℕ) →
    pieces_of 10 rest ≡ line ∷ pieces_of 10 after → draft_with_line d line ≡ None → read_from d n (pieces_of 10 rest) ≡ read → read ≡ Err n
line_refused d n line rest after read cut bad same = sym same ∙ (first_line d n line rest after cut ∙ rw bad)

-- reading a good line
pub line_added : (d e : Draft) (n : ℕ) (line rest after : List ℕ) (read : Result Program ℕ) →
    pieces_of 10 rest ≡ line ∷ pieces_of 10 after → draft_with_line d line ≡ Some e → read_from d n (pieces_of 10 rest) ≡ read →
    read_from e (n + 1) (pieces_of 10 after) ≡ read
line_added d e n line rest after read cut good same = rw good at (sym (first_line d n line rest after cut) ∙ same)

-- the properties of a draft after a good line
pub record IsGood (d e : Draft) (line : List ℕ) : Type 0 where
  pub kept : IsDraft d → IsDraft e
  pub orderly : IsOrderly e
  pub behind : object_text_of (lines_read e) ≡ object_text_of (lines_read d) ++ line ++ 10 ∷ []
  pub more : length (lines_read e) ≡ length (lines_read d) + 1

chained : (o : Option Item) (d e : Draft) → option_and_then (λ i. with_item d i) o ≡ Some e → (item : Item) × ((o ≡ Some item) × (with_item d item ≡ Some e))
chained o d e same = grind arith

pub good_line : (d e : Draft) (line : List ℕ) → draft_with_line d line ≡ Some e → IsGood d e line
good_line d e line good =
    let parts = chained (item_in line) d e good in
    let item : Item = parts.0 in
    let meaning = told line item parts.1.0 in
    let grows = grown d e item parts.1.1 in
    record {
      kept = kept d e item parts.1.1 meaning.1;
      orderly = ordered d e item parts.1.1;
      behind = ap (λ (s : List Item). object_text_of s) grows ∙ (text_of-append (lines_read d) (item ∷ [])
          ∙ rw (append-nil (line_text item ++ 10 ∷ []), meaning.0, append_assoc (object_text_of (lines_read d)) line (10 ∷ [])));
      more = ap (λ (s : List Item). length s) grows ∙ length-append (lines_read d) (item ∷ []);
    }
