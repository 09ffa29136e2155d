-- Definitions for the laws of charts: their elements are known ones, each is closed, and no text
-- contains markup.
--
-- Proved: no `ensures` clause names a definition of this file.
-- Laws: ElementsAreClosed (specs/Laws.antt), TextsStayInTheirElements (specs/Laws.antt).
-- Change: no page fixes these definitions, since no contract of a program unfolds to them; they
-- change together with the clauses, definitions and laws that name them. docs/chart.md describes
-- the subject.
use Rattle.std.specs.Prelude.{◌≡◌, ◌⊎◌, ℕ, ◌==◌, ◌&&◌, not, Bool, true, List, [], ◌++◌, codes}
use Rattle.std.specs.List.{list_all}
use Rattle.st_text.specs.Bytes.{is_printable_byte}
use Rattle.st_draw.specs.Element.{ellipsis, title_end}

-- whether a byte is printable and is not a markup character
abbrev pub is_inner : ℕ → Bool
is_inner c = is_printable_byte c && not (c == 60) && not (c == 62)

-- whether a text has only bytes that are printable and are not markup characters
abbrev pub are_inner : List ℕ → Bool
are_inner text = list_all is_inner text

-- an element that closes itself
pub record IsEmpty (name bytes : List ℕ) : Type 0 where
  pub attributes : List ℕ
  pub parts : bytes ≡ codes "<" ++ name ++ codes " class=\"" ++ attributes ++ codes "/>\n"

-- a box that has a title and ends with its end tag
pub record IsTitled (bytes : List ℕ) : Type 0 where
  pub attributes : List ℕ
  pub inner : List ℕ
  pub parts : bytes ≡ codes "<rect class=\"" ++ attributes ++ codes "><title>" ++ inner ++ title_end
  pub harmless : are_inner inner ≡ true

-- an element that has a text, optionally followed by an ellipsis, and ends with its end tag
pub record IsFull (name bytes : List ℕ) : Type 0 where
  pub attributes : List ℕ
  pub inner : List ℕ
  pub mark : List ℕ
  pub parts : bytes
      ≡ codes "<" ++ name ++ codes " class=\"" ++ attributes ++ codes ">" ++ inner ++ mark
      ++ codes "</" ++ name ++ codes ">\n"
  pub harmless : are_inner inner ≡ true
  pub known : (mark ≡ []) ⊎ (mark ≡ ellipsis)

-- one of the known elements, closed
abbrev pub IsClosed : List ℕ → Type 0
IsClosed bytes = IsEmpty (codes "rect") bytes ⊎ IsEmpty (codes "line") bytes ⊎ IsTitled bytes
    ⊎ IsFull (codes "text") bytes
