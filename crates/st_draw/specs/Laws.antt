-- Laws of every chart, regardless of the report.
--
-- Proved: each law has its lemma in proofs/Laws.antt, with its name in small letters.
-- Claimed: docs/CLAIMS.md names ElementsAreClosed, TextsStayInTheirElements.
-- Change: docs/promises.txt lists each law, and the gate compares the list with the laws.
use Rattle.std.specs.Prelude.{◌≡◌, ℕ, List, true}
use Rattle.st_draw.specs.Element.{Element, element_text}
use Rattle.st_draw.specs.Escape.{escaped_text}
use Rattle.st_draw.specs.WellFormed.{are_inner, IsClosed}

-- an escaped text is printable, and contains no markup that begins or ends an element
abbrev pub TextsStayInTheirElements : Type 0
TextsStayInTheirElements = (text : List ℕ) → are_inner (escaped_text text) ≡ true

-- each element of a chart is one of the known ones, and is closed
abbrev pub ElementsAreClosed : Type 0
ElementsAreClosed = (e : Element) → IsClosed (element_text e)
