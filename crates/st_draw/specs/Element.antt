-- The elements of a chart, and the bytes of each.
--
-- Proved: by their `ensures` clauses these calls do what definitions here say: `push_attribute`
-- (attributes.rt), `push_corner` (attributes.rt), `push_ends` (attributes.rt), `push_front`
-- (attributes.rt), and others.
-- Read by: definitions in Drawing, WellFormed.
-- Laws: ElementsAreClosed (specs/Laws.antt).
-- Change: the meaning is fixed by docs/chart.md, since the contract of `st_draw::draw` unfolds to a
-- definition here. The form is free, with the proofs that unfold it.
use Rattle.std.specs.Prelude.{ℕ, nat_le, if◌then◌else◌, List, [], ◌∷◌, ◌++◌, length, take, codes, decimal}
use Rattle.st_entries.specs.Caption.{card_limit}
use Rattle.st_draw.specs.Escape.{escaped_text}

-- a number as an attribute with this name
unfoldable pub attribute : List ℕ → ℕ → List ℕ
attribute name n = name ++ codes "=\"" ++ decimal n ++ codes "\""

-- the beginning of an element, with its class
unfoldable pub element_front : List ℕ → List ℕ → List ℕ
element_front name class = name ++ codes " class=\"" ++ class ++ codes "\""

-- the position of an element
unfoldable pub corner : ℕ → ℕ → List ℕ
corner x y = attribute (codes " x") x ++ attribute (codes " y") y

-- the size of a box
unfoldable pub size : ℕ → ℕ → List ℕ
size width height = attribute (codes " width") width ++ attribute (codes " height") height

-- the two ends of a line
unfoldable pub ends : ℕ → ℕ → ℕ → ℕ → List ℕ
ends x y x' y' =
    attribute (codes " x1") x ++ attribute (codes " y1") y ++ attribute (codes " x2") x'
    ++ attribute (codes " y2") y'

-- the contents of a text element, and its end
unfoldable pub content : List ℕ → List ℕ
content text = codes ">" ++ escaped_text text ++ codes "</text>\n"

-- the end tags of a title and of its box
unfoldable pub title_end : List ℕ
title_end = codes "</title></rect>\n"

-- the title of a box, which a viewer shows under the pointer, and the end of the box
unfoldable pub box_title : List ℕ → List ℕ
box_title text = codes "><title>" ++ escaped_text text ++ title_end

-- the mark at the end of a card's text that is too long: an ellipsis in UTF-8
abbrev pub ellipsis : List ℕ
ellipsis = 226 ∷ 128 ∷ 166 ∷ []

-- the shown part of a card's text: a text that is too long ends in the ellipsis
unfoldable pub shown_card : List ℕ → List ℕ
shown_card text = if nat_le (length text) card_limit then escaped_text text
    else escaped_text (take 39 text) ++ ellipsis

-- a card's text, and the end of its element
unfoldable pub card_content : List ℕ → List ℕ
card_content text = codes ">" ++ shown_card text ++ codes "</text>\n"

-- an element of a chart: its class, its position, and its size or its text. A bar is a box with a
-- title
pub data Element : Type 0 where
  Box : List ℕ → ℕ → ℕ → ℕ → ℕ → Element
  Bar : List ℕ → ℕ → ℕ → ℕ → ℕ → List ℕ → Element
  Line : List ℕ → ℕ → ℕ → ℕ → ℕ → Element
  Text : List ℕ → ℕ → ℕ → List ℕ → Element
  Card : ℕ → ℕ → List ℕ → Element

-- the bytes of an element
unfoldable pub element_text : Element → List ℕ
element_text (Box class x y width height) = element_front (codes "<rect") class ++ corner x y
    ++ size width height ++ codes "/>\n"
element_text (Bar class x y width height title) =
    element_front (codes "<rect") class ++ corner x y ++ size width height ++ box_title title
element_text (Line class x y x' y') =
    element_front (codes "<line") class ++ ends x y x' y' ++ codes "/>\n"
element_text (Text class x y text) =
    element_front (codes "<text") class ++ corner x y ++ content text
element_text (Card x y text) =
    element_front (codes "<text") (codes "c") ++ corner x y ++ card_content text

-- the bytes of elements in order
abbrev pub elements_text : List Element → List ℕ
elements_text [] = []
elements_text (e ∷ es) = element_text e ++ elements_text es
