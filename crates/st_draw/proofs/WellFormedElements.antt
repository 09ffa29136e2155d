-- Escaped texts contain no markup, and elements are closed.
use Rattle.std.proofs.Common.{◌≡◌, inl, inr, ℕ, ◌==◌, ◌&&◌, nat_le, Bool, true, false, List, [], ◌∷◌, ◌++◌, length, take, codes, refl, arith, append_assoc}
use Rattle.std.proofs.lemmas.List.Folds.{list_all-append}
use Rattle.st_draw.specs.Element.{Element, Box, Bar, Line, Text, Card, element_text, element_front, corner, size, ends, content, title_end, box_title, shown_card, card_content, ellipsis}
use Rattle.st_entries.specs.Caption.{card_limit}
use Rattle.st_draw.specs.Escape.{escaped_text, escaped_byte}
use Rattle.st_draw.specs.WellFormed.{is_inner, are_inner, IsClosed, IsFull}

-- an escaped byte, by its tests
byte_inner : (c : ℕ) (less more also printable : Bool) → (c == 60) ≡ less → (c == 62) ≡ more → (c == 38) ≡ also
    → (nat_le 32 c && nat_le c 126) ≡ printable → are_inner (escaped_byte c) ≡ true
byte_inner c true more also printable a b d e = rw a refl
byte_inner c false true also printable a b d e = rw (a, b) refl
byte_inner c false false true printable a b d e = rw (a, b, d) refl
byte_inner c false false false true a b d e = grind (arith, a, b, d, e)
byte_inner c false false false false a b d e = rw (a, b, d, e) refl

-- an escaped text contains no markup
pub escaped_inner : (text : List ℕ) → are_inner (escaped_text text) ≡ true
escaped_inner [] = refl
escaped_inner (c ∷ cs) =
    let here = byte_inner c (c == 60) (c == 62) (c == 38) (nat_le 32 c && nat_le c 126) refl refl refl refl in
    let there = escaped_inner cs in
    let both = list_all-append is_inner (escaped_byte c) (escaped_text cs) in
    rw (both, here, there) refl

-- the element of a card is closed, by whether the card is short enough to be shown whole
card_closed : (whole : Bool) (x y : ℕ) (text : List ℕ) → nat_le (length text) card_limit ≡ whole
    → IsFull (codes "text") (element_text (Card x y text))
unfolding element_text element_front card_content shown_card
card_closed true x y text test = record {
  attributes = codes "c\"" ++ corner x y;
  inner = escaped_text text;
  mark = [];
  parts = rw test (grind (arith, append_assoc));
  harmless = escaped_inner text;
  known = inl refl;
}
card_closed false x y text test = record {
  attributes = codes "c\"" ++ corner x y;
  inner = escaped_text (take 39 text);
  mark = ellipsis;
  parts = rw test (grind (arith, append_assoc));
  harmless = escaped_inner (take 39 text);
  known = inr refl;
}

-- the pieces of a bar, grouped into attributes and the rest
bar_parts : (front class quote place reach begin title end : List ℕ)
    → (front ++ class ++ quote) ++ place ++ reach ++ (begin ++ title ++ end)
    ≡ front ++ (class ++ quote ++ place ++ reach) ++ begin ++ title ++ end
bar_parts front class quote place reach begin title end = simp append_assoc refl

-- each element is closed
pub element_closed : (e : Element) → IsClosed (element_text e)
unfolding element_text element_front content box_title
element_closed (Box class x y width height) = inl (record {
  attributes = class ++ codes "\"" ++ corner x y ++ size width height;
  parts = simp append_assoc refl;
})
element_closed (Bar class x y width height title) = inr (inr (inl (record {
  attributes = class ++ codes "\"" ++ corner x y ++ size width height;
  inner = escaped_text title;
  parts = bar_parts (codes "<rect class=\"") class (codes "\"") (corner x y) (size width height) (codes "><title>") (escaped_text title) title_end;
  harmless = escaped_inner title;
})))
element_closed (Line class x y x' y') = inr (inl (record {
  attributes = class ++ codes "\"" ++ ends x y x' y';
  parts = simp append_assoc refl;
}))
element_closed (Text class x y text) = inr (inr (inr (record {
  attributes = class ++ codes "\"" ++ corner x y;
  inner = escaped_text text;
  mark = [];
  parts = grind (arith, append_assoc);
  harmless = escaped_inner text;
  known = inl refl;
})))
element_closed (Card x y text) = inr (inr (inr (card_closed (nat_le (length text) card_limit) x y text refl)))
