-- The order of the lines in an object text.
--
-- Proved: by their `ensures` clauses these calls do what definitions here say: `are_met`
-- (drafts.rt), `none_stands` (drafts.rt), `row` (order.rt), `is_met` (drafts.rt), and others.
-- Read by: definitions in Draft.
-- Laws: none names a definition of this file itself.
-- Change: no page fixes these definitions, since no contract of a program unfolds to them; they
-- change together with the clauses, definitions and laws that name them. docs/object-text.md
-- describes the subject.
use Rattle.std.specs.Prelude.{◌+◌, ◌&&◌, ◌||◌, Bool, true, false, not, List, [], ◌∷◌, ◌++◌, length, map, take, drop}
use Rattle.std.specs.List.{list_all}
use Rattle.st_object.specs.declared.items.Item.{Item}
use Rattle.st_card.specs.Keywords.{keyword_order, place, is_required, keyword_of}
use Rattle.st_object.specs.declared.items.Item.TheVariants.{Object, Start, Word, Fin, Ask}
use Rattle.st_object.specs.declared.items.Kind.{Kind}
use Rattle.st_object.specs.declared.items.Kind.TheVariants as kinds
use Rattle.st_object.specs.declared.order.KindRow.{KindRow}

-- the kind of an item's line
abbrev pub kind_of_line : Item → Kind
kind_of_line Object = kinds.Object
kind_of_line (Start h) = kinds.Start
kind_of_line (Word w x) = kinds.Word
kind_of_line (Ask control) = kinds.Ask (keyword_of control)
kind_of_line Fin = kinds.Fin

-- the kinds of lines in their order in an object text
abbrev pub order : List Kind
order =
    kinds.Object ∷ kinds.Start ∷ kinds.Word
    ∷ (map (λ keyword. kinds.Ask keyword) keyword_order ++ kinds.Fin ∷ [])

-- a kind's position in the order, whether it may occur more than once, and whether it is required;
-- a request that may be made once only is refused by its limits
abbrev pub row_of_kind : Kind → KindRow
row_of_kind kinds.Object = record { place = 0; repeats = false; required = true }
row_of_kind kinds.Start = record { place = 1; repeats = false; required = true }
row_of_kind kinds.Word = record { place = 2; repeats = true; required = false }
row_of_kind (kinds.Ask keyword) =
    record { place = 3 + place keyword; repeats = true; required = is_required keyword }
row_of_kind kinds.Fin =
    record { place = 3 + length keyword_order; repeats = false; required = true }

-- the kinds before a kind in the order
abbrev pub kinds_before : Kind → List Kind
kinds_before kind = take (row_of_kind kind).place order

-- the kinds after a kind in the order
abbrev pub kinds_behind : Kind → List Kind
kinds_behind kind = drop ((row_of_kind kind).place + 1) order

-- definitions that depend on the kinds that have been read
module _ (stands : Kind → Bool) where
  -- whether a kind has been read or is not required
  abbrev pub is_met : Kind → Bool
  is_met kind = not (row_of_kind kind).required || stands kind

  -- whether each of some kinds has been read or is not required
  abbrev pub are_met : List Kind → Bool
  are_met kinds = list_all is_met kinds

  -- whether none of some kinds has been read
  abbrev pub none_stands : List Kind → Bool
  none_stands kinds = list_all (λ kind. not (stands kind)) kinds

  -- whether a line of a kind may come next: every required kind before it has been read, it has not
  -- been read or may be repeated, and no kind after it has been read
  abbrev pub may_follow : Kind → Bool
  may_follow kind = are_met (kinds_before kind) && ((row_of_kind kind).repeats || not (stands kind))
      && none_stands (kinds_behind kind)
