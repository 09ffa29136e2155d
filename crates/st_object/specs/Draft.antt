-- The program that the lines of an object text have described so far, and the lines that may come
-- next.
--
-- Proved: by their `ensures` clauses these calls do what definitions here say: `add` (drafts.rt),
-- `are_met` (drafts.rt), `has_place` (drafts.rt), `is_met` (drafts.rt), and others.
-- Read by: definitions in Object, Answers.
-- Laws: LinesAreKept (specs/Laws.antt).
-- Change: the meaning is fixed by docs/object-text.md, since the contract of `st_top::stretch`
-- unfolds to a definition here. The form is free, with the proofs that unfold it.
use Rattle.std.specs.Prelude.{ℕ, ◌≡◌, ◌≤◌, ◌<◌, ◌-◌, ◌^◌, ◌==◌, ◌&&◌, Bool, true, false, not, nat_le, nat_lt, List, [], ◌∷◌, ◌++◌, length, map, replicate, slice_index, IfSome, Option, Some, None, is_some, if◌then◌else◌}
use Rattle.std.specs.List.{All, flat_map}
use Rattle.std.specs.Option.{option_map}
use Rattle.st_bits.specs.declared.register.TheConstants.{FIRST_STORAGE_WORD}
use Rattle.st_bits.specs.Storage.{words_of_storage}
use Rattle.st_card.specs.Controls.{Asked, nothing_asked, with_control}
use Rattle.st_card.specs.Limits.{IsWithinLimits}
use Rattle.st_card.specs.Written.{where_asked, asked_by}
use Rattle.st_object.specs.Lines.{word_lines}
use Rattle.st_object.specs.Order.{kind_of_line, order, are_met, may_follow}
use Rattle.st_object.specs.declared.items.Item.{Item}
use Rattle.st_object.specs.declared.items.Item.TheVariants.{Object, Start, Word, Fin, Ask}
use Rattle.st_object.specs.declared.items.Kind.{Kind}
use Rattle.st_object.specs.declared.items.Kind.TheVariants as kinds

-- whether the first line was read, the start, the words up to the last that was read, the requests,
-- and whether the last line was read
pub record Draft : Type 0 where
  pub begun : Bool
  pub start : Option ℕ
  pub words : List ℕ
  pub asked : Asked
  pub ended : Bool

-- the draft before the first line
abbrev pub draft_at_start : Draft
draft_at_start = record {
  begun = false;
  start = None;
  words = [];
  asked = nothing_asked;
  ended = false;
}

-- whether a list is empty
abbrev pub is_empty : {X : Type 0} → List X → Bool
is_empty xs = length xs == 0

-- the line of the start, if it was read
abbrev pub start_lines : Option ℕ → List Item
start_lines None = []
start_lines (Some h) = Start h ∷ []

-- the lines of a kind that were read
abbrev pub kind_lines : Draft → Kind → List Item
kind_lines d kinds.Object = where_asked d.begun Object
kind_lines d kinds.Start = start_lines d.start
kind_lines d kinds.Word = word_lines 0 d.words
kind_lines d (kinds.Ask keyword) = map (λ control. Ask control) (asked_by keyword d.asked)
kind_lines d kinds.Fin = where_asked d.ended Fin

-- all lines that were read, in their order
abbrev pub lines_read : Draft → List Item
lines_read d = flat_map (λ kind. kind_lines d kind) order

-- whether a line of a kind was read
abbrev pub has_line : Draft → Kind → Bool
has_line d kinds.Object = d.begun
has_line d kinds.Start = is_some d.start
has_line d kinds.Word = not (is_empty d.words)
has_line d (kinds.Ask keyword) = not (is_empty (asked_by keyword d.asked))
has_line d kinds.Fin = d.ended

-- whether every required line was read
unfoldable pub is_whole : Draft → Bool
is_whole d = are_met (has_line d) order

-- whether a line of a kind may come next
unfoldable pub has_place : Draft → Kind → Bool
has_place d kind = may_follow (has_line d) kind

-- the draft with a start, if it is a half-word address of the first 2^18 words
abbrev pub with_start : Draft → ℕ → Option Draft
with_start d h = if nat_lt h (2 ^ 19) then Some (record d { start = Some h }) else None

-- whether a word is not zero and its address is in storage, above the registers and at least `next`
abbrev pub may_hold : ℕ → ℕ → ℕ → Bool
may_hold next w x = nat_le FIRST_STORAGE_WORD w && nat_le next w && nat_lt w words_of_storage
    && not (x == 0)

-- the draft with a word at an address, after zeros up to it, if the word is allowed there
abbrev pub draft_with_word : Draft → ℕ → ℕ → Option Draft
draft_with_word d w x = if may_hold (length d.words) w x
    then Some (record d { words = d.words ++ replicate (w - length d.words) 0 ++ x ∷ [] }) else None

-- the draft with an item, without a check of its order
unfoldable pub draft_with_value : Draft → Item → Option Draft
draft_with_value d Object = Some (record d { begun = true })
draft_with_value d (Start h) = with_start d h
draft_with_value d (Word w x) = draft_with_word d w x
draft_with_value d (Ask control) = option_map (λ a. record d { asked = a })
    (with_control d.asked control)
draft_with_value d Fin = Some (record d { ended = true })

-- the draft with a further item, if it may come next
abbrev pub with_item : Draft → Item → Option Draft
with_item d item = if has_place d (kind_of_line item) then draft_with_value d item else None

-- invariants of every draft that lines can lead to
pub record IsDraft (d : Draft) : Type 0 where
  pub few : length d.words ≤ words_of_storage
  pub each : All (λ x. x < 2 ^ 64) d.words
  pub registers : (w : ℕ) → w < FIRST_STORAGE_WORD → slice_index d.words w ≡ 0
  pub start : IfSome d.start (λ h. h < 2 ^ 19)
  pub limits : IsWithinLimits d.asked
  pub unlisted : d.asked.list ≡ false
