-- The card that the first half-word of an entry comes from, and whether storage still has the bits
-- of the image there.
--
-- Proved: by their `ensures` clauses these calls do what definitions here say: `at` (origins.rt),
-- `at_if` (origins.rt), `half_at` (origins.rt), `is_kept` (origins.rt), and others.
-- Read by: definitions in FirstCards of st_account, Passing of st_account, Rounds of st_account.
-- Laws: none names a definition of this file itself.
-- Change: the meaning is fixed by docs/ledger.md, since the contract of `st_account::ledger`
-- unfolds to a definition here. The form is free, with the proofs that unfold it.
use Rattle.std.specs.Prelude.{ℕ, zero, suc, ◌+◌, ◌/◌, Bool, true, ◌==◌, ◌&&◌, if◌then◌else◌, List, slice_index, Option, None, Some}
use Rattle.st_format.specs.Halves.{is_full}
use Rattle.st_prep.specs.Reading.{half_of}
use Rattle.st_state.specs.Machine.{Machine}
use Rattle.st_lines.specs.declared.origins.Origin.{Origin}
use Rattle.st_lines.specs.declared.origins.Origins.{Origins}

-- half-word h of a list of words
abbrev pub half_in : List ℕ → ℕ → ℕ
half_in words h = half_of (slice_index words (h / 2)) h

-- whether half-word h of a list of words is that of the image
unfoldable pub is_same_half : List ℕ → List ℕ → ℕ → Bool
is_same_half image words h = half_in words h == half_in image h

-- whether the half-word or full word that begins at half-word h is that of the image
unfoldable pub is_kept : List ℕ → List ℕ → ℕ → Bool
is_kept image words h =
    is_same_half image words h
    && (if is_full (half_in words h) then is_same_half image words (h + 1) else true)

-- the origin with the number of the first card whose bits begin there, if there is one
abbrev pub origin_by : Option ℕ → Bool → Option Origin
origin_by None kept = None
origin_by (Some card) kept = Some (record { card = card; kept = kept })

-- a card's number in a table, where 0 means none
abbrev pub card_by : ℕ → Option ℕ
card_by zero = None
card_by (suc n) = Some (suc n)

-- the origin of half-word h in a state, by the tables of a program
unfoldable pub origin_at : Origins → Machine → ℕ → Option Origin
origin_at o s h =
    origin_by (card_by (slice_index o.cards.items h)) (is_kept o.image.items s.words h)
