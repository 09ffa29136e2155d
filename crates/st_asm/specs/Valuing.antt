-- The value pass: it assembles the image, the start, and the rows of the listing.
--
-- Proved: by their `ensures` clauses these calls do what definitions here say: `add_silent`
-- (valuing.rt), `emit` (valuing.rt), `empty_layout` (valuing.rt), `value_line` (valuing.rt), and
-- others.
-- Read by: definitions in Assembly, Kept, Stops.
-- Laws: PassesStopAtTheFirstFault (specs/Laws.antt).
-- Change: the meaning is fixed by docs/strap.md, since the contracts of `st_top::stretch` and
-- `st_account::ledger` unfold to a definition here. The form is free, with the proofs that unfold
-- it.
use Rattle.std.specs.Prelude.{ℕ, ◌==◌, List, [], ◌∷◌, ◌++◌, length, replicate, Option, Some, None, unwrap_or, Result, Ok, if◌then◌else◌}
use Rattle.std.specs.List.{zip}
use Rattle.st_bits.specs.Bits.{bits, all_bits, put, words_of}
use Rattle.st_bits.specs.Storage.{words_of_storage}
use Rattle.st_card.specs.declared.faults.Fault.{Fault}
use Rattle.st_strap.specs.Statements.{Statement}
use Rattle.st_asm.specs.Pass.{Refusal, pass, unless_faulty}
use Rattle.st_asm.specs.Forming.{is_end}
use Rattle.st_asm.specs.Values.{values_of}
use Rattle.st_asm.specs.Places.{placing_of, length_in}
use Rattle.st_asm.specs.Checks.{value_fault}
use Rattle.st_asm.specs.Emitting.{half_word_bits, bits_of}
use Rattle.st_asm.specs.declared.line.ReadCard.{ReadCard}
use Rattle.st_asm.specs.declared.values.Values.{Values}
use Rattle.st_asm.specs.declared.valuing.Listed.{Listed}
use Rattle.st_asm.specs.declared.valuing.Layout.{Layout}

-- the value pass so far: words of storage, start (a half-word address), and one row for each card
pub record Emitted : Type 0 where
  pub image : List ℕ
  pub start : ℕ
  pub rows : List Listed

-- the state of the value pass that the code's layout represents
abbrev pub emitted_in : Layout → Emitted
emitted_in l = record { image = l.image.items; start = l.start; rows = l.rows.items }

-- the result of the value pass over no cards
abbrev pub emitting_at_start : Emitted
emitting_at_start = record { image = replicate words_of_storage 0; start = 0; rows = [] }

-- the image with a number written to a number of bits from a bit address on
unfoldable pub image_with : List ℕ → ℕ → ℕ → ℕ → List ℕ
image_with image place count number = if count == 0 then image
    else words_of (length image) (put (all_bits image) place (bits count number))

-- the result with a card's statement, its values and its location added
abbrev pub with_emitted : Emitted → ℕ → Statement → Values → Option ℕ → Emitted
with_emitted so_far card s v place = let count = length_in (placing_of s) in record {
  image = image_with so_far.image (unwrap_or place 0) count (bits_of s v);
  start = if is_end s then half_word_bits v.first else so_far.start;
  rows = so_far.rows ++ record { card = card; location = place; bits = bits_of s v; length = count }
      ∷ [];
}

-- the result with a card without a statement added
abbrev pub with_silent : Emitted → ℕ → Option ℕ → Emitted
with_silent so_far card place = record so_far {
  rows = so_far.rows ++ record { card = card; location = place; bits = 0; length = 0 } ∷ [];
}

-- the value pass over a card's statement at its location
unfoldable pub value_statement : Emitted → ℕ → Statement → Values → Option ℕ → Result Emitted Fault
value_statement so_far card s v place =
    unless_faulty (value_fault s v (unwrap_or place 0)) (Ok (with_emitted so_far card s v place))

-- the value pass over a card with an optional statement and location
abbrev pub value_saying : List (List ℕ × ℕ) → Emitted → ℕ → Option Statement → Option ℕ →
    Result Emitted Fault
value_saying symbols so_far card None place = Ok (with_silent so_far card place)
value_saying symbols so_far card (Some s) place = value_statement so_far card s
    (values_of symbols s) place

-- the value pass over one card with its location
unfoldable pub value_card : List (List ℕ × ℕ) → Emitted → ReadCard × Option ℕ → Result Emitted Fault
value_card symbols so_far p = value_saying symbols so_far p.0.card p.0.statement p.1

-- the value pass over the cards of a job
unfoldable pub value_pass : List (List ℕ × ℕ) → List ReadCard → List (Option ℕ) →
    Result Emitted Refusal
value_pass symbols lines places = pass (value_card symbols) (λ p. p.0.card) emitting_at_start
    (zip lines places)
