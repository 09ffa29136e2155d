-- The results of assembling a sequence of statements or adding a sequence of control cards.
--
-- Proved: no `ensures` clause names a definition of this file.
-- Laws: StatementsEmitTheirWord (specs/Laws.antt), ControlsComeBack (specs/Laws.antt).
-- Change: no page fixes these definitions, since no contract of a program unfolds to them; they
-- change together with the clauses, definitions and laws that name them. docs/disassembly.md
-- describes the subject.
use Rattle.std.specs.Prelude.{◌≡◌, ℕ, ◌+◌, ◌*◌, ◌^◌, List, [], ◌∷◌, Option, Some, None}
use Rattle.st_card.specs.Controls.{Asked, asked_with_card}
use Rattle.st_asm.specs.Alone.{emitted_alone}
use Rattle.st_asm.specs.declared.alone.EmittedBits.{EmittedBits}

-- a number as this many bits
abbrev pub bits_of_length : ℕ → ℕ → EmittedBits
bits_of_length length bits = record { length = length; bits = bits }

-- the concatenation of two strings of bits, if both are present
abbrev pub emitted_behind : Option EmittedBits → Option EmittedBits → Option EmittedBits
emitted_behind (Some a) (Some b) = Some (bits_of_length (a.length + b.length)
    (a.bits * 2 ^ b.length + b.bits))
emitted_behind (Some a) None = None
emitted_behind None b = None

-- the concatenation of the bits that statements assemble to, if each assembles to some
abbrev pub emitted_together : List (List ℕ) → Option EmittedBits
emitted_together [] = Some (bits_of_length 0 0)
emitted_together (text ∷ texts) = emitted_behind (emitted_alone [] text) (emitted_together texts)

-- control cards, added in order, lead from one state of the requests to another
abbrev pub CardsLead : Asked → List (List ℕ) → Asked → Type 0
CardsLead asked [] to = asked ≡ to
CardsLead asked (card ∷ cards) to = (next : Asked) × (asked_with_card asked card ≡ Some next)
    × CardsLead next cards to
