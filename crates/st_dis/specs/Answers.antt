-- The errors of the disassembler.
--
-- Proved: by their `ensures` clauses these calls do what definitions here say: `disassemble`
-- (disassembling.rt).
-- Laws: none names a definition of this file itself.
-- Change: no page fixes these definitions, since no contract of a program unfolds to them; they
-- change together with the clauses, definitions and laws that name them. docs/disassembly.md
-- describes the subject.
use Rattle.std.specs.Prelude.{◌≡◌, ◌<◌, ⊤}
use Rattle.st_bits.specs.declared.limits.TheConstants.{MOST_CARDS}
use Rattle.st_object.specs.Object.{Program}
use Rattle.st_dis.specs.Deck.{card_count}
use Rattle.st_dis.specs.declared.disassembling.DisError.{DisError}
use Rattle.st_dis.specs.declared.disassembling.DisError.TheVariants.{TooManyCards, NoMemory}

-- why there is no deck: it would have more than 20,000 cards, and the error has their number, or
-- memory ran out
abbrev pub Explains : Program → DisError → Type 0
Explains p (TooManyCards cards) = (cards ≡ card_count p) × (MOST_CARDS < cards)
Explains p NoMemory = ⊤
