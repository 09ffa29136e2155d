-- Invariants of the results that the passes hand on.
--
-- Proved: by their `ensures` clauses these calls do what definitions here say: `add_row`
-- (valuing.rt), `add_silent` (valuing.rt), `emit` (valuing.rt), `empty_layout` (valuing.rt), and
-- others.
-- Laws: none names a definition of this file itself.
-- Change: no page fixes these definitions, since no contract of a program unfolds to them; they
-- change together with the clauses, definitions and laws that name them. docs/strap.md describes
-- the subject.
use Rattle.std.specs.Prelude.{◌<◌, ◌^◌, All, IsAscii, IfSome}
use Rattle.st_bits.specs.Storage.{IsImage}
use Rattle.st_card.specs.Limits.{IsWithinLimits}
use Rattle.st_strap.specs.WellFormed.{IsWellFormedIfAny}
use Rattle.st_asm.specs.Forming.{Found}
use Rattle.st_asm.specs.Naming.{Named}
use Rattle.st_asm.specs.Valuing.{Emitted}
use Rattle.st_asm.specs.Sound.{IsLocation, IsRow, IsSymbol}
use Rattle.st_asm.specs.declared.line.ReadCard.{ReadCard}

-- a card that has been read has a well-formed statement and a printable name, if any
pub record IsReadCard (line : ReadCard) : Type 0 where
  pub well : IsWellFormedIfAny line.statement
  pub name : IfSome line.name IsAscii

-- all cards of a form pass's result have been read, and the requests are within their limits
pub record IsDeck (found : Found) : Type 0 where
  pub lines : All IsReadCard found.lines
  pub limits : IsWithinLimits found.asked

-- the symbols and locations of the name pass so far are sound
pub record IsNamed (named : Named) : Type 0 where
  pub symbols : All IsSymbol named.symbols
  pub places : All IsLocation named.places

-- the image, the start and the rows of the value pass so far are sound
pub record IsSoundLayout (emitted : Emitted) : Type 0 where
  pub image : IsImage emitted.image
  pub start : emitted.start < 2 ^ 19
  pub rows : All IsRow emitted.rows
