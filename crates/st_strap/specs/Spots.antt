-- Operands whose addresses are numbers: their texts and their readings.
--
-- Proved: no `ensures` clause names a definition of this file.
-- Laws: FieldOperationsAreRead (specs/Laws.antt), IndexOperationsAreRead (specs/Laws.antt).
-- Change: no page fixes these definitions, since no contract of a program unfolds to them; they
-- change together with the clauses, definitions and laws that name them. docs/strap.md describes
-- the subject.
use Rattle.std.specs.Prelude.{ℕ, ◌≤◌, ◌<◌, ◌^◌, true, false, List, ◌++◌, codes, decimal}
use Rattle.st_strap.specs.Reading.{number_expr}
use Rattle.st_mnemonic.specs.Describing.{plain_form}
use Rattle.st_mnemonic.specs.declared.form.Form.{Form}
use Rattle.st_strap.specs.Statements.{Spot}

-- an address that is a number, with an index word
abbrev pub number_spot : ℕ → ℕ → Spot
number_spot place index = record { expr = number_expr place; index = index }

-- the text of a field of n bits at bit b of word w, and of an offset
abbrev pub operands_text : ℕ → ℕ → ℕ → ℕ → List ℕ
operands_text n w b o =
    codes "(BU," ++ decimal n ++ codes ")," ++ decimal w ++ codes "." ++ decimal b ++ codes ","
    ++ decimal o

-- the bounds of an operand's numbers: n bits at bit b of word w, with offset o
pub record AreOperandNumbers (n w b o : ℕ) : Type 0 where
  pub some_bits : 1 ≤ n
  pub few_bits : n ≤ 64
  pub word : w ≤ 262143
  pub bit : b ≤ 63
  pub offset : o < 2 ^ 64

-- the form of an unsigned binary field of n bits in bytes of eight, with the progressive form that
-- takes the address from an index word and then increments the index word by it
abbrev pub progressive_form : ℕ → Form
progressive_form n = record (plain_form false true n 8) { p = 2 }
