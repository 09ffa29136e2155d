-- Bounds of a statement's parts: they fit in their fields of an instruction.
--
-- Proved: no `ensures` clause names a definition of this file.
-- Read by: definitions in Kept of st_asm, EmittedNumbers of st_laws.
-- Laws: none names a definition of this file itself.
-- Change: no page fixes these definitions, since no contract of a program unfolds to them; they
-- change together with the clauses, definitions and laws that name them. docs/strap.md describes
-- the subject.
use Rattle.std.specs.Prelude.{◌<◌, ◌≤◌, IsFalse, Option, None, Some}
use Rattle.st_format.specs.Operations.{writes_field}
use Rattle.st_format.specs.Validity.{misfits, misuses_p}
use Rattle.st_format.specs.declared.operations.FullOp.TheVariants.{Variable, Connective}
use Rattle.st_mnemonic.specs.declared.form.Form.{Form}
use Rattle.st_strap.specs.Statements.{Spot, Statement}
use Rattle.st_strap.specs.declared.statement.Statement.TheVariants.{Half, Sum, Refill, Branch, Floating, Vfl, Connect, Move, BitBranch, IndBranch, StoreCounter, Transfer, Data, IndexWord, Synonym, SetLocation, Reserve, End}

-- a field has 1 to 64 bits and bytes of 1 to 8 bits
pub record IsForm (form : Form) : Type 0 where
  pub some_bits : 1 ≤ form.length
  pub few_bits : form.length ≤ 64
  pub some_byte : 1 ≤ form.byte
  pub small_byte : form.byte ≤ 8
  pub p_fits : form.p < 8

-- a field of binary or decimal numbers has a length that fits its byte size
pub record IsNumberForm (form : Form) : Type 0 where
  pub sizes : IsForm form
  pub fits : IsFalse (misfits form.decimal form.unsigned form.length form.byte)

-- the number of an address's index word is below 16; 0 means no index word
abbrev pub IsSpot : Spot → Type 0
IsSpot at = at.index < 16

-- the index word of an optional operand's address is below 16
abbrev pub IsSpotOrNone : Option Spot → Type 0
IsSpotOrNone None = Unit {0}
IsSpotOrNone (Some at) = IsSpot at

-- bounds of the parts of every statement that has been read
abbrev pub IsWellFormed : Statement → Type 0
IsWellFormed (Half op j at) = (j < 16) × IsSpot at
IsWellFormed (Sum j listed) = j < 16
IsWellFormed (Refill j) = j < 16
IsWellFormed (Branch op at) = IsSpotOrNone at
IsWellFormed (Floating number at) = (number < 16) × IsSpot at
IsWellFormed (Vfl op negated form at offset) = IsNumberForm form × IsSpot at
    × IsFalse (misuses_p (writes_field (Variable op)) form.p form.length at.index)
IsWellFormed (Connect kind truth form at offset) = IsForm form × IsSpot at × (truth < 16)
    × IsFalse (misuses_p (writes_field (Connective kind)) form.p form.length at.index)
IsWellFormed (Move swap at second count) = IsSpot at
IsWellFormed (BitBranch sense change at second) = IsSpot at × (change < 4)
IsWellFormed (IndBranch sense off at second) = IsSpot at
IsWellFormed (StoreCounter at second) = IsSpot at
IsWellFormed (Transfer write at count) = IsSpot at
IsWellFormed (Data form minus number) = IsNumberForm form
IsWellFormed (IndexWord value count refill flags) = Unit {0}
IsWellFormed (Synonym at) = Unit {0}
IsWellFormed (SetLocation at) = Unit {0}
IsWellFormed (Reserve at) = Unit {0}
IsWellFormed (End at) = Unit {0}

-- bounds of the parts of a statement, if there is one
abbrev pub IsWellFormedIfAny : Option Statement → Type 0
IsWellFormedIfAny None = Unit {0}
IsWellFormedIfAny (Some s) = IsWellFormed s
