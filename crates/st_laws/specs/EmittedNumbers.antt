-- The assembled field of a number, and its reading by an operation.
--
-- Proved: no `ensures` clause names a definition of this file.
-- Laws: EmittedNumbersAreRead (specs/Laws.antt).
-- Change: no page fixes these definitions, since no contract of a program unfolds to them; they
-- change together with the clauses, definitions and laws that name them. docs/CLAIMS.md describes
-- the subject.
use Rattle.std.specs.Prelude.{ℕ, ◌≡◌, Bool, true}
use Rattle.st_mnemonic.specs.declared.form.Form.{Form}
use Rattle.st_strap.specs.WellFormed.{IsNumberForm}
use Rattle.st_asm.specs.Numbers.{holds, field_bits_of as emitted_bits}
use Rattle.st_field.specs.declared.fields.Field.{Field}
use Rattle.st_field.specs.declared.fields.Shape.{Shape}
use Rattle.st_field.specs.Fields.{field_of}

-- a number with its sign fits in a field of the form
pub record IsHeld (form : Form) (minus : Bool) (number : ℕ) : Type 0 where
  pub sizes : IsNumberForm form
  pub room : holds form minus number ≡ true

-- the shape in which an operation sees a field of the form; the operation determines whether it is
-- negated, and its offset
abbrev pub emitted_shape : Form → Bool → ℕ → Shape
emitted_shape form negated offset = record {
  length = form.length;
  byte = form.byte;
  unsigned = form.unsigned;
  negated = negated;
  offset = offset;
}

-- the field that an operation with this shape reads from the assembled bits of a number
abbrev pub field_of_number : Form → Bool → ℕ → Shape → Field
field_of_number form minus number h = field_of (emitted_bits form minus number) h

-- a field with this value is read as this number with this sign, and has neither flags nor zone
pub record IsRead (f : Field) (value : ℕ) (minus : Bool) (number : ℕ) : Type 0 where
  pub same_number : value ≡ number
  pub same_sign : f.negative ≡ minus
  pub no_flags : f.flags ≡ 0
  pub no_zone : f.zone ≡ 0
