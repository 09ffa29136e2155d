-- The texts of fields.
--
-- Proved: by their `ensures` clauses these calls do what definitions here say: `in_form`
-- (descriptions.rt), `in_mode` (descriptions.rt), `fields` (parts.rt), `pieces` (parts.rt), and
-- others.
-- Laws: none names a definition of this file itself.
-- Change: no page fixes these definitions, since no contract of a program unfolds to them; they
-- change together with the clauses, definitions and laws that name them. docs/strap.md describes
-- the subject.
use Rattle.std.specs.Prelude.{ℕ, List, map}
use Rattle.st_mnemonic.specs.declared.field.FieldText.{FieldText}

-- the texts of fields
abbrev pub texts : List FieldText → List (List ℕ)
texts fields = map (λ f. f.text.now) fields
