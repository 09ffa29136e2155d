-- Progressive forms, and the choice of the group that is the data description.
--
-- Proved: by their `ensures` clauses these calls do what definitions here say: `split_description`
-- (forms.rt), `with_group` (forms.rt), `field_operation` (forms.rt), `form_number` (forms.rt), and
-- others.
-- Read by: definitions in Faults of st_strap, Saying of st_strap.
-- Laws: none names a definition of this file itself.
-- Change: the meaning is fixed by docs/strap.md, since the contracts of `st_top::stretch` and
-- `st_account::ledger` unfold to a definition here. The form is free, with the proofs that unfold
-- it.
use Rattle.std.specs.Prelude.{ℕ, ◌==◌, ◌&&◌, ◌||◌, Bool, false, not, nat_le, ◌-◌, List, [], ◌∷◌, length, take, codes, Option, None, Some, is_some, if◌then◌else◌}
use Rattle.std.specs.Option.{option_and_then, option_map_or}
use Rattle.st_text.specs.Bytes.{close_parenthesis, comma}
use Rattle.st_text.specs.Tables.{row_of}
use Rattle.st_format.specs.Operations.{writes_field}
use Rattle.st_format.specs.declared.operations.FullOp.{FullOp}
use Rattle.st_format.specs.declared.operations.FullOp.TheVariants.{Variable, Connective}
use Rattle.st_mnemonic.specs.Text.{begins_with, ends_with, group, behind_group}
use Rattle.st_mnemonic.specs.declared.form.Form.{Form}
use Rattle.st_mnemonic.specs.declared.operations.Operation.{Operation}
use Rattle.st_mnemonic.specs.declared.operations.Operation.TheVariants.{Vfl, Connect}

-- the progressive forms, each with the text of its group without the closing parenthesis
unfoldable pub progressive_forms : List (List ℕ × ℕ)
progressive_forms = (codes "(IM", 1) ∷ (codes "(V+I", 2) ∷ (codes "(V+IC", 3) ∷ (codes "(V+ICR", 4)
    ∷ (codes "(V-I", 5) ∷ (codes "(V-IC", 6) ∷ (codes "(V-ICR", 7) ∷ []

-- a group without its closing parenthesis, if it has one
unfoldable pub open_group : List ℕ → List ℕ
open_group group = if ends_with close_parenthesis group then take (length group - 1) group
    else group

-- whether a group spells a progressive form, with or without its closing parenthesis
abbrev pub is_form : List ℕ → Bool
is_form group = is_some (row_of (open_group group) progressive_forms)

-- the data description of a text: its first group, unless that spells a progressive form
unfoldable pub description_in : List ℕ → List ℕ
description_in text = if is_form (group text) then [] else group text

-- the text after the data description
unfoldable pub behind_description : List ℕ → List ℕ
behind_description text = if is_form (group text) then text else behind_group text

-- the number of the progressive form in a group: 0 if it is empty, None if it is not closed
unfoldable pub form_number : List ℕ → Option ℕ
form_number [] = Some 0
form_number (c ∷ cs) = if ends_with close_parenthesis (c ∷ cs)
    then row_of (open_group (c ∷ cs)) progressive_forms else None

-- the operation on a field of an operation, if it is one
abbrev pub field_operation_of : Operation → Option FullOp
field_operation_of (Vfl op negated) = Some (Variable op)
field_operation_of (Connect kind table) = Some (Connective kind)
field_operation_of _ = None

-- whether an operation may have progressive form p: form 1 does not write, and has 24 bits at most
unfoldable pub may_have_form : Operation → ℕ → ℕ → Bool
may_have_form op bits p = p == 0 || option_map_or
    (λ f. not (p == 1) || (not (writes_field f) && nat_le bits 24)) (field_operation_of op) false

-- whether a text is empty or begins with a comma, so that fields or nothing follow
abbrev pub is_behind_groups : List ℕ → Bool
is_behind_groups text = length text == 0 || begins_with comma text

-- a form with progressive form n, if the operation allows it
abbrev pub form_with_number : Operation → Form → ℕ → Option Form
form_with_number op form n = if may_have_form op form.length n then Some (record form { p = n })
    else None

-- a form with the progressive form at the start of a text, if only fields follow it
unfoldable pub form_with_progress : Operation → Form → List ℕ → Option Form
form_with_progress op form text = if is_behind_groups (behind_group text)
    then option_and_then (form_with_number op form) (form_number (group text)) else None
