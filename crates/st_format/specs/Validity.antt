-- The rules by which bits are an invalid instruction.
--
-- Proved: by their `ensures` clauses these calls do what definitions here say: `decode`
-- (decoding.rt), `breaks_rules` (rules.rt), `has_miscount` (rules.rt), `has_misfit` (rules.rt), and
-- others.
-- Read by: definitions in Formats, WellFormed of st_strap, Describing of st_mnemonic.
-- Laws: none names a definition of this file itself.
-- Change: the meaning is fixed by docs/instructions.md, since the contracts of `st_top::stretch`
-- and `st_account::ledger` unfold to a definition here. The form is free, with the proofs that
-- unfold it.
use Rattle.std.specs.Prelude.{ℕ, ◌%◌, Bool, true, false, not, ◌==◌, ◌&&◌, ◌||◌, nat_lt, nat_le, Option, None, Some, if◌then◌else◌}
use Rattle.st_format.specs.declared.operations.FullOp.{FullOp}
use Rattle.st_format.specs.declared.operations.FullOp.TheVariants.{Variable, Connective, Transmission, IndicatorTest, Order, CounterStore}
use Rattle.st_format.specs.declared.operations.TheConstants.{BRANCH_GROUP, UNUSED}
use Rattle.st_format.specs.Halves.{later, is_one, is_full, i_of, j_of, operation_of, p_of, length_of, byte_of, k_of, second_address_of}
use Rattle.st_format.specs.Operations.{full_op, writes_field}

-- whether a half-word is invalid: an unused operation, or a branch with J of 6 or more
unfoldable pub is_invalid_half : ℕ → Bool
is_invalid_half first =
    operation_of first == UNUSED || (operation_of first == BRANCH_GROUP && nat_le 6 (j_of first))

-- bits 58-59 of a connective, which must be zero; 0 for other operations
abbrev pub unused_in_kind : FullOp → ℕ → ℕ
unused_in_kind (Connective _) second = later second 58 2
unused_in_kind _ second = 0

-- the K field, which must be zero except in a transmission; 0 for a transmission
abbrev pub unused_k : FullOp → ℕ → ℕ
unused_k (Transmission _) second = 0
unused_k _ second = k_of second

-- those of bits 52-54 that the operation does not use, which must be zero
abbrev pub unused_marks : FullOp → ℕ → ℕ
unused_marks (Transmission _) second = later second 52 3
unused_marks CounterStore second = later second 52 3
unused_marks (Order _) second = later second 52 3
unused_marks IndicatorTest second = later second 54 1
unused_marks _ second = 0

-- whether a size is wrong: decimal needs whole bytes of 4 bits or more, signed needs a whole byte
abbrev pub misfits : Bool → Bool → ℕ → ℕ → Bool
misfits decimal unsigned length byte =
    (decimal && (nat_lt byte 4 || not (length % byte == 0))) || (not unsigned && nat_lt length byte)

-- whether the field of an operation on a field has a wrong size; false for other operations
abbrev pub has_misfit : FullOp → ℕ → Bool
has_misfit (Variable _) second =
    misfits (is_one second 52) (is_one second 53) (length_of second) (byte_of second)
has_misfit _ second = false

-- whether the progressive form is wrong: 1 writes or has over 24 bits, 2 to 7 lack an index word
abbrev pub misuses_p : Bool → ℕ → ℕ → ℕ → Bool
misuses_p writes p length i = (p == 1 && (writes || nat_lt 24 length)) || (nat_le 2 p && i == 0)

-- whether the progressive form of an operation on a field is wrong; false for other operations
abbrev pub has_misused_p : FullOp → ℕ → ℕ → Bool
has_misused_p (Variable op) first second =
    misuses_p (writes_field (Variable op)) (p_of second) (length_of second) (i_of first)
has_misused_p (Connective kind) first second =
    misuses_p (writes_field (Connective kind)) (p_of second) (length_of second) (i_of first)
has_misused_p _ first second = false

-- whether the count of an order is outside 1 to 1,000
abbrev pub miscounts : ℕ → Bool
miscounts count = count == 0 || nat_lt 1000 count

-- whether the count of an order is out of range; false for other operations
abbrev pub has_miscount : FullOp → ℕ → Bool
has_miscount (Order _) second = miscounts (second_address_of second)
has_miscount _ second = false

-- whether the bits of a full word with the given operation break one of the rules
unfoldable pub breaks_rules : FullOp → ℕ → ℕ → Bool
breaks_rules op first second = not (unused_in_kind op second == 0)
    || not (unused_k op second == 0)
    || not (unused_marks op second == 0)
    || has_misfit op second || has_misused_p op first second || has_miscount op second

-- whether a full word is invalid: there is no operation, or the bits break a rule
abbrev pub is_refused : Option FullOp → ℕ → ℕ → Bool
is_refused None first second = true
is_refused (Some op) first second = breaks_rules op first second

-- whether the bits are invalid; the second half-word counts only in a full word
abbrev pub is_invalid : ℕ → ℕ → Bool
is_invalid first second =
    if is_full first then is_refused (full_op second) first second else is_invalid_half first
