-- The texts that the disassembler writes for instructions.
--
-- Proved: by their `ensures` clauses these calls do what definitions here say: `push_listed_field`
-- (pieces.rt), `push_bit_field` (pieces.rt), `push_description` (pieces.rt), `push_half_field`
-- (pieces.rt), and others.
-- Read by: definitions in Spelling.
-- Laws: none names a definition of this file itself.
-- Change: the meaning is fixed by docs/disassembly.md, since the contract of `st_top::stretch`
-- unfolds to a definition here. The form is free, with the proofs that unfold it.
use Rattle.std.specs.Prelude.{ℕ, suc, zero, ◌-◌, ◌/◌, ◌%◌, ◌^◌, ◌==◌, Bool, true, false, List, [], ◌++◌, codes, decimal, if◌then◌else◌}
use Rattle.st_text.specs.Numerals.{bit_address, half_address, flag}
use Rattle.st_bits.specs.declared.operations.HalfOp.{HalfOp}
use Rattle.st_bits.specs.declared.operations.HalfOp.TheVariants.{Lvs, R, Ex}
use Rattle.st_bits.specs.declared.operations.BranchOp.{BranchOp}
use Rattle.st_bits.specs.declared.operations.BranchOp.TheVariants.{Bew, Nop}
use Rattle.st_format.specs.declared.instruction.Instr.{Instr}
use Rattle.st_format.specs.declared.instruction.Instr.TheVariants.{Half, Branch, Vfl, Connect, Move, BitBranch, IndBranch, StoreCounter, Transfer}
use Rattle.st_format.specs.Operations.{half_row, branch_row, vfl_row, conn_row}
use Rattle.st_dis.specs.Names.{negation, truth_digits, move_name, change_name, turning, order_name, mode_name, form_name}

-- an index word as a field
abbrev pub index_field_text : ℕ → List ℕ
index_field_text j = codes ",$X" ++ decimal j

-- the index part of an address; empty if it has none
abbrev pub index_part_text : ℕ → List ℕ
index_part_text i = if i == 0 then [] else codes "($X" ++ decimal i ++ codes ")"

-- a half-word address with an optional index part as a field
abbrev pub half_field : ℕ → ℕ → List ℕ
half_field address i = codes "," ++ half_address address ++ index_part_text i

-- a bit address with an optional index part as a field
abbrev pub bit_field : ℕ → ℕ → List ℕ
bit_field address i = codes "," ++ bit_address address ++ index_part_text i

-- a second address, a half-word address without index part, as a field
abbrev pub second_field : ℕ → List ℕ
second_field second = codes "," ++ half_address second

-- a number as a field
abbrev pub number_field : ℕ → List ℕ
number_field n = codes "," ++ decimal n

-- an offset as a field; empty if it is 0
abbrev pub offset_field : ℕ → List ℕ
offset_field offset = if offset == 0 then [] else number_field offset

-- whether a list of index words, the first 16 of 19 bits of an address, contains index word k
abbrev pub has_index : ℕ → ℕ → Bool
has_index address k = address / 2 ^ (18 - k) % 2 == 1

-- the index words that a list contains, of the first n, as fields in increasing order
unfoldable pub listed_fields : ℕ → ℕ → List ℕ
listed_fields zero address = []
listed_fields (suc n) address =
    listed_fields n address ++ (if has_index address n then index_field_text n else [])

-- the text of an instruction on an index word: EX has no index word, R no address, LVS a list
abbrev pub half_text : HalfOp → ℕ → ℕ → ℕ → List ℕ
half_text Ex address j i = (half_row Ex).word ++ half_field address i
half_text R address j i = (half_row R).word ++ index_field_text j
half_text Lvs address j i = (half_row Lvs).word ++ index_field_text j ++ listed_fields 16 address
half_text op address j i = (half_row op).word ++ index_field_text j ++ half_field address i

-- the text of a branch: BEW and NOP have no address
abbrev pub branch_text : BranchOp → ℕ → ℕ → List ℕ
branch_text Bew address i = (branch_row Bew).word
branch_text Nop address i = (branch_row Nop).word
branch_text op address i = (branch_row op).word ++ half_field address i

-- the data description with all its parts
abbrev pub description : Bool → Bool → ℕ → ℕ → List ℕ
description decimal_digits unsigned bits byte =
    codes "(" ++ mode_name decimal_digits unsigned ++ number_field bits ++ number_field byte
    ++ codes ")"

-- the text after the data description: the progressive form, the address and the offset
abbrev pub operand_text : ℕ → ℕ → ℕ → ℕ → List ℕ
operand_text p address i offset = form_name p ++ bit_field address i ++ offset_field offset

-- the text of an instruction; empty for the floating group and for invalid bits
unfoldable pub instruction_text : Instr → List ℕ
instruction_text (Half op address j i) = half_text op address j i
instruction_text (Branch op address i) = branch_text op address i
instruction_text (Vfl op d u negated p bits byte offset address i) =
    (vfl_row op).word ++ negation negated ++ description d u bits byte
    ++ operand_text p address i offset
instruction_text (Connect kind truth p bits byte offset address i) =
    (conn_row kind).word ++ truth_digits truth ++ description false true bits byte
    ++ operand_text p address i offset
instruction_text (Move swap address i second count) =
    move_name swap ++ bit_field address i ++ second_field second ++ number_field count
instruction_text (BitBranch sense change address i second) =
    codes "BB" ++ flag sense ++ change_name change ++ bit_field address i ++ second_field second
instruction_text (IndBranch sense off address i second) =
    codes "BI" ++ flag sense ++ turning off ++ bit_field address i ++ second_field second
instruction_text (StoreCounter address i second) = codes "SIC" ++ bit_field address i
    ++ second_field second
instruction_text (Transfer write address i count) = order_name write ++ bit_field address i
    ++ number_field count
instruction_text _ = []
