-- Decoding (from bits to an instruction) and encoding (from an instruction to bits).
--
-- Proved: by their `ensures` clauses these calls do what definitions here say: `decode`
-- (decoding.rt), `encode` (encoding.rt), `checked` (decoding.rt), `decode_as` (decoding.rt), and
-- others.
-- Read by: definitions in Ranges of st_prep, Emitting of st_asm, Spelling of st_dis, Looking of
-- st_plain, and others.
-- Laws: InstructionKeepsBits (specs/Laws.antt), BitsSpellInstruction (specs/Laws.antt).
-- Change: the meaning is fixed by docs/instructions.md, since the contracts of `st_top::stretch`
-- and `st_account::ledger` unfold to a definition here. The form is free, with the proofs that
-- unfold it.
use Rattle.std.specs.Prelude.{ℕ, ◌≡◌, ◌+◌, ◌*◌, ◌%◌, ◌^◌, ◌<◌, ◌≤◌, Bool, true, false, IsTrue, IsFalse, ◌==◌, unwrap_or, is_some, Option, None, Some, if◌then◌else◌}
use Rattle.st_format.specs.declared.operations.TheConstants.{FLOATING_GROUP, BRANCH_GROUP}
use Rattle.st_format.specs.declared.operations.FullOp.{FullOp}
use Rattle.st_format.specs.declared.operations.FullOp.TheVariants.{Variable, Connective, Transmission, BitTest, IndicatorTest, Order, CounterStore}
use Rattle.st_format.specs.declared.instruction.Instr.{Instr}
use Rattle.st_format.specs.declared.instruction.Instr.TheVariants.{Half, Branch, Floating, Vfl, Connect, Move, BitBranch, IndBranch, StoreCounter, Transfer, Invalid}
use Rattle.st_format.specs.declared.instruction.Decoded.{Decoded}
use Rattle.st_format.specs.declared.instruction.Format.{Format}
use Rattle.st_format.specs.declared.instruction.Format.TheVariants.{Index, Branch as BranchGroup, Floating as FloatingGroup, Whole, NoHalf, NoWhole}
use Rattle.st_bits.specs.declared.operations.HalfOp.{HalfOp}
use Rattle.st_bits.specs.declared.operations.BranchOp.{BranchOp}
use Rattle.st_format.specs.Halves.{later, is_one, is_full, i_of, address_of, j_of, operation_of, bit_address_of, second_address_of, p_of, length_of, byte_of, offset_of, words_moved, half_bits, first_bits, second_half_bits, second_bits}
use Rattle.st_format.specs.Operations.{half_op, branch_op, full_op, half_number, branch_number, full_number, writes_field}
use Rattle.st_format.specs.Validity.{breaks_rules, is_invalid, misfits, misuses_p}

-- the branch of a half-word, by its J field; invalid if J is no branch operation
abbrev pub branch_instruction : Option BranchOp → ℕ → Instr
branch_instruction (Some op) first = Branch op (address_of first) (i_of first)
branch_instruction None first = Invalid first 0 false

-- the instruction of a half-word outside the two groups; invalid if it has no operation
abbrev pub index_instruction : Option HalfOp → ℕ → Instr
index_instruction (Some op) first = Half op (address_of first) (j_of first) (i_of first)
index_instruction None first = Invalid first 0 false

-- the instruction that a half-word encodes
unfoldable pub half_word : ℕ → Instr
half_word first = if operation_of first == FLOATING_GROUP
    then Floating (j_of first) (address_of first) (i_of first)
    else if operation_of first == BRANCH_GROUP
    then branch_instruction (branch_op (j_of first)) first
    else index_instruction (half_op (operation_of first)) first

-- the full-word instruction with a known operation, whose other fields come from the two half-words
unfoldable pub full_word_instruction : FullOp → ℕ → ℕ → Instr
full_word_instruction (Variable op) first second =
    Vfl op (is_one second 52) (is_one second 53) (is_one second 54) (p_of second) (length_of second)
    (byte_of second) (offset_of second) (bit_address_of first) (i_of first)
full_word_instruction (Connective kind) first second =
    Connect kind (later second 52 4) (p_of second) (length_of second) (byte_of second)
    (offset_of second) (bit_address_of first) (i_of first)
full_word_instruction (Transmission swap) first second =
    Move swap (bit_address_of first) (i_of first) (second_address_of second) (words_moved second)
full_word_instruction BitTest first second =
    BitBranch (is_one second 52) (later second 53 2) (bit_address_of first) (i_of first)
    (second_address_of second)
full_word_instruction IndicatorTest first second =
    IndBranch (is_one second 52) (is_one second 53) (bit_address_of first) (i_of first)
    (second_address_of second)
full_word_instruction (Order write) first second =
    Transfer write (bit_address_of first) (i_of first) (second_address_of second)
full_word_instruction CounterStore first second =
    StoreCounter (bit_address_of first) (i_of first) (second_address_of second)

-- the instruction of a full word; invalid if it has no operation or its bits break a rule
abbrev pub full_word : Option FullOp → ℕ → ℕ → Instr
full_word None first second = Invalid first second true
full_word (Some op) first second = if breaks_rules op first second then Invalid first second true
    else full_word_instruction op first second

-- the instruction of two half-words; the second is ignored if the first is a half-word instruction
unfoldable pub instruction_of : ℕ → ℕ → Instr
instruction_of first second =
    if is_full first then full_word (full_op second) first second else half_word first

-- the instruction that two half-words encode if they have the given format
abbrev pub spelled_as : Format → ℕ → ℕ → Instr
spelled_as (Index op) first second = Half op (address_of first) (j_of first) (i_of first)
spelled_as (BranchGroup op) first second = Branch op (address_of first) (i_of first)
spelled_as FloatingGroup first second = Floating (j_of first) (address_of first) (i_of first)
spelled_as (Whole op) first second = full_word_instruction op first second
spelled_as NoHalf first second = Invalid first 0 false
spelled_as NoWhole first second = Invalid first second true

-- the instruction that two half-words encode, with its length in half-words
abbrev pub decoded_entry : ℕ → ℕ → Decoded
decoded_entry first second =
    record { instr = instruction_of first second; halves = if is_full first then 2 else 1 }

-- a Boolean as a bit: 1 for true
abbrev pub bit_of : Bool → ℕ
bit_of b = if b then 1 else 0

-- the first half-word of the encoding of an instruction
abbrev pub first_half : Instr → ℕ
first_half (Half op address j i) = half_bits address j (half_number op) i
first_half (Branch op address i) = half_bits address (branch_number op) BRANCH_GROUP i
first_half (Floating number address i) = half_bits address number FLOATING_GROUP i
first_half (Vfl op d u n p length byte offset address i) = first_bits address i
first_half (Connect kind table p length byte offset address i) = first_bits address i
first_half (Move swap address i second count) = first_bits address i
first_half (BitBranch sense change address i second) = first_bits address i
first_half (IndBranch sense off address i second) = first_bits address i
first_half (StoreCounter address i second) = first_bits address i
first_half (Transfer write address i count) = first_bits address i
first_half (Invalid first second full) = first

-- the second half-word of the encoding of an instruction, if it is a full word
abbrev pub second_half : Instr → Option ℕ
second_half (Half op address j i) = None
second_half (Branch op address i) = None
second_half (Floating number address i) = None
second_half (Vfl op d u n p length byte offset address i) =
    Some (second_half_bits p length byte offset
    (bit_of d * 2 ^ 7 + bit_of u * 2 ^ 6 + bit_of n * 2 ^ 5 + full_number (Variable op)))
second_half (Connect kind table p length byte offset address i) =
    Some (second_half_bits p length byte offset (table * 2 ^ 4 + full_number (Connective kind)))
second_half (Move swap address i second count) =
    Some (second_bits second (full_number (Transmission swap)) (count % 16))
second_half (BitBranch sense change address i second) =
    Some (second_bits second (bit_of sense * 2 ^ 7 + change * 2 ^ 5 + full_number BitTest) 0)
second_half (IndBranch sense off address i second) = Some (second_bits second
    (bit_of sense * 2 ^ 7 + bit_of off * 2 ^ 6 + full_number IndicatorTest) 0)
second_half (StoreCounter address i second) = Some (second_bits second (full_number CounterStore) 0)
second_half (Transfer write address i count) =
    Some (second_bits count (full_number (Order write)) 0)
second_half (Invalid first second full) = if full then Some second else None

-- the length of an instruction in half-words, 1 or 2
abbrev pub halves_of : Instr → ℕ
halves_of instr = if is_some (second_half instr) then 2 else 1

-- the decoded encoding of an instruction, where `rest` follows a half-word instruction
abbrev pub reread : Instr → ℕ → Decoded
reread instr rest = decoded_entry (first_half instr) (unwrap_or (second_half instr) rest)

-- the ranges of the address and the index field of a half-word instruction
pub record FitsHalf (address i : ℕ) : Type 0 where
  pub address_fits : address < 2 ^ 19
  pub i_fits : i < 16

-- the ranges of the address and the index field of a full-word instruction
pub record FitsFull (address i : ℕ) : Type 0 where
  pub address_fits : address < 2 ^ 24
  pub i_fits : i < 16

-- the ranges of the fields of an operation on a field
pub record FitsField (p length byte offset : ℕ) : Type 0 where
  pub p_fits : p < 8
  pub some_bits : 1 ≤ length
  pub length_fits : length ≤ 64
  pub some_byte : 1 ≤ byte
  pub byte_fits : byte ≤ 8
  pub offset_fits : offset < 128

-- invalid bits as one or two half-words; a single half-word has 0 as its second
pub record IsRefusal (first second : ℕ) (full : Bool) : Type 0 where
  pub first_fits : first < 2 ^ 32
  pub second_fits : second < 2 ^ 32
  pub format : is_full first ≡ full
  pub refused : IsTrue (is_invalid first second)
  pub alone : full ≡ false → second ≡ 0

-- an instruction value whose fields are all in range, so that it has an encoding
abbrev pub IsShape : Instr → Type 0
IsShape (Half op address j i) = FitsHalf address i × (j < 16)
IsShape (Branch op address i) = FitsHalf address i
IsShape (Floating number address i) = FitsHalf address i × (number < 16)
IsShape (Vfl op d u n p length byte offset address i) =
    FitsFull address i × FitsField p length byte offset
    × IsFalse (misfits d u length byte)
    × IsFalse (misuses_p (writes_field (Variable op)) p length i)
IsShape (Connect kind table p length byte offset address i) =
    FitsFull address i × FitsField p length byte offset × (table < 16)
    × IsFalse (misuses_p (writes_field (Connective kind)) p length i)
IsShape (Move swap address i second count) =
    FitsFull address i × (second < 2 ^ 19) × (1 ≤ count) × (count ≤ 16)
IsShape (BitBranch sense change address i second) =
    FitsFull address i × (change < 4) × (second < 2 ^ 19)
IsShape (IndBranch sense off address i second) = FitsFull address i × (second < 2 ^ 19)
IsShape (StoreCounter address i second) = FitsFull address i × (second < 2 ^ 19)
IsShape (Transfer write address i count) = FitsFull address i × (1 ≤ count) × (count ≤ 1000)
IsShape (Invalid first second full) = IsRefusal first second full

-- whether the machine implements the instruction: false for the floating group and for invalid bits
abbrev pub is_valid : Instr → Bool
is_valid (Floating number address i) = false
is_valid (Invalid first second full) = false
is_valid _ = true

-- whether the instruction is a value for invalid bits
abbrev pub is_no_instruction : Instr → Bool
is_no_instruction (Invalid first second full) = true
is_no_instruction _ = false

-- an invalid half-word, the default instruction
pub record IsBlank (instr : Instr) : Type 0 where
  pub shape : IsShape instr
  pub none : is_no_instruction instr ≡ true
  pub half : halves_of instr ≡ 1

-- a decoded invalid half-word, the default decoded instruction
pub record IsBlankDecoded (d : Decoded) : Type 0 where
  pub blank : IsBlank d.instr
  pub half : d.halves ≡ 1
