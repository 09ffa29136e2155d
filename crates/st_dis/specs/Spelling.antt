-- The choice of instructions that have a spelling, and the statements of a word.
--
-- Proved: by their `ensures` clauses these calls do what definitions here say: `is_pair`
-- (counting.rt), `half_spelling` (spelling.rt), `says` (spelling.rt), `spelling_of` (spelling.rt),
-- and others.
-- Read by: definitions in Deck.
-- Laws: StatementsEmitTheirWord (specs/Laws.antt).
-- Change: the meaning is fixed by docs/disassembly.md, since the contract of `st_top::stretch`
-- unfolds to a definition here. The form is free, with the proofs that unfold it.
use Rattle.std.specs.Prelude.{ℕ, ◌+◌, ◌*◌, ◌/◌, ◌%◌, ◌^◌, ◌==◌, ◌&&◌, Bool, false, nat_le, List, [], ◌∷◌, ◌++◌, length, codes, decimal, Option, Some, None, if◌then◌else◌}
use Rattle.st_format.specs.Halves.{is_full}
use Rattle.st_format.specs.Formats.{instruction_of, is_valid}
use Rattle.st_format.specs.declared.instruction.Instr.{Instr}
use Rattle.st_asm.specs.Alone.{emitted_alone}
use Rattle.st_asm.specs.declared.alone.EmittedBits.{EmittedBits}
use Rattle.st_dis.specs.Texts.{instruction_text}

-- whether the assembled bits are present and equal to these bits
abbrev pub is_emitted : EmittedBits → Option EmittedBits → Bool
is_emitted wanted None = false
is_emitted wanted (Some emitted) = emitted.length == wanted.length && emitted.bits == wanted.bits

-- whether a text fits on a card and assembles to these bits
abbrev pub says : List ℕ → EmittedBits → Bool
says text wanted = nat_le (length text) 63 && is_emitted wanted (emitted_alone [] text)

-- the text of an instruction, if the instruction is valid and the text assembles to its bits
unfoldable pub spelling_of : Instr → EmittedBits → Option (List ℕ)
spelling_of instr wanted = if is_valid instr && says (instruction_text instr) wanted
    then Some (instruction_text instr) else None

-- the spelling of a full-word instruction, given its two halves
abbrev pub word_spelling : ℕ → ℕ → Option (List ℕ)
word_spelling left right = if is_full left then spelling_of (instruction_of left right)
    (record { length = 64; bits = left * 2 ^ 32 + right }) else None

-- the spelling of a half-word instruction
abbrev pub half_spelling : ℕ → Option (List ℕ)
half_spelling half = if is_full half then None
    else spelling_of (instruction_of half 0) (record { length = 32; bits = half })

-- a word as a DD statement
abbrev pub number_text : ℕ → List ℕ
number_text word = codes "DD(BU,64)," ++ decimal word

-- the statements of a word, given the spellings of the whole word and of its halves
abbrev pub statements_by : ℕ → Option (List ℕ) → Option (List ℕ) → Option (List ℕ) → List (List ℕ)
statements_by word (Some whole) left right = whole ∷ []
statements_by word None (Some left) (Some right) = left ∷ right ∷ []
statements_by word _ left right = number_text word ∷ []

-- the statements of a word: one full-word instruction, two half-word instructions, or a number
unfoldable pub statements_of : ℕ → List (List ℕ)
statements_of word = let left = word / 2 ^ 32 in
    let right = word % 2 ^ 32 in
    statements_by word (word_spelling left right) (half_spelling left) (half_spelling right)
