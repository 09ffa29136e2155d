-- The meaning of the words of a command line.
--
-- Proved: by their `ensures` clauses these calls do what definitions here say: `command_named_by`
-- (command.rt), `command_with_by` (command.rt), `number_by` (command.rt), `read_arguments`
-- (command.rt), and others.
-- Read by: definitions in CommandLine.
-- Laws: none names a definition of this file itself.
-- Change: the meaning is fixed by docs/running.md, since the contract of `st_top::stretch` unfolds
-- to a definition here. The form is free, with the proofs that unfold it.
use Rattle.std.specs.Prelude.{ℕ, ◌-◌, ◌^◌, ◌&&◌, ◌≤◌, nat_eq, nat_le, codes, if◌then◌else◌, List, [], ◌∷◌, length, Option, None, Some}
use Rattle.std.specs.Cmp.Lexicographic.{pointwise}
use Rattle.st_text.specs.Number.{is_number, digits_value}
use Rattle.st_text.specs.Tables.{row_of}
use Rattle.st_top.specs.declared.command.TheConstants.{MOST_MADE_CARDS}
use Rattle.st_top.specs.declared.command.Command.{Command}
use Rattle.st_top.specs.declared.command.Command.TheVariants.{Run, Assemble, Load, Disassemble, Sweep, Soak}

-- the command that a single word names
abbrev pub command_named : List ℕ → Option Command
command_named word = row_of word
    ((codes "run", Run) ∷ (codes "assemble", Assemble) ∷ (codes "load", Load)
    ∷ (codes "disassemble", Disassemble) ∷ (codes "sweep", Sweep) ∷ [])

-- the number that a word of 1 to 20 decimal digits spells, if it is from `least` to `most`
unfoldable pub number_between : ℕ → ℕ → List ℕ → Option ℕ
number_between least most word = let n = digits_value word in
    if is_number word && nat_le (length word) 20 && nat_le least n && nat_le n most then Some n
    else None

-- the command that runs a generated deck, given its seed and its number of cards
abbrev pub soak_of : Option ℕ → Option ℕ → Option Command
soak_of (Some number) (Some cards) = Some (Soak number cards)
soak_of _ _ = None

-- a generated deck has at most as many drawn cards as may be requested
abbrev pub IsWithinCards : Command → Type 0
IsWithinCards (Soak number cards) = cards ≤ MOST_MADE_CARDS
IsWithinCards _ = Unit {0}

-- the command that a word, a seed and a number of cards give
abbrev pub command_with : List ℕ → List ℕ → List ℕ → Option Command
command_with word number cards =
    if pointwise nat_eq word (codes "soak") then soak_of (number_between 0 (2 ^ 64 - 1) number)
    (number_between 1 MOST_MADE_CARDS cards)
    else None

-- the command that the words give, if they are valid
abbrev pub command_of : List (List ℕ) → Option Command
command_of (word ∷ []) = command_named word
command_of (word ∷ number ∷ cards ∷ []) = command_with word number cards
command_of _ = None
