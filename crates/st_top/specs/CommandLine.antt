-- The words of a command line as the arguments of a program.
--
-- Proved: by their `ensures` clauses these calls do what definitions here say: `are_plain`
-- (command.rt), `command_by` (command.rt), `is_plain` (command.rt), `read_words` (command.rt), and
-- others.
-- Laws: none names a definition of this file itself.
-- Change: the meaning is fixed by docs/running.md, since the contract of `st_top::stretch` unfolds
-- to a definition here. The form is free, with the proofs that unfold it.
use Rattle.std.specs.Prelude.{ℕ, ◌==◌, Bool, true, false, not, codes, List, [], ◌∷◌, Option, None, Some, option_and_then}
use Rattle.st_text.specs.Bytes.{minus_sign}
use Rattle.clap.specs.Words.{App, new_app, new_rule, with_rule}
use Rattle.clap.specs.Simple.{on_top}
use Rattle.st_top.specs.Command.{command_named, command_with}
use Rattle.st_top.specs.declared.command.Command.{Command}

-- whether a word can be an argument: it is not empty and does not begin with `-`
abbrev pub is_plain : List ℕ → Bool
is_plain [] = false
is_plain (c ∷ cs) = not (c == minus_sign)

-- a program with three words as arguments; the first word of a command line is an argument, not the
-- program's name
abbrev pub three_words : App
three_words =
    with_rule (with_rule (with_rule (on_top (λ shape. record shape { no_binary_name = true })
    (new_app (codes "stretch")))
    (new_rule (codes "command"))) (new_rule (codes "number"))) (new_rule (codes "cards"))

-- the command that three optional arguments give; a seed requires a number of cards
abbrev pub command_by : Option (List ℕ) → Option (List ℕ) → Option (List ℕ) → Option Command
command_by command None None = option_and_then command_named command
command_by command None (Some cards) = None
command_by command (Some number) None = None
command_by None (Some number) (Some cards) = None
command_by (Some word) (Some number) (Some cards) = command_with word number cards
