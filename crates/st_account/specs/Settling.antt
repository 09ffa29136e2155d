-- A scene from its parts, and the printed words among events.
--
-- Proved: by their `ensures` clauses these calls do what definitions here say: `write_part`
-- (program.rt), `write_tallied` (program.rt), `add_run` (running.rt), `write_ledger` (running.rt),
-- and others.
-- Read by: definitions in Answers, Text.
-- Laws: none names a definition of this file itself.
-- Change: the meaning is fixed by docs/ledger.md, since the contract of `st_account::ledger`
-- unfolds to a definition here. The form is free, with the proofs that unfold it.
use Rattle.std.specs.Prelude.{ℕ, List, [], ◌∷◌}
use Rattle.st_state.specs.Machine.{Machine}
use Rattle.st_card.specs.declared.control_cards.Signal.{Signal}
use Rattle.st_run.specs.Run.{Scene, PlainEvent, Prints, Interrupts, Executes, Ends}

-- the scene of a machine, the pending signals, and the remaining cards of its reader
abbrev pub at_hand : Machine → List Signal → List (List ℕ) → Scene
at_hand s xs cards = record { machine = s; signals = xs; cards = cards }

-- the printed words among events, eight for each line
unfoldable pub words_printed : List PlainEvent → List (List ℕ)
words_printed [] = []
words_printed (Prints s words ∷ es) = words ∷ words_printed es
words_printed (Interrupts s i ∷ es) = words_printed es
words_printed (Executes s a ∷ es) = words_printed es
words_printed (Ends s b ∷ es) = words_printed es
