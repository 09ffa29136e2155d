-- The assembly of a job: the form pass, then the name pass, then the value pass.
--
-- Proved: by their `ensures` clauses these calls do what definitions here say: `assemble`
-- (assembling.rt), `assemble_cards` (assembling.rt), `with_defaults` (assembling.rt), `answer_run`
-- (execution.rt of st_top), and others.
-- Read by: definitions in Sound, Stops, Marks of st_top, Output of st_top, and others.
-- Laws: DecksAssembleToTheirProgram (specs/Laws.antt of st_dis), MadeDecksAreNotRefused
-- (specs/Laws.antt of st_laws), CardsOfDelaysChangeDelaysAlone (specs/DelayLaws.antt of st_top),
-- JobsThatDifferInDelaysAlone (specs/DelayLaws.antt of st_top), and others.
-- Change: the meaning is fixed by docs/strap.md, since the contracts of `st_top::stretch` and
-- `st_account::ledger` unfold to a definition here. The form is free, with the proofs that unfold
-- it.
use Rattle.std.specs.Prelude.{ℕ, ◌==◌, List, [], ◌∷◌, length, Result, Ok, if◌then◌else◌}
use Rattle.st_card.specs.Cards.{cards_of}
use Rattle.st_card.specs.Controls.{Asked}
use Rattle.st_asm.specs.Pass.{Refusal, pass_then}
use Rattle.st_asm.specs.Forming.{Found, form_pass}
use Rattle.st_asm.specs.Symbols.{table}
use Rattle.st_asm.specs.Naming.{Named, name_pass}
use Rattle.st_asm.specs.Valuing.{Emitted, value_pass}
use Rattle.st_asm.specs.declared.naming.Symbol.{Symbol}
use Rattle.st_asm.specs.declared.valuing.Listed.{Listed}
use Rattle.st_asm.specs.declared.assembling.Assembled.{Assembled}

-- the result of assembling a job: words of storage, start, rows of the listing, symbols, requests
pub record Assembly : Type 0 where
  pub image : List ℕ
  pub start : ℕ
  pub rows : List Listed
  pub symbols : List Symbol
  pub asked : Asked

-- requests with defaults for the unset ones: 1000 instructions, and one delay of 1 tick
unfoldable pub with_defaults : Asked → Asked
with_defaults asked = record asked {
  budget = if asked.budget == 0 then 1000 else asked.budget;
  delays = if length asked.delays == 0 then 1 ∷ [] else asked.delays;
}

-- the results of the three passes combined
abbrev pub together : Found → Named → Emitted → Assembly
together found named emitted = record {
  image = emitted.image;
  start = emitted.start;
  rows = emitted.rows;
  symbols = named.symbols;
  asked = with_defaults found.asked;
}

-- the result of assembling a job, or the refusal of the earliest pass that finds a fault
unfoldable pub assembly : List ℕ → Result Assembly Refusal
assembly job = pass_then (form_pass job (cards_of job)) (λ found.
    pass_then (name_pass found.lines) (λ named.
    pass_then (value_pass (table named.symbols) found.lines named.places) (λ emitted.
    Ok (together found named emitted))))

-- the parts of the assembler's result
abbrev pub assembly_parts : Assembled → Assembly
assembly_parts a = record {
  image = a.image.items;
  start = a.start;
  rows = a.listing.items;
  symbols = a.symbols.items;
  asked = a.controls;
}
