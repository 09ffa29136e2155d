-- A pass processes the cards in their order and stops at the first faulty one.
--
-- Proved: by their `ensures` clauses these calls do what definitions here say: `read_cards`
-- (forming.rt), `name_lines` (naming.rt).
-- Read by: definitions in Forming, Naming, Valuing, Assembly, and others.
-- Laws: none names a definition of this file itself.
-- Change: the meaning is fixed by docs/strap.md, since the contracts of `st_top::stretch` and
-- `st_account::ledger` unfold to a definition here. The form is free, with the proofs that unfold
-- it.
use Rattle.std.specs.Prelude.{ℕ, List, [], ◌∷◌, Option, Some, None, Result, Ok, Err}
use Rattle.st_card.specs.declared.faults.Fault.{Fault}

-- the refusal of a job: the number of a card, and its fault
pub record Refusal : Type 0 where
  pub card : ℕ
  pub fault : Fault

-- a pass after one card: it continues if the card has no fault, and else is refused at that card
abbrev pub onward : {S T : Type 0} → (S → Result T Refusal) → ℕ → Result S Fault → Result T Refusal
onward rest card (Ok state) = rest state
onward rest card (Err fault) = Err (record { card = card; fault = fault })

-- a pass over cards: `next` gives the state after a card from that before it, or the card's fault
abbrev pub pass : {S X : Type 0} → (S → X → Result S Fault) → (X → ℕ) → S → List X →
    Result S Refusal
pass next number state [] = Ok state
pass next number state (x ∷ xs) = onward (λ s. pass next number s xs) (number x) (next state x)

-- a result, or a fault if there is one
abbrev pub unless_faulty : {S : Type 0} → Option Fault → Result S Fault → Result S Fault
unless_faulty None answer = answer
unless_faulty (Some fault) answer = Err fault

-- a pass followed by another one if it is not refused
abbrev pub pass_then : {A B : Type 0} → Result A Refusal → (A → Result B Refusal) → Result B Refusal
pass_then (Ok a) next = next a
pass_then (Err refusal) next = Err refusal
