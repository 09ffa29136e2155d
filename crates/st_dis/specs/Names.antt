-- The modifiers of instructions, and the mnemonics that no table of operations has.
--
-- Proved: by their `ensures` clauses these calls do what definitions here say: `change_name`
-- (names.rt), `form_name` (names.rt), `mode_name` (names.rt), `move_name` (names.rt), and others.
-- Read by: definitions in Texts.
-- Laws: none names a definition of this file itself.
-- Change: the meaning is fixed by docs/disassembly.md, since the contract of `st_top::stretch`
-- unfolds to a definition here. The form is free, with the proofs that unfold it.
use Rattle.std.specs.Prelude.{ℕ, ◌/◌, ◌%◌, ◌==◌, Bool, List, [], ◌∷◌, ◌++◌, codes, slice_index_or, if◌then◌else◌}
use Rattle.st_text.specs.Numerals.{flag}

-- the last letter of a negated operation's mnemonic; empty if it is not negated
abbrev pub negation : Bool → List ℕ
negation negated = if negated then codes "N" else []

-- the digits of a truth table: the results for 00, 01, 10 and 11
abbrev pub truth_digits : ℕ → List ℕ
truth_digits truth =
    flag (truth / 8 % 2 == 1) ++ flag (truth / 4 % 2 == 1) ++ flag (truth / 2 % 2 == 1)
    ++ flag (truth % 2 == 1)

-- the mnemonic of a move of words
abbrev pub move_name : Bool → List ℕ
move_name swap = if swap then codes "SWAP" else codes "T"

-- the text of a change of a bit in a bit branch's mnemonic
abbrev pub change_name : ℕ → List ℕ
change_name change = slice_index_or ([] ∷ codes "Z" ∷ codes "S" ∷ codes "V" ∷ []) change []

-- the part of an indicator branch's mnemonic that says whether the indicator is turned off
abbrev pub turning : Bool → List ℕ
turning off = if off then codes "Z" else []

-- the mnemonic of an order to the reader or to the printer
abbrev pub order_name : Bool → List ℕ
order_name write = if write then codes "WR" else codes "RD"

-- the mode of a field in a data description
abbrev pub mode_name : Bool → Bool → List ℕ
mode_name decimal unsigned = if decimal then (if unsigned then codes "DU" else codes "D")
    else (if unsigned then codes "BU" else codes "B")

-- the text of a progressive form
abbrev pub form_name : ℕ → List ℕ
form_name p = slice_index_or ([] ∷ codes "(IM)" ∷ codes "(V+I)" ∷ codes "(V+IC)" ∷ codes "(V+ICR)"
    ∷ codes "(V-I)" ∷ codes "(V-IC)" ∷ codes "(V-ICR)" ∷ []) p []
