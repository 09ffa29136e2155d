-- The lines of the words that an entry uses, with the source of each word.
--
-- Proved: by their `ensures` clauses these calls do what definitions here say: `write_use`
-- (uses.rt), `fill_use` (uses.rt), `is_before` (uses.rt), `is_told` (uses.rt), and others.
-- Read by: definitions in EntryLines.
-- Laws: none names a definition of this file itself.
-- Change: the meaning is fixed by docs/ledger.md, since the contract of `st_account::ledger`
-- unfolds to a definition here. The form is free, with the proofs that unfold it.
use Rattle.std.specs.Prelude.{ℕ, ◌-◌, Bool, true, nat_lt, if◌then◌else◌, List, [], ◌∷◌, ◌++◌, codes, decimal, Option, None, Some}
use Rattle.st_text.specs.Bytes.{lf}
use Rattle.st_text.specs.Numerals.{flag}
use Rattle.st_banks.specs.Bank.{bank_of}
use Rattle.st_rows.specs.declared.uses.ReadTicks.{ReadTicks}
use Rattle.st_rows.specs.declared.uses.Role.{Role}
use Rattle.st_rows.specs.declared.uses.Role.TheVariants.{Instruction, Index, Operand, Following}
use Rattle.st_rows.specs.declared.uses.Supply.{Supply}
use Rattle.st_rows.specs.declared.uses.Supply.TheVariants.{Read, Held, Forwarded, Register}
use Rattle.st_rows.specs.declared.uses.Use.{Use}

-- the text of the role in which a word is used
abbrev pub role_text : Role → List ℕ
role_text Instruction = codes "INSTRUCTION"
role_text Index = codes "INDEX"
role_text Operand = codes "OPERAND"
role_text Following = codes "FOLLOWING"

-- whether a tick is before the end of a segment; true if the segment continues
abbrev pub is_before : Option ℕ → ℕ → Bool
is_before None tick = true
is_before (Some end) tick = nat_lt tick end

-- the text of the read of word w for an entry whose segment ends at a tick or continues; the read
-- is made if it is accepted before the end
abbrev pub ticks_text : Option ℕ → ℕ → ReadTicks → List ℕ
ticks_text end w t =
    codes " READ BANK " ++ decimal (bank_of w) ++ codes " WANT " ++ decimal t.want
    ++ codes " TURN " ++ decimal t.turn ++ codes " FREE " ++ decimal t.free
    ++ codes " ACCEPT " ++ decimal t.accept ++ codes " ANSWER " ++ decimal t.answer
    ++ codes " MADE " ++ flag (is_before end t.accept)

-- the text of the source of word w, which the n-th entry uses
abbrev pub supply_text : ℕ → Option ℕ → ℕ → Supply → List ℕ
supply_text n end w (Read t) = ticks_text end w t
supply_text n end w (Held answer) = codes " HELD ANSWER " ++ decimal answer
supply_text n end w (Forwarded x) =
    codes " FORWARDED ROW " ++ decimal (n - x.back) ++ codes " DONE " ++ decimal x.done
supply_text n end w Register = codes " REGISTER"

-- the line of a word that the n-th entry uses
abbrev pub use_line : ℕ → Option ℕ → Use → List ℕ
use_line n end u =
    codes "USE " ++ role_text u.role ++ codes " " ++ decimal u.word
    ++ supply_text n end u.word u.supply ++ lf

-- whether a word has a line: a read that is wanted only after the end of the segment has none
abbrev pub is_told : Option ℕ → Supply → Bool
is_told end (Read t) = is_before end t.want
is_told end (Held answer) = true
is_told end (Forwarded x) = true
is_told end Register = true

-- the lines of all words that the n-th entry uses
unfoldable pub use_lines : ℕ → Option ℕ → List Use → List (List ℕ)
use_lines n end [] = []
use_lines n end (u ∷ more) =
    (if is_told end u.supply then use_line n end u ∷ [] else []) ++ use_lines n end more
