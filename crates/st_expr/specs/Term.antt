-- The terms of an expression.
--
-- Proved: by their `ensures` clauses these calls do what definitions here say: `bit_address`
-- (terms.rt), `read_atom` (terms.rt), `read_place` (terms.rt), `system_atom` (terms.rt).
-- Read by: definitions in Expression.
-- Laws: none names a definition of this file itself.
-- Change: the meaning is fixed by docs/strap.md, since the contracts of `st_top::stretch` and
-- `st_account::ledger` unfold to a definition here. The form is free, with the proofs that unfold
-- it.
use Rattle.std.specs.Prelude.{◌≡◌, ℕ, ◌+◌, ◌*◌, false, List, [], ◌∷◌, if◌then◌else◌}
use Rattle.std.specs.Option.{option_map_or}
use Rattle.st_expr.specs.declared.terms.TheConstants.{LAST_ADDRESS, LAST_BIT}
use Rattle.st_text.specs.Bytes.{period}
use Rattle.st_text.specs.Number.{reading}
use Rattle.st_text.specs.Pieces.{pieces_of}
use Rattle.st_text.specs.Tables.{row_of}
use Rattle.st_text.specs.declared.numbers.Reading.{Reading}
use Rattle.st_text.specs.declared.numbers.Reading.TheVariants.{Bad, Good}
use Rattle.st_expr.specs.Name.{is_name, is_system_word, padded_name}
use Rattle.st_expr.specs.System.{system_symbols}
use Rattle.st_expr.specs.declared.terms.Term.{Term}
use Rattle.st_expr.specs.declared.terms.Atom.{Atom}
use Rattle.st_expr.specs.declared.terms.Atom.TheVariants.{Number, Name}
use Rattle.st_expr.specs.declared.terms.AtomReading.{AtomReading}
use Rattle.st_expr.specs.declared.terms.AtomReading.TheVariants.{Bad as BadAtom, Large as LargeAtom, Good as GoodAtom}

-- the reading of word w and bit b as 64w + b: bad if one of them is bad, else large if one is
abbrev pub bit_reading : Reading → Reading → AtomReading
bit_reading (Good w) (Good b) = GoodAtom (Number (64 * w + b))
bit_reading Bad b = BadAtom
bit_reading w Bad = BadAtom
bit_reading _ _ = LargeAtom

-- the reading of `w` or `w.b`, given its pieces between points
abbrev pub place_reading : List (List ℕ) → AtomReading
place_reading (w ∷ []) = bit_reading (reading LAST_ADDRESS w) (Good 0)
place_reading (w ∷ b ∷ []) = bit_reading (reading LAST_ADDRESS w) (reading LAST_BIT b)
place_reading _ = BadAtom

-- the atom of a system word: the number of a system symbol, or a name for any other word
abbrev pub system_atom : List ℕ → Atom
system_atom word = option_map_or (λ n. Number n) (row_of word system_symbols)
    (Name (padded_name word))

-- the reading of one piece of an expression: a name, a system word, or a number
abbrev pub atom_of : List ℕ → AtomReading
atom_of word = if is_name word then GoodAtom (Name (padded_name word))
    else (if is_system_word word then GoodAtom (system_atom word)
    else place_reading (pieces_of period word))

-- a term that adds nothing
abbrev pub IsZero : Term → Type 0
IsZero term = (term.minus ≡ false) × (term.atom ≡ Number 0)
