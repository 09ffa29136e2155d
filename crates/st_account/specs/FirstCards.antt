-- The cards that the half-words of a job's program come from.
--
-- Proved: by their `ensures` clauses these calls do what definitions here say: `beginning`
-- (origins.rt), `enter_row` (origins.rt), `extent` (origins.rt), `first_cards` (origins.rt), and
-- others.
-- Read by: definitions in Answers.
-- Laws: RowsComeFromTheCards (specs/CardLaws.antt of st_causes).
-- Change: the meaning is fixed by docs/ledger.md, since the contract of `st_account::ledger`
-- unfolds to a definition here. The form is free, with the proofs that unfold it.
use Rattle.std.specs.Prelude.{ℕ, ◌/◌, Bool, false, nat_eq, if◌then◌else◌, List, [], ◌∷◌, Option, None, Some, option_map}
use Rattle.st_asm.specs.Assembly.{Assembly}
use Rattle.st_asm.specs.declared.valuing.Listed.{Listed}
use Rattle.st_state.specs.Machine.{Machine}
use Rattle.st_lines.specs.Origins.{is_kept, origin_by}
use Rattle.st_lines.specs.declared.origins.Origin.{Origin}

-- the address of the half-word in which the bits of a card begin, if it assembles to any
abbrev pub beginning : Listed → Option ℕ
beginning row = if nat_eq row.length 0 then None else option_map (λ a. a / 32) row.location

-- whether an optional half-word address is h
abbrev pub is_at : Option ℕ → ℕ → Bool
is_at None h = false
is_at (Some b) h = nat_eq b h

-- the number of the first card in a listing whose bits begin in half-word h
unfoldable pub first_card : List Listed → ℕ → Option ℕ
first_card [] h = None
first_card (row ∷ rows) h = if is_at (beginning row) h then Some row.card else first_card rows h

-- the origin of half-word h in a state of the job's run
unfoldable pub origin_of : Assembly → Machine → ℕ → Option Origin
origin_of a s h = origin_by (first_card a.rows h) (is_kept a.image s.words h)
