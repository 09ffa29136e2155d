-- Texts in printable characters.
--
-- Proved: by their `ensures` clauses these calls do what definitions here say: `plain_byte`
-- (plain.rt), `push_plain` (plain.rt).
-- Read by: definitions in Log, Escape of st_draw, Terminal of st_draw.
-- Laws: LabelsStayInTheirLines (specs/Laws.antt).
-- Change: the meaning is fixed by docs/chart.md, since the contract of `st_draw::draw` unfolds to a
-- definition here. The form is free, with the proofs that unfold it.
use Rattle.std.specs.Prelude.{ℕ, if◌then◌else◌, List, map}
use Rattle.st_text.specs.Bytes.{is_printable_byte}

-- a byte in a form that is safe for a terminal: a question mark if it is not printable
abbrev pub plain_byte : ℕ → ℕ
plain_byte c = if is_printable_byte c then c else 63

-- a text in a form that is safe for a terminal, byte by byte
abbrev pub plain_text : List ℕ → List ℕ
plain_text text = map plain_byte text
