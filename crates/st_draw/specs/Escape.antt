-- Text that is escaped for use between the elements of a chart.
--
-- Proved: by their `ensures` clauses these calls do what definitions here say: `push_escaped`
-- (escape.rt), `push_escaped_byte` (escape.rt).
-- Read by: definitions in Element.
-- Laws: TextsStayInTheirElements (specs/Laws.antt).
-- Change: the meaning is fixed by docs/chart.md, since the contract of `st_draw::draw` unfolds to a
-- definition here. The form is free, with the proofs that unfold it.
use Rattle.std.specs.Prelude.{ℕ, ◌==◌, if◌then◌else◌, List, [], ◌∷◌, ◌++◌, codes}
use Rattle.st_entries.specs.Plain.{plain_byte}

-- a byte in escaped form: markup characters as entities, others in a form that is safe for a
-- terminal
abbrev pub escaped_byte : ℕ → List ℕ
escaped_byte c =
    if c == 60 then codes "&lt;"
    else if c == 62 then codes "&gt;"
    else if c == 38 then codes "&amp;"
    else plain_byte c ∷ []

-- a text in escaped form, byte by byte
abbrev pub escaped_text : List ℕ → List ℕ
escaped_text [] = []
escaped_text (c ∷ cs) = escaped_byte c ++ escaped_text cs
