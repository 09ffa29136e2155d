-- Texts without leading or trailing blanks.
--
-- Proved: by their `ensures` clauses these calls do what definitions here say: `filled_len`
-- (blanks.rt), `without_end_blanks` (blanks.rt), `without_front_blanks` (blanks.rt),
-- `drop_end_blanks` (lines.rt).
-- Read by: definitions in Lines of st_asm, Label of st_entries, Listing of st_report, Printer of
-- st_exch.
-- Laws: SymbolsAgree (specs/Laws.antt of st_laws).
-- Change: the meaning is fixed by docs/strap.md, since the contracts of `st_top::stretch` and
-- `st_account::ledger` and `st_draw::draw` unfold to a definition here. The form is free, with the
-- proofs that unfold it.
use Rattle.std.specs.Prelude.{ℕ, ◌-◌, ◌==◌, List, [], ◌∷◌, length, take, if◌then◌else◌}
use Rattle.std.specs.List.{suffix_len}
use Rattle.st_text.specs.Bytes.{blank}

-- a text without its leading blanks
abbrev pub without_front_blanks : List ℕ → List ℕ
without_front_blanks [] = []
without_front_blanks (c ∷ cs) = if c == blank then without_front_blanks cs else c ∷ cs

-- a text without its trailing blanks
abbrev pub without_end_blanks : List ℕ → List ℕ
without_end_blanks text = take (length text - suffix_len (λ c. c == blank) text) text
