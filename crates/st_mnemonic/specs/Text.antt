-- The text of a statement, cut into its parts.
--
-- Proved: by their `ensures` clauses these calls do what definitions here say: `split_word`
-- (parts.rt), `progressed` (forms.rt), `begins_with` (parts.rt), `clean` (parts.rt), and others.
-- Read by: definitions in Forming, Describing, Table, Faults of st_strap, and others.
-- Laws: none names a definition of this file itself.
-- Change: the meaning is fixed by docs/strap.md, since the contracts of `st_top::stretch` and
-- `st_account::ledger` unfold to a definition here. The form is free, with the proofs that unfold
-- it.
use Rattle.std.specs.Prelude.{ℕ, ◌+◌, ◌==◌, ◌||◌, Bool, not, min, List, [], ◌∷◌, length, take, drop, filter, slice_get, false, if◌then◌else◌}
use Rattle.std.specs.Option.{option_map_or}
use Rattle.st_text.specs.Bytes.{blank, open_parenthesis, close_parenthesis, comma, semicolon}
use Rattle.st_text.specs.Pieces.{pieces_of}

-- the number of bytes before the first occurrence of either of two bytes
abbrev pub stop : ℕ → ℕ → List ℕ → ℕ
stop a b [] = 0
stop a b (c ∷ cs) = if c == a || c == b then 0 else stop a b cs + 1

-- whether a text begins with a byte
abbrev pub begins_with : ℕ → List ℕ → Bool
begins_with c text = option_map_or (λ first. first == c) (slice_get text 0) false

-- whether a text ends with a byte
abbrev pub ends_with : ℕ → List ℕ → Bool
ends_with c [] = false
ends_with c (last ∷ []) = last == c
ends_with c (_ ∷ next ∷ text) = ends_with c (next ∷ text)

-- a statement without its comment and its blanks
unfoldable pub statement_text : List ℕ → List ℕ
statement_text text = filter (λ c. not (c == blank)) (take (stop semicolon semicolon text) text)

-- the operation of a statement: the text up to the first parenthesis or comma
abbrev pub operation_text : List ℕ → List ℕ
operation_text statement = take (stop open_parenthesis comma statement) statement

-- the text after the operation
abbrev pub behind_word : List ℕ → List ℕ
behind_word statement = drop (stop open_parenthesis comma statement) statement

-- the length of the group at the start of a text: up to its first `)`, else to the end
unfoldable pub group_length : List ℕ → ℕ
group_length text = if begins_with open_parenthesis text
    then min (stop close_parenthesis close_parenthesis text + 1) (length text) else 0

-- the parenthesized group at the start of a text, empty if there is none
abbrev pub group : List ℕ → List ℕ
group text = take (group_length text) text

-- the text after the parenthesized group at the start
abbrev pub behind_group : List ℕ → List ℕ
behind_group text = drop (group_length text) text

-- the texts of the fields, each preceded by a comma
unfoldable pub fields_of : List ℕ → List (List ℕ)
fields_of [] = []
fields_of (c ∷ cs) = pieces_of comma cs
