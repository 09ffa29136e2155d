-- The text of requests, one request a line: on control cards and in object texts.
--
-- Proved: by their `ensures` clauses these calls do what definitions here say: `push_controls`
-- (written.rt), `push_requests` (written.rt), `push_line` (written.rt), `count` (control_cards.rt),
-- and others.
-- Read by: definitions in Deck of st_dis, Draft of st_object, Meaning of st_object, Object of
-- st_object, and others.
-- Laws: none names a definition of this file itself.
-- Change: the meaning is fixed by docs/strap.md, since the contract of `st_top::stretch` unfolds to
-- a definition here. The form is free, with the proofs that unfold it.
use Rattle.std.specs.Prelude.{ℕ, ◌≤◌, ◌==◌, Bool, List, [], ◌∷◌, ◌++◌, map, codes, decimal, if◌then◌else◌}
use Rattle.std.specs.List.{flat_map}
use Rattle.st_text.specs.Bytes.{lf}
use Rattle.st_card.specs.Controls.{Asked, is_marked, number_of}
use Rattle.st_card.specs.declared.limits.TheConstants.{MOST_NUMBER}
use Rattle.st_card.specs.declared.keywords.Number.TheVariants.{Delays, Snap}
use Rattle.st_card.specs.declared.keywords.Pair.TheVariants.{Signals, Dump}
use Rattle.st_card.specs.declared.keywords.Keyword.{Keyword}
use Rattle.st_card.specs.declared.keywords.Keyword.TheVariants.{Listing, Mark, Once, Number, Pair}
use Rattle.st_card.specs.declared.keywords.Control.{Control}
use Rattle.st_card.specs.declared.keywords.Control.TheVariants as asks
use Rattle.st_card.specs.declared.keywords.ControlForm.{ControlForm}
use Rattle.st_card.specs.Keywords.{keyword_order, keyword_text}

-- the line of one request, without its line end
unfoldable pub control_line : ControlForm → Control → List ℕ
control_line form (asks.Mark mark) = keyword_text form (Mark mark)
control_line form (asks.Once once n) = keyword_text form (Once once) ++ codes " " ++ decimal n
control_line form (asks.Number number n) =
    keyword_text form (Number number) ++ codes " " ++ decimal n
control_line form (asks.Pair pair a b) =
    keyword_text form (Pair pair) ++ codes " " ++ decimal a ++ codes " " ++ decimal b

-- the text of lines, each followed by its line end
abbrev pub text_of_lines : List (List ℕ) → List ℕ
text_of_lines lines = flat_map (λ line. line ++ lf) lines

-- a list of one item if a flag is set, else an empty list
abbrev pub where_asked : {X : Type 0} → Bool → X → List X
where_asked asked x = if asked then x ∷ [] else []

-- a list of one item if a number is not 0, else an empty list
abbrev pub unless_zero : {X : Type 0} → ℕ → X → List X
unless_zero n x = if n == 0 then [] else x ∷ []

-- the requests with this keyword; a listing has no line
abbrev pub asked_by : Keyword → Asked → List Control
asked_by Listing a = []
asked_by (Mark mark) a = where_asked (is_marked mark a) (asks.Mark mark)
asked_by (Once once) a = unless_zero (number_of once a) (asks.Once once (number_of once a))
asked_by (Number Delays) a = map (λ d. asks.Number Delays d) a.delays
asked_by (Pair Signals) a = map (λ s. asks.Pair Signals s.count s.indicator) a.signals
asked_by (Pair Dump) a = map (λ p. asks.Pair Dump p.0 p.1) a.dumps
asked_by (Number Snap) a = map (λ t. asks.Number Snap t) a.snaps

-- all requests that have a line, in the order in which they are written
abbrev pub requests : Asked → List Control
requests a = flat_map (λ keyword. asked_by keyword a) keyword_order

-- a number of at most 12 digits, as a control card may have it
abbrev pub IsShort : ℕ → Type 0
IsShort n = n ≤ MOST_NUMBER

-- a request whose numbers all have at most 12 digits
abbrev pub IsShortControl : Control → Type 0
IsShortControl (asks.Mark mark) = Unit {0}
IsShortControl (asks.Once once n) = IsShort n
IsShortControl (asks.Number number n) = IsShort n
IsShortControl (asks.Pair pair a b) = IsShort a × IsShort b
