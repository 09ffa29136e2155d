-- The held instruction words: the last four that were requested.
--
-- Proved: by their `ensures` clauses these calls do what definitions here say: `answer` (held.rt),
-- `find` (held.rt), `held` (held.rt), `patch` (held.rt), and others.
-- Laws: AnswersAreKnown (specs/Laws.antt), StoresChangeContentAlone (specs/Laws.antt),
-- RequestsHoldFour (specs/Laws.antt).
-- Change: no page fixes these definitions, since no contract of a program unfolds to them; they
-- change together with the clauses, definitions and laws that name them. docs/timetable.md
-- describes the subject.
use Rattle.std.specs.Prelude.{ℕ, ◌-◌, ◌==◌, Bool, if◌then◌else◌, List, [], ◌∷◌, ◌++◌, length, drop, map, find, option_and_then, Option, None, Some}
use Rattle.std.specs.List.{list_any}
use Rattle.std.specs.Option.{option_map}
use Rattle.st_fetch.specs.declared.held.Held.{Held}

-- whether the word w is held
abbrev pub is_held : List Held → ℕ → Bool
is_held hold w = list_any (λ h. h.w == w) hold

-- the last four items of a list
abbrev pub last_four : List Held → List Held
last_four hold = drop (length hold - 4) hold

-- the held words after a request of w: it is the newest, without an answer; if there were four, the
-- oldest is dropped
abbrev pub words_after_request : List Held → ℕ → List Held
words_after_request hold w = last_four (hold ++ record { w = w; answer = None } ∷ [])

-- a held word after the change if it is w, otherwise unchanged
abbrev pub changed_at : ℕ → (Held → Held) → Held → Held
changed_at w change h = if h.w == w then change h else h

-- a held word with an answer: its contents and its tick
abbrev pub with_answer : ℕ → ℕ → Held → Held
with_answer word tick h = record h { answer = Some (word, tick) }

-- a held word with new contents if it is answered; the tick of the answer does not change
abbrev pub with_content : ℕ → Held → Held
with_content word h = record h { answer = option_map (λ a. (word, a.1)) h.answer }

-- the held words after w is answered
abbrev pub words_after_answer : List Held → ℕ → ℕ → ℕ → List Held
words_after_answer hold w word tick = map (changed_at w (with_answer word tick)) hold

-- the held words after a store to w
abbrev pub words_after_store : List Held → ℕ → ℕ → List Held
words_after_store hold w word = map (changed_at w (with_content word)) hold

-- the held word w, None if it is not held
abbrev pub found : List Held → ℕ → Option Held
found hold w = find (λ h. h.w == w) hold

-- the answer of w, its contents and tick; None if it is not held or not answered
abbrev pub answer_of : List Held → ℕ → Option (ℕ × ℕ)
answer_of hold w = option_and_then (λ h. h.answer) (found hold w)
