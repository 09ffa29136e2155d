-- The held words of a plan: each with the tick of its answer, the newest first.
--
-- Proved: by their `ensures` clauses these calls do what definitions here say: `answered`
-- (contents.rt), `patched` (contents.rt), `answered` (fetched.rt), `new` (fetched.rt), and others.
-- Read by: definitions in BusTimes of st_rows, Asked of st_rows, Uses of st_rows.
-- Laws: none names a definition of this file itself.
-- Change: the meaning is fixed by docs/timetable.md, since the contracts of `st_top::stretch` and
-- `st_account::ledger` unfold to a definition here. The form is free, with the proofs that unfold
-- it.
use Rattle.std.specs.Prelude.{ℕ, zero, suc, ◌==◌, if◌then◌else◌, List, [], ◌∷◌, take, find, get_or, Option, None, Some}
use Rattle.std.specs.Option.{option_map}
use Rattle.st_fetch.specs.declared.fetched.AskedWord.{AskedWord}
use Rattle.st_fetch.specs.declared.held.Held.{Held}

-- the entry that fills the list if fewer than four words were requested
abbrev pub no_word : AskedWord
no_word = record { w = 0; tick = 0 }

-- the tick at which the word w is answered, None if it is not held
abbrev pub tick_of : List AskedWord → ℕ → Option ℕ
tick_of held w = option_map (λ f. f.tick) (find (λ f. f.w == w) held)

-- the held words after a request of w that is answered at the tick: it is the newest, and the
-- oldest of five is dropped
abbrev pub asked_for : List AskedWord → ℕ → ℕ → List AskedWord
asked_for held w tick = record { w = w; tick = tick } ∷ take 3 held

-- a held word with the tick of its answer if it is w, otherwise unchanged
abbrev pub word_with_answer : ℕ → ℕ → AskedWord → AskedWord
word_with_answer w tick f = if f.w == w then record f { tick = tick } else f

-- the contents of a held word after w is answered: the new contents if it is w, otherwise unchanged
abbrev pub content_answered : ℕ → ℕ → AskedWord × Option ℕ → Option ℕ
content_answered w word (f, content) = if f.w == w then Some word else content

-- the contents of a held word after a store to w: the new contents if it is w and is answered,
-- otherwise unchanged
abbrev pub content_patched : ℕ → ℕ → AskedWord × Option ℕ → Option ℕ
content_patched w word (f, content) = if f.w == w then option_map (λ _. word) content else content

-- a held word of a plan combined with its contents; it is answered if it has contents
abbrev pub with_its_content : AskedWord × Option ℕ → Held
with_its_content (f, content) =
    record { w = f.w; answer = option_map (λ word. (word, f.tick)) content }

-- the newest n held words combined with their contents, the oldest first
unfoldable pub oldest_first : ℕ → List AskedWord → List (Option ℕ) → List Held
oldest_first zero words contents = []
oldest_first (suc n) words contents =
    with_its_content (get_or words n no_word, get_or contents n None)
    ∷ oldest_first n words contents
