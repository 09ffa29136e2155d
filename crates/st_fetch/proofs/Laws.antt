-- Proofs of the laws of held words.
use Rattle.std.specs.Prelude.{option_and_then}
use Rattle.std.proofs.Common.{◌≡◌, ◌≤◌, ℕ, List, ◌∷◌, [], ◌++◌, length, drop, None, Option, refl, ap, arith}
use Rattle.st_fetch.specs.HeldWords.{words_after_request, with_content, with_answer}
use Rattle.st_fetch.specs.declared.held.Held.{Held}
use Rattle.st_fetch.proofs.HeldLemmas.{answer_of-patched, found-changed_other, is_held-changed, answer_of-answered}
use Rattle.st_fetch.specs.Laws.{StoresChangeContentAlone, AnswersAreKnown, RequestsHoldFour}

pub stores_change_content_alone : StoresChangeContentAlone
stores_change_content_alone = record {
  here = λ hold w word. answer_of-patched hold w word;
  others = λ hold v w word ne.
      ap (λ (o : Option Held). option_and_then (λ (h : Held). h.answer) o)
      (found-changed_other w (with_content word) (λ _. refl) hold v ne);
  held = λ hold v w word. is_held-changed w (with_content word) (λ _. refl) hold v;
}

pub answers_are_known : AnswersAreKnown
answers_are_known = record {
  here = λ hold w word tick. answer_of-answered hold w word tick;
  others = λ hold v w word tick ne.
      ap (λ (o : Option Held). option_and_then (λ (h : Held). h.answer) o)
      (found-changed_other w (with_answer word tick) (λ _. refl) hold v ne);
  held = λ hold v w word tick. is_held-changed w (with_answer word tick) (λ _. refl) hold v;
}

room-four : (hold : List Held) (w : ℕ) → length hold ≤ 3 → words_after_request hold w ≡ hold ++ record { w = w; answer = None } ∷ []
room-four [] w few = refl
room-four (a ∷ []) w few = refl
room-four (a ∷ b ∷ []) w few = refl
room-four (a ∷ b ∷ c ∷ []) w few = refl
room-four (a ∷ b ∷ c ∷ d ∷ rest) w few = let no : ⊥ = omega (arith, few) in absurd no

full-four : (hold : List Held) (w : ℕ) → length hold ≡ 4 → words_after_request hold w ≡ drop 1 hold ++ record { w = w; answer = None } ∷ []
full-four [] w all = let no : ⊥ = omega (arith, all) in absurd no
full-four (a ∷ []) w all = let no : ⊥ = omega (arith, all) in absurd no
full-four (a ∷ b ∷ []) w all = let no : ⊥ = omega (arith, all) in absurd no
full-four (a ∷ b ∷ c ∷ []) w all = let no : ⊥ = omega (arith, all) in absurd no
full-four (a ∷ b ∷ c ∷ d ∷ []) w all = refl
full-four (a ∷ b ∷ c ∷ d ∷ e ∷ rest) w all = let no : ⊥ = omega (arith, all) in absurd no

pub requests_hold_four : RequestsHoldFour
requests_hold_four = record { room = room-four; full = full-four }
