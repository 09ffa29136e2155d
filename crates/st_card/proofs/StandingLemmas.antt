-- Each card of a job lies within the job.
use Rattle.st_card.proofs.Common.{◌≡◌, ◌⊎◌, inl, inr, ◌<◌, ◌+◌, ◌-◌, ◌==◌, ℕ, zero, suc, true, false, List, [], ◌∷◌, ◌++◌, length, take, All, refl, ap, sym, subst, arith, length-append, if◌then◌else◌, slice_index, strip_carriage_return, All-nil, All-cons, All-take, onto_first, pieces_of, IsFront, IsBehind, card_at, cards_from, cards_of, IsCardOf, Card, front_of_front, front_of_whole, front_itself, front_taken, behind_whole, behind_behind, behind_itself}
use Rattle.st_card.proofs.CardLemmas.{card_first}
use Rattle.st_card.proofs.TextLemmas.{card_described}

-- a line without its carriage return is a prefix of the line
front_stripped : (text : List ℕ) → IsFront (strip_carriage_return text) text
front_stripped text =
    elim (slice_index text (length text - 1) == 13) as (λ b. IsFront (if b then take (length text - 1) text else text) text) [
      | true ↦ front_taken (length text - 1) text (omega arith)
      | false ↦ front_itself text
    ]

-- a text whose first line has a line end, with its lines
record HasParts (parts : List (List ℕ)) (text : List ℕ) : Type 0 where
  line : List ℕ
  after : List ℕ
  end : ℕ
  whole : text ≡ line ++ end ∷ after
  parted_so : parts ≡ line ∷ pieces_of 10 after

abbrev HasLine : List ℕ → Type 0
HasLine text = HasParts (pieces_of 10 text) text

line_on : (c : ℕ) (cs : List ℕ) → (pieces_of 10 cs ≡ cs ∷ []) ⊎ HasLine cs
    → (onto_first c (pieces_of 10 cs) ≡ (c ∷ cs) ∷ []) ⊎ HasParts (onto_first c (pieces_of 10 cs)) (c ∷ cs)
line_on c cs (inl none) = inl (ap (λ p. onto_first c p) none)
line_on c cs (inr has) = inr (record {
  line = c ∷ has.line;
  after = has.after;
  end = has.end;
  whole = ap (λ s. c ∷ s) has.whole;
  parted_so = ap (λ p. onto_first c p) has.parted_so;
})

first_line : (text : List ℕ) → (pieces_of 10 text ≡ text ∷ []) ⊎ HasLine text
first_line [] = inl refl
first_line (c ∷ cs) =
    let F : List (List ℕ) → Type 0 = λ p. (p ≡ (c ∷ cs) ∷ []) ⊎ HasParts p (c ∷ cs) in
    elim (c == 10) as (λ b. F (if b then [] ∷ pieces_of 10 cs else onto_first c (pieces_of 10 cs))) [
      | true ↦ inr (record { line = []; after = cs; end = c; whole = refl; parted_so = refl })
      | false ↦ line_on c cs (first_line cs)
    ]

-- ---- the cards from a line on

stands_last : (n : ℕ) (job rest : List ℕ) → IsBehind rest job → All (IsCardOf job) (cards_from n (length job - length rest) (rest ∷ []))
stands_last n job rest behind =
    elim (length rest == 0) as (λ b. All (IsCardOf job) (if b then [] else card_at n (length job - length rest) rest ∷ [])) [
      | true ↦ All-nil (IsCardOf job)
      | false ↦ All-cons (IsCardOf job) _ [] (card_described n job rest rest behind (front_itself rest)) (All-nil (IsCardOf job))
    ]

stands_by : (n : ℕ) (job rest : List ℕ) → IsBehind rest job → (pieces_of 10 rest ≡ rest ∷ []) ⊎ HasLine rest
    → ((m : ℕ) (after : List ℕ) → IsBehind after job → length after < length rest
    → All (IsCardOf job) (cards_from m (length job - length after) (pieces_of 10 after)))
    → All (IsCardOf job) (cards_from n (length job - length rest) (pieces_of 10 rest))
stands_by n job rest behind (inl none) more =
    subst (λ p. All (IsCardOf job) (cards_from n (length job - length rest) p)) (sym none) (stands_last n job rest behind)
stands_by n job rest behind (inr has) more =
    let shown = strip_carriage_return has.line in
    let place = length job - length rest in
    let lengths : length has.line + 1 + length has.after ≡ length rest = omega (arith, simp length-append at (ap length has.whole)) in
    let later = behind_behind has.after rest job (behind_whole has.line has.after rest has.end has.whole) behind in
    let next : place + (length rest - length has.after) ≡ length job - length has.after = omega (arith, lengths, behind.within) in
    let here = card_described n job rest shown behind (front_of_front shown has.line rest (front_stripped has.line) (front_of_whole has.line has.after rest has.end has.whole)) in
    let rest_stands = subst (λ k. All (IsCardOf job) (cards_from (n + 1) k (pieces_of 10 has.after))) (sym next)
    (more (n + 1) has.after later (omega (arith, lengths))) in
    subst (λ (cs : List Card). All (IsCardOf job) cs) (sym (card_first rest has.line shown has.after has.parted_so refl lengths n place))
    (All-cons (IsCardOf job) _ _ here rest_stands)

stands_from : (left n : ℕ) (job rest : List ℕ) → IsBehind rest job → length rest < left
    → All (IsCardOf job) (cards_from n (length job - length rest) (pieces_of 10 rest))
stands_from zero n job rest behind few = absurd (omega (arith, few))
stands_from (suc left) n job rest behind few =
    stands_by n job rest behind (first_line rest) (λ m after later fewer. stands_from left m job after later (omega (arith, few, fewer)))

pub cards_stand : (job : List ℕ) → All (IsCardOf job) (cards_of job)
cards_stand job =
    let none : length job - length job ≡ 0 = omega arith in
    let all = subst (λ k. All (IsCardOf job) (cards_from 1 k (pieces_of 10 job))) none
    (stands_from (suc (length job)) 1 job job (behind_itself job) (omega arith)) in
    All-take (IsCardOf job) 20001 (cards_from 1 0 (pieces_of 10 job)) all
