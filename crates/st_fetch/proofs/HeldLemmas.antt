-- Lookups among held words after one of them has changed.
use Rattle.st_fetch.proofs.Common.{◌==◌, option_and_then, option_map, ◌≡◌, ◌≢◌, ℕ, true, false, List, [], ◌∷◌, map, Option, None, Some, refl, sym, ◌∙◌, inl, inr, cases_Bool, is_held, found, changed_at, with_content, answer_of, words_after_answer, words_after_store, Held}
use Rattle.std.proofs.lemmas.Bool.Decides.{eqb_tells}

module _ (w : ℕ) (f : Held → Held) (keeps : (h : Held) → (f h).w ≡ h.w) where
  -- a change keeps the address of a held word
  w-changed_at : (h : Held) → (changed_at w f h).w ≡ h.w
  w-changed_at h = elim (cases_Bool (h.w == w)) [ inl t ↦ rw t (keeps h) | inr n ↦ rw n refl ]

  -- a change does not affect which words are held
  pub is_held-changed : (hold : List Held) (v : ℕ) → is_held (map (changed_at w f) hold) v ≡ is_held hold v
  is_held-changed [] v = refl
  is_held-changed (h ∷ hold) v = rw (w-changed_at h, is_held-changed hold v) refl

  -- a lookup of w after a change of w
  pub found-changed_here : (hold : List Held) → found (map (changed_at w f) hold) w ≡ option_map f (found hold w)
  found-changed_here [] = refl
  found-changed_here (h ∷ hold) = elim (cases_Bool (h.w == w)) [
    | inl t ↦ rw (w-changed_at h, t) refl
    | inr n ↦ rw (w-changed_at h, n) (found-changed_here hold)
  ]

  -- a lookup of another word after a change of w
  pub found-changed_other : (hold : List Held) (v : ℕ) → v ≢ w → found (map (changed_at w f) hold) v ≡ found hold v
  found-changed_other [] v ne = refl
  found-changed_other (h ∷ hold) v ne = elim (eqb_tells h.w v) [
    | inl e ↦
        let other : (h.w == w) ≡ false = elim (eqb_tells h.w w) [ inl same ↦ absurd (ne (sym e.1 ∙ same.1)) | inr n ↦ n.0 ]
        in rw (w-changed_at h, e.0, other) refl
    | inr n ↦ rw (w-changed_at h, n.0) (found-changed_other hold v ne)
  ]

-- the answer of w after a store to w
pub answer_of-patched : (hold : List Held) (w word : ℕ)
    → answer_of (words_after_store hold w word) w ≡ option_map (λ a. (word, a.1)) (answer_of hold w)
answer_of-patched hold w word =
    let keeps : (h : Held) → (with_content word h).w ≡ h.w = λ _. refl in
    rw (found-changed_here w (with_content word) keeps hold)
    (elim (found hold w) as (λ (o : Option Held). option_and_then (λ (h : Held). h.answer) (option_map (with_content word) o)
    ≡ option_map (λ a. (word, a.1)) (option_and_then (λ (h : Held). h.answer) o)) [ None ↦ refl | Some h ↦ refl ])

-- the answer of a held word after it is answered
pub answer_of-answered : (hold : List Held) (w word tick : ℕ) → is_held hold w ≡ true
    → answer_of (words_after_answer hold w word tick) w ≡ Some (word, tick)
answer_of-answered [] w word tick there = absurd (cc)
answer_of-answered (h ∷ hold) w word tick there = elim (cases_Bool (h.w == w)) [
  | inl t ↦ rw (t, t) refl
  | inr n ↦
      let later : is_held hold w ≡ true = rw n at there in
      rw (n, n) (answer_of-answered hold w word tick later)
]
