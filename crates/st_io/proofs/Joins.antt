-- The effect of two successive reads or writes.
use Rattle.st_io.proofs.Common.{◌≡◌, ℕ, ◌+◌, ◌≤◌, List, [], ◌∷◌, ◌++◌, length, take, drop, refl, sym, ◌∙◌, ap, append_assoc, arith, length-append, Option, None, Some, take-append-drop, append-nil, length-take-le, count_after, OutputState, Appends, Wrote, InputState, Came, Gave}
use Rattle.std.specs.Io.KnownBytes.{Consumes}

-- a prefix of the piece was written, and the rest remains
pub record WritesSoFar (s t : OutputState) (piece rest : List ℕ) : Type 0 where
  pub front : List ℕ
  pub wrote : Wrote s t front
  pub parts : piece ≡ front ++ rest

pub Appends-join : (a b c : Option (List ℕ)) (xs ys : List ℕ) → Appends a b xs → Appends b c ys → Appends a c (xs ++ ys)
Appends-join None None None xs ys p q = tt
Appends-join None None (Some c) xs ys p q = q
Appends-join None (Some b) c xs ys p q = absurd p
Appends-join (Some a) None None xs ys p q = tt
Appends-join (Some a) None (Some c) xs ys p q = absurd q
Appends-join (Some a) (Some b) None xs ys p q = tt
Appends-join (Some a) (Some b) (Some c) xs ys p q = q ∙ (ap (λ zs. zs ++ ys) p ∙ append_assoc a xs ys)

-- without a write no bytes are appended
pub Appends_none : (a : Option (List ℕ)) → Appends a a []
Appends_none None = tt
Appends_none (Some a) = sym (append-nil a)

pub Wrote_join : (s t u : OutputState) (xs ys : List ℕ) → Wrote s t xs → Wrote t u ys → Wrote s u (xs ++ ys)
Wrote_join s t u xs ys p q = record {
  appended = Appends-join s.written t.written u.written xs ys p.appended q.appended;
  steady = q.steady ∙ p.steady;
}

pub writes_more : (s t u : OutputState) (piece rest : List ℕ) (n : ℕ) → WritesSoFar s t piece rest → Wrote t u (take n rest) → WritesSoFar s u piece (drop n rest)
writes_more s t u piece rest n h w = record {
  front = h.front ++ take n rest;
  wrote = Wrote_join s t u h.front (take n rest) h.wrote w;
  parts = h.parts ∙ (ap (λ xs. h.front ++ xs) (sym (take-append-drop n rest)) ∙ sym (append_assoc h.front (take n rest) (drop n rest)));
}

-- nothing remains of an empty piece
pub nothing_left : (s t : OutputState) (piece rest : List ℕ) → WritesSoFar s t piece rest → piece ≡ [] → rest ≡ []
nothing_left s t piece [] h e = refl
nothing_left s t piece (x ∷ xs) h e = absurd (omega (arith, ap length (sym e ∙ h.parts), length-append h.front (x ∷ xs)))

pub Consumes-join : (a b c : Option (List ℕ)) (xs ys : List ℕ) → Consumes a b xs → Consumes b c ys → Consumes a c (xs ++ ys)
Consumes-join None b c xs ys p q = tt
Consumes-join (Some a) None c xs ys p q = absurd p
Consumes-join (Some a) (Some b) None xs ys p q = absurd q
Consumes-join (Some a) (Some b) (Some c) xs ys p q = p ∙ (ap (λ zs. xs ++ zs) q ∙ sym (append_assoc xs ys c))

pub counted-join : (n a b : ℕ) → count_after (count_after n a) b ≡ count_after n (a + b)
counted-join n a b = omega arith

pub Came_join : (s t u : InputState) (xs ys : List ℕ) → Came s t xs → Came t u ys → Came s u (xs ++ ys)
Came_join s t u xs ys p q = record {
  consumed = Consumes-join s.left t.left u.left xs ys p.consumed q.consumed;
  counts = q.counts ∙ (ap (λ n. count_after n (length ys)) p.counts ∙ (counted-join s.taken (length xs) (length ys) ∙ ap (count_after s.taken) (sym (length-append xs ys))));
}

-- the bytes of one more read, and their number in all
pub came_more : (s t u : InputState) (xs buffer : List ℕ) (n : ℕ) → n ≤ length buffer → Came s t xs → Gave t u buffer n
    → (bytes : List ℕ) × Came s u bytes × (length bytes ≡ length xs + n)
came_more s t u xs buffer n h p q =
    (xs ++ take n buffer, Came_join s t u xs (take n buffer) p q.came, length-append xs (take n buffer) ∙ ap (λ k. length xs + k) (length-take-le n buffer h))
