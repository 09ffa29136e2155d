-- Prefixes and suffixes of texts.
use Rattle.st_text.proofs.Common.{◌≡◌, ◌≤◌, ◌+◌, ◌-◌, ℕ, List, [], ◌∷◌, ◌++◌, length, take, drop, ap, sym, ◌∙◌, arith, append_assoc, length-append, take-take, drop-drop, length-take-le, take-length, take-append_seam, drop-append_seam, IsFront, IsBehind}

-- a text is a prefix of itself
pub front_itself : (text : List ℕ) → IsFront text text
front_itself text = record { same = sym (take-length text); within = omega arith }

-- the first n bytes of a text are a prefix of it
pub front_taken : (n : ℕ) (text : List ℕ) → n ≤ length text → IsFront (take n text) text
front_taken n text few =
    let long : length (take n text) ≡ n = length-take-le n text few in
    record { same = ap (λ k. take k text) (sym long); within = omega (arith, long, few) }

-- a prefix of a prefix is a prefix
pub front_of_front : (a b text : List ℕ) → IsFront a b → IsFront b text → IsFront a text
front_of_front a b text first second = record {
  same = first.same ∙ (ap (λ (s : List ℕ). take (length a) s) second.same
      ∙ take-take (length a) (length b) text first.within);
  within = omega arith;
}

-- the parts before and after a byte are a prefix and a suffix
pub front_of_whole : (front back text : List ℕ) (c : ℕ) → text ≡ front ++ c ∷ back → IsFront front text
front_of_whole front back text c whole = record {
  same = sym (ap (λ (s : List ℕ). take (length front) s) whole ∙ take-append_seam front (c ∷ back));
  within = omega (arith, simp length-append at (ap length whole));
}

pub behind_whole : (front back text : List ℕ) (c : ℕ) → text ≡ front ++ c ∷ back → IsBehind back text
behind_whole front back text c whole =
    let lengths : length text ≡ length front + (length back + 1) = omega (arith, simp length-append at (ap length whole)) in
    let before : length (front ++ c ∷ []) ≡ length text - length back = omega (arith, length-append front (c ∷ [])) in
    record {
      same = sym (ap (λ (s : List ℕ). drop (length text - length back) s) (whole ∙ sym (append_assoc front (c ∷ []) back))
          ∙ (ap (λ n. drop n ((front ++ c ∷ []) ++ back)) (sym before) ∙ drop-append_seam (front ++ c ∷ []) back));
      within = omega arith;
    }

-- a suffix of a suffix is a suffix
pub behind_behind : (a b text : List ℕ) → IsBehind a b → IsBehind b text → IsBehind a text
behind_behind a b text first second =
    let count : (length text - length b) + (length b - length a) ≡ length text - length a =
    omega (arith, first.within, second.within) in
    record {
      same = first.same ∙ (ap (λ (s : List ℕ). drop (length b - length a) s) second.same
          ∙ (drop-drop (length b - length a) (length text - length b) text ∙ ap (λ n. drop n text) count));
      within = omega (arith, first.within, second.within);
    }

-- a text is a suffix of itself
pub behind_itself : (text : List ℕ) → IsBehind text text
behind_itself text =
    let none : 0 ≡ length text - length text = omega arith in
    record { same = ap (λ n. drop n text) none; within = omega arith }
