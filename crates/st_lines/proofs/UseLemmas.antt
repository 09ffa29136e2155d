-- Lemmas on the lines of the words that an entry uses, and on the pieces of these lines.
use Rattle.st_lines.proofs.Common.{if◌then◌else◌, Option, ◌≡◌, ℕ, ◌+◌, ◌<◌, ◌≤◌, List, [], ◌∷◌, ◌++◌, length, drop, get_or, refl, sym, ◌∙◌, ap, subst, append_assoc, drop-cons, add-one, append-nil, bank_of, text, OutputState, Wrote, LinesSoFar, lines_whole, Use, is_told, use_line, use_lines}
use Rattle.std.specs.Prelude.{decimal}
use Rattle.std.proofs.lemmas.Fmt.{decimal_digit}
use Rattle.std.proofs.Math.ListN.{drop_of_length-le}

-- fourteen pieces in front of a line, two at a time, the last ones first
pub seven_pairs : (a b c d e f g h i j k m n o l0 l1 l2 l3 l4 l5 l6 l7 l8 l9 l10 l11 l12 : List ℕ)
    → l1 ≡ (n ++ o) ++ l0 → l2 ≡ m ++ l1 → l3 ≡ k ++ l2 → l4 ≡ j ++ l3 → l5 ≡ i ++ l4 → l6 ≡ h ++ l5 → l7 ≡ g ++ l6
    → l8 ≡ f ++ l7 → l9 ≡ e ++ l8 → l10 ≡ d ++ l9 → l11 ≡ c ++ l10 → l12 ≡ (a ++ b) ++ l11
    → l12 ≡ (a ++ b ++ c ++ d ++ e ++ f ++ g ++ h ++ i ++ j ++ k ++ m ++ n ++ o) ++ l0
seven_pairs a b c d e f g h i j k m n o l0 l1 l2 l3 l4 l5 l6 l7 l8 l9 l10 l11 l12 e1 e2 e3 e4 e5 e6 e7 e8 e9 e10 e11 e12 =
    rw (e12, e11, e10, e9, e8, e7, e6, e5, e4, e3, e2, e1) (simp append_assoc refl)

-- the digit of a bank in front of a line, and a piece in front of the digit
pub bank_digit : (w r : ℕ) (piece l0 l1 l2 : List ℕ) → r ≡ bank_of w → r < 10 → l1 ≡ ((48 + r) ∷ []) ++ l0 → l2 ≡ piece ++ l1
    → l2 ≡ (piece ++ decimal (bank_of w)) ++ l0
bank_digit w r piece l0 l1 l2 is few one two =
    let digit : decimal (bank_of w) ≡ (48 + r) ∷ [] = ap decimal (sym is) ∙ decimal_digit r few in
    two
    ∙ ap (λ l. piece ++ l) one
    ∙ ap (λ d. piece ++ (d ++ l0)) (sym digit)
    ∙ sym (append_assoc piece (decimal (bank_of w)) l0)

-- four pieces in front of a line
pub four_before : (a b c d l0 l1 l2 l3 l4 : List ℕ) → l1 ≡ d ++ l0 → l2 ≡ c ++ l1 → l3 ≡ b ++ l2 → l4 ≡ a ++ l3
    → l4 ≡ (a ++ b ++ c ++ d) ++ l0
four_before a b c d l0 l1 l2 l3 l4 e1 e2 e3 e4 = rw (e4, e3, e2, e1) (simp append_assoc refl)

-- a whole line of six pieces, the first three of which are put together
pub six_pieces : (a b c d e f l0 l1 l2 l3 l4 : List ℕ) → l0 ≡ [] → l1 ≡ f ++ l0 → l2 ≡ e ++ l1 → l3 ≡ d ++ l2 → l4 ≡ (a ++ b ++ c) ++ l3
    → l4 ≡ a ++ b ++ c ++ d ++ e ++ f
six_pieces a b c d e f l0 l1 l2 l3 l4 e0 e1 e2 e3 e4 = rw (e4, e3, e2, e1, e0) (simp (append_assoc, append-nil) refl)

-- the lines of a word followed by those of the remaining words
uses-next : (n : ℕ) (end : Option ℕ) (uses : List Use) (i : ℕ) (u : Use) → i < length uses
    → use_lines n end (drop i uses)
    ≡ (if is_told end (get_or uses i u).supply then use_line n end (get_or uses i u) ∷ [] else []) ++ use_lines n end (drop (i + 1) uses)
unfolding use_lines
uses-next n end uses i u here = rw (add-one, drop-cons uses i u) refl

pub uses_next : (s t : OutputState) (all : List (List ℕ)) (n : ℕ) (end : Option ℕ) (uses : List Use) (i : ℕ) (u : Use) → i < length uses
    → LinesSoFar s t all (use_lines n end (drop i uses))
    → LinesSoFar s t all
    ((if is_told end (get_or uses i u).supply then use_line n end (get_or uses i u) ∷ [] else []) ++ use_lines n end (drop (i + 1) uses))
uses_next s t all n end uses i u here h = subst (LinesSoFar s t all) (uses-next n end uses i u here) h

-- no lines if no word remains
uses-end : (n : ℕ) (end : Option ℕ) (uses : List Use) (i : ℕ) → length uses ≤ i → use_lines n end (drop i uses) ≡ []
unfolding use_lines
uses-end n end uses i done = rw (drop_of_length-le uses done) refl

pub uses_whole : (s t : OutputState) (all : List (List ℕ)) (n : ℕ) (end : Option ℕ) (uses : List Use) (i : ℕ) → length uses ≤ i
    → LinesSoFar s t all (use_lines n end (drop i uses)) → Wrote s t (text all)
uses_whole s t all n end uses i done h = lines_whole s t all (subst (LinesSoFar s t all) (uses-end n end uses i done) h)
