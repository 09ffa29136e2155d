-- Lemmas on the tests of words.
use Rattle.st_ledger.proofs.Common.{not, ◌&&◌, All, reverse, list_any, ◌≡◌, ℕ, ◌+◌, List, [], ◌∷◌, refl, sym, subst, and_parts, eqb-true, not-true, reverse-append, All-nil, All-cons, All-head, All-tail, All-append, Role, Supply, Read, Held, Forwarded, Register, Use, is_read, read_of, is_role, is_answered, is_answered_at, decides, acceptance_of}
use Rattle.std.specs.Prelude.{true, false}
use Rattle.st_ledger.proofs.Linked.{turn_at}

-- ---- one word

pub answer-of : (t : ℕ) (s : Supply) → is_read s ≡ true → is_answered t s ≡ true → (read_of s).answer ≡ t
unfolding is_read is_answered read_of
answer-of t (Read r) is at = eqb-true _ _ at
answer-of t (Held a) is at = absurd (cc)
answer-of t (Forwarded w) is at = absurd (cc)
answer-of t Register is at = absurd (cc)

pub tick-of : (u : Use) → (acceptance_of u).tick ≡ (read_of u.supply).accept
unfolding acceptance_of
tick-of u = refl

-- ---- a word that decides

pub decided-role : (role : Role) (t : ℕ) (u : Use) (earlier : List Use) → decides role t u earlier ≡ true → is_role role u.role ≡ true
unfolding is_answered_at
decided-role role t u earlier due =
    (and_parts (is_role role u.role) (is_answered t u.supply)
    (and_parts (is_role role u.role && is_answered t u.supply) (not (list_any (is_answered_at role t) earlier)) due).0).0

pub decided-answer : (role : Role) (t : ℕ) (u : Use) (earlier : List Use) → decides role t u earlier ≡ true → is_answered t u.supply ≡ true
unfolding is_answered_at
decided-answer role t u earlier due =
    (and_parts (is_role role u.role) (is_answered t u.supply)
    (and_parts (is_role role u.role && is_answered t u.supply) (not (list_any (is_answered_at role t) earlier)) due).0).1

pub decided-first : (role : Role) (t : ℕ) (u : Use) (earlier : List Use) → decides role t u earlier ≡ true → list_any (is_answered_at role t) earlier ≡ false
decided-first role t u earlier due = not-true _ (and_parts (is_answered_at role t u) (not (list_any (is_answered_at role t) earlier)) due).1

-- ---- the tick from which the bus is free after a word

pub turn-read : (base : ℕ) (u : Use) (older : List Use) → is_read u.supply ≡ true → turn_at base (u ∷ older) ≡ (read_of u.supply).accept + 1
unfolding turn_at
turn-read base u older is = rw is refl

pub turn-other : (base : ℕ) (u : Use) (older : List Use) → is_read u.supply ≡ false → turn_at base (u ∷ older) ≡ turn_at base older
unfolding turn_at
turn-other base u older none = rw none refl

-- ---- several words, youngest first

pub all-reversed : (P : Use → Type 0) (xs : List Use) → All P xs → All P (reverse xs)
all-reversed P [] all = All-nil P
all-reversed P (x ∷ xs) all =
    subst (All P) (sym (reverse-append (x ∷ []) xs))
    (All-append P (reverse xs) (x ∷ []) (all-reversed P xs (All-tail P x xs all)) (All-cons P x [] (All-head P x xs all) (All-nil P)))
