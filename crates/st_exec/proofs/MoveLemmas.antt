-- Words that are copied or exchanged one at a time: the rest of the move after k of n words.
use Rattle.st_exec.proofs.Common.{◌≡◌, ℕ, zero, suc, ◌+◌, ◌-◌, ◌<◌, ◌≤◌, refl, sym, ◌∙◌, ap, arith, Machine, word, state_with_store, state_with_copy, state_with_exchange}

-- a move between two word addresses, with the number of words
abbrev pub Move : Type 0
Move = ℕ → ℕ → ℕ → Machine → Machine

-- the rest of a move after k words
abbrev pub rest : Move → ℕ → ℕ → ℕ → ℕ → Machine → Machine
rest move from to n k t = move (from + k) (to + k) (n - k) t

rest-next : (move : Move) (from to n k : ℕ) (t : Machine)
    → move (from + k + 1) (to + k + 1) (n - (k + 1)) t ≡ rest move from to n (k + 1) t
rest-next move from to n k t =
    let first : from + k + 1 ≡ from + (k + 1) = omega arith in
    let second : to + k + 1 ≡ to + (k + 1) = omega arith in
    ap (λ a. move a (to + k + 1) (n - (k + 1)) t) first ∙ ap (λ a. move (from + (k + 1)) a (n - (k + 1)) t) second

pub rest-copied : (from to n k : ℕ) (t : Machine) → k < n
    → rest state_with_copy from to n (k + 1) (state_with_store t (to + k) (word t (from + k))) ≡ rest state_with_copy from to n k t
unfolding state_with_copy
rest-copied from to n k t h =
    let size : suc (n - (k + 1)) ≡ n - k = omega arith in
    sym (rest-next state_with_copy from to n k (state_with_store t (to + k) (word t (from + k))))
    ∙ ap (λ m. state_with_copy (from + k) (to + k) m t) size

pub rest-exchanged : (from to n k : ℕ) (t : Machine) → k < n
    → rest state_with_exchange from to n (k + 1) (state_with_store (state_with_store t (from + k) (word t (to + k))) (to + k) (word t (from + k)))
    ≡ rest state_with_exchange from to n k t
unfolding state_with_exchange
rest-exchanged from to n k t h =
    let size : suc (n - (k + 1)) ≡ n - k = omega arith in
    sym (rest-next state_with_exchange from to n k (state_with_store (state_with_store t (from + k) (word t (to + k))) (to + k) (word t (from + k))))
    ∙ ap (λ m. state_with_exchange (from + k) (to + k) m t) size

-- after the last word, nothing remains
copied-none : (from to m : ℕ) (t : Machine) → m ≡ 0 → state_with_copy from to m t ≡ t
unfolding state_with_copy
copied-none from to zero t e = refl
copied-none from to (suc m) t e = absurd (omega arith)

exchanged-none : (from to m : ℕ) (t : Machine) → m ≡ 0 → state_with_exchange from to m t ≡ t
unfolding state_with_exchange
exchanged-none from to zero t e = refl
exchanged-none from to (suc m) t e = absurd (omega arith)

pub rest-copied_all : (from to n k : ℕ) (t : Machine) → n ≤ k → rest state_with_copy from to n k t ≡ t
rest-copied_all from to n k t h = copied-none (from + k) (to + k) (n - k) t (omega arith)

pub rest-exchanged_all : (from to n k : ℕ) (t : Machine) → n ≤ k → rest state_with_exchange from to n k t ≡ t
rest-exchanged_all from to n k t h = exchanged-none (from + k) (to + k) (n - k) t (omega arith)
