-- The rows of entries that complete in some ticks, and the queue of rows.
use Rattle.st_ahead.proofs.Common.{take, drop, nat_eq, if◌then◌else◌, ◌≡◌, ℕ, zero, suc, ◌+◌, ◌-◌, ◌≤◌, Bool, true, false, List, [], ◌∷◌, ◌++◌, length, inl, inr, refl, sym, ◌∙◌, ap, arith, append_assoc, length-drop, length-append, cases_eq, eq-eqb, ne_eqb, append-nil, length-take, Overlap, is_done, row_done, machine_after_tick, machine_after_settling, after_ticks, IsPassed, ArePassed, Queue, queue_with, rows_in_ticks, Row}
use Rattle.st_ahead.proofs.Idling.{zero-comes}

-- ---- the queue

take-both : (n : ℕ) (xs ys : List Row) → take n (xs ++ ys) ≡ take n xs ++ take (n - length xs) ys
take-both zero xs ys = let none : 0 - length xs ≡ 0 = omega arith in sym (ap (λ k. take k ys) none)
take-both (suc n) [] ys = let all : suc n ≡ suc n - 0 = omega arith in ap (λ k. take k ys) all
take-both (suc n) (x ∷ xs) ys =
    let left : n - length xs ≡ suc n - suc (length xs) = omega arith in
    ap (λ rest. x ∷ rest) (take-both n xs ys) ∙ ap (λ k. x ∷ take n xs ++ take k ys) left

pub queue-both : (xs ys : List Row) (q : Queue) → queue_with ys (queue_with xs q) ≡ queue_with (xs ++ ys) q
queue-both xs ys q =
    let rows : (q.rows ++ take q.room xs) ++ take (q.room - length xs) ys ≡ q.rows ++ take q.room (xs ++ ys) =
    append_assoc q.rows (take q.room xs) (take (q.room - length xs) ys) ∙ ap (λ rest. q.rows ++ rest) (sym (take-both q.room xs ys)) in
    let both = length-append xs ys in
    let room : q.room - length xs - length ys ≡ q.room - length (xs ++ ys) = omega (arith, both) in
    rw (rows, room) refl

take-none : (n : ℕ) → take {A = Row} n [] ≡ []
take-none zero = refl
take-none (suc n) = refl

pub queue-none : (q : Queue) → q ≡ queue_with [] q
queue-none q =
    let none : take {A = Row} q.room [] ≡ [] = take-none q.room in
    let rows : q.rows ++ take {A = Row} q.room [] ≡ q.rows = ap (λ rest. q.rows ++ rest) none ∙ append-nil q.rows in
    let room : q.room - 0 ≡ q.room = omega arith in
    rw (rows, room) refl

-- the queue is empty if as many rows were taken as were put
pub none-left : (first end : ℕ) (slots rows : List Row) → first ≤ end → end ≤ length slots → drop first (take end slots) ≡ rows
    → nat_eq first end ≡ nat_eq (length rows) 0
none-left first end slots rows order within are =
    let taken = length-take end slots in
    let left = sym (ap length are) ∙ length-drop first (take end slots) in
    elim (cases_eq first end) [
      | inl same ↦ eq-eqb first end same ∙ sym (eq-eqb (length rows) 0 (omega (arith, taken, left, same)))
      | inr other ↦ ne_eqb first end other ∙ sym (ne_eqb (length rows) 0 (λ none. other (omega (arith, taken, left, none))))
    ]

-- ---- rows of ticks

pub rows-join : (j k : ℕ) (m : Overlap) → rows_in_ticks (j + k) m ≡ rows_in_ticks j m ++ rows_in_ticks k (after_ticks j m)
unfolding after_ticks rows_in_ticks
rows-join zero k m = let same : 0 + k ≡ k = omega arith in ap {A = ℕ} (λ i. rows_in_ticks i m) same
rows-join (suc j) k m =
    let same : suc j + k ≡ suc (j + k) = omega arith in
    let next = machine_after_settling (machine_after_tick m) in
    ap {A = ℕ} (λ i. rows_in_ticks i m) same
    ∙ ap {A = List Row} (λ rest. (if is_done m then row_done m ∷ [] else []) ++ rest) (rows-join j k next)
    ∙ sym (append_assoc (if is_done m then row_done m ∷ [] else []) (rows_in_ticks j next) (rows_in_ticks k (after_ticks j next)))

none-done : (m : Overlap) → IsPassed 0 m → (if is_done m then row_done m ∷ [] else []) ≡ []
none-done m is = by (is_done m) refl
  where
    by : (b : Bool) → is_done m ≡ b → (if b then row_done m ∷ [] else []) ≡ []
    by true done = absurd (zero-comes (machine_after_tick m) (is.nothing done))
    by false late = refl

-- without a completion there is no row
pub rows-none : (k : ℕ) (m new : Overlap) → ArePassed 0 k m new → rows_in_ticks k m ≡ []
unfolding after_ticks rows_in_ticks
rows-none zero m new are = refl
rows-none (suc k) m new are =
    rw (none-done m (are.each 0 (omega arith)))
    (rows-none k (machine_after_settling (machine_after_tick m)) new (record { each = λ i before. are.each (suc i) (omega (arith, before)); after = are.after }))

pub row-one : (m : Overlap) → is_done m ≡ true → rows_in_ticks 1 m ≡ row_done m ∷ []
unfolding rows_in_ticks
row-one m done = rw done refl

pub rows-zero : (m : Overlap) (q : Queue) → q ≡ queue_with (rows_in_ticks 0 m) q
unfolding rows_in_ticks
rows-zero m q = queue-none q

pub row-late : (m : Overlap) → is_done m ≡ false → rows_in_ticks 1 m ≡ []
unfolding rows_in_ticks
row-late m late = rw late refl

pub rows-first : (k : ℕ) (m : Overlap) → rows_in_ticks (suc k) m ≡ rows_in_ticks 1 m ++ rows_in_ticks k (machine_after_settling (machine_after_tick m))
unfolding rows_in_ticks
rows-first k m =
    ap {A = List Row} (λ xs. xs ++ rows_in_ticks k (machine_after_settling (machine_after_tick m))) (sym (append-nil (if is_done m then row_done m ∷ [] else [])))

pub no-rows : (m : Overlap) → rows_in_ticks 0 m ≡ []
unfolding rows_in_ticks
no-rows m = refl

-- there is no room
pub queue-shut : (xs : List Row) (q : Queue) → q.room ≡ 0 → queue_with xs q ≡ q
queue-shut xs q shut =
    let none : take q.room xs ≡ [] = ap {A = ℕ} (λ k. take k xs) shut in
    let rows : q.rows ++ take q.room xs ≡ q.rows = ap (λ rest. q.rows ++ rest) none ∙ append-nil q.rows in
    let room : q.room - length xs ≡ q.room = omega (arith, shut) in
    rw (rows, room) refl

-- there is room for all rows
pub queue-all : (xs : List Row) (q : Queue) → length xs ≤ q.room → queue_with xs q ≡ record { rows = q.rows ++ xs; room = q.room - length xs }
queue-all xs q few = rw (take-few xs q.room few) refl
  where
    take-few : (ys : List Row) (n : ℕ) → length ys ≤ n → take n ys ≡ ys
    take-few [] n few = take-none n
    take-few (y ∷ ys) zero few = absurd (omega (arith, few))
    take-few (y ∷ ys) (suc n) few = ap (λ rest. y ∷ rest) (take-few ys n (omega (arith, few)))
