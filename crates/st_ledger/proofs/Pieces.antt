-- Lemmas on the number of ticks of waits.
use Rattle.st_ledger.proofs.Common.{◌&&◌, nat_eq, All, ◌≡◌, ℕ, ◌+◌, ◌-◌, ◌≤◌, max, List, [], ◌∷◌, ◌++◌, arith, cond_both, and_parts, eqb-true, nat_tests, All-head, All-tail, Role, Instruction, Supply, Read, Held, Forwarded, Register, Use, Accepted, Stall, Turn, Bank, Storage, Wait, IsReadInTime, is_read, read_of, is_answered, is_answered_at, decides, wait_piece, acceptance_of, is_accepted_between, turns, read_waits, data_waits, held_waits, bus_waits, fetch_waits, all_stalled}
use Rattle.std.specs.Prelude.{true}
use Rattle.st_ledger.proofs.Stands.{is_between-parts}

-- ---- pieces

all-append : (xs ys : List Wait) → all_stalled (xs ++ ys) ≡ all_stalled xs + all_stalled ys
unfolding all_stalled
all-append [] ys = omega arith
all-append (x ∷ xs) ys = omega (arith, all-append xs ys)

piece-ticks : (from to : ℕ) (why : Stall) (w v : ℕ) → all_stalled (wait_piece from to why w v) ≡ to - from
unfolding wait_piece all_stalled
piece-ticks from to why w v = grind (arith, nat_tests)

-- ---- a read

turns-ticks : (from w : ℕ) (next : Accepted) (older : List Use) → all_stalled (turns from w next older) ≡ next.tick - from
unfolding turns
turns-ticks from w next [] = piece-ticks from next.tick Bank w next.word
turns-ticks from w next (u ∷ older) =
    cond_both (is_accepted_between from next.tick u.supply) _ _ (λ xs. all_stalled xs ≡ next.tick - from)
    (λ is.
    let ends = is_between-parts from next.tick u is in
    omega (
      arith,
      ends.0,
      ends.1,
      all-append (wait_piece ((acceptance_of u).tick + 1) next.tick Bank w next.word)
          (wait_piece (acceptance_of u).tick ((acceptance_of u).tick + 1) Turn w u.word ++ turns from w (acceptance_of u) older),
      all-append (wait_piece (acceptance_of u).tick ((acceptance_of u).tick + 1) Turn w u.word) (turns from w (acceptance_of u) older),
      piece-ticks ((acceptance_of u).tick + 1) next.tick Bank w next.word,
      piece-ticks (acceptance_of u).tick ((acceptance_of u).tick + 1) Turn w u.word,
      turns-ticks from w (acceptance_of u) older,
    ))
    (λ is_not. turns-ticks from w next older)

-- the ticks from the answer of a read back to its want
read-ticks : (from t : ℕ) (u : Use) (older : List Use) → IsReadInTime u → (read_of u.supply).accept ≤ t
    → all_stalled (read_waits from t u older) ≡ t - max from (read_of u.supply).want
unfolding read_waits acceptance_of
read-ticks from t u older is early =
    omega (
      arith,
      is.wanted,
      early,
      all-append (wait_piece (max from (read_of u.supply).accept) t Storage u.word u.word)
          (turns (max from (read_of u.supply).want) u.word (acceptance_of u) older),
      piece-ticks (max from (read_of u.supply).accept) t Storage u.word u.word,
      turns-ticks (max from (read_of u.supply).want) u.word (acceptance_of u) older,
    )

-- a word that is answered at a tick is accepted by then
answered-by : (t : ℕ) (s : Supply) → (read_of s).accept ≤ (read_of s).answer → is_answered t s ≡ true → (read_of s).accept ≤ t
unfolding is_answered read_of
answered-by t (Read r) order is = omega (arith, order, eqb-true _ _ is)
answered-by t (Held answer) order is = omega arith
answered-by t (Forwarded w) order is = omega arith
answered-by t Register order is = omega arith

decided-by : (role : Role) (t : ℕ) (u : Use) (earlier : List Use) → IsReadInTime u → decides role t u earlier ≡ true
    → (read_of u.supply).accept ≤ t
unfolding is_answered_at
decided-by role t u earlier is due = answered-by t u.supply is.answered (and_parts _ _ (and_parts _ _ due).0).1

-- ---- the waits of a row

pub data-ticks : (role : Role) (from t : ℕ) (before uses : List Use) → All IsReadInTime uses
    → all_stalled (data_waits role from t before uses) ≤ t - from
unfolding data_waits all_stalled
data-ticks role from t before [] all = omega arith
data-ticks role from t before (u ∷ earlier) all =
    cond_both (decides role t u earlier) _ _ (λ xs. all_stalled xs ≤ t - from)
    (λ due.
    let is = All-head IsReadInTime u earlier all in
    omega (arith, read-ticks from t u (earlier ++ before) is (decided-by role t u earlier is due)))
    (λ not_due. data-ticks role from t before earlier (All-tail IsReadInTime u earlier all))

held-ticks : (from t w : ℕ) (before : List Use) → All IsReadInTime before → all_stalled (held_waits from t w before) ≤ t - from
unfolding held_waits
held-ticks from t w [] all = omega (arith, piece-ticks from t Storage w w)
held-ticks from t w (u ∷ older) all =
    cond_both (is_read u.supply && (nat_eq u.word w && nat_eq (read_of u.supply).answer t)) _ _ (λ xs. all_stalled xs ≤ t - from)
    (λ yes_read.
    let is = All-head IsReadInTime u older all in
    let at : (read_of u.supply).answer ≡ t = eqb-true _ _ (and_parts _ _ (and_parts _ _ yes_read).1).1 in
    omega (arith, read-ticks from t u older is (omega (arith, at, is.answered))))
    (λ no_read. held-ticks from t w older (All-tail IsReadInTime u older all))

accepted-ticks : (from t : ℕ) (u : Use) (older : List Use) → (read_of u.supply).accept ≡ t
    → all_stalled (turns (max from (read_of u.supply).want) u.word (acceptance_of u) older) ≤ t - from
unfolding acceptance_of
accepted-ticks from t u older at = omega (arith, at, turns-ticks (max from (read_of u.supply).want) u.word (acceptance_of u) older)

bus-ticks : (from t : ℕ) (before : List Use) → all_stalled (bus_waits from t before) ≤ t - from
unfolding bus_waits all_stalled
bus-ticks from t [] = omega arith
bus-ticks from t (u ∷ older) =
    cond_both (is_read u.supply) _ _ (λ xs. all_stalled xs ≤ t - from)
    (λ yes_read. cond_both (nat_eq (read_of u.supply).accept t) _ _ (λ xs. all_stalled xs ≤ t - from)
    (λ at. accepted-ticks from t u older (eqb-true _ _ at))
    (λ not_at. omega arith))
    (λ no_read. bus-ticks from t older)

pub fetch-ticks : (from t : ℕ) (before words : List Use) → All IsReadInTime before → All IsReadInTime words
    → all_stalled (fetch_waits from t before words) ≤ t - from
unfolding fetch_waits
fetch-ticks from t before [] old all = bus-ticks from t before
fetch-ticks from t before (u ∷ earlier) old all =
    let is = All-head IsReadInTime u earlier all in
    let rest = All-tail IsReadInTime u earlier all in
    cond_both (decides Instruction t u earlier) _ _ (λ xs. all_stalled xs ≤ t - from)
    (λ due. cond_both (is_read u.supply) _ _ (λ xs. all_stalled xs ≤ t - from)
    (λ yes_read.
    let early = decided-by Instruction t u earlier is due in
    omega (
      arith,
      early,
      is.wanted,
      all-append (read_waits from t u (earlier ++ before)) (fetch_waits from (read_of u.supply).want before earlier),
      read-ticks from t u (earlier ++ before) is early,
      fetch-ticks from (read_of u.supply).want before earlier old rest,
    ))
    (λ no_read. held-ticks from t u.word before old))
    (λ not_due. fetch-ticks from t before earlier old rest)
