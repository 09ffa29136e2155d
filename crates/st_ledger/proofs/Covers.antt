-- Waits have no gap.
use Rattle.st_ledger.proofs.Common.{Bool, nat_lt, nat_eq, not, ◌&&◌, ◌||◌, if◌then◌else◌, All, list_any, ◌≡◌, ℕ, ◌+◌, ◌≤◌, ◌<◌, inl, inr, max, true, false, List, [], ◌∷◌, ◌++◌, refl, ◌∙◌, ap, subst, arith, cond_both, cases_Bool, and_parts, and_from, and_left, eqb-true, eq-eqb, ltb-true, ltb-false, le-ltb, cases_lt, append-nil, All-head, All-tail, Role, Instruction, Use, Accepted, Stall, Turn, Bank, Storage, Wait, IsReadInTime, is_read, read_of, is_role, is_answered, is_answered_at, decides, wait_piece, acceptance_of, is_accepted_between, turns, read_waits, data_waits, held_waits, bus_waits, fetch_waits, FallTo}
use Rattle.st_ledger.proofs.Stands.{is_between-parts}
use Rattle.st_ledger.proofs.Linked.{turn_at, AreLinked}
use Rattle.st_ledger.proofs.WordLemmas.{answer-of, tick-of, decided-role}

or-false : (a b : Bool) → (a || b) ≡ false → (a ≡ false) × (b ≡ false)
or-false true b none = absurd (cc)
or-false false b none = (refl, none)

-- ---- pieces

pub fall-append : (from mid to : ℕ) (xs ys : List Wait) → FallTo mid to xs → FallTo from mid ys → FallTo from to (xs ++ ys)
unfolding FallTo
fall-append from mid to [] ys one two = subst (λ t. FallTo from t ys) one two
fall-append from mid to (x ∷ xs) ys one two = (one.0, one.1, fall-append from mid x.from xs ys one.2 two)

pub fall-piece : (from to : ℕ) (why : Stall) (w v : ℕ) → from ≤ to → FallTo from to (wait_piece from to why w v)
unfolding wait_piece FallTo
fall-piece from to why w v order = elim (cases_Bool (nat_lt from to)) [
  | inl y ↦ rw y (refl, ltb-true from to y, refl)
  | inr m ↦ rw m (omega (arith, order, ltb-false from to m))
]

fall-none : (t : ℕ) → FallTo t t []
unfolding FallTo
fall-none t = refl

-- ---- a read

pub turns-fall : (from w : ℕ) (next : Accepted) (older : List Use) → from ≤ next.tick → FallTo from next.tick (turns from w next older)
unfolding turns
turns-fall from w next [] order = fall-piece from next.tick Bank w next.word order
turns-fall from w next (u ∷ older) order =
    cond_both (is_accepted_between from next.tick u.supply) _ _ (λ xs. FallTo from next.tick xs)
    (λ is.
    let ends = is_between-parts from next.tick u is in
    let a = (acceptance_of u).tick in
    fall-append from (a + 1) next.tick (wait_piece (a + 1) next.tick Bank w next.word)
    (wait_piece a (a + 1) Turn w u.word ++ turns from w (acceptance_of u) older)
    (fall-piece (a + 1) next.tick Bank w next.word (omega (arith, ends.1)))
    (fall-append from a (a + 1) (wait_piece a (a + 1) Turn w u.word) (turns from w (acceptance_of u) older)
    (fall-piece a (a + 1) Turn w u.word (omega arith))
    (turns-fall from w (acceptance_of u) older ends.0)))
    (λ is_not. turns-fall from w next older order)

piece-empty : (from to : ℕ) (why : Stall) (w v : ℕ) → to ≤ from → wait_piece from to why w v ≡ []
unfolding wait_piece
piece-empty from to why w v late = rw (le-ltb from to late) refl

pub turns-empty : (from w : ℕ) (next : Accepted) (older : List Use) → next.tick ≤ from → turns from w next older ≡ []
unfolding turns
turns-empty from w next [] late = piece-empty from next.tick Bank w next.word late
turns-empty from w next (u ∷ older) late =
    cond_both (is_accepted_between from next.tick u.supply) _ _ (λ xs. xs ≡ [])
    (λ is. let ends = is_between-parts from next.tick u is in let no : ⊥ = omega (arith, late, ends.0, ends.1) in absurd no)
    (λ is_not. turns-empty from w next older late)

pub read-fall : (from t : ℕ) (u : Use) (older : List Use) → (read_of u.supply).want ≤ (read_of u.supply).accept → (read_of u.supply).accept ≤ t
    → from ≤ t → FallTo (max from (read_of u.supply).want) t (read_waits from t u older)
unfolding read_waits
read-fall from t u older wanted early order =
    let a = (read_of u.supply).accept in
    let b = max from (read_of u.supply).want in
    elim (cases_lt a from) [
      | inl low ↦
          let none : turns b u.word (acceptance_of u) older ≡ [] = turns-empty b u.word (acceptance_of u) older (omega (arith, low, tick-of u)) in
          let same : max from a ≡ b = omega (arith, low, wanted) in
          rw (none, append-nil (wait_piece (max from a) t Storage u.word u.word))
          (subst (λ k. FallTo k t (wait_piece (max from a) t Storage u.word u.word)) same (fall-piece (max from a) t Storage u.word u.word (omega (arith, early, order))))
      | inr high ↦
          let same : (acceptance_of u).tick ≡ max from a = omega (arith, high, tick-of u) in
          fall-append b (max from a) t (wait_piece (max from a) t Storage u.word u.word) (turns b u.word (acceptance_of u) older)
          (fall-piece (max from a) t Storage u.word u.word (omega (arith, early, order)))
          (subst (λ k. FallTo b k (turns b u.word (acceptance_of u) older)) same (turns-fall b u.word (acceptance_of u) older (omega (arith, high, wanted, tick-of u))))
    ]

-- the waits of an empty span are empty
read-empty : (from t : ℕ) (u : Use) (older : List Use) → (read_of u.supply).accept ≤ t → t ≤ from → read_waits from t u older ≡ []
unfolding read_waits
read-empty from t u older early late =
    rw (
      piece-empty (max from (read_of u.supply).accept) t Storage u.word u.word (omega (arith, late)),
      turns-empty (max from (read_of u.supply).want) u.word (acceptance_of u) older (omega (arith, early, late, tick-of u)),
    ) refl

-- ---- data

-- a word that is answered at t is read, in time, and wanted by tick `from`
pub record IsDataBy (role : Role) (from t : ℕ) (u : Use) : Type 0 where
  pub wanted : is_answered_at role t u ≡ true → (read_of u.supply).want ≤ from
  pub accepted : is_answered_at role t u ≡ true → ((read_of u.supply).want ≤ (read_of u.supply).accept) × ((read_of u.supply).accept ≤ t)

pub further : (role : Role) (t : ℕ) (u : Use) (earlier : List Use) → list_any (is_answered_at role t) (u ∷ earlier) ≡ true
    → decides role t u earlier ≡ false → list_any (is_answered_at role t) earlier ≡ true
further role t u earlier some none = elim (cases_Bool (list_any (is_answered_at role t) earlier)) [
  | inl y ↦ y
  | inr m ↦ elim (cases_Bool (is_answered_at role t u)) [
    | inl here ↦
        let yes_one : decides role t u earlier ≡ true = and_from _ _ here (ap not m) in absurd (cc)
    | inr away ↦
        let no_one : list_any (is_answered_at role t) (u ∷ earlier) ≡ false = rw (away, m) refl in absurd (cc)
  ]
]

pub decided : (role : Role) (t : ℕ) (u : Use) (earlier : List Use) → decides role t u earlier ≡ true → is_answered_at role t u ≡ true
decided role t u earlier due = (and_parts (is_answered_at role t u) (not (list_any (is_answered_at role t) earlier)) due).0

pub data-fall : (role : Role) (from t : ℕ) (before uses : List Use) → from ≤ t → All (IsDataBy role from t) uses
    → list_any (is_answered_at role t) uses ≡ true → FallTo from t (data_waits role from t before uses)
unfolding data_waits
data-fall role from t before [] order all some = absurd (cc)
data-fall role from t before (u ∷ earlier) order all some = elim (cases_Bool (decides role t u earlier)) [
  | inl due ↦
      let is = All-head (IsDataBy role from t) u earlier all in
      let at = decided role t u earlier due in
      let same : max from (read_of u.supply).want ≡ from = omega (arith, is.wanted at) in
      rw due (subst (λ k. FallTo k t (read_waits from t u (earlier ++ before))) same
      (read-fall from t u (earlier ++ before) (is.accepted at).0 (is.accepted at).1 order))
  | inr not_due ↦ rw not_due (data-fall role from t before earlier order (All-tail (IsDataBy role from t) u earlier all) (further role t u earlier some not_due))
]

-- ---- instruction words

-- the waits of a held word have no gap if the words of the row before were wanted by then
held-fall : (from t w : ℕ) (before : List Use) → from ≤ t → All IsReadInTime before → All (λ (u : Use). (read_of u.supply).want ≤ from) before
    → FallTo from t (held_waits from t w before)
unfolding held_waits
held-fall from t w [] order all low = fall-piece from t Storage w w order
held-fall from t w (u ∷ older) order all low =
    cond_both (is_read u.supply && (nat_eq u.word w && nat_eq (read_of u.supply).answer t)) _ _ (λ xs. FallTo from t xs)
    (λ yes_read.
    let is = All-head IsReadInTime u older all in
    let at : (read_of u.supply).answer ≡ t = eqb-true _ _ (and_parts _ _ (and_parts _ _ yes_read).1).1 in
    let same : max from (read_of u.supply).want ≡ from = omega (arith, All-head (λ (u : Use). (read_of u.supply).want ≤ from) u older low) in
    subst (λ k. FallTo k t (read_waits from t u older)) same (read-fall from t u older is.wanted (omega (arith, at, is.answered)) order))
    (λ no_read. held-fall from t w older order (All-tail IsReadInTime u older all) (All-tail (λ (u : Use). (read_of u.supply).want ≤ from) u older low))

-- the waits for the bus have no gap if the last read is accepted at tick t
pub bus-fall : (base from t : ℕ) (before : List Use) → base ≤ from → from < t → AreLinked base before → turn_at base before ≡ t + 1
    → All (λ (u : Use). (read_of u.supply).want ≤ from) before → FallTo from t (bus_waits from t before)
unfolding bus_waits turn_at AreLinked
bus-fall base from t [] early order linked at low = let no : ⊥ = omega (arith, early, order, at) in absurd no
bus-fall base from t (u ∷ older) early order linked at low = elim (cases_Bool (is_read u.supply)) [
  | inl y ↦
      let here : (read_of u.supply).accept + 1 ≡ t + 1 = subst (λ b. (if b then (read_of u.supply).accept + 1 else turn_at base older) ≡ t + 1) y at in
      let same : (read_of u.supply).accept ≡ t = omega (arith, here) in
      let start : max from (read_of u.supply).want ≡ from = omega (arith, All-head (λ (u : Use). (read_of u.supply).want ≤ from) u older low) in
      let end : (acceptance_of u).tick ≡ t = tick-of u ∙ same in
      rw (y, eq-eqb _ _ same) (subst (λ k. FallTo k t (turns (max from (read_of u.supply).want) u.word (acceptance_of u) older)) start
      (subst (λ k. FallTo (max from (read_of u.supply).want) k (turns (max from (read_of u.supply).want) u.word (acceptance_of u) older)) end
      (turns-fall (max from (read_of u.supply).want) u.word (acceptance_of u) older (omega (arith, order, start, end)))))
  | inr m ↦
      let further_on : turn_at base older ≡ t + 1 = subst (λ b. (if b then (read_of u.supply).accept + 1 else turn_at base older) ≡ t + 1) m at in
      rw m (bus-fall base from t older early order linked.1 further_on (All-tail (λ (u : Use). (read_of u.supply).want ≤ from) u older low))
]

-- ---- from the answer of one instruction word to that of one before it

-- each instruction word that is wanted after tick `from` is wanted when a word before it is
-- answered
unfoldable pub AreWantedAtAnswers : ℕ → List Use → Type 0
AreWantedAtAnswers from [] = Unit {0}
AreWantedAtAnswers from (u ∷ earlier) =
    (is_role Instruction u.role ≡ true → is_read u.supply ≡ true → from < (read_of u.supply).want
    → list_any (is_answered_at Instruction (read_of u.supply).want) earlier ≡ true) × AreWantedAtAnswers from earlier

decided-accept : (t : ℕ) (u : Use) (earlier : List Use) → IsReadInTime u → is_read u.supply ≡ true → decides Instruction t u earlier ≡ true
    → (read_of u.supply).accept ≤ t
unfolding is_answered_at
decided-accept t u earlier is yes_read due =
    let at : is_answered t u.supply ≡ true = (and_parts (is_role Instruction u.role) (is_answered t u.supply) (decided Instruction t u earlier due)).1 in
    omega (arith, is.answered, answer-of t u.supply yes_read at)

held-empty : (from t w : ℕ) (before : List Use) → t ≤ from → All IsReadInTime before → held_waits from t w before ≡ []
unfolding held_waits
held-empty from t w [] late all = piece-empty from t Storage w w late
held-empty from t w (u ∷ older) late all =
    cond_both (is_read u.supply && (nat_eq u.word w && nat_eq (read_of u.supply).answer t)) _ _ (λ xs. xs ≡ [])
    (λ yes_read.
    let is = All-head IsReadInTime u older all in
    let at : (read_of u.supply).answer ≡ t = eqb-true _ _ (and_parts (nat_eq u.word w) (nat_eq (read_of u.supply).answer t) (and_parts (is_read u.supply) _ yes_read).1).1 in
    read-empty from t u older (omega (arith, at, is.answered)) late)
    (λ no_read. held-empty from t w older late (All-tail IsReadInTime u older all))

bus-empty : (from t : ℕ) (before : List Use) → t ≤ from → bus_waits from t before ≡ []
unfolding bus_waits
bus-empty from t [] late = refl
bus-empty from t (u ∷ older) late =
    cond_both (is_read u.supply) _ _ (λ xs. xs ≡ [])
    (λ yes_read. cond_both (nat_eq (read_of u.supply).accept t) _ _ (λ xs. xs ≡ [])
    (λ at. turns-empty (max from (read_of u.supply).want) u.word (acceptance_of u) older (omega (arith, late, eqb-true _ _ at, tick-of u)))
    (λ not_at. refl))
    (λ no_read. bus-empty from t older late)

fetch-empty : (from t : ℕ) (before words : List Use) → t ≤ from → All IsReadInTime before → All IsReadInTime words → fetch_waits from t before words ≡ []
unfolding fetch_waits
fetch-empty from t before [] late old all = bus-empty from t before late
fetch-empty from t before (u ∷ earlier) late old all =
    let is = All-head IsReadInTime u earlier all in
    let rest = All-tail IsReadInTime u earlier all in
    cond_both (decides Instruction t u earlier) _ _ (λ xs. xs ≡ [])
    (λ due. cond_both (is_read u.supply) _ _ (λ xs. xs ≡ [])
    (λ yes_read.
    let early = decided-accept t u earlier is yes_read due in
    rw (read-empty from t u (earlier ++ before) early late) (fetch-empty from (read_of u.supply).want before earlier (omega (arith, early, late, is.wanted)) old rest))
    (λ no_read. held-empty from t u.word before late old))
    (λ not_due. fetch-empty from t before earlier late old rest)

pub fetch-fall : (from t : ℕ) (before words : List Use) → from ≤ t → All IsReadInTime before → All IsReadInTime words
    → All (λ (u : Use). (read_of u.supply).want ≤ from) before → AreWantedAtAnswers from words
    → list_any (is_answered_at Instruction t) words ≡ true → FallTo from t (fetch_waits from t before words)
unfolding fetch_waits AreWantedAtAnswers
fetch-fall from t before [] order old all low wants some = absurd (cc)
fetch-fall from t before (u ∷ earlier) order old all low wants some =
    let is = All-head IsReadInTime u earlier all in
    let rest = All-tail IsReadInTime u earlier all in
    elim (cases_Bool (decides Instruction t u earlier)) [
      | inl due ↦ elim (cases_Bool (is_read u.supply)) [
        | inl y ↦
            let want = (read_of u.supply).want in
            let first = read-fall from t u (earlier ++ before) is.wanted (decided-accept t u earlier is y due) order in
            elim (cases_lt from want) [
              | inl behind ↦
                  let same : max from want ≡ want = omega (arith, behind) in
                  rw (due, y) (fall-append from want t (read_waits from t u (earlier ++ before)) (fetch_waits from want before earlier)
                  (subst (λ k. FallTo k t (read_waits from t u (earlier ++ before))) same first)
                  (fetch-fall from want before earlier (omega (arith, behind)) old rest low wants.1 (wants.0 (decided-role Instruction t u earlier due) y behind)))
              | inr by_then ↦
                  let same : max from want ≡ from = omega (arith, by_then) in
                  rw (due, y, fetch-empty from want before earlier by_then old rest, append-nil (read_waits from t u (earlier ++ before)))
                  (subst (λ k. FallTo k t (read_waits from t u (earlier ++ before))) same first)
            ]
        | inr m ↦ rw (due, m) (held-fall from t u.word before order old low)
      ]
      | inr not_due ↦ rw not_due (fetch-fall from t before earlier order old rest low wants.1 (further Instruction t u earlier some not_due))
    ]

-- if no word is answered at t, the row waits for the bus
pub fetch-bus : (from t : ℕ) (before words : List Use) → list_any (is_answered_at Instruction t) words ≡ false
    → fetch_waits from t before words ≡ bus_waits from t before
unfolding fetch_waits
fetch-bus from t before [] none = refl
fetch-bus from t before (u ∷ earlier) none =
    let parts = or-false (is_answered_at Instruction t u) (list_any (is_answered_at Instruction t) earlier) none in
    let not_due : decides Instruction t u earlier ≡ false = and_left _ _ parts.0 in
    rw not_due (fetch-bus from t before earlier parts.1)
