-- Lemmas on the end of a path.
use Rattle.st_ledger.proofs.Common.{zero, suc, Bool, not, find, unwrap_or, nat_lt, nat_le, nat_eq, ◌&&◌, ◌||◌, if◌then◌else◌, Option, None, Some, reverse, list_any, ◌≡◌, ℕ, ◌+◌, ◌-◌, ◌≤◌, ◌<◌, ◌⊎◌, inl, inr, max, true, false, List, [], ◌∷◌, ◌++◌, refl, sym, ◌∙◌, ap, subst, append_assoc, arith, cond_both, cases_Bool, and_parts, and_from, and_left, and_right, or_cases, or_left, or_right, eqb-true, eq-eqb, ltb-true, le-leb, lt-ltb, cases_lt, tick_of, answer_if, answer_tick_on, bus_after_request, latest_done, is_among, completion_of, done_before, fetch_word, fetch_words, Fetching, IssueState, Past, Instruction, Use, instruction_uses, fetch_supply, row_reason, back_to, is_first, is_written, is_stored, reason_done, reason_in_order, reason_of_bus, reason_or, reason_of_words, is_read, read_of, is_role, is_instruction, is_answered_at, decides, is_serial_at, is_store_at, is_bus_at, is_read_between, IsNothingDone, IsNothingThere, IsFirstAnswered, IsNoneAnswered, EndsByRow, EndsAt, IsPath, PathEnds, PathGoesOn, behind, behind_use, uses, wishes}
use Rattle.std.specs.Prelude.{length}
use Rattle.st_ledger.specs.declared.because.StallCause.{StallCause}
use Rattle.st_ledger.specs.declared.because.StallCause.TheVariants.{Prefetch}
use Rattle.st_ledger.specs.declared.because.Reason.TheVariants.{Serial, Store}
use Rattle.st_ledger.proofs.Linked.{turn_at, AreLinked}
use Rattle.st_ledger.proofs.Chains.{pour-cons}
use Rattle.st_ledger.proofs.Covers.{further}
use Rattle.st_ledger.proofs.CoverRows.{fetch-answered}
use Rattle.st_ledger.proofs.WordLemmas.{decided-role}

-- ---- the events at a tick

-- an event came at the tick: the preparation of the row before, its completion if that is awaited,
-- the completion of a writer, or an answer
abbrev pub CameBy : IssueState → Bool → ℕ → List Use → Type 0
CameBy f alone t words =
    (t ≡ f.p) ⊎ (((t ≡ f.c) × ((alone || f.serial) ≡ true))
    ⊎ ((list_any (is_stored f.past t) words ≡ true) ⊎ (list_any (is_answered_at Instruction t) words ≡ true)))

-- each instruction word that is read was wanted at a tick with an event
unfoldable pub AreCaused : IssueState → ℕ → List Use → Type 0
AreCaused f own [] = Unit {0}
AreCaused f own (u ∷ earlier) =
    (is_role Instruction u.role ≡ true → is_read u.supply ≡ true
    → (f.p ≤ (read_of u.supply).want) × CameBy f (nat_le own (length earlier)) (read_of u.supply).want earlier)
    × AreCaused f own earlier

-- ---- a row that completed at a tick

-- the row is one of the last eight
done-among : (past : List Past) (w : ℕ) → 1 ≤ latest_done past w → (j : ℕ) × ((j < length past) × (completion_of past j ≡ latest_done past w))
unfolding latest_done
done-among [] w some = let no : ⊥ = omega (arith, some) in absurd no
done-among (x ∷ past) w some = elim (cases_Bool (is_among w x.writes)) [
  | inl y ↦ (0, (omega arith, rw y refl))
  | inr m ↦
      let same : latest_done (x ∷ past) w ≡ latest_done past w = rw m refl in
      let rest = done-among past w (omega (arith, some, same)) in
      (suc rest.0, (omega (arith, rest.1.0), rest.1.1 ∙ sym same))
]

found-one : (p : ℕ → Bool) (ks : List ℕ) → list_any p ks ≡ true → p (unwrap_or (find p ks) 0) ≡ true
found-one p [] some = absurd (cc)
found-one p (k ∷ ks) some = elim (cases_Bool (p k)) [
  | inl y ↦ rw (y, y) refl
  | inr m ↦
      let rest : list_any p ks ≡ true = subst (λ b. (b || list_any p ks) ≡ true) m some in
      rw m (found-one p ks rest)
]

eight-have : (p : ℕ → Bool) (j : ℕ) → j < 8 → p (j + 1) ≡ true → list_any p (1 ∷ 2 ∷ 3 ∷ 4 ∷ 5 ∷ 6 ∷ 7 ∷ 8 ∷ []) ≡ true
eight-have p zero low is = or_left (p 1) _ is
eight-have p (suc zero) low is = or_right (p 1) _ (or_left (p 2) _ is)
eight-have p (suc (suc zero)) low is = or_right (p 1) _ (or_right (p 2) _ (or_left (p 3) _ is))
eight-have p (suc (suc (suc zero))) low is = or_right (p 1) _ (or_right (p 2) _ (or_right (p 3) _ (or_left (p 4) _ is)))
eight-have p (suc (suc (suc (suc zero)))) low is = or_right (p 1) _ (or_right (p 2) _ (or_right (p 3) _ (or_right (p 4) _ (or_left (p 5) _ is))))
eight-have p (suc (suc (suc (suc (suc zero))))) low is = or_right (p 1) _ (or_right (p 2) _ (or_right (p 3) _ (or_right (p 4) _ (or_right (p 5) _ (or_left (p 6) _ is)))))
eight-have p (suc (suc (suc (suc (suc (suc zero)))))) low is = or_right (p 1) _ (or_right (p 2) _ (or_right (p 3) _ (or_right (p 4) _ (or_right (p 5) _ (or_right (p 6) _ (or_left (p 7) _ is))))))
eight-have p (suc (suc (suc (suc (suc (suc (suc zero))))))) low is = or_right (p 1) _ (or_right (p 2) _ (or_right (p 3) _ (or_right (p 4) _ (or_right (p 5) _ (or_right (p 6) _ (or_right (p 7) _ (or_left (p 8) _ is)))))))
eight-have p (suc (suc (suc (suc (suc (suc (suc (suc j)))))))) low is = let no : ⊥ = omega (arith, low) in absurd no

-- the row at the listed distance completes at the tick
pub back-found : (past : List Past) (t j : ℕ) → j < 8 → completion_of past j ≡ t → done_before (back_to t past) past ≡ t
back-found past t j low is =
    let p : ℕ → Bool = λ k. nat_eq (done_before k past) t in
    let place : j + 1 - 1 ≡ j = omega arith in
    eqb-true _ _ (found-one p (1 ∷ 2 ∷ 3 ∷ 4 ∷ 5 ∷ 6 ∷ 7 ∷ 8 ∷ []) (eight-have p j low (eq-eqb _ _ (ap (completion_of past) place ∙ is))))

-- the requirements on an issue state: its past has eight entries, only the first entry of a segment
-- is prepared at tick 0, and nothing completes before that entry
pub record IsRowIssue (f : IssueState) : Type 0 where
  pub eight : length f.past ≡ 8
  pub later : is_first f ≡ false → 1 ≤ f.p
  pub first : is_first f ≡ true → (f.c ≡ f.p) × ((w : ℕ) → latest_done f.past w ≡ 0)

-- ---- ends

stored-by : (f : IssueState) (t : ℕ) (us : List Use) → list_any (is_stored f.past t) us ≡ true → (w : ℕ) × (latest_done f.past w ≡ t)
unfolding is_stored
stored-by f t [] some = absurd (cc)
stored-by f t (u ∷ us) some = elim (or_cases (is_instruction u.role && is_written f.past t u.word) (list_any (is_stored f.past t) us) some) [
  | inl here ↦ (u.word, eqb-true _ _ (and_parts (nat_le 32 u.word) (nat_eq (latest_done f.past u.word) t) (and_parts (is_instruction u.role) (is_written f.past t u.word) here).1).1)
  | inr there ↦ stored-by f t us there
]

some-ends : (f : IssueState) (alone : Bool) (before words : List Use) (t : ℕ) (a b : StallCause) → Some a ≡ Some b → EndsAt f alone before words t a → EndsAt f alone before words t b
some-ends f alone before words t a b is ends = let same : a ≡ b = cc in subst (λ c. EndsAt f alone before words t c) same ends

-- the result of reason_done is the end of a path
pub done-ends : (f : IssueState) (alone : Bool) (before words : List Use) (t : ℕ) (b : StallCause) → IsRowIssue f → f.p ≤ t
    → reason_done f alone t words ≡ Some b → EndsAt f alone before words t b
unfolding reason_done EndsAt EndsByRow
done-ends f alone before words t b row late =
    cond_both (is_first f) _ _ (λ (r : Option StallCause). r ≡ Some b → EndsAt f alone before words t b)
    (λ y is. absurd (cc))
    (λ m. let behind : not (is_first f) ≡ true = ap not m in
    cond_both (nat_eq t f.c && (alone || f.serial)) _ _ (λ (r : Option StallCause). r ≡ Some b → EndsAt f alone before words t b)
    (λ y is. some-ends f alone before words t (row_reason Serial (if f.serial then 1 else 0) t (t - f.p)) b is ((refl, and_from _ _ behind y, refl), refl))
    (λ k. cond_both (list_any (is_stored f.past t) words) _ _ (λ (r : Option StallCause). r ≡ Some b → EndsAt f alone before words t b)
    (λ y is.
    let by = stored-by f t words y in
    let some : 1 ≤ latest_done f.past by.0 = omega (arith, by.1, late, row.later m) in
    let among = done-among f.past by.0 some in
    some-ends f alone before words t (row_reason Store (back_to t f.past) t (t - f.p)) b is (
      (
        refl,
        and_right (not (is_first f)) (nat_eq t f.c && (alone || f.serial)) k,
        and_from _ _ behind y,
        back-found f.past t among.0 (omega (arith, among.1.0, row.eight)) (among.1.1 ∙ by.1),
      ),
      refl,
    ))
    (λ j is. absurd (cc))))

-- if reason_done has no result, no completion that counts came
pub nothing-done : (f : IssueState) (alone : Bool) (words : List Use) (t : ℕ) → reason_done f alone t words ≡ None → IsNothingDone f alone t words
unfolding reason_done
nothing-done f alone words t =
    cond_both (is_first f) _ _ (λ (r : Option StallCause). r ≡ None → IsNothingDone f alone t words)
    (λ y is. record { serial = and_left _ _ (ap not y); store = and_left _ _ (ap not y) })
    (λ m. cond_both (nat_eq t f.c && (alone || f.serial)) _ _ (λ (r : Option StallCause). r ≡ None → IsNothingDone f alone t words)
    (λ y is. absurd (cc))
    (λ k. cond_both (list_any (is_stored f.past t) words) _ _ (λ (r : Option StallCause). r ≡ None → IsNothingDone f alone t words)
    (λ y is. absurd (cc))
    (λ j is. record { serial = and_right _ _ k; store = and_right _ _ j })))

in-order-ends : (f : IssueState) (alone : Bool) (before words : List Use) (t : ℕ) → IsNothingThere f alone t words → t ≡ f.p → EndsAt f alone before words t (reason_in_order f)
unfolding reason_in_order EndsAt EndsByRow
in-order-ends f alone before words t none at = elim (cases_Bool (is_first f)) [
  | inl y ↦ rw y (none, y, at, sym at)
  | inr m ↦ rw m ((none, m, at, sym at, refl), omega (arith, at))
]

-- the last read of the rows before ends a path
bus-ends : (f : IssueState) (alone : Bool) (base t : ℕ) (all before words : List Use) → AreLinked base before → turn_at base before ≡ f.bus.free → base ≤ f.p
    → ((p : Use → Bool) → list_any p before ≡ true → list_any p all ≡ true)
    → IsNothingDone f alone t words → IsNoneAnswered t words
    → (t ≡ f.p) ⊎ ((f.bus.free ≡ t + 1) × (f.p < t)) → EndsAt f alone all words t (reason_of_bus f t before)
unfolding reason_of_bus turn_at AreLinked EndsAt EndsByRow
bus-ends f alone base t all [] words linked turn low among done answered came =
    let not_bus : is_bus_at f t ≡ false = elim (cases_Bool (is_bus_at f t)) [
      | inl y ↦
          let both = and_parts (nat_eq f.bus.free (t + 1)) (nat_lt f.p t) y in
          let no : ⊥ = omega (arith, turn, low, eqb-true _ _ both.0, ltb-true _ _ both.1) in absurd no
      | inr m ↦ m
    ] in
    elim came [
      | inl at ↦ in-order-ends f alone all words t (record { done = done; answered = answered; bus = not_bus }) at
      | inr busy ↦ let no : ⊥ = omega (arith, turn, busy.0, busy.1, low) in absurd no
    ]
bus-ends f alone base t all (u ∷ older) words linked turn low among done answered came = elim (cases_Bool (is_read u.supply)) [
  | inl y ↦
      let free : (read_of u.supply).accept + 1 ≡ f.bus.free = subst (λ b. (if b then (read_of u.supply).accept + 1 else turn_at base older) ≡ f.bus.free) y turn in
      elim (cases_Bool (nat_eq (read_of u.supply).accept t && nat_lt f.p t)) [
        | inl hit ↦
            let both = and_parts (nat_eq (read_of u.supply).accept t) (nat_lt f.p t) hit in
            let accept : (read_of u.supply).accept ≡ t = eqb-true _ _ both.0 in
            rw (y, hit) (
              (
                done,
                answered,
                and_from _ _ (eq-eqb _ _ (omega (arith, free, accept))) both.1,
                refl,
                among (is_read_between (read_of u.supply).want t) (or_left _ _ (and_from _ _ y (and_from _ _ (eq-eqb _ _ refl) both.0))),
              ),
              refl,
            )
        | inr none ↦
            let not_bus : is_bus_at f t ≡ false = elim (cases_Bool (is_bus_at f t)) [
              | inl yes_bus ↦
                  let both = and_parts (nat_eq f.bus.free (t + 1)) (nat_lt f.p t) yes_bus in
                  let at : f.bus.free ≡ t + 1 = eqb-true _ _ both.0 in
                  let hit : (nat_eq (read_of u.supply).accept t && nat_lt f.p t) ≡ true = and_from _ _ (eq-eqb _ _ (omega (arith, free, at))) both.1 in absurd (cc)
              | inr m ↦ m
            ] in
            elim came [
              | inl at ↦ rw (y, none) (in-order-ends f alone all words t (record { done = done; answered = answered; bus = not_bus }) at)
              | inr busy ↦
                  let hit : (nat_eq (read_of u.supply).accept t && nat_lt f.p t) ≡ true =
                  and_from _ _ (eq-eqb _ _ (omega (arith, free, busy.0))) (lt-ltb _ _ busy.1) in absurd (cc)
            ]
      ]
  | inr m ↦
      rw m (bus-ends f alone base t all older words linked.1
      (subst (λ b. (if b then (read_of u.supply).accept + 1 else turn_at base older) ≡ f.bus.free) m turn) low (λ p some. among p (or_right _ _ some)) done answered came)
]

-- ---- if no completion is found, none came
pub none-came : (f : IssueState) (alone : Bool) (words : List Use) (t : ℕ) → IsRowIssue f → f.p ≤ t → IsNothingDone f alone t words
    → CameBy f alone t words → (t ≡ f.p) ⊎ (list_any (is_answered_at Instruction t) words ≡ true)
none-came f alone words t row late none came = elim came [
  | inl at ↦ inl at
  | inr more ↦ elim (cases_Bool (is_first f)) [
    | inl y ↦ elim more [
      | inl serial ↦ inl (omega (arith, serial.0, (row.first y).0))
      | inr most ↦ elim most [
        | inl stored ↦ let by = stored-by f t words stored in inl (omega (arith, by.1, (row.first y).1 by.0, late))
        | inr answered ↦ inr answered
      ]
    ]
    | inr m ↦ elim more [
      | inl serial ↦
          let hit : is_serial_at f alone t ≡ true = and_from _ _ (ap not m) (and_from _ _ (eq-eqb _ _ serial.0) serial.1) in
          let miss = none.serial in absurd (cc)
      | inr most ↦ elim most [
        | inl stored ↦
            let hit : is_store_at f t words ≡ true = and_from _ _ (ap not m) stored in
            let miss = none.store in absurd (cc)
        | inr answered ↦ inr answered
      ]
    ]
  ]
]

-- ---- over the instruction words

pub or-path : (f : IssueState) (own : ℕ) (before : List Use) (alone : Bool) (words : List Use) (t : ℕ) (o : Option StallCause) (r : StallCause)
    → ((b : StallCause) → o ≡ Some b → IsPath f own before alone words t b) → (o ≡ None → IsPath f own before alone words t r)
    → IsPath f own before alone words t (reason_or o r)
or-path f own before alone words t (Some b) r some none = some b refl
or-path f own before alone words t None r some none = none refl

module _ (f : IssueState) (own base : ℕ) (before : List Use) (linked : AreLinked base before) (turn : turn_at base before ≡ f.bus.free) (low : base ≤ f.p)
    (row : IsRowIssue f) where
  -- `all` are the instruction words so far, of which the later ones have been skipped
  pub words-path : (alone : Bool) (all later words : List Use) (t : ℕ) → all ≡ later ++ words → AreCaused f own words
      → IsNothingDone f alone t all → (list_any (is_answered_at Instruction t) all ≡ true → list_any (is_answered_at Instruction t) words ≡ true)
      → (t ≡ f.p) ⊎ (((f.bus.free ≡ t + 1) × (f.p < t)) ⊎ (list_any (is_answered_at Instruction t) words ≡ true))
      → IsPath f own before alone all t (reason_of_words f own before t words)
  unfolding reason_of_words AreCaused EndsAt
  words-path alone all later [] t parts caused none only came =
      let unanswered : IsNoneAnswered t all = elim (cases_Bool (list_any (is_answered_at Instruction t) all)) [
        | inl y ↦ let some = only y in absurd (cc)
        | inr m ↦ m
      ] in
      PathEnds f own before alone all t (reason_of_bus f t before)
      (bus-ends f alone base t before before all linked turn low (λ p some. some) none unanswered (elim came [
        | inl at ↦ inl at
        | inr more ↦ elim more [ inl busy ↦ inr busy | inr some ↦ absurd (cc) ]
      ]))
  words-path alone all later (u ∷ earlier) t parts caused none only came = elim (cases_Bool (decides Instruction t u earlier)) [
    | inl due ↦
        let first : IsFirstAnswered t all u = record { later = later; earlier = earlier; parts = parts; first = due } in
        elim (cases_Bool (is_read u.supply)) [
          | inl y ↦
              let want = (read_of u.supply).want in
              let here = caused.0 (decided-role Instruction t u earlier due) y in
              let behind = nat_le own (length earlier) in
              rw (due, y) (PathGoesOn f own before alone all t _ u none first y
              (or-path f own before behind earlier want (reason_done f behind want earlier) (reason_of_words f own before want earlier)
              (λ b is. PathEnds f own before behind earlier want b (done-ends f behind before earlier want b row here.0 is))
              (λ is.
              let next = nothing-done f behind earlier want is in
              words-path behind earlier [] earlier want refl caused.1 next (λ some. some) (elim (none-came f behind earlier want row here.0 next here.1) [
                | inl at ↦ inl at
                | inr some ↦ inr (inr some)
              ]))))
          | inr m ↦ rw (due, m) (PathEnds f own before alone all t (Prefetch (record { word = u.word; late = t - f.p })) (none, (u, (first, (m, refl))), refl))
        ]
    | inr not_due ↦
        rw not_due (words-path alone all (later ++ (u ∷ [])) earlier t (parts ∙ sym (append_assoc later (u ∷ []) earlier)) caused.1 none
        (λ some. further Instruction t u earlier (only some) not_due) (elim came [
          | inl at ↦ inl at
          | inr more ↦ elim more [
            | inl busy ↦ inr (inl busy)
            | inr some ↦ inr (inr (further Instruction t u earlier some not_due))
          ]
        ]))
  ]

-- ---- the instruction words were wanted at ticks with events

fetch-want-is : (ds : List ℕ) (o : Option ℕ) (s : Fetching) (w want : ℕ) → is_read (fetch_supply o ds s.bus w want) ≡ true → (read_of (fetch_supply o ds s.bus w want)).want ≡ want
unfolding is_read read_of
fetch-want-is ds None s w want is = refl
fetch-want-is ds (Some a) s w want is = absurd (cc)

pub record AreKnown (f : IssueState) (own : ℕ) (s : Fetching) (us : List Use) : Type 0 where
  pub answers : (s.answered ≡ 0) ⊎ (list_any (is_answered_at Instruction s.answered) us ≡ true)
  pub awaited : (s.awaited ≡ 0) ⊎ (list_any (is_stored f.past s.awaited) us ≡ true)
  pub caused : AreCaused f own us

module _ (ds : List ℕ) (f : IssueState) (own : ℕ) where
  came-first : (first : ℕ) (us : List Use) → (first ≡ f.p) ⊎ ((first ≡ f.c) × ((f.serial ≡ true) ⊎ (own ≤ length us))) → CameBy f (nat_le own (length us)) first us
  came-first first us by = elim by [
    | inl at ↦ inl at
    | inr other ↦ inr (inl (other.0, elim other.1 [ inl serial ↦ or_right _ _ serial | inr long ↦ or_left _ _ (le-leb _ _ long) ]))
  ]

  came-want : (first : ℕ) (s : Fetching) (us : List Use) → (first ≡ f.p) ⊎ ((first ≡ f.c) × ((f.serial ≡ true) ⊎ (own ≤ length us))) → AreKnown f own s us
      → CameBy f (nat_le own (length us)) (max (max first s.answered) s.awaited) us
  came-want first s us by known =
      let want = max (max first s.answered) s.awaited in
      elim (cases_lt (max first s.answered) s.awaited) [
        | inl late ↦
            let at : want ≡ s.awaited = omega (arith, late) in
            elim known.awaited [
              | inl none ↦ let no : ⊥ = omega (arith, late, none) in absurd no
              | inr some ↦ inr (inr (inl (subst (λ k. list_any (is_stored f.past k) us ≡ true) (sym at) some)))
            ]
        | inr soon ↦ elim (cases_lt first s.answered) [
          | inl late ↦
              let at : want ≡ s.answered = omega (arith, late, soon) in
              elim known.answers [
                | inl none ↦ let no : ⊥ = omega (arith, late, none) in absurd no
                | inr some ↦ inr (inr (inr (subst (λ k. list_any (is_answered_at Instruction k) us ≡ true) (sym at) some)))
              ]
          | inr early ↦
              let at : want ≡ first = omega (arith, early, soon) in
              subst (λ k. CameBy f (nat_le own (length us)) k us) (sym at) (came-first first us by)
        ]
      ]

  pub words-known : (first : ℕ) (s : Fetching) (w n : ℕ) (us : List Use) → f.p ≤ first
      → (first ≡ f.p) ⊎ ((first ≡ f.c) × ((f.serial ≡ true) ⊎ (own ≤ length us))) → (1 ≤ n → 32 ≤ w) → AreKnown f own s us
      → AreKnown f own (fetch_words ds f.past s first w n) (reverse (instruction_uses ds f.past s first w n) ++ us)
  unfolding instruction_uses fetch_words fetch_word answer_tick_on AreCaused is_answered_at is_stored behind uses wishes behind_use bus_after_request
  words-known first s w zero us late by above known = known
  words-known first s w (suc n) us late by above known =
      let want = max (max first s.answered) s.awaited in
      let o = tick_of s.bus.held.words w in
      let next = fetch_word ds f.past s w first in
      let u : Use = record { role = Instruction; word = w; supply = fetch_supply o ds s.bus w want } in
      let here : AreKnown f own next (u ∷ us) = record {
        answers = elim (cases_lt s.answered (answer_if ds s.bus w want o)) [
          | inl more ↦
              let at : max s.answered (answer_if ds s.bus w want o) ≡ answer_if ds s.bus w want o = omega (arith, more) in
              inr (or_left _ _ (and_from _ _ refl (fetch-answered ds o s w want (max s.answered (answer_if ds s.bus w want o)) at)))
          | inr less ↦
              let at : max s.answered (answer_if ds s.bus w want o) ≡ s.answered = omega (arith, less) in
              elim known.answers [
                | inl none ↦ inl (omega (arith, at, none))
                | inr some ↦ inr (or_right _ _ (subst (λ k. list_any (is_answered_at Instruction k) us ≡ true) (sym at) some))
              ]
        ];
        awaited = elim (cases_lt s.awaited (latest_done f.past w)) [
          | inl more ↦
              let at : latest_done f.past w ≡ max s.awaited (latest_done f.past w) = omega (arith, more) in
              inr (or_left _ _ (and_from _ _ refl (and_from _ _ (le-leb 32 w (above (omega arith))) (eq-eqb _ _ at))))
          | inr less ↦
              let at : max s.awaited (latest_done f.past w) ≡ s.awaited = omega (arith, less) in
              elim known.awaited [
                | inl none ↦ inl (omega (arith, at, none))
                | inr some ↦ inr (or_right _ _ (subst (λ k. list_any (is_stored f.past k) us ≡ true) (sym at) some))
              ]
        ];
        caused = (
          (λ role is.
              let at = fetch-want-is ds o s w want is in
              (omega (arith, at, late), subst (λ k. CameBy f (nat_le own (length us)) k us) (sym at) (came-want first s us by known))),
          known.caused,
        );
      } in
      let by_then : (first ≡ f.p) ⊎ ((first ≡ f.c) × ((f.serial ≡ true) ⊎ (own ≤ length (u ∷ us)))) = elim by [
        | inl at ↦ inl at
        | inr other ↦ inr (other.0, elim other.1 [ inl serial ↦ inl serial | inr long ↦ inr (omega (arith, long)) ])
      ] in
      subst (AreKnown f own (fetch_words ds f.past next first (w + 1) n)) (sym (pour-cons u (instruction_uses ds f.past next first (w + 1) n) us))
      (words-known first next (w + 1) n (u ∷ us) late by_then (λ some. omega (arith, above (omega arith))) here)
