-- The cause of a row's address is the end of a path.
use Rattle.st_ledger.proofs.Common.{Bool, ◌||◌, if◌then◌else◌, Option, None, Some, reverse, All, replicate, list_any, ◌≡◌, ℕ, ◌+◌, ◌-◌, ◌≤◌, ◌<◌, ◌⊎◌, inl, inr, max, true, false, List, [], ◌∷◌, ◌++◌, refl, sym, ◌∙◌, ap, subst, arith, length-append, cond_both, cases_Bool, eqb-true, cases_lt, or_right, append-nil, reverse-append, length-reverse, length-take, All-nil, All-cons, All-head, All-tail, list_any-append, LastAnswers, latest_done, no_runs, IsEntryInTime, issue_after_entry, wanted_from, words_tick, address_tick, tick_a, tick_p, tick_c, preparation_tick, fetch_words, Entry, Fetching, IssueState, latest-within, instruction_uses, fetch_uses, side_uses, formed_uses, Instruction, Use, because, is_stored, side_writer, reason_of_side, reason_of_address, reason_done, reason_of_words, is_role, is_answered_at, is_side_read, IsPath, PathEnds, IsForAddress, Told, IsTold, issue_of, last_uses, uses}
use Rattle.std.specs.Prelude.{length}
use Rattle.st_plain.specs.Looking.{level_wait}
use Rattle.st_ledger.proofs.Linked.{turn_at, AreLinked}
use Rattle.st_ledger.proofs.PathLemmas.{CameBy, AreCaused, AreKnown, IsRowIssue, words-known, words-path, nothing-done, none-came, done-ends, or-path}
use Rattle.st_ledger.proofs.Chains.{pour-append}
use Rattle.st_ledger.proofs.CoverLaw.{before-turn, opening-within}
use Rattle.st_ledger.proofs.EachUse.{words-length}
use Rattle.st_ledger.proofs.SegmentLemmas.{linked-cut, segment-behind, issue-order}
use Rattle.st_ledger.proofs.Truth.{deep_uses, deep-is, deep-early}

words-long : (ds : List ℕ) (f : IssueState) (from : ℕ) (s : Fetching) (w n : ℕ) → length (instruction_uses ds f.past s from w n) ≡ n
words-long ds f from s w n = words-length ds f.past from s w n

others-caused : (f : IssueState) (own : ℕ) (xs ys : List Use) → All (λ (u : Use). is_role Instruction u.role ≡ false) xs → AreCaused f own ys → AreCaused f own (xs ++ ys)
unfolding AreCaused
others-caused f own [] ys all caused = caused
others-caused f own (x ∷ xs) ys all caused =
    let none : is_role Instruction x.role ≡ false = All-head (λ (u : Use). is_role Instruction u.role ≡ false) x xs all in
    ((λ role is. absurd (cc)), others-caused f own xs ys (All-tail (λ (u : Use). is_role Instruction u.role ≡ false) x xs all) caused)

module _ (ds : List ℕ) (f : IssueState) (e : Entry) (fits : IsEntryInTime e) (order : f.p ≤ f.c) where
  fetches-known : AreKnown f e.own.len (words_tick ds f e) (reverse (fetch_uses ds f e) ++ [])
  unfolding fetch_uses words_tick AreCaused fetch_words instruction_uses
  fetches-known =
      let start : Fetching = record { bus = f.bus; answered = 0; awaited = 0 } in
      let own = fetch_words ds f.past start (wanted_from f) e.own.first e.own.len in
      let after = max (wanted_from f) f.c in
      let one = instruction_uses ds f.past start (wanted_from f) e.own.first e.own.len in
      let two = instruction_uses ds f.past own after e.target.first e.target.len in
      let late : f.p ≤ wanted_from f = cond_both f.serial (max f.p f.c) f.p (λ w. f.p ≤ w) (λ y. omega arith) (λ m. omega arith) in
      let low : wanted_from f ≤ f.c = cond_both f.serial (max f.p f.c) f.p (λ w. w ≤ f.c) (λ y. omega (arith, order)) (λ m. order) in
      let none : AreKnown f e.own.len start [] = record { answers = inl refl; awaited = inl refl; caused = tt } in
      let by : (wanted_from f ≡ f.p) ⊎ ((wanted_from f ≡ f.c) × ((f.serial ≡ true) ⊎ (e.own.len ≤ length {A = Use} []))) =
      elim (cases_Bool f.serial) [
        | inl y ↦
            let is : wanted_from f ≡ max f.p f.c = rw y refl in
            inr (omega (arith, is, order), inl y)
        | inr m ↦ let is : wanted_from f ≡ f.p = rw m refl in inl is
      ] in
      let first = words-known ds f e.own.len (wanted_from f) start e.own.first e.own.len [] late by (λ some. fits.own.above some) none in
      let long : e.own.len ≤ length (reverse one ++ []) =
      omega (arith, length-append (reverse one) [], length-reverse one, words-long ds f (wanted_from f) start e.own.first e.own.len) in
      let then_by : (after ≡ f.p) ⊎ ((after ≡ f.c) × ((f.serial ≡ true) ⊎ (e.own.len ≤ length (reverse one ++ [])))) = inr (omega (arith, low), inr long) in
      subst (AreKnown f e.own.len (fetch_words ds f.past own after e.target.first e.target.len)) (sym (pour-append one two []))
      (words-known ds f e.own.len after own e.target.first e.target.len (reverse one ++ []) (omega (arith, late)) then_by (λ some. fits.target.above some) first)

  known : AreKnown f e.own.len (words_tick ds f e) (reverse (fetch_uses ds f e))
  known = subst (AreKnown f e.own.len (words_tick ds f e)) (append-nil (reverse (fetch_uses ds f e))) fetches-known

  serial_part : ℕ
  serial_part = if e.serial || f.serial then f.c else 0

  address-is : tick_a ds f e ≡ max (max (max (max (words_tick ds f e).answered (words_tick ds f e).awaited) f.p) serial_part + 1) f.bus.free
  unfolding tick_a address_tick serial_part
  address-is = refl

  address-late : f.p ≤ tick_a ds f e - 1
  address-late = omega (arith, address-is)

  -- the words of the entry with its index-side word in front of them
  module _ (side : List Use) (others : All (λ (u : Use). is_role Instruction u.role ≡ false) side) where
    abbrev words : List Use
    words = side ++ reverse (fetch_uses ds f e)

    in-words : (p : Use → Bool) → list_any p (reverse (fetch_uses ds f e)) ≡ true → list_any p words ≡ true
    in-words p some = list_any-append p side (reverse (fetch_uses ds f e)) ∙ or_right _ _ some

    serial-came : tick_a ds f e - 1 ≡ serial_part → 1 ≤ serial_part → CameBy f e.serial (tick_a ds f e - 1) words
    unfolding serial_part
    serial-came is some = elim (cases_Bool (e.serial || f.serial)) [
      | inl y ↦
          let at : (if e.serial || f.serial then f.c else 0) ≡ f.c = rw y refl in
          inr (inl (is ∙ at, y))
      | inr m ↦
          let at : (if e.serial || f.serial then f.c else 0) ≡ 0 = rw m refl in
          let no : ⊥ = omega (arith, some, at) in absurd no
    ]

    -- at the tick before the address is formed, an event came or the bus was not free earlier
    address-came : CameBy f e.serial (tick_a ds f e - 1) words ⊎ ((f.bus.free ≡ tick_a ds f e - 1 + 1) × (f.p < tick_a ds f e - 1))
    address-came =
        let a = tick_a ds f e in
        let answered = (words_tick ds f e).answered in
        let awaited = (words_tick ds f e).awaited in
        let top = max (max (max answered awaited) f.p) serial_part in
        elim (cases_lt (top + 1) f.bus.free) [
          | inl busy ↦ inr (omega (arith, busy, address-is), omega (arith, busy, address-is))
          | inr free ↦
              let at : a - 1 ≡ top = omega (arith, free, address-is) in
              inl (elim (cases_lt f.p top) [
                | inr by_p ↦ inl (omega (arith, at, by_p))
                | inl more ↦ elim (cases_lt (max answered awaited) top) [
                  | inl serial ↦
                      let is : a - 1 ≡ serial_part = omega (arith, at, more, serial) in
                      serial-came is (omega (arith, is, at, more))
                  | inr early ↦ elim (cases_lt answered awaited) [
                    | inl writer ↦
                        let is : awaited ≡ a - 1 = omega (arith, at, more, early, writer) in
                        elim known.awaited [
                          | inl none ↦ let no : ⊥ = omega (arith, none, writer) in absurd no
                          | inr some ↦ inr (inr (inl (in-words (is_stored f.past (a - 1)) (subst (λ k. list_any (is_stored f.past k) (reverse (fetch_uses ds f e)) ≡ true) is some))))
                        ]
                    | inr answer ↦
                        let is : answered ≡ a - 1 = omega (arith, at, more, early, answer) in
                        elim known.answers [
                          | inl none ↦ let no : ⊥ = omega (arith, none, is, at, more) in absurd no
                          | inr some ↦ inr (inr (inr (in-words (is_answered_at Instruction (a - 1)) (subst (λ k. list_any (is_answered_at Instruction k) (reverse (fetch_uses ds f e)) ≡ true) is some))))
                        ]
                  ]
                ]
              ])
        ]

    caused-words : AreCaused f e.own.len words
    caused-words = others-caused f e.own.len side (reverse (fetch_uses ds f e)) others known.caused

    abbrev t : ℕ
    t = tick_a ds f e - 1

    pub address-path : (base : ℕ) (before : List Use) → AreLinked base before → turn_at base before ≡ f.bus.free → base ≤ f.p → IsRowIssue f
        → IsPath f e.own.len before e.serial words t (reason_of_address f e t before words)
    address-path base before linked turn low row =
        or-path f e.own.len before e.serial words t (reason_done f e.serial t words) (reason_of_words f e.own.len before t words)
        (λ b is. PathEnds f e.own.len before e.serial words t b (done-ends f e.serial before words t b row address-late is))
        (λ is.
        let none = nothing-done f e.serial words t is in
        words-path f e.own.len base before linked turn low row e.serial words [] words t refl caused-words none (λ some. some) (elim address-came [
          | inl came ↦ elim (none-came f e.serial words t row address-late none came) [
            | inl at ↦ inl at
            | inr some ↦ inr (inr some)
          ]
          | inr busy ↦ inr (inl busy)
        ]))

-- ---- the segment

module _ (ds : List ℕ) (n : ℕ) (banks : LastAnswers) (start : ℕ) where
  opening-none : (k w : ℕ) → latest_done (replicate k (record { c = 0; writes = no_runs })) w ≡ 0
  opening-none k w = omega (arith, latest-within 0 (replicate k (record { c = 0; writes = no_runs })) w (record { each = opening-within 0 k }))

  pub row-issue : (older : List Told) → All IsTold older → IsRowIssue (issue_of ds n banks start older)
  unfolding issue_of issue_after_entry tick_c tick_p preparation_tick
  row-issue [] all = record { eight = refl; later = λ behind. absurd (cc); first = λ is. (refl, λ w. opening-none 8 w) }
  row-issue (x ∷ older) all = record {
    eight = omega (arith, length-take 7 (issue_of ds n banks start older).past, (row-issue older (All-tail IsTold x older all)).eight);
    later = λ behind. omega arith;
    first = λ is.
        let zero_tick = eqb-true _ _ is in
        let no : ⊥ = omega (arith, zero_tick, (All-head IsTold x older all).entry.costs.0) in absurd no;
  }

  side-others : (f : IssueState) (e : Entry) (side : Option ℕ) → All (λ (u : Use). is_role Instruction u.role ≡ false) (reverse (side_uses ds f.past (words_tick ds f e).bus side (tick_a ds f e)))
  unfolding side_uses uses
  side-others f e None = All-nil (λ (u : Use). is_role Instruction u.role ≡ false)
  side-others f e (Some w) = All-cons (λ (u : Use). is_role Instruction u.role ≡ false) _ [] refl (All-nil (λ (u : Use). is_role Instruction u.role ≡ false))

  because-is : (f : IssueState) (e : Entry) (a p wait : ℕ) (words before : List Use) → wait ≡ 0 → side_writer words ≡ None
      → because f e a p wait words before ≡ reason_of_address f e (a - 1) (reverse before) (reverse words)
  unfolding because
  because-is f e a p wait us before none alone =
      rw none (ap (λ o. reason_of_side o a (reason_of_address f e (a - 1) (reverse before) (reverse us))) alone)

pub for-address : (ds : List ℕ) (n : ℕ) (banks : LastAnswers) (start : ℕ) (older : List Told) (x : Told) → All IsTold (x ∷ older)
    → level_wait ds n (issue_of ds n banks start older) x.entry ≡ 0
    → side_writer (formed_uses ds (issue_of ds n banks start older) x.entry x.side) ≡ None
    → (tick_p ds n (issue_of ds n banks start older) x.entry ≡ tick_a ds (issue_of ds n banks start older) x.entry + 1)
    ⊎ (list_any (is_side_read (tick_a ds (issue_of ds n banks start older) x.entry) (tick_p ds n (issue_of ds n banks start older) x.entry - 1))
    (formed_uses ds (issue_of ds n banks start older) x.entry x.side) ≡ true)
    → IsForAddress ds n (issue_of ds n banks start older) x.entry (formed_uses ds (issue_of ds n banks start older) x.entry x.side) (last_uses ds n banks start older)
    (because (issue_of ds n banks start older) x.entry (tick_a ds (issue_of ds n banks start older) x.entry) (tick_p ds n (issue_of ds n banks start older) x.entry)
    (level_wait ds n (issue_of ds n banks start older) x.entry) (formed_uses ds (issue_of ds n banks start older) x.entry x.side) (last_uses ds n banks start older))
for-address ds n banks start older x all none alone prepared =
    let f = issue_of ds n banks start older in
    let e = x.entry in
    let tail = All-tail IsTold x older all in
    let side = side_uses ds f.past (words_tick ds f e).bus x.side (tick_a ds f e) in
    let before = last_uses ds n banks start older in
    let deep = deep_uses ds n banks start older in
    let is = segment-behind ds n banks start older tail in
    let linked = linked-cut start (reverse before) deep (subst (AreLinked start) (deep-is ds n banks start older) is.linked) in
    let path = address-path ds f e (All-head IsTold x older all).entry (issue-order ds n banks start older).1 (reverse side) (side-others ds n banks start f e x.side)
    (turn_at start deep) (reverse before) linked (before-turn ds n banks start older x all f.c (omega arith)) (deep-early ds n banks start older tail)
    (row-issue ds n banks start older tail) in
    let whole : reverse (formed_uses ds f e x.side) ≡ reverse side ++ reverse (fetch_uses ds f e) = reverse-append (fetch_uses ds f e) side in
    record {
      unlevelled = none;
      unforwarded = alone;
      prepared = prepared;
      path = rw (because-is ds n banks start f e (tick_a ds f e) (tick_p ds n f e) (level_wait ds n f e) (formed_uses ds f e x.side) before none alone, whole) path;
    }
