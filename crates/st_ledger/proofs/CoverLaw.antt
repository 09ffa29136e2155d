-- The waits of each charge of a segment cover its ticks.
use Rattle.st_ledger.proofs.Common.{zero, suc, Bool, Option, reverse, All, take, replicate, list_any, ◌≡◌, ℕ, ◌+◌, ◌-◌, ◌≤◌, ◌<◌, inl, inr, max, true, false, List, [], ◌∷◌, ◌++◌, refl, sym, ◌∙◌, ap, subst, arith, cond_both, cases_Bool, and_parts, or_cases, or_left, or_right, and_left, and_right, eqb-true, reverse-append, All-nil, All-cons, All-head, All-tail, All-append, All-take, list_any-append, LastAnswers, tick_of, Words, latest_done, no_runs, ArePastWithin, issue_after_entry, row_of_entry, words_tick, tick_a, bus_a, tick_p, tick_c, operands, is_forwarded, Bus, Entry, IssueState, Past, latest-within, past-weaker, stage_at, Stage, Restart, Address, Preparing, Executing, Role, Instruction, Index, Operand, Following, Supply, Register, Use, fetch_uses, side_uses, data_uses, following_uses, prepared_uses, uses_of_entry, fetch_supply, storage_supply, is_parted, stage_waits, data_waits, fetch_waits, IsReadInTime, read_of, is_role, is_instruction, is_answered, is_answered_at, FallTo, Told, IsTold, issue_of, uses_behind, last_uses}
use Rattle.st_ledger.specs.declared.charges.Stage.TheVariants.{Instruction as AtInstruction, Index as AtIndex, Operand as AtOperand}
use Rattle.st_ledger.proofs.InTime.{uses-in-time}
use Rattle.st_ledger.proofs.Linked.{turn_at, want_at, AreLinked}
use Rattle.st_ledger.proofs.Covers.{IsDataBy, AreWantedAtAnswers, data-fall, fetch-fall, fetch-bus, bus-fall}
use Rattle.st_ledger.proofs.ChargeEnds.{end_of, index-after, operand-after}
use Rattle.st_ledger.proofs.CoverRows.{wants-low, fetches-wanted, address-awaits, preparation-awaits, operands-await, storage-want}
use Rattle.st_ledger.proofs.EachUse.{other_uses, two-parts, each-fetch, each-other}
use Rattle.st_ledger.proofs.SegmentLemmas.{linked-cut, linked-drop, turn-cut, want-cut, segment-behind, issue-order}
use Rattle.st_ledger.proofs.Truth.{others-no-words, deep_uses, deep-is, two-linked, base-early, four-is}
use Rattle.st_ledger.proofs.WordLemmas.{all-reversed}

-- ---- reversed lists

any-reversed : (p : Use → Bool) (xs : List Use) → list_any p xs ≡ true → list_any p (reverse xs) ≡ true
any-reversed p [] some = some
any-reversed p (x ∷ xs) some =
    ap (list_any p) (reverse-append (x ∷ []) xs) ∙ list_any-append p (reverse xs) (x ∷ [])
    ∙ elim (or_cases (p x) (list_any p xs) some) [
      | inl here ↦ or_right _ _ (or_left _ _ here)
      | inr there ↦ or_left _ _ (any-reversed p xs there)
    ]

-- ---- words of data

storage-accepted : (ds : List ℕ) (past : List Past) (b : Bus) (w p t : ℕ) → is_answered t (storage_supply ds past b w p) ≡ true
    → ((read_of (storage_supply ds past b w p)).want ≤ (read_of (storage_supply ds past b w p)).accept) × ((read_of (storage_supply ds past b w p)).accept ≤ t)
unfolding is_answered read_of
storage-accepted ds past b w p t =
    cond_both (is_forwarded past w p) _ _ (λ s. is_answered t s ≡ true → ((read_of s).want ≤ (read_of s).accept) × ((read_of s).accept ≤ t))
    (λ y is. absurd (cc))
    (λ m is. (omega arith, omega (arith, eqb-true _ _ is)))

data-by : (ds : List ℕ) (past : List Past) (b : Bus) (role r : Role) (w p from t : ℕ) → p ≤ from
    → IsDataBy role from t (record { role = r; word = w; supply = storage_supply ds past b w p })
unfolding is_answered_at
data-by ds past b role r w p from t low = record {
  wanted = λ at. storage-want ds past b w p from low;
  accepted = λ at. storage-accepted ds past b w p t (and_parts (is_role role r) (is_answered t (storage_supply ds past b w p)) at).1;
}

never-by : (role : Role) (from t : ℕ) (u : Use) → is_answered_at role t u ≡ false → IsDataBy role from t u
never-by role from t u none = record { wanted = λ at. absurd (cc); accepted = λ at. absurd (cc) }

register-never : (role r : Role) (w t : ℕ) → is_answered_at role t (record { role = r; word = w; supply = Register }) ≡ false
unfolding is_answered_at is_answered
register-never role r w t = and_right _ _ refl

other-never : (role r : Role) (w t : ℕ) (s : Supply) → is_role role r ≡ false → is_answered_at role t (record { role = r; word = w; supply = s }) ≡ false
unfolding is_answered_at
other-never role r w t s none = and_left _ _ none

module _ (ds : List ℕ) (n : ℕ) (f : IssueState) (e : Entry) (side : Option ℕ) (reads : Words) (from t : ℕ) where
  index-by : tick_a ds f e ≤ from → All (IsDataBy Index from t) (uses_of_entry ds n f e side reads)
  unfolding other_uses
  index-by low =
      subst (All (IsDataBy Index from t)) (sym (two-parts ds n f e side reads))
      (All-append (IsDataBy Index from t) (fetch_uses ds f e) (other_uses ds n f e side reads)
      (each-fetch (IsDataBy Index from t) ds f e
      (λ v least most o b want. never-by Index from t _ (other-never Index Instruction v t (fetch_supply o ds b v want) refl))
      (λ v least most o b want. never-by Index from t _ (other-never Index Instruction v t (fetch_supply o ds b v want) refl)))
      (each-other (IsDataBy Index from t) ds n f e
      (λ w. never-by Index from t _ (register-never Index Operand w t))
      (λ b w. never-by Index from t _ (other-never Index Operand w t (storage_supply ds f.past b w (tick_p ds n f e)) refl))
      (λ b w. never-by Index from t _ (other-never Index Following w t (fetch_supply (tick_of b.held.words w) ds b w (tick_p ds n f e)) refl))
      (λ w. never-by Index from t _ (register-never Index Index w t))
      (λ b w. data-by ds f.past b Index Index w (tick_a ds f e) from t low)
      side reads))

  operand-by : tick_p ds n f e ≤ from → All (IsDataBy Operand from t) (uses_of_entry ds n f e side reads)
  unfolding other_uses
  operand-by low =
      subst (All (IsDataBy Operand from t)) (sym (two-parts ds n f e side reads))
      (All-append (IsDataBy Operand from t) (fetch_uses ds f e) (other_uses ds n f e side reads)
      (each-fetch (IsDataBy Operand from t) ds f e
      (λ v least most o b want. never-by Operand from t _ (other-never Operand Instruction v t (fetch_supply o ds b v want) refl))
      (λ v least most o b want. never-by Operand from t _ (other-never Operand Instruction v t (fetch_supply o ds b v want) refl)))
      (each-other (IsDataBy Operand from t) ds n f e
      (λ w. never-by Operand from t _ (register-never Operand Operand w t))
      (λ b w. data-by ds f.past b Operand Operand w (tick_p ds n f e) from t low)
      (λ b w. never-by Operand from t _ (other-never Operand Following w t (fetch_supply (tick_of b.held.words w) ds b w (tick_p ds n f e)) refl))
      (λ w. never-by Operand from t _ (register-never Operand Index w t))
      (λ b w. never-by Operand from t _ (other-never Operand Index w t (storage_supply ds f.past b w (tick_a ds f e)) refl))
      side reads))

  in-side : (p : Use → Bool) → list_any p (side_uses ds f.past (words_tick ds f e).bus side (tick_a ds f e)) ≡ true
      → list_any p (reverse (uses_of_entry ds n f e side reads)) ≡ true
  unfolding other_uses
  in-side p some = any-reversed p (uses_of_entry ds n f e side reads)
      (ap (list_any p) (two-parts ds n f e side reads) ∙ list_any-append p (fetch_uses ds f e) (other_uses ds n f e side reads)
      ∙ or_right _ _ (list_any-append p (side_uses ds f.past (words_tick ds f e).bus side (tick_a ds f e)) (prepared_uses ds n f e reads) ∙ or_left _ _ some))

  in-data : (p : Use → Bool) → list_any p (data_uses ds f.past (bus_a ds f e) (tick_p ds n f e) reads e.reads) ≡ true
      → list_any p (reverse (uses_of_entry ds n f e side reads)) ≡ true
  unfolding other_uses
  in-data p some = any-reversed p (uses_of_entry ds n f e side reads)
      (ap (list_any p) (two-parts ds n f e side reads) ∙ list_any-append p (fetch_uses ds f e) (other_uses ds n f e side reads)
      ∙ or_right _ _ (list_any-append p (side_uses ds f.past (words_tick ds f e).bus side (tick_a ds f e)) (prepared_uses ds n f e reads)
      ∙ or_right _ _ (list_any-append p (data_uses ds f.past (bus_a ds f e) (tick_p ds n f e) reads e.reads) (following_uses ds (operands ds n f e).bus e (tick_p ds n f e)) ∙ or_left _ _ some)))

-- ---- words other than the instruction's

others-wanted : (from : ℕ) (xs ys : List Use) → All (λ (u : Use). is_instruction u.role ≡ false) xs → AreWantedAtAnswers from ys → AreWantedAtAnswers from (xs ++ ys)
unfolding AreWantedAtAnswers
others-wanted from [] ys all rest = rest
others-wanted from (x ∷ xs) ys all rest =
    let none : is_instruction x.role ≡ false = All-head (λ (u : Use). is_instruction u.role ≡ false) x xs all in
    ((λ role is behind. absurd (cc)), others-wanted from xs ys (All-tail (λ (u : Use). is_instruction u.role ≡ false) x xs all) rest)

pub opening-within : (m k : ℕ) → All (λ (p : Past). p.c ≤ m) (replicate k (record { c = 0; writes = no_runs }))
opening-within m zero = All-nil (λ (p : Past). p.c ≤ m)
opening-within m (suc k) = All-cons (λ (p : Past). p.c ≤ m) _ _ (omega arith) (opening-within m k)

-- ---- the segment

module _ (ds : List ℕ) (n : ℕ) (banks : LastAnswers) (start : ℕ) where
  pub past-within : (older : List Told) → ArePastWithin (issue_of ds n banks start older).c (issue_of ds n banks start older).past
  unfolding issue_of issue_after_entry tick_c
  past-within [] = record { each = opening-within start 8 }
  past-within (x ∷ older) =
      let f = issue_of ds n banks start older in
      let c = max f.c (operands ds n f x.entry).answered + x.entry.cost in
      record {
        each = All-cons (λ (p : Past). p.c ≤ c) _ _ (omega arith)
            (All-take (λ (p : Past). p.c ≤ c) 7 f.past (past-weaker f.c c f.past (omega arith) (past-within older)).each);
      }

  last-in-time : (older : List Told) → All IsReadInTime (last_uses ds n banks start older)
  unfolding last_uses uses_behind
  last-in-time [] = All-nil IsReadInTime
  last-in-time (x ∷ older) = uses-in-time ds n (issue_of ds n banks start older) x.entry x.side x.reads

  module _ (older : List Told) (x : Told) (all : All IsTold (x ∷ older)) (from : ℕ) (late : (issue_of ds n banks start older).c ≤ from) where
    abbrev f : IssueState
    f = issue_of ds n banks start older

    abbrev e : Entry
    e = x.entry

    abbrev uses : List Use
    uses = uses_behind ds n banks start older x

    abbrev before : List Use
    before = last_uses ds n banks start older

    before-low : All (λ (u : Use). (read_of u.supply).want ≤ from) (reverse before)
    before-low =
        let is = segment-behind ds n banks start older (All-tail IsTold x older all) in
        let linked = subst (AreLinked start) (deep-is ds n banks start older) is.linked in
        let low : want_at (reverse before ++ deep_uses ds n banks start older) ≤ f.p = subst (λ us. want_at us ≤ f.p) (deep-is ds n banks start older) is.want in
        wants-low (turn_at start (deep_uses ds n banks start older)) from (reverse before) (linked-cut start (reverse before) (deep_uses ds n banks start older) linked)
        (omega (arith, low, want-cut (reverse before) (deep_uses ds n banks start older), (issue-order ds n banks start older).1, late))

    pub before-turn : turn_at (turn_at start (deep_uses ds n banks start older)) (reverse before) ≡ f.bus.free
    before-turn =
        turn-cut start (reverse before) (deep_uses ds n banks start older)
        ∙ subst (λ us. turn_at start us ≡ f.bus.free) (deep-is ds n banks start older) (segment-behind ds n banks start older (All-tail IsTold x older all)).turn

    index-covers : (to : ℕ) → to ≡ tick_p ds n f e - 1 → tick_a ds f e ≤ from → from < to → FallTo from to (data_waits Index from to (reverse before) (reverse uses))
    unfolding uses_behind
    index-covers to at after some =
        data-fall Index from to (reverse before) (reverse uses) (omega (arith, some))
        (all-reversed (IsDataBy Index from to) uses (index-by ds n f e x.side x.reads from to after))
        (in-side ds n f e x.side x.reads from to (is_answered_at Index to)
        (subst (λ k. list_any (is_answered_at Index k) (side_uses ds f.past (words_tick ds f e).bus x.side (tick_a ds f e)) ≡ true) (sym at)
        (preparation-awaits ds n from f e (past-within older) late x.side (All-head IsTold x older all).side after (omega (arith, some, at)))))

    operand-covers : (to : ℕ) → to ≡ (operands ds n f e).answered → tick_p ds n f e ≤ from → from < to → FallTo from to (data_waits Operand from to (reverse before) (reverse uses))
    unfolding uses_behind
    operand-covers to at after some =
        data-fall Operand from to (reverse before) (reverse uses) (omega (arith, some))
        (all-reversed (IsDataBy Operand from to) uses (operand-by ds n f e x.side x.reads from to after))
        (in-data ds n f e x.side x.reads from to (is_answered_at Operand to)
        (subst (λ k. list_any (is_answered_at Operand k) (data_uses ds f.past (bus_a ds f e) (tick_p ds n f e) x.reads e.reads) ≡ true) (sym at)
        (operands-await ds n from f e (past-within older) late x.reads after (omega (arith, some, at)))))

    abbrev four : List Use
    four = take 4 uses

    abbrev few : List Use
    few = take (4 - (e.own.len + e.target.len)) (other_uses ds n f e x.side x.reads)

    four-reversed : reverse four ≡ reverse few ++ reverse (fetch_uses ds f e)
    four-reversed = ap reverse (four-is ds n banks start older x all from late) ∙ reverse-append (fetch_uses ds f e) few

    writers-low : (w : ℕ) → latest_done f.past w ≤ from
    writers-low w = omega (arith, late, latest-within f.c f.past w (past-within older))

    four-wanted : AreWantedAtAnswers from (reverse four)
    four-wanted =
        subst (AreWantedAtAnswers from) (sym four-reversed)
        (others-wanted from (reverse few) (reverse (fetch_uses ds f e))
        (all-reversed (λ (u : Use). is_instruction u.role ≡ false) few
        (All-take (λ (u : Use). is_instruction u.role ≡ false) _ (other_uses ds n f e x.side x.reads) (others-no-words ds n f e x.side x.reads)))
        (fetches-wanted ds from f e writers-low (issue-order ds n banks start older).1 late))

    four-in-time : All IsReadInTime (reverse four)
    unfolding uses_behind
    four-in-time = all-reversed IsReadInTime four (All-take IsReadInTime 4 uses (uses-in-time ds n f e x.side x.reads))

    before-in-time : All IsReadInTime (reverse before)
    before-in-time = all-reversed IsReadInTime before (last-in-time older)

    words-cover : (to : ℕ) → from < to → list_any (is_answered_at Instruction to) (reverse four) ≡ true → FallTo from to (fetch_waits from to (reverse before) (reverse four))
    words-cover to some there =
        fetch-fall from to (reverse before) (reverse four) (omega (arith, some)) before-in-time four-in-time before-low four-wanted there

    bus-covers : (to : ℕ) → from < to → f.bus.free ≡ to + 1 → FallTo from to (fetch_waits from to (reverse before) (reverse four))
    bus-covers to some busy = elim (cases_Bool (list_any (is_answered_at Instruction to) (reverse four))) [
      | inl y ↦ words-cover to some y
      | inr m ↦
          rw (fetch-bus from to (reverse before) (reverse four) m)
          (bus-fall (turn_at start (deep_uses ds n banks start older)) from to (reverse before) (base-early ds n banks start older x all from late) some
          (linked-drop (turn_at start (deep_uses ds n banks start older)) (reverse uses) (reverse before) (two-linked ds n banks start older x all))
          (before-turn ∙ busy) before-low)
    ]

    instruction-covers : (to : ℕ) → to ≡ tick_a ds f e - 1 → from < to → FallTo from to (fetch_waits from to (reverse before) (reverse four))
    instruction-covers to at some =
        elim (address-awaits ds from f e writers-low (issue-order ds n banks start older).1 late (omega (arith, some, at))) [
          | inl there ↦
              words-cover to some (ap (list_any (is_answered_at Instruction to)) four-reversed
              ∙ list_any-append (is_answered_at Instruction to) (reverse few) (reverse (fetch_uses ds f e))
              ∙ or_right _ _ (subst (λ k. list_any (is_answered_at Instruction k) (reverse (fetch_uses ds f e)) ≡ true) (sym at) there))
          | inr busy ↦ bus-covers to some (omega (arith, busy, at))
        ]

    pub stage-covers : (stage : Stage) (to : ℕ) → from < to → to ≡ end_of f.c (row_of_entry ds n f e) stage → stage_at f.c (row_of_entry ds n f e) (from + 1) ≡ stage
        → is_parted stage ≡ true → FallTo from to (stage_waits stage from to uses before)
    unfolding stage_waits end_of row_of_entry
    stage-covers AtInstruction to some at here parted = instruction-covers to at some
    stage-covers AtIndex to some at here parted = index-covers to at (omega (arith, index-after f.c (row_of_entry ds n f e) (from + 1) here)) some
    stage-covers AtOperand to some at here parted = operand-covers to at (omega (arith, operand-after f.c (row_of_entry ds n f e) (from + 1) here)) some
    stage-covers Restart to some at here parted = absurd (cc)
    stage-covers Address to some at here parted = absurd (cc)
    stage-covers Preparing to some at here parted = absurd (cc)
    stage-covers Executing to some at here parted = absurd (cc)
