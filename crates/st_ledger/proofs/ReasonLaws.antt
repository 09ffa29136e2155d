-- The cause that the ledger names did delay the row: the proofs.
use Rattle.std.specs.Prelude.{nat_lt, nat_le, Option, None, Some, All}
use Rattle.std.proofs.Common.{◌≡◌, ℕ, ◌+◌, ◌-◌, ◌≤◌, ◌<◌, max, true, false, List, [], ◌∷◌, ◌++◌, inl, inr, refl, sym, ◌∙◌, ap, arith, ◌⊎◌, subst}
use Rattle.std.specs.List.{list_any}
use Rattle.std.proofs.lemmas.Bool.{cases_Bool, cases_lt, and_from, or_left, or_right, eq-eqb, ltb-true, ltb-false, le-leb, lt-leb}
use Rattle.std.proofs.lemmas.List.Folds.{list_any-append}
use Rattle.st_rows.specs.BusTimes.{answer_at}
use Rattle.std.proofs.lemmas.List.Elements.{All-head, All-tail}
use Rattle.st_banks.specs.declared.answers.LastAnswers.{LastAnswers}
use Rattle.st_rows.specs.Entries.{latest_done}
use Rattle.st_rows.specs.Rows.{words_tick, tick_a, index_arrival, tick_p, preparation_tick, done_before}
use Rattle.st_rows.specs.Words.{side_there, fill_at, is_forwarded}
use Rattle.st_rows.specs.Uses.{behind, behind_use, uses}
use Rattle.st_rows.specs.declared.bus.Bus.{Bus}
use Rattle.st_rows.specs.declared.entry.Entry.{Entry}
use Rattle.st_rows.specs.declared.issue.IssueState.{IssueState}
use Rattle.st_rows.specs.declared.past.Past.{Past}
use Rattle.st_segment.specs.Entries.{side_to_read}
use Rattle.st_plain.specs.Looking.{level_wait}
use Rattle.st_plain.specs.Uses.{fetch_uses, side_uses, formed_uses}
use Rattle.st_rows.specs.Supplies.{storage_supply, writer_back}
use Rattle.st_rows.specs.declared.uses.Use.{Use}
use Rattle.st_rows.specs.declared.uses.Writer.{Writer}
use Rattle.st_ledger.specs.Paths.{is_side_read, IsForLevel, IsForForwarding, IsReason, ForLevel, ForForwarding, ForAddress}
use Rattle.st_ledger.specs.ReasonLaws.{NoTwoRowsAreDoneAtOnce, ReasonsAreTrue}
use Rattle.st_ledger.specs.Reasons.{because, back_to, side_writer, writer_of_supply}
use Rattle.st_ledger.specs.Segments.{Told, IsTold, issue_of, last_uses}
use Rattle.st_ledger.specs.Words.{is_index, is_read, read_of}
use Rattle.st_ledger.specs.declared.because.Reason.TheVariants.{Level, Forwarding}
use Rattle.st_ledger.proofs.AddressPath.{for-address}
use Rattle.st_ledger.proofs.DoneLemmas.{done-apart}
use Rattle.st_ledger.proofs.EachUse.{each-fetch}
use Rattle.st_ledger.proofs.PathLemmas.{back-found}
use Rattle.st_ledger.proofs.WriterLemmas.{writer-done}

-- ---- levels

for-level : (ds : List ℕ) (n : ℕ) (f : IssueState) (e : Entry) → 1 ≤ n → n ≤ 8 → 0 < level_wait ds n f e
    → IsForLevel ds n f e (record { reason = Level; back = back_to (tick_p ds n f e - 1) f.past; tick = tick_p ds n f e - 1; late = level_wait ds n f e })
unfolding tick_p preparation_tick level_wait
for-level ds n f e least most some =
    let at : done_before n f.past ≡ tick_p ds n f e - 1 = omega (arith, some) in
    record {
      reason = refl;
      row = back-found f.past (tick_p ds n f e - 1) (n - 1) (omega (arith, least, most)) at;
      level = at;
      tick = omega (arith, some);
      late = omega (arith, some);
      some = some;
    }

prepared-late : (ds : List ℕ) (n : ℕ) (f : IssueState) (e : Entry) → tick_p ds n f e ≡ max (tick_a ds f e) (index_arrival ds f e) + 1 + level_wait ds n f e
unfolding tick_p preparation_tick level_wait
prepared-late ds n f e = omega arith

-- ---- forwarding

no-writer : (xs ys : List Use) → All (λ (u : Use). is_index u.role ≡ false) xs → side_writer (xs ++ ys) ≡ side_writer ys
unfolding side_writer
no-writer [] ys all = refl
no-writer (x ∷ xs) ys all =
    rw (All-head (λ (u : Use). is_index u.role ≡ false) x xs all) (no-writer xs ys (All-tail (λ (u : Use). is_index u.role ≡ false) x xs all))

storage-writer : (ds : List ℕ) (past : List Past) (b : Bus) (v a : ℕ) (w : Writer) → writer_of_supply (storage_supply ds past b v a) ≡ Some w
    → (fill_at ds past b v a ≡ w.done) × (a < w.done) × (done_before w.back past ≡ w.done)
unfolding writer_of_supply
storage-writer ds past b v a w is = elim (cases_Bool (is_forwarded past v a)) [
  | inl y ↦
      let x : Writer = record { back = writer_back past v; done = latest_done past v } in
      let one : writer_of_supply (storage_supply ds past b v a) ≡ Some x = rw y refl in
      let same : Some x ≡ Some w = sym one ∙ is in
      let at : x ≡ w = cc in
      let done : latest_done past v ≡ w.done = ap (λ z. z.done) at in
      let late : a < latest_done past v = ltb-true _ _ y in
      (rw y done, omega (arith, done, late), ap (λ z. done_before z.back past) (sym at) ∙ writer-done past v (omega (arith, late)) ∙ done)
  | inr m ↦
      let none : writer_of_supply (storage_supply ds past b v a) ≡ None = rw m refl in absurd (cc)
]

side-forwarded : (ds : List ℕ) (past : List Past) (b : Bus) (side : Option ℕ) (a : ℕ) (w : Writer) → side_writer (side_uses ds past b side a) ≡ Some w
    → (side_there ds past b (side_to_read side) a ≡ w.done) × (a < w.done) × (done_before w.back past ≡ w.done)
unfolding side_writer side_uses side_to_read side_there writer_of_supply behind uses behind_use
side-forwarded ds past b None a w is = absurd (cc)
side-forwarded ds past b (Some v) a w is = elim (cases_Bool (nat_lt v 32)) [
  | inl y ↦
      let none : side_writer (side_uses ds past b (Some v) a) ≡ None = rw y refl in absurd (cc)
  | inr m ↦
      let above : nat_le 32 v ≡ true = le-leb 32 v (ltb-false v 32 m) in
      let one : side_writer (side_uses ds past b (Some v) a) ≡ writer_of_supply (storage_supply ds past b v a) = rw m refl in
      rw above (storage-writer ds past b v a w (sym one ∙ is))
]

fetches-no-writer : (ds : List ℕ) (f : IssueState) (e : Entry) → All (λ (u : Use). is_index u.role ≡ false) (fetch_uses ds f e)
fetches-no-writer ds f e = each-fetch (λ (u : Use). is_index u.role ≡ false) ds f e (λ v a b o c d. refl) (λ v a b o c d. refl)

sided-is : (ds : List ℕ) (f : IssueState) (e : Entry) → side_there ds f.past (words_tick ds f e).bus e.side (tick_a ds f e) ≡ index_arrival ds f e
unfolding index_arrival side_there
sided-is ds f e = refl

pub for-forwarding : (ds : List ℕ) (n : ℕ) (banks : LastAnswers) (start : ℕ) (older : List Told) (x : Told) (w : Writer) → All IsTold (x ∷ older)
    → level_wait ds n (issue_of ds n banks start older) x.entry ≡ 0
    → side_writer (formed_uses ds (issue_of ds n banks start older) x.entry x.side) ≡ Some w
    → IsForForwarding ds n (issue_of ds n banks start older) x.entry (formed_uses ds (issue_of ds n banks start older) x.entry x.side)
    (record { reason = Forwarding; back = w.back; tick = w.done; late = w.done - tick_a ds (issue_of ds n banks start older) x.entry })
for-forwarding ds n banks start older x w all none is =
    let f = issue_of ds n banks start older in
    let e = x.entry in
    let side = side_uses ds f.past (words_tick ds f e).bus x.side (tick_a ds f e) in
    let at = side-forwarded ds f.past (words_tick ds f e).bus x.side (tick_a ds f e) w
    (sym (no-writer (fetch_uses ds f e) side (fetches-no-writer ds f e)) ∙ is) in
    let y_is : index_arrival ds f e ≡ w.done =
    sym (sided-is ds f e) ∙ ap (λ s. side_there ds f.past (words_tick ds f e).bus s (tick_a ds f e)) (All-head IsTold x older all).side ∙ at.0 in
    record {
      reason = refl;
      unlevelled = none;
      writer = is;
      row = at.2;
      tick = omega (arith, prepared-late ds n f e, none, y_is, at.1);
      late = omega (arith, at.1);
      some = omega (arith, at.1);
    }

-- ---- an index-side word that is read

side-read : (ds : List ℕ) (past : List Past) (b : Bus) (side : Option ℕ) (a : ℕ) → side_writer (side_uses ds past b side a) ≡ None
    → a < side_there ds past b (side_to_read side) a
    → list_any (is_side_read a (side_there ds past b (side_to_read side) a)) (side_uses ds past b side a) ≡ true
unfolding side_writer side_uses side_to_read side_there writer_of_supply is_read read_of behind uses behind_use
side-read ds past b None a none late = let no : ⊥ = omega (arith, late) in absurd no
side-read ds past b (Some v) a none late = elim (cases_Bool (nat_lt v 32)) [
  | inl y ↦
      let below : nat_le 32 v ≡ false = lt-leb 32 v (ltb-true v 32 y) in
      let gone : side_there ds past b (side_to_read (Some v)) a ≡ 0 = rw below refl in
      let no : ⊥ = omega (arith, late, gone) in absurd no
  | inr m ↦ elim (cases_Bool (is_forwarded past v a)) [
    | inl y ↦
        let x : Writer = record { back = writer_back past v; done = latest_done past v } in
        let some : side_writer (side_uses ds past b (Some v) a) ≡ Some x = rw (m, y) refl in absurd (cc)
    | inr n ↦
        let above : nat_le 32 v ≡ true = le-leb 32 v (ltb-false v 32 m) in
        rw (m, above, n) (or_left _ _ (and_from _ _ (eq-eqb a a refl) (eq-eqb (answer_at ds b v a) (answer_at ds b v a) refl)))
  ]
]

prepared-behind : (ds : List ℕ) (n : ℕ) (banks : LastAnswers) (start : ℕ) (older : List Told) (x : Told) → All IsTold (x ∷ older)
    → level_wait ds n (issue_of ds n banks start older) x.entry ≡ 0
    → side_writer (formed_uses ds (issue_of ds n banks start older) x.entry x.side) ≡ None
    → (tick_p ds n (issue_of ds n banks start older) x.entry ≡ tick_a ds (issue_of ds n banks start older) x.entry + 1)
    ⊎ (list_any (is_side_read (tick_a ds (issue_of ds n banks start older) x.entry) (tick_p ds n (issue_of ds n banks start older) x.entry - 1))
    (formed_uses ds (issue_of ds n banks start older) x.entry x.side) ≡ true)
prepared-behind ds n banks start older x all none is =
    let f = issue_of ds n banks start older in
    let e = x.entry in
    let a = tick_a ds f e in
    let bus = (words_tick ds f e).bus in
    let side = side_uses ds f.past bus x.side a in
    let there = side_there ds f.past bus (side_to_read x.side) a in
    let y_is : index_arrival ds f e ≡ there = sym (sided-is ds f e) ∙ ap (λ s. side_there ds f.past bus s a) (All-head IsTold x older all).side in
    elim (cases_lt a there) [
      | inl late ↦
          let at : there ≡ tick_p ds n f e - 1 = omega (arith, prepared-late ds n f e, none, y_is, late) in
          let read = side-read ds f.past bus x.side a (sym (no-writer (fetch_uses ds f e) side (fetches-no-writer ds f e)) ∙ is) late in
          inr (list_any-append (is_side_read a (tick_p ds n f e - 1)) (fetch_uses ds f e) side
          ∙ or_right _ _ (subst (λ k. list_any (is_side_read a k) side ≡ true) at read))
      | inr soon ↦ inl (omega (arith, prepared-late ds n f e, none, y_is, soon))
    ]

-- ---- the law

by-side : (ds : List ℕ) (n : ℕ) (banks : LastAnswers) (start : ℕ) (older : List Told) (x : Told) (o : Option Writer) → All IsTold (x ∷ older)
    → level_wait ds n (issue_of ds n banks start older) x.entry ≡ 0
    → side_writer (formed_uses ds (issue_of ds n banks start older) x.entry x.side) ≡ o
    → IsReason ds n (issue_of ds n banks start older) x.entry (formed_uses ds (issue_of ds n banks start older) x.entry x.side) (last_uses ds n banks start older)
    (because (issue_of ds n banks start older) x.entry (tick_a ds (issue_of ds n banks start older) x.entry) (tick_p ds n (issue_of ds n banks start older) x.entry)
    (level_wait ds n (issue_of ds n banks start older) x.entry) (formed_uses ds (issue_of ds n banks start older) x.entry x.side) (last_uses ds n banks start older))
unfolding because
by-side ds n banks start older x None all none is = ForAddress _ (for-address ds n banks start older x all none is (prepared-behind ds n banks start older x all none is))
by-side ds n banks start older x (Some w) all none is =
    rw (none, is) (ForForwarding _ (for-forwarding ds n banks start older x w all none is))

pub no_two_rows_are_done_at_once : NoTwoRowsAreDoneAtOnce
no_two_rows_are_done_at_once ds n banks start rows i j all order some = done-apart ds n banks start rows i j all order some

pub reasons_are_true : ReasonsAreTrue
unfolding because
reasons_are_true ds n banks start older x least most all =
    let f = issue_of ds n banks start older in
    elim (cases_Bool (nat_lt 0 (level_wait ds n f x.entry))) [
      | inl y ↦ rw y (ForLevel _ (for-level ds n f x.entry least most (ltb-true _ _ y)))
      | inr m ↦ by-side ds n banks start older x (side_writer (formed_uses ds f x.entry x.side)) all (omega (arith, ltb-false _ _ m)) refl
    ]
