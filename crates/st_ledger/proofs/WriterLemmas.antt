-- Lemmas on the rows that forwarded words come from.
use Rattle.st_ledger.proofs.Common.{zero, suc, position, get_or, Option, None, Some, All, ◌≡◌, ℕ, ◌+◌, ◌-◌, ◌≤◌, ◌<◌, true, false, List, [], ◌∷◌, inl, inr, refl, sym, ◌∙◌, ap, subst, arith, cases_Bool, ltb-true, All-append, tick_of, Words, latest_done, is_among, no_runs, completion_of, done_before, tick_a, tick_p, is_forwarded, Bus, Entry, IssueState, Past, fetch_uses, uses_of_entry, fetch_supply, storage_supply, one_behind, writer_back, Role, Instruction, Index, Operand, Following, Register, writer_of_supply, IsWrittenBy}
use Rattle.std.proofs.lemmas.Grind.{common_steps}
use Rattle.std.proofs.lemmas.List.Quantifiers.{position-Some}
use Rattle.st_rows.specs.declared.uses.Writer.{Writer}
use Rattle.st_ledger.proofs.EachUse.{other_uses, two-parts, each-fetch, each-other}

-- the latest writer of a word, by its position
none-further : (past : List Past) (w : ℕ) (x : Past) → is_among w x.writes ≡ false → position (λ (entry : Past). is_among w entry.writes) (x ∷ past) ≡ None
    → position (λ (entry : Past). is_among w entry.writes) past ≡ None
none-further past w x other none = grind (arith, common_steps)

first-found : (past : List Past) (w : ℕ) (x : Past) → is_among w x.writes ≡ true → position (λ (entry : Past). is_among w entry.writes) (x ∷ past) ≡ Some 0
first-found past w x is = grind (arith, common_steps)

latest-none : (past : List Past) (w : ℕ) → position (λ (entry : Past). is_among w entry.writes) past ≡ None → latest_done past w ≡ 0
unfolding latest_done
latest-none [] w none = refl
latest-none (x ∷ past) w none = elim (cases_Bool (is_among w x.writes)) [
  | inl y ↦
      let some : position (λ (entry : Past). is_among w entry.writes) (x ∷ past) ≡ Some 0 = first-found past w x y in absurd (cc)
  | inr m ↦ rw m (latest-none past w (none-further past w x m none))
]

latest-at : (past : List Past) (w i : ℕ) → is_among w (get_or past i (record { c = 0; writes = no_runs })).writes ≡ true
    → ((k : ℕ) → k < i → is_among w (get_or past k (record { c = 0; writes = no_runs })).writes ≡ false) → latest_done past w ≡ completion_of past i
unfolding latest_done
latest-at [] w i is others = refl
latest-at (x ∷ past) w zero is others = rw is refl
latest-at (x ∷ past) w (suc i) is others = rw (others 0 (omega arith)) (latest-at past w i is (λ k low. others (suc k) (omega (arith, low))))

-- the row at the listed distance completes at the listed tick
writer-by : (past : List Past) (w : ℕ) (o : Option ℕ) → position (λ (entry : Past). is_among w entry.writes) past ≡ o → 1 ≤ latest_done past w
    → done_before (one_behind o) past ≡ latest_done past w
writer-by past w None is some = let no : ⊥ = omega (arith, some, latest-none past w is) in absurd no
writer-by past w (Some i) is some =
    let at = position-Some (λ (entry : Past). is_among w entry.writes) past i (record { c = 0; writes = no_runs }) is in
    let place : i + 1 - 1 ≡ i = omega arith in
    ap (completion_of past) place ∙ sym (latest-at past w i at.1 at.2)

pub writer-done : (past : List Past) (w : ℕ) → 1 ≤ latest_done past w → done_before (writer_back past w) past ≡ latest_done past w
writer-done past w some = writer-by past w (position (λ (entry : Past). is_among w entry.writes) past) refl some

-- the row at the listed distance writes the word
written-by : (past : List Past) (w : ℕ) (o : Option ℕ) → position (λ (entry : Past). is_among w entry.writes) past ≡ o → 1 ≤ latest_done past w
    → is_among w (get_or past (one_behind o - 1) (record { c = 0; writes = no_runs })).writes ≡ true
written-by past w None is some = let no : ⊥ = omega (arith, some, latest-none past w is) in absurd no
written-by past w (Some i) is some =
    let at = position-Some (λ (entry : Past). is_among w entry.writes) past i (record { c = 0; writes = no_runs }) is in
    let place : i ≡ i + 1 - 1 = omega arith in
    subst (λ k. is_among w (get_or past k (record { c = 0; writes = no_runs })).writes ≡ true) place at.1

-- ---- the words of an entry

stored-by : (role : Role) (ds : List ℕ) (past : List Past) (b : Bus) (v tick : ℕ)
    → IsWrittenBy past (record { role = role; word = v; supply = storage_supply ds past b v tick })
unfolding writer_of_supply
stored-by role ds past b v tick w is = elim (cases_Bool (is_forwarded past v tick)) [
  | inl y ↦
      let x : Writer = record { back = writer_back past v; done = latest_done past v } in
      let one : writer_of_supply (storage_supply ds past b v tick) ≡ Some x = rw y refl in
      let same : Some x ≡ Some w = sym one ∙ is in
      let at : x ≡ w = cc in
      let late : tick < latest_done past v = ltb-true _ _ y in (
        ap (λ (z : Writer). done_before z.back past) (sym at) ∙ writer-done past v (omega (arith, late)) ∙ ap (λ (z : Writer). z.done) at,
        subst (λ (z : Writer). is_among v (get_or past (z.back - 1) (record { c = 0; writes = no_runs })).writes ≡ true) at
            (written-by past v (position (λ (entry : Past). is_among v entry.writes) past) refl (omega (arith, late))),
      )
  | inr m ↦
      let none : writer_of_supply (storage_supply ds past b v tick) ≡ None = rw m refl in absurd (cc)
]

fetched-by : (o : Option ℕ) (role : Role) (ds : List ℕ) (past : List Past) (b : Bus) (v want : ℕ)
    → IsWrittenBy past (record { role = role; word = v; supply = fetch_supply o ds b v want })
unfolding writer_of_supply
fetched-by None role ds past b v want w is = absurd (cc)
fetched-by (Some tick) role ds past b v want w is = absurd (cc)

register-by : (role : Role) (past : List Past) (v : ℕ) → IsWrittenBy past (record { role = role; word = v; supply = Register })
unfolding writer_of_supply
register-by role past v w is = absurd (cc)

others-written : (ds : List ℕ) (n : ℕ) (f : IssueState) (e : Entry) (side : Option ℕ) (reads : Words) → All (IsWrittenBy f.past) (other_uses ds n f e side reads)
unfolding other_uses
others-written ds n f e side reads =
    each-other (IsWrittenBy f.past) ds n f e (λ v. register-by Operand f.past v) (λ b v. stored-by Operand ds f.past b v (tick_p ds n f e))
    (λ b v. fetched-by (tick_of b.held.words v) Following ds f.past b v (tick_p ds n f e)) (λ v. register-by Index f.past v)
    (λ b v. stored-by Index ds f.past b v (tick_a ds f e)) side reads

pub uses-written : (ds : List ℕ) (n : ℕ) (f : IssueState) (e : Entry) (side : Option ℕ) (reads : Words) → All (IsWrittenBy f.past) (uses_of_entry ds n f e side reads)
uses-written ds n f e side reads =
    subst (All (IsWrittenBy f.past)) (sym (two-parts ds n f e side reads))
    (All-append (IsWrittenBy f.past) (fetch_uses ds f e) (other_uses ds n f e side reads)
    (each-fetch (IsWrittenBy f.past) ds f e (λ v least most o b want. fetched-by o Instruction ds f.past b v want)
    (λ v least most o b want. fetched-by o Instruction ds f.past b v want))
    (others-written ds n f e side reads))
