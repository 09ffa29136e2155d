-- An index-side word waits for no turn.
use Rattle.st_ledger.proofs.Common.{nat_lt, Option, None, Some, reverse, All, ◌≡◌, ℕ, ◌+◌, ◌≤◌, ◌<◌, max, false, List, [], ◌∷◌, ◌++◌, refl, sym, ◌∙◌, ap, subst, append_assoc, arith, cond_both, and_left, reverse-append, All-head, All-tail, LastAnswers, Words, AreDelaysUpTo, IsTight, opening_issue, row_of_entry, words_tick, tick_a, Bus, Entry, IssueState, Past, charges, stage_at, Charge, fetch_uses, side_uses, prepared_uses, uses_of_entry, stage_waits, charge_waits, Told, IsTold, issue_of, uses_behind, last_uses, all_uses, Role, Index, Use, stalled_for, is_stall, wait_piece, acceptance_of, turns, read_waits, data_waits, read_of, is_role, is_answered, is_answered_at, decides, Stall, Turn, Bank, Storage, Wait, uses}
use Rattle.st_rows.proofs.Tight.{free-a, tight-after}
use Rattle.st_ledger.specs.declared.charges.Stage.TheVariants.{Index as AtIndex}
use Rattle.st_ledger.proofs.ChargeSums.{charges-stages}
use Rattle.st_ledger.proofs.Chains.{fetch-behind}
use Rattle.st_ledger.proofs.ChargeEnds.{end_of, row-ends, index-after, both}
use Rattle.st_ledger.proofs.EachUse.{each-fetch, each-prepared}
use Rattle.st_ledger.proofs.SegmentLemmas.{linked-cut, turn-cut, segment-behind}
use Rattle.st_ledger.proofs.Truth.{deep_uses, deep-is}
use Rattle.st_ledger.proofs.Linked.{turn_at, AreLinked}
use Rattle.st_ledger.proofs.Turns.{turns-none}
use Rattle.st_ledger.proofs.WordLemmas.{all-reversed}

no-turns-append : (xs ys : List Wait) → stalled_for Turn xs ≡ 0 → stalled_for Turn ys ≡ 0 → stalled_for Turn (xs ++ ys) ≡ 0
unfolding stalled_for
no-turns-append [] ys a b = b
no-turns-append (x ∷ xs) ys a b =
    let rest : stalled_for Turn xs ≡ 0 = omega (arith, a) in
    omega (arith, a, no-turns-append xs ys rest b)

piece-no-turn : (from to w v : ℕ) (why : Stall) → is_stall Turn why ≡ false → stalled_for Turn (wait_piece from to why w v) ≡ 0
unfolding wait_piece stalled_for
piece-no-turn from to w v why other = cond_both (nat_lt from to) _ _ (λ xs. stalled_for Turn xs ≡ 0) (λ y. rw other refl) (λ m. refl)

-- a read has no turns to wait for if the bus is free when it is wanted
read-no-turn : (base from t : ℕ) (u : Use) (older : List Use) → AreLinked base older → turn_at base older ≤ max from (read_of u.supply).want
    → stalled_for Turn (read_waits from t u older) ≡ 0
unfolding read_waits
read-no-turn base from t u older linked early =
    no-turns-append (wait_piece (max from (read_of u.supply).accept) t Storage u.word u.word) (turns (max from (read_of u.supply).want) u.word (acceptance_of u) older)
    (piece-no-turn (max from (read_of u.supply).accept) t u.word u.word Storage refl)
    (rw (turns-none base (max from (read_of u.supply).want) u.word (acceptance_of u) older linked early)
    (piece-no-turn (max from (read_of u.supply).want) (acceptance_of u).tick u.word (acceptance_of u).word Bank refl))

-- words of another role are skipped
pub data-passed : (role : Role) (from t : ℕ) (before xs ys : List Use) → All (λ (u : Use). is_role role u.role ≡ false) xs
    → data_waits role from t before (xs ++ ys) ≡ data_waits role from t before ys
unfolding data_waits is_answered_at
data-passed role from t before [] ys all = refl
data-passed role from t before (x ∷ xs) ys all =
    let other : decides role t x (xs ++ ys) ≡ false =
    and_left _ _ (and_left (is_role role x.role) (is_answered t x.supply) (All-head (λ (u : Use). is_role role u.role ≡ false) x xs all)) in
    rw other (data-passed role from t before xs ys (All-tail (λ (u : Use). is_role role u.role ≡ false) x xs all))

pub data-none : (role : Role) (from t : ℕ) (before xs : List Use) → All (λ (u : Use). is_role role u.role ≡ false) xs → data_waits role from t before xs ≡ []
unfolding data_waits is_answered_at
data-none role from t before [] all = refl
data-none role from t before (x ∷ xs) all =
    let other : decides role t x xs ≡ false =
    and_left _ _ (and_left (is_role role x.role) (is_answered t x.supply) (All-head (λ (u : Use). is_role role u.role ≡ false) x xs all)) in
    rw other (data-none role from t before xs (All-tail (λ (u : Use). is_role role u.role ≡ false) x xs all))

-- a single index-side word has no turns to wait for if the bus is free when it is wanted
pub index-no-turn : (base from t : ℕ) (before fetches : List Use) (u : Use) → All (λ (u : Use). is_role Index u.role ≡ false) fetches
    → AreLinked base (fetches ++ before) → turn_at base (fetches ++ before) ≤ from
    → stalled_for Turn (data_waits Index from t before (u ∷ fetches)) ≡ 0
unfolding data_waits stalled_for
index-no-turn base from t before fetches u all linked early =
    cond_both (decides Index t u fetches) _ _ (λ xs. stalled_for Turn xs ≡ 0)
    (λ due. read-no-turn base from t u (fetches ++ before) linked (omega (arith, early)))
    (λ not_due. rw (data-none Index from t before fetches all) refl)

-- ---- the segment

roles-fetch : (ds : List ℕ) (f : IssueState) (e : Entry) → All (λ (u : Use). is_role Index u.role ≡ false) (fetch_uses ds f e)
roles-fetch ds f e = each-fetch (λ (u : Use). is_role Index u.role ≡ false) ds f e (λ v a b o c d. refl) (λ v a b o c d. refl)

roles-prepared : (ds : List ℕ) (n : ℕ) (f : IssueState) (e : Entry) (reads : Words) → All (λ (u : Use). is_role Index u.role ≡ false) (prepared_uses ds n f e reads)
roles-prepared ds n f e reads = each-prepared (λ (u : Use). is_role Index u.role ≡ false) ds n f e (λ w. refl) (λ b w. refl) (λ b w. refl) reads

side-one : (ds : List ℕ) (past : List Past) (b : Bus) (side : Option ℕ) (a base from t : ℕ) (before fetches : List Use) → All (λ (u : Use). is_role Index u.role ≡ false) fetches
    → AreLinked base (fetches ++ before) → turn_at base (fetches ++ before) ≤ from
    → stalled_for Turn (data_waits Index from t before (reverse (side_uses ds past b side a) ++ fetches)) ≡ 0
unfolding side_uses stalled_for uses
side-one ds past b None a base from t before fetches all linked early = rw (data-none Index from t before fetches all) refl
side-one ds past b (Some w) a base from t before fetches all linked early = index-no-turn base from t before fetches _ all linked early

module _ (most : ℕ) (ds : List ℕ) (are : AreDelaysUpTo most ds) (n : ℕ) (banks : LastAnswers) (start : ℕ) (opening : IsTight most (opening_issue banks start)) where
  segment-tight : (older : List Told) → All IsTold older → IsTight most (issue_of ds n banks start older)
  unfolding issue_of
  segment-tight [] all = opening
  segment-tight (x ∷ older) all =
      tight-after most ds are n (issue_of ds n banks start older) x.entry (All-head IsTold x older all).entry (segment-tight older (All-tail IsTold x older all))

  module _ (older : List Told) (x : Told) (all : All IsTold (x ∷ older)) (from t : ℕ) where
    no-turn-from : tick_a ds (issue_of ds n banks start older) x.entry ≤ from
        → stalled_for Turn (data_waits Index from t (reverse (last_uses ds n banks start older)) (reverse (uses_behind ds n banks start older x))) ≡ 0
    unfolding uses_behind uses_of_entry
    no-turn-from after =
        let f = issue_of ds n banks start older in
        let e = x.entry in
        let before = last_uses ds n banks start older in
        let deep = deep_uses ds n banks start older in
        let base = turn_at start deep in
        let fetches = fetch_uses ds f e in
        let side = side_uses ds f.past (words_tick ds f e).bus x.side (tick_a ds f e) in
        let tail = All-tail IsTold x older all in
        let is = fetch-behind start ds n f e (all_uses ds n banks start older) (segment-behind ds n banks start older tail) in
        let parts : reverse fetches ++ all_uses ds n banks start older ≡ (reverse fetches ++ reverse before) ++ deep =
        ap (λ us. reverse fetches ++ us) (deep-is ds n banks start older) ∙ sym (append_assoc (reverse fetches) (reverse before) deep) in
        let linked = linked-cut start (reverse fetches ++ reverse before) deep (subst (AreLinked start) parts is.linked) in
        let free : turn_at base (reverse fetches ++ reverse before) ≡ (words_tick ds f e).bus.free =
        turn-cut start (reverse fetches ++ reverse before) deep ∙ ap (turn_at start) (sym parts) ∙ is.turn in
        let early : turn_at base (reverse fetches ++ reverse before) ≤ from =
        omega (arith, free, free-a most ds are n f e (All-head IsTold x older all).entry (segment-tight older tail), after) in
        let whole : reverse ((fetches ++ side) ++ prepared_uses ds n f e x.reads) ≡ reverse (prepared_uses ds n f e x.reads) ++ (reverse side ++ reverse fetches) =
        reverse-append (fetches ++ side) (prepared_uses ds n f e x.reads) ∙ ap (λ us. reverse (prepared_uses ds n f e x.reads) ++ us) (reverse-append fetches side) in
        ap (λ us. stalled_for Turn (data_waits Index from t (reverse before) us)) whole
        ∙ ap (stalled_for Turn) (data-passed Index from t (reverse before) (reverse (prepared_uses ds n f e x.reads)) (reverse side ++ reverse fetches)
        (all-reversed (λ (u : Use). is_role Index u.role ≡ false) (prepared_uses ds n f e x.reads) (roles-prepared ds n f e x.reads)))
        ∙ side-one ds f.past (words_tick ds f e).bus x.side (tick_a ds f e) base from t (reverse before) (reverse fetches)
        (all-reversed (λ (u : Use). is_role Index u.role ≡ false) fetches (roles-fetch ds f e)) linked early

-- a charge of the stage begins at the tick of the address or later
charge-no-turn : (most : ℕ) (ds : List ℕ) (are : AreDelaysUpTo most ds) (n : ℕ) (banks : LastAnswers) (start : ℕ) (opening : IsTight most (opening_issue banks start))
    (older : List Told) (x : Told) (all : All IsTold (x ∷ older)) (c : Charge) → tick_a ds (issue_of ds n banks start older) x.entry ≤ c.from → c.stage ≡ AtIndex
    → stalled_for Turn (charge_waits c (uses_behind ds n banks start older x) (last_uses ds n banks start older)) ≡ 0
unfolding stage_waits
charge-no-turn most ds are n banks start opening older x all c after is =
    ap (λ s. stalled_for Turn (stage_waits s c.from c.to (uses_behind ds n banks start older x) (last_uses ds n banks start older))) is
    ∙ no-turn-from most ds are n banks start opening older x all c.from c.to after

pub no-turns : (most : ℕ) (ds : List ℕ) (n t : ℕ) (banks : LastAnswers) (start : ℕ) (older : List Told) (x : Told) → AreDelaysUpTo most ds
    → IsTight most (opening_issue banks start) → All IsTold (x ∷ older)
    → All (λ (c : Charge). c.stage ≡ AtIndex → stalled_for Turn (charge_waits c (uses_behind ds n banks start older x) (last_uses ds n banks start older)) ≡ 0)
    (charges t (issue_of ds n banks start older) (row_of_entry ds n (issue_of ds n banks start older) x.entry))
unfolding row_of_entry
no-turns most ds n t banks start older x are opening all =
    let f = issue_of ds n banks start older in
    let row = row_of_entry ds n f x.entry in
    both (λ (c : Charge). (c.from < c.to) × (c.to ≡ end_of f.c row c.stage)) (λ (c : Charge). (u : ℕ) → c.from < u → u ≤ c.to → stage_at f.c row u ≡ c.stage)
    (λ (c : Charge). c.stage ≡ AtIndex → stalled_for Turn (charge_waits c (uses_behind ds n banks start older x) (last_uses ds n banks start older)) ≡ 0)
    (λ c ends at is. charge-no-turn most ds are n banks start opening older x all c
    (omega (arith, index-after f.c row (c.from + 1) (at (c.from + 1) (omega arith) (omega (arith, ends.0)) ∙ is))) is)
    (charges t f row) (row-ends t f.c row) (charges-stages t f.c row)
