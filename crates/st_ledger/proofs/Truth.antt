-- Each wait of a row is true at each of its ticks.
use Rattle.st_ledger.proofs.Common.{zero, suc, Bool, Option, reverse, All, take, drop, list_any, ◌≡◌, ℕ, ◌+◌, ◌-◌, ◌≤◌, true, false, List, [], ◌∷◌, ◌++◌, refl, sym, ◌∙◌, ap, subst, append_assoc, arith, cond_both, and_parts, or_left, or_right, reverse-append, take-append-drop, All-head, All-tail, All-append, All-take, All-drop, list_any-append, LastAnswers, tick_of, Words, tick_a, tick_p, is_forwarded, IsEntryInTime, Bus, Past, Entry, IssueState, Role, Instruction, Index, Operand, Following, Supply, Register, Use, fetch_uses, uses_of_entry, fetch_supply, storage_supply, is_read, is_instruction, is_role, is_answered, is_answered_at, data_waits, fetch_waits, IsTrueOf, AreBrought, Told, IsTold, issue_of, uses_behind, last_uses, all_uses}
use Rattle.std.specs.Prelude.{length}
use Rattle.std.proofs.Math.Seq.{take-append-add}
use Rattle.st_ledger.proofs.Linked.{turn_at, AreLinked}
use Rattle.st_ledger.proofs.SegmentLemmas.{linked-drop, brought-drop, linked-cut, others-on-their-way, words-on-their-way, segment-behind, issue-order, deep-free}
use Rattle.st_ledger.proofs.WaitLemmas.{AreAmong, AreOnTheirWay, data-true, fetch-true}
use Rattle.st_ledger.proofs.EachUse.{other_uses, two-parts, each-fetch, each-other, fetch-length}
use Rattle.st_ledger.proofs.WordLemmas.{all-reversed}

pub others-no-words : (ds : List ℕ) (n : ℕ) (f : IssueState) (e : Entry) (side : Option ℕ) (reads : Words)
    → All (λ (u : Use). is_instruction u.role ≡ false) (other_uses ds n f e side reads)
unfolding other_uses
others-no-words ds n f e side reads =
    each-other (λ (u : Use). is_instruction u.role ≡ false) ds n f e (λ w. refl) (λ b w. refl) (λ b w. refl) (λ w. refl) (λ b w. refl) side reads

pub fetches-are-words : (ds : List ℕ) (f : IssueState) (e : Entry) → All (λ (u : Use). is_instruction u.role ≡ true) (fetch_uses ds f e)
fetches-are-words ds f e =
    each-fetch (λ (u : Use). is_instruction u.role ≡ true) ds f e (λ v least most o b want. refl) (λ v least most o b want. refl)

pub fetches-are-above : (ds : List ℕ) (f : IssueState) (e : Entry) → IsEntryInTime e → All (λ (u : Use). 32 ≤ u.word) (fetch_uses ds f e)
fetches-are-above ds f e is =
    each-fetch (λ (u : Use). 32 ≤ u.word) ds f e
    (λ v least most o b want. omega (arith, least, most, is.own.above (omega (arith, least, most))))
    (λ v least most o b want. omega (arith, least, most, is.target.above (omega (arith, least, most))))

pub first-four : (ds : List ℕ) (n : ℕ) (f : IssueState) (e : Entry) (side : Option ℕ) (reads : Words) → IsEntryInTime e
    → take 4 (uses_of_entry ds n f e side reads)
    ≡ fetch_uses ds f e ++ take (4 - (e.own.len + e.target.len)) (other_uses ds n f e side reads)
first-four ds n f e side reads is =
    let few : 4 ≡ length (fetch_uses ds f e) + (4 - (e.own.len + e.target.len)) = omega (arith, fetch-length ds f e, is.own_few, is.target_few) in
    ap (λ us. take 4 us) (two-parts ds n f e side reads)
    ∙ ap (λ k. take k (fetch_uses ds f e ++ other_uses ds n f e side reads)) few
    ∙ take-append-add (fetch_uses ds f e) (other_uses ds n f e side reads) (4 - (e.own.len + e.target.len))

drop-behind : {A : Type 0} (xs ys : List A) (k : ℕ) → length xs ≤ k → drop k (xs ++ ys) ≡ drop (k - length xs) ys
drop-behind [] ys k low = let e : k - 0 ≡ k = omega arith in rw e refl
drop-behind (x ∷ xs) ys zero low = let no : ⊥ = omega (arith, low) in absurd no
drop-behind (x ∷ xs) ys (suc k) low =
    let e : suc k - suc (length xs) ≡ k - length xs = omega arith in
    drop-behind xs ys k (omega (arith, low)) ∙ ap (λ m. drop m ys) (sym e)

pub others-after-four : (ds : List ℕ) (n : ℕ) (f : IssueState) (e : Entry) (side : Option ℕ) (reads : Words) → IsEntryInTime e
    → All (λ (u : Use). is_instruction u.role ≡ false) (drop 4 (uses_of_entry ds n f e side reads))
others-after-four ds n f e side reads is =
    subst (All (λ (u : Use). is_instruction u.role ≡ false))
    (sym (ap (λ us. drop 4 us) (two-parts ds n f e side reads)
    ∙ drop-behind (fetch_uses ds f e) (other_uses ds n f e side reads) 4 (omega (arith, fetch-length ds f e, is.own_few, is.target_few))))
    (All-drop (λ (u : Use). is_instruction u.role ≡ false) (4 - length (fetch_uses ds f e)) (other_uses ds n f e side reads) (others-no-words ds n f e side reads))

-- ---- a word of data that is answered is read

storage-answered : (ds : List ℕ) (past : List Past) (b : Bus) (w a t : ℕ) → is_answered t (storage_supply ds past b w a) ≡ true
    → is_read (storage_supply ds past b w a) ≡ true
unfolding is_answered is_read
storage-answered ds past b w a t = cond_both (is_forwarded past w a) _ _ (λ s. is_answered t s ≡ true → is_read s ≡ true)
    (λ y is. absurd (cc)) (λ m is. refl)

register-answered : (t : ℕ) → is_answered t Register ≡ false
unfolding is_answered
register-answered t = refl

module _ (role : Role) (t : ℕ) (not_word : (s : Supply) (w : ℕ) → is_answered_at role t (record { role = Instruction; word = w; supply = s }) ≡ false)
    (not_next : (s : Supply) (w : ℕ) → is_answered_at role t (record { role = Following; word = w; supply = s }) ≡ false) where
  IsReadData : Use → Type 0
  IsReadData u = is_answered_at role t u ≡ true → is_read u.supply ≡ true

  storage-data : (ds : List ℕ) (past : List Past) (b : Bus) (r : Role) (w a : ℕ) → IsReadData (record { role = r; word = w; supply = storage_supply ds past b w a })
  unfolding IsReadData is_answered_at
  storage-data ds past b r w a is = storage-answered ds past b w a t (and_parts _ (is_answered t (storage_supply ds past b w a)) is).1

  pub data-is-read : (ds : List ℕ) (n : ℕ) (f : IssueState) (e : Entry) (side : Option ℕ) (reads : Words)
      → All (λ (u : Use). is_answered_at role t u ≡ true → is_read u.supply ≡ true) (uses_of_entry ds n f e side reads)
  unfolding IsReadData other_uses is_answered_at
  data-is-read ds n f e side reads =
      subst (All (λ (u : Use). is_answered_at role t u ≡ true → is_read u.supply ≡ true)) (sym (two-parts ds n f e side reads))
      (All-append (λ (u : Use). is_answered_at role t u ≡ true → is_read u.supply ≡ true) (fetch_uses ds f e) (other_uses ds n f e side reads)
      (each-fetch (λ (u : Use). is_answered_at role t u ≡ true → is_read u.supply ≡ true) ds f e
      (λ v least most o b want is. let no = not_word (fetch_supply o ds b v want) v in absurd (cc))
      (λ v least most o b want is. let no = not_word (fetch_supply o ds b v want) v in absurd (cc)))
      (each-other (λ (u : Use). is_answered_at role t u ≡ true → is_read u.supply ≡ true) ds n f e
      (λ w is. let no = register-answered t in let both = (and_parts (is_role role Operand) (is_answered t Register) is).1 in absurd (cc))
      (λ b w. storage-data ds f.past b Operand w (tick_p ds n f e))
      (λ b w is. let no = not_next (fetch_supply (tick_of b.held.words w) ds b w (tick_p ds n f e)) w in absurd (cc))
      (λ w is. let no = register-answered t in let both = (and_parts (is_role role Index) (is_answered t Register) is).1 in absurd (cc))
      (λ b w. storage-data ds f.past b Index w (tick_a ds f e)) side reads))

pub index-is-read : (t : ℕ) (ds : List ℕ) (n : ℕ) (f : IssueState) (e : Entry) (side : Option ℕ) (reads : Words)
    → All (λ (u : Use). is_answered_at Index t u ≡ true → is_read u.supply ≡ true) (uses_of_entry ds n f e side reads)
unfolding is_answered_at
index-is-read t ds n f e side reads = data-is-read Index t (λ s w. refl) (λ s w. refl) ds n f e side reads

pub operand-is-read : (t : ℕ) (ds : List ℕ) (n : ℕ) (f : IssueState) (e : Entry) (side : Option ℕ) (reads : Words)
    → All (λ (u : Use). is_answered_at Operand t u ≡ true → is_read u.supply ≡ true) (uses_of_entry ds n f e side reads)
unfolding is_answered_at
operand-is-read t ds n f e side reads = data-is-read Operand t (λ s w. refl) (λ s w. refl) ds n f e side reads

-- ---- the segment

module _ (ds : List ℕ) (n : ℕ) (banks : LastAnswers) (start : ℕ) where
  -- the words of the rows before the last one
  unfoldable pub deep_uses : List Told → List Use
  deep_uses [] = []
  deep_uses (x ∷ older) = all_uses ds n banks start older

  pub deep-is : (older : List Told) → all_uses ds n banks start older ≡ reverse (last_uses ds n banks start older) ++ deep_uses older
  unfolding all_uses last_uses deep_uses
  deep-is [] = refl
  deep-is (x ∷ older) = refl

  pub deep-early : (older : List Told) → All IsTold older → turn_at start (deep_uses older) ≤ (issue_of ds n banks start older).p
  unfolding deep_uses turn_at
  deep-early [] all = (issue-order ds n banks start []).0
  deep-early (x ∷ older) all =
      omega (arith, (segment-behind ds n banks start older (All-tail IsTold x older all)).turn, deep-free ds n banks start x older)

  module _ (older : List Told) (x : Told) (all : All IsTold (x ∷ older)) where
    abbrev f : IssueState
    f = issue_of ds n banks start older

    abbrev uses : List Use
    uses = uses_behind ds n banks start older x

    abbrev before : List Use
    before = last_uses ds n banks start older

    abbrev us : List Use
    us = all_uses ds n banks start (x ∷ older)

    us-is : us ≡ reverse uses ++ (reverse before ++ deep_uses older)
    unfolding all_uses
    us-is = ap (λ xs. reverse (uses_behind ds n banks start older x) ++ xs) (deep-is older)

    linked-all : AreLinked start (reverse uses ++ (reverse before ++ deep_uses older))
    linked-all = subst (AreLinked start) us-is (segment-behind ds n banks start (x ∷ older) all).linked

    brought-all : AreBrought (reverse uses ++ (reverse before ++ deep_uses older))
    brought-all = subst AreBrought us-is (segment-behind ds n banks start (x ∷ older) all).brought

    pub two-linked : AreLinked (turn_at start (deep_uses older)) (reverse uses ++ reverse before)
    two-linked = linked-cut start (reverse uses ++ reverse before) (deep_uses older)
        (subst (AreLinked start) (sym (append_assoc (reverse uses) (reverse before) (deep_uses older))) linked-all)

    two-among : (p : Use → Bool) → list_any p (reverse uses ++ reverse before) ≡ true → list_any p us ≡ true
    two-among p h =
        ap (list_any p) us-is ∙ ap (list_any p) (sym (append_assoc (reverse uses) (reverse before) (deep_uses older)))
        ∙ list_any-append p (reverse uses ++ reverse before) (deep_uses older) ∙ or_left _ _ h

    deep-among : (p : Use → Bool) → list_any p (deep_uses older) ≡ true → list_any p us ≡ true
    deep-among p h =
        ap (list_any p) us-is ∙ ap (list_any p) (sym (append_assoc (reverse uses) (reverse before) (deep_uses older)))
        ∙ list_any-append p (reverse uses ++ reverse before) (deep_uses older) ∙ or_right _ _ h

    module _ (from : ℕ) (late : f.c ≤ from) where
      pub base-early : turn_at start (deep_uses older) ≤ from
      base-early = omega (arith, late, deep-early older (All-tail IsTold x older all), (issue-order ds n banks start older).1)

      pub data-wait-true : (role : Role) (t : ℕ) → All (λ (u : Use). is_answered_at role t u ≡ true → is_read u.supply ≡ true) uses
          → All (IsTrueOf us) (data_waits role from t (reverse before) (reverse uses))
      unfolding AreAmong
      data-wait-true role t read =
          data-true us (turn_at start (deep_uses older)) from base-early role t (reverse before) (reverse uses) two-linked two-among
          (all-reversed (λ (u : Use). is_answered_at role t u ≡ true → is_read u.supply ≡ true) uses read)

      abbrev words : List Use
      words = fetch_uses ds f x.entry

      abbrev few : List Use
      few = take (4 - (x.entry.own.len + x.entry.target.len)) (other_uses ds n f x.entry x.side x.reads)

      pub four-is : take 4 uses ≡ words ++ few
      unfolding uses_behind
      four-is = first-four ds n (issue_of ds n banks start older) x.entry x.side x.reads (All-head IsTold x older all).entry

      uses-split : reverse uses ≡ reverse (drop 4 uses) ++ reverse (take 4 uses)
      uses-split = ap reverse (sym (take-append-drop 4 uses)) ∙ reverse-append (take 4 uses) (drop 4 uses)

      four-linked : AreLinked (turn_at start (deep_uses older)) (reverse (take 4 uses) ++ reverse before)
      four-linked = linked-drop (turn_at start (deep_uses older)) (reverse (drop 4 uses)) (reverse (take 4 uses) ++ reverse before)
          (subst (AreLinked (turn_at start (deep_uses older)))
          (ap (λ xs. xs ++ reverse before) uses-split ∙ append_assoc (reverse (drop 4 uses)) (reverse (take 4 uses)) (reverse before)) two-linked)

      four-among : (p : Use → Bool) → list_any p (reverse (take 4 uses) ++ reverse before) ≡ true → list_any p us ≡ true
      four-among p h = two-among p
          (ap (list_any p) (ap (λ xs. xs ++ reverse before) uses-split ∙ append_assoc (reverse (drop 4 uses)) (reverse (take 4 uses)) (reverse before))
          ∙ list_any-append p (reverse (drop 4 uses)) (reverse (take 4 uses) ++ reverse before) ∙ or_right _ _ h)

      before-among : (p : Use → Bool) → list_any p (reverse before) ≡ true → list_any p us ≡ true
      before-among p h = two-among p (list_any-append p (reverse uses) (reverse before) ∙ or_right _ _ h)

      words-brought : AreBrought (reverse words ++ (reverse before ++ deep_uses older))
      words-brought =
          brought-drop (reverse few) (reverse words ++ (reverse before ++ deep_uses older))
          (brought-drop (reverse (drop 4 uses)) (reverse few ++ (reverse words ++ (reverse before ++ deep_uses older)))
          (subst AreBrought
          (ap (λ xs. xs ++ (reverse before ++ deep_uses older)) (uses-split ∙ ap (λ xs. reverse (drop 4 uses) ++ xs) (ap reverse four-is ∙ reverse-append words few))
          ∙ append_assoc (reverse (drop 4 uses)) (reverse few ++ reverse words) (reverse before ++ deep_uses older)
          ∙ ap (λ xs. reverse (drop 4 uses) ++ xs) (append_assoc (reverse few) (reverse words) (reverse before ++ deep_uses older))) brought-all))

      on-their-way : AreOnTheirWay us from (reverse before) (reverse (take 4 uses))
      on-their-way =
          subst (AreOnTheirWay us from (reverse before)) (sym (ap reverse four-is ∙ reverse-append words few))
          (others-on-their-way us from (reverse before) (reverse few) (reverse words)
          (all-reversed (λ (u : Use). is_instruction u.role ≡ false) few
          (All-take (λ (u : Use). is_instruction u.role ≡ false) _ (other_uses ds n f x.entry x.side x.reads) (others-no-words ds n f x.entry x.side x.reads)))
          (words-on-their-way us start from (reverse before) (deep_uses older) (reverse words)
          (linked-drop start (reverse before) (deep_uses older) (linked-drop start (reverse uses) (reverse before ++ deep_uses older) linked-all)) base-early deep-among
          (all-reversed (λ (u : Use). is_instruction u.role ≡ true) words (fetches-are-words ds f x.entry))
          (all-reversed (λ (u : Use). 32 ≤ u.word) words (fetches-are-above ds f x.entry (All-head IsTold x older all).entry)) words-brought))

      pub fetch-wait-true : (t : ℕ) → All (IsTrueOf us) (fetch_waits from t (reverse before) (reverse (take 4 uses)))
      unfolding AreAmong
      fetch-wait-true t =
          fetch-true us (turn_at start (deep_uses older)) from base-early t (reverse before) (reverse (take 4 uses))
          (linked-drop (turn_at start (deep_uses older)) (reverse uses) (reverse before) two-linked) before-among four-linked four-among on-their-way
