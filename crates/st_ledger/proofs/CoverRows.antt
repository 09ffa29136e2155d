-- The waits of a row have no gap: the words that each stage waits for are available at its end.
use Rattle.st_ledger.proofs.Common.{zero, suc, nat_lt, nat_le, ◌||◌, if◌then◌else◌, Option, None, Some, reverse, All, list_any, ◌≡◌, ℕ, ◌+◌, ◌-◌, ◌≤◌, ◌<◌, ◌⊎◌, inl, inr, max, true, false, List, [], ◌∷◌, ◌++◌, refl, sym, ◌∙◌, ap, subst, arith, cond_both, cases_Bool, and_from, or_left, or_right, eq-eqb, ltb-true, ltb-false, lt-leb, le-leb, cases_lt, append-nil, All-nil, All-cons, All-head, All-tail, list_any-append, tick_of, answer_at, answer_if, answer_tick_on, bus_after_read, bus_after_request, latest_done, ArePastWithin, wanted_from, words_tick, address_tick, done_before, completion_of, preparation_tick, operands, tick_a, index_arrival, bus_a, tick_p, fetch_word, fetch_words, fill_at, side_there, read_word, read_words, operands_read, is_forwarded, behind, behind_use, uses, wishes, forwarded_at, Words, Bus, Entry, Fetching, IssueState, Past, latest-within, side_to_read, Instruction, Index, Operand, Supply, Read, Held, Forwarded, Register, Use, instruction_uses, fetch_uses, side_uses, register_uses, operand_uses, data_uses, fetch_supply, storage_supply, is_read, read_of, is_answered, is_answered_at, read_if}
use Rattle.st_ledger.proofs.Linked.{want_at, AreLinked}
use Rattle.st_ledger.proofs.Chains.{pour-cons, pour-append}
use Rattle.st_ledger.proofs.Covers.{AreWantedAtAnswers}

-- ---- wants of older words

unread-want : (s : Supply) → is_read s ≡ false → (read_of s).want ≡ 0
unfolding is_read read_of
unread-want (Read r) none = absurd (cc)
unread-want (Held a) none = refl
unread-want (Forwarded w) none = refl
unread-want Register none = refl

pub wants-low : (base v : ℕ) (us : List Use) → AreLinked base us → want_at us ≤ v → All (λ (u : Use). (read_of u.supply).want ≤ v) us
unfolding AreLinked want_at
wants-low base v [] linked low = All-nil (λ (u : Use). (read_of u.supply).want ≤ v)
wants-low base v (u ∷ older) linked low = elim (cases_Bool (is_read u.supply)) [
  | inl y ↦
      let here : (read_of u.supply).want ≤ v = subst (λ b. (if b then (read_of u.supply).want else want_at older) ≤ v) y low in
      All-cons (λ (u : Use). (read_of u.supply).want ≤ v) u older here (wants-low base v older linked.1 (omega (arith, here, linked.0.want y)))
  | inr m ↦
      let rest : want_at older ≤ v = subst (λ b. (if b then (read_of u.supply).want else want_at older) ≤ v) m low in
      All-cons (λ (u : Use). (read_of u.supply).want ≤ v) u older (omega (arith, unread-want u.supply m)) (wants-low base v older linked.1 rest)
]

-- ---- instruction words

record AreAnswered (from : ℕ) (s : Fetching) (us : List Use) : Type 0 where
  answers : from < s.answered → list_any (is_answered_at Instruction s.answered) us ≡ true
  wants : AreWantedAtAnswers from us
  awaited : s.awaited ≤ from

fetch-want : (ds : List ℕ) (o : Option ℕ) (s : Fetching) (from v w first : ℕ) → first ≤ from → s.awaited ≤ from
    → from < (read_of (fetch_supply o ds s.bus w (max (max first s.answered) s.awaited))).want
    → (read_of (fetch_supply o ds s.bus w (max (max first s.answered) s.awaited))).want ≡ s.answered
unfolding read_of
fetch-want ds None s from v w first early low behind = omega (arith, early, low, behind)
fetch-want ds (Some t) s from v w first early low behind = let no : ⊥ = omega (arith, behind) in absurd no

pub fetch-answered : (ds : List ℕ) (o : Option ℕ) (s : Fetching) (w want t : ℕ) → t ≡ answer_if ds s.bus w want o → is_answered t (fetch_supply o ds s.bus w want) ≡ true
unfolding is_answered
fetch-answered ds None s w want t at = eq-eqb _ _ (sym at)
fetch-answered ds (Some a) s w want t at = eq-eqb _ _ (sym at)

module _ (ds : List ℕ) (from : ℕ) (past : List Past) (writers : (w : ℕ) → latest_done past w ≤ from) where
  words-answered : (first : ℕ) (s : Fetching) (w n : ℕ) (us : List Use) → first ≤ from → AreAnswered from s us
      → AreAnswered from (fetch_words ds past s first w n) (reverse (instruction_uses ds past s first w n) ++ us)
  unfolding instruction_uses fetch_words fetch_word answer_tick_on AreWantedAtAnswers is_answered_at behind uses wishes behind_use bus_after_request
  words-answered first s w zero us early are = are
  words-answered first s w (suc n) us early are =
      let want = max (max first s.answered) s.awaited in
      let o = tick_of s.bus.held.words w in
      let next = fetch_word ds past s w first in
      let u : Use = record { role = Instruction; word = w; supply = fetch_supply o ds s.bus w want } in
      let here : AreAnswered from next (u ∷ us) = record {
        answers = λ behind. elim (cases_lt s.answered (answer_if ds s.bus w want o)) [
          | inl more ↦
              let at : max s.answered (answer_if ds s.bus w want o) ≡ answer_if ds s.bus w want o = omega (arith, more) in
              or_left _ _ (and_from _ _ refl (fetch-answered ds o s w want (max s.answered (answer_if ds s.bus w want o)) at))
          | inr less ↦
              let at : max s.answered (answer_if ds s.bus w want o) ≡ s.answered = omega (arith, less) in
              or_right _ _ (subst (λ k. list_any (is_answered_at Instruction k) us ≡ true) (sym at) (are.answers (omega (arith, behind, at))))
        ];
        wants = (
          (λ role is behind.
              let same = fetch-want ds o s from 0 w first early are.awaited behind in
              subst (λ k. list_any (is_answered_at Instruction k) us ≡ true) (sym same) (are.answers (omega (arith, same, behind)))),
          are.wants,
        );
        awaited = omega (arith, are.awaited, writers w);
      } in
      subst (AreAnswered from (fetch_words ds past next first (w + 1) n)) (sym (pour-cons u (instruction_uses ds past next first (w + 1) n) us))
      (words-answered first next (w + 1) n (u ∷ us) early here)

module _ (ds : List ℕ) (from : ℕ) (f : IssueState) (e : Entry) (writers : (w : ℕ) → latest_done f.past w ≤ from) (prepared : f.p ≤ f.c) (late : f.c ≤ from) where
  fetches-answered : AreAnswered from (words_tick ds f e) (reverse (fetch_uses ds f e) ++ [])
  unfolding fetch_uses words_tick AreWantedAtAnswers fetch_words instruction_uses
  fetches-answered =
      let start : Fetching = record { bus = f.bus; answered = 0; awaited = 0 } in
      let own = fetch_words ds f.past start (wanted_from f) e.own.first e.own.len in
      let after = max (wanted_from f) f.c in
      let one = instruction_uses ds f.past start (wanted_from f) e.own.first e.own.len in
      let two = instruction_uses ds f.past own after e.target.first e.target.len in
      let wanted : wanted_from f ≤ from = cond_both f.serial (max f.p f.c) f.p (λ w. w ≤ from) (λ y. omega (arith, prepared, late)) (λ m. omega (arith, prepared, late)) in
      let none : AreAnswered from start [] = record { answers = λ behind. let no : ⊥ = omega (arith, behind) in absurd no; wants = tt; awaited = omega arith } in
      subst (AreAnswered from (fetch_words ds f.past own after e.target.first e.target.len)) (sym (pour-append one two []))
      (words-answered ds from f.past writers after own e.target.first e.target.len (reverse one ++ []) (omega (arith, wanted, late))
      (words-answered ds from f.past writers (wanted_from f) start e.own.first e.own.len [] wanted none))

  serial_part : ℕ
  serial_part = if e.serial || f.serial then f.c else 0

  serial-low : serial_part ≤ from
  unfolding serial_part
  serial-low = cond_both (e.serial || f.serial) f.c 0 (λ c. c ≤ from) (λ y. late) (λ m. omega arith)

  address-is : tick_a ds f e ≡ max (max (max (max (words_tick ds f e).answered (words_tick ds f e).awaited) f.p) serial_part + 1) f.bus.free
  unfolding tick_a address_tick serial_part
  address-is = refl

  pub fetches-wanted : AreWantedAtAnswers from (reverse (fetch_uses ds f e))
  fetches-wanted = subst (AreWantedAtAnswers from) (append-nil (reverse (fetch_uses ds f e))) fetches-answered.wants

  -- at the tick before the address is formed, the last instruction word is answered, or the bus was
  -- not free earlier
  pub address-awaits : from < tick_a ds f e - 1
      → (list_any (is_answered_at Instruction (tick_a ds f e - 1)) (reverse (fetch_uses ds f e)) ≡ true) ⊎ (f.bus.free ≡ tick_a ds f e - 1 + 1)
  address-awaits behind =
      let a-is = address-is in
      elim (cases_lt f.bus.free (tick_a ds f e)) [
        | inl free ↦
            let same : (words_tick ds f e).answered ≡ tick_a ds f e - 1 = omega (arith, a-is, free, behind, late, prepared, fetches-answered.awaited, serial-low) in
            inl (subst (λ k. list_any (is_answered_at Instruction k) (reverse (fetch_uses ds f e)) ≡ true) same
            (subst (λ us. list_any (is_answered_at Instruction (words_tick ds f e).answered) us ≡ true) (append-nil (reverse (fetch_uses ds f e)))
            (fetches-answered.answers (omega (arith, same, behind)))))
        | inr busy ↦ inr (omega (arith, a-is, busy, behind))
      ]

-- ---- data

pub storage-want : (ds : List ℕ) (past : List Past) (b : Bus) (w p v : ℕ) → p ≤ v → (read_of (storage_supply ds past b w p)).want ≤ v
unfolding read_of
storage-want ds past b w p v low = cond_both (is_forwarded past w p) _ _ (λ s. (read_of s).want ≤ v) (λ y. omega arith) (λ m. low)

storage-there : (ds : List ℕ) (past : List Past) (b : Bus) (w p t v : ℕ) → ((w : ℕ) → latest_done past w ≤ v) → v < t → fill_at ds past b w p ≡ t
    → is_answered t (storage_supply ds past b w p) ≡ true
unfolding is_answered
storage-there ds past b w p t v writers behind at = elim (cases_Bool (is_forwarded past w p)) [
  | inl y ↦ let low : latest_done past w ≡ t = subst (λ c. answer_if ds b w p (if c then Some (latest_done past w) else None) ≡ t) y at in
      let no : ⊥ = omega (arith, low, behind, writers w) in absurd no
  | inr m ↦ let here : answer_at ds b w p ≡ t = subst (λ c. answer_if ds b w p (if c then Some (latest_done past w) else None) ≡ t) m at in
      rw m (eq-eqb _ _ here)
]

answered-read : (ds : List ℕ) (past : List Past) (b : Bus) (w p t : ℕ) → is_forwarded past w p ≡ false → answer_at ds b w p ≡ t
    → is_answered t (storage_supply ds past b w p) ≡ true
unfolding is_answered
answered-read ds past b w p t none at = rw none (eq-eqb _ _ at)

word-answered : (ds : List ℕ) (past : List Past) (s : Fetching) (w p t : ℕ) → (read_word ds past s w p).answered ≡ t
    → (s.answered ≡ t) ⊎ (is_answered t (storage_supply ds past s.bus w p) ≡ true)
unfolding read_word behind_use
word-answered ds past s w p t at = elim (cases_Bool (is_forwarded past w p)) [
  | inl y ↦
      let same : (read_if ds s w p (forwarded_at past w p)).answered ≡ s.answered = rw y refl in
      inl (sym same ∙ at)
  | inr m ↦
      let same : (read_if ds s w p (forwarded_at past w p)).answered
      ≡ max s.answered (answer_at ds s.bus w p) = rw m refl in
      elim (cases_lt s.answered (answer_at ds s.bus w p)) [
        | inl more ↦ inr (answered-read ds past s.bus w p t m (omega (arith, more, same, at)))
        | inr less ↦ inl (omega (arith, less, same, at))
      ]
]

run-answered : (ds : List ℕ) (past : List Past) (p t : ℕ) (s : Fetching) (w n : ℕ) → (read_words ds past s p w n).answered ≡ t
    → (s.answered ≡ t) ⊎ (list_any (is_answered_at Operand t) (operand_uses ds past s p w n) ≡ true)
unfolding read_words operand_uses is_answered_at behind uses wishes read_word
run-answered ds past p t s w zero at = inl at
run-answered ds past p t s w (suc n) at = elim (run-answered ds past p t (read_word ds past s w p) (w + 1) n at) [
  | inl here ↦ elim (word-answered ds past s w p t here) [
    | inl before ↦ inl before
    | inr now ↦ inr (or_left _ _ (and_from _ _ refl now))
  ]
  | inr later_on ↦ inr (or_right _ _ later_on)
]

-- an earlier entry completes no later than the last one
completion-within : (m : ℕ) (past : List Past) (j : ℕ) → ArePastWithin m past → completion_of past j ≤ m
completion-within m [] j is = omega arith
completion-within m (p ∷ past) zero is = All-head (λ (p : Past). p.c ≤ m) p past is.each
completion-within m (p ∷ past) (suc j) is = completion-within m past j (record { each = All-tail (λ (p : Past). p.c ≤ m) p past is.each })

module _ (ds : List ℕ) (n : ℕ) (from : ℕ) (f : IssueState) (e : Entry) (within : ArePastWithin f.c f.past) (late : f.c ≤ from) where
  writers : (w : ℕ) → latest_done f.past w ≤ from
  writers w = omega (arith, late, latest-within f.c f.past w within)

  prepared-is : tick_p ds n f e ≡ max (max (tick_a ds f e) (index_arrival ds f e)) (done_before n f.past) + 1
  unfolding tick_p preparation_tick
  prepared-is = refl

  sided-is : side_there ds f.past (words_tick ds f e).bus e.side (tick_a ds f e) ≡ index_arrival ds f e
  unfolding index_arrival side_there
  sided-is = refl

  side-there : (side : Option ℕ) (t : ℕ) → side_there ds f.past (words_tick ds f e).bus (side_to_read side) (tick_a ds f e) ≡ t → from < t
      → list_any (is_answered_at Index t) (side_uses ds f.past (words_tick ds f e).bus side (tick_a ds f e)) ≡ true
  unfolding side_there side_to_read side_uses is_answered_at behind uses behind_use
  side-there None t at behind = let no : ⊥ = omega (arith, at, behind) in absurd no
  side-there (Some w) t at behind = elim (cases_Bool (nat_lt w 32)) [
    | inl y ↦
        let above : nat_le 32 w ≡ false = lt-leb 32 w (ltb-true w 32 y) in
        let none : side_there ds f.past (words_tick ds f e).bus (side_to_read (Some w)) (tick_a ds f e) ≡ 0 = rw above refl in
        let no : ⊥ = omega (arith, at, none, behind) in absurd no
    | inr m ↦
        let above : nat_le 32 w ≡ true = le-leb 32 w (ltb-false w 32 m) in
        let there : side_there ds f.past (words_tick ds f e).bus (side_to_read (Some w)) (tick_a ds f e) ≡ fill_at ds f.past (words_tick ds f e).bus w (tick_a ds f e) = rw above refl in
        rw m (or_left _ _ (and_from _ _ refl (storage-there ds f.past (words_tick ds f e).bus w (tick_a ds f e) t from writers behind (sym there ∙ at))))
  ]

  -- at the tick before the row is prepared, its index-side word is answered
  pub preparation-awaits : (side : Option ℕ) → e.side ≡ side_to_read side → tick_a ds f e ≤ from → from < tick_p ds n f e - 1
      → list_any (is_answered_at Index (tick_p ds n f e - 1)) (side_uses ds f.past (words_tick ds f e).bus side (tick_a ds f e)) ≡ true
  preparation-awaits side is after behind =
      let y-is : index_arrival ds f e ≡ tick_p ds n f e - 1 = omega (arith, prepared-is, completion-within f.c f.past (n - 1) within, late, after, behind) in
      side-there side (tick_p ds n f e - 1) (ap (λ s. side_there ds f.past (words_tick ds f e).bus s (tick_a ds f e)) (sym is) ∙ sided-is ∙ y-is) behind

  operands-are : (read_words ds f.past (read_words ds f.past (record { bus = bus_a ds f e; answered = tick_p ds n f e; awaited = 0 }) (tick_p ds n f e) e.reads.one.first e.reads.one.len)
      (tick_p ds n f e) e.reads.two.first e.reads.two.len).answered ≡ (operands ds n f e).answered
  unfolding operands operands_read read_words
  operands-are = refl

  data-parts : (t : ℕ) (reads : Words)
      → list_any (is_answered_at Operand t)
      ((register_uses reads.first (reads.len - e.reads.one.len)
      ++ operand_uses ds f.past (record { bus = bus_a ds f e; answered = tick_p ds n f e; awaited = 0 }) (tick_p ds n f e) e.reads.one.first e.reads.one.len)
      ++ (register_uses reads.first2 (reads.len2 - e.reads.two.len)
      ++ operand_uses ds f.past (read_words ds f.past (record { bus = bus_a ds f e; answered = tick_p ds n f e; awaited = 0 }) (tick_p ds n f e) e.reads.one.first e.reads.one.len)
      (tick_p ds n f e) e.reads.two.first e.reads.two.len)) ≡ true
      → list_any (is_answered_at Operand t) (data_uses ds f.past (bus_a ds f e) (tick_p ds n f e) reads e.reads) ≡ true
  unfolding data_uses
  data-parts t reads some = some

  -- at the tick at which the operands are available, one of them is answered
  pub operands-await : (reads : Words) → tick_p ds n f e ≤ from → from < (operands ds n f e).answered
      → list_any (is_answered_at Operand (operands ds n f e).answered) (data_uses ds f.past (bus_a ds f e) (tick_p ds n f e) reads e.reads) ≡ true
  operands-await reads after behind =
      let p = tick_p ds n f e in
      let begun : Fetching = record { bus = bus_a ds f e; answered = p; awaited = 0 } in
      let one = read_words ds f.past begun p e.reads.one.first e.reads.one.len in
      let two = read_words ds f.past one p e.reads.two.first e.reads.two.len in
      let xs = register_uses reads.first (reads.len - e.reads.one.len) in
      let ys = operand_uses ds f.past begun p e.reads.one.first e.reads.one.len in
      let zs = register_uses reads.first2 (reads.len2 - e.reads.two.len) in
      let ws = operand_uses ds f.past one p e.reads.two.first e.reads.two.len in
      let q = is_answered_at Operand (operands ds n f e).answered in
      data-parts (operands ds n f e).answered reads (elim (run-answered ds f.past p (operands ds n f e).answered one e.reads.two.first e.reads.two.len (operands-are)) [
        | inl first ↦ elim (run-answered ds f.past p (operands ds n f e).answered begun e.reads.one.first e.reads.one.len first) [
          | inl none ↦ let no : ⊥ = omega (arith, none, after, behind) in absurd no
          | inr some ↦
              list_any-append q (xs ++ ys) (zs ++ ws) ∙ or_left _ _ (list_any-append q xs ys ∙ or_right _ _ some)
        ]
        | inr some ↦ list_any-append q (xs ++ ys) (zs ++ ws) ∙ or_right _ _ (list_any-append q zs ws ∙ or_right _ _ some)
      ])
