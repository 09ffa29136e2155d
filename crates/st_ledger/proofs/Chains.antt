-- The words of an entry are linked to those of the entries before it, read by read.
use Rattle.st_ledger.proofs.Common.{zero, suc, Bool, nat_lt, nat_le, nat_eq, if◌then◌else◌, Option, None, Some, reverse, take, list_any, ◌≡◌, ℕ, ◌+◌, ◌-◌, ◌≤◌, inl, inr, max, true, false, List, [], ◌∷◌, ◌++◌, refl, sym, ◌∙◌, ap, subst, append_assoc, arith, cond_both, cases_Bool, and_from, eq-eqb, eqb-true, or_left, or_right, ltb-true, ltb-false, le-leb, lt-leb, reverse-append, words_of_storage, tick_of, asked_for, answer_at, bus_after_read, bus_after_request, requested_if, answer_if, answer_tick_on, wanted_from, words_tick, tick_a, address_tick, bus_a, tick_p, operands, issue_after_entry, fetch_word, fetch_words, bus_after_index_read, read_word, read_words, request_inside, operands_read, bus_after_prefetch, is_forwarded, behind, behind_use, uses, wishes, forwarded_at, Bus, Fetching, Past, latest_done, side_to_read, instruction_uses, fetch_uses, side_uses, register_uses, operand_uses, data_uses, inside_uses, following_uses, formed_uses, prepared_uses, uses_of_entry, read_ticks, fetch_supply, storage_supply, writer_back, Words, Entry, IssueState, Role, Instruction, Index, Operand, Following, Supply, Read, Held, Forwarded, Register, Use, is_read, read_of, AreBrought, brings, is_held_until, side_if, followed-is, inside-told, following-told}
use Rattle.st_fetch.specs.declared.fetched.AskedWord.{AskedWord}
use Rattle.st_rows.proofs.Parts.{a-p}
use Rattle.st_ledger.proofs.Linked.{turn_at, want_at, ComesBehind, AreLinked}

-- ---- words that are put in front of older ones in reverse order

pub pour-cons : (x : Use) (xs older : List Use) → reverse (x ∷ xs) ++ older ≡ reverse xs ++ (x ∷ older)
pour-cons x xs older = ap (λ ys. ys ++ older) (reverse-append (x ∷ []) xs) ∙ append_assoc (reverse xs) (x ∷ []) older

pub pour-append : (xs ys older : List Use) → reverse (xs ++ ys) ++ older ≡ reverse ys ++ (reverse xs ++ older)
pour-append xs ys older = ap (λ zs. zs ++ older) (reverse-append xs ys) ∙ append_assoc (reverse ys) (reverse xs) older

-- ---- the invariant of the words so far: the bus is b after them, and the next read is wanted at
-- tick v or later

pub record AreBehind (base : ℕ) (b : Bus) (v : ℕ) (us : List Use) : Type 0 where
  pub linked : AreLinked base us
  pub turn : turn_at base us ≡ b.free
  pub want : want_at us ≤ v
  pub brought : AreBrought us
  pub held : (w t : ℕ) → 32 ≤ w → tick_of b.held.words w ≡ Some t → list_any (brings w t) us ≡ true

wanted-late : (f : IssueState) → f.p ≤ wanted_from f
wanted-late f = cond_both f.serial (max f.p f.c) f.p (λ w. f.p ≤ w) (λ y. omega arith) (λ m. omega arith)

module _ (base : ℕ) where
  -- the invariant for a tick v holds for a later tick
  pub later : (b : Bus) (v w : ℕ) (us : List Use) → v ≤ w → AreBehind base b v us → AreBehind base b w us
  later b v w us late are = record { linked = are.linked; turn = are.turn; want = omega (arith, late, are.want); brought = are.brought; held = are.held }

  -- the invariant after a word that is not read
  pub passed : (b : Bus) (v : ℕ) (u : Use) (us : List Use) → is_read u.supply ≡ false
      → ((t : ℕ) → 32 ≤ u.word → is_held_until t u.supply ≡ true → list_any (brings u.word t) us ≡ true)
      → AreBehind base b v us → AreBehind base b v (u ∷ us)
  unfolding AreLinked turn_at want_at AreBrought
  passed b v u us none by are = record {
    linked = (record { turn = λ y. absurd (cc); want = λ y. absurd (cc); accept = λ y. absurd (cc) }, are.linked);
    turn = rw none are.turn;
    want = rw none are.want;
    brought = (by, are.brought);
    held = λ w t above is. or_right _ _ (are.held w t above is);
  }

  module _ (ds : List ℕ) where
    comes : (b : Bus) (v : ℕ) (us : List Use) (role : Role) (w want : ℕ) → v ≤ want → AreBehind base b v us
        → ComesBehind base (record { role = role; word = w; supply = Read (read_ticks ds b w want) }) us
    unfolding read_of
    comes b v us role w want late are = record {
      turn = λ y. sym are.turn;
      want = λ y. omega (arith, late, are.want);
      accept = λ y. omega arith;
    }

    -- the invariant after a word that is read
    pub read-one : (b : Bus) (v : ℕ) (us : List Use) (role : Role) (w want : ℕ) → v ≤ want → AreBehind base b v us
        → AreBehind base (bus_after_read ds b w want) want (record { role = role; word = w; supply = Read (read_ticks ds b w want) } ∷ us)
    unfolding AreLinked turn_at want_at AreBrought read_of is_read is_held_until bus_after_read
    read-one b v us role w want late are = record {
      linked = (comes b v us role w want late are, are.linked);
      turn = refl;
      want = omega arith;
      brought = (λ t above y. absurd (cc), are.brought);
      held = λ x t above is. or_right _ _ (are.held x t above is);
    }

    -- ---- words that are held

    tick-take : (n : ℕ) (held : List AskedWord) (w t : ℕ) → tick_of (take n held) w ≡ Some t → tick_of held w ≡ Some t
    tick-take zero [] w t is = is
    tick-take zero (h ∷ held) w t is = absurd (cc)
    tick-take (suc n) [] w t is = is
    tick-take (suc n) (h ∷ held) w t is = elim (cases_Bool (nat_eq h.w w)) [
      | inl y ↦
          let a : tick_of (take (suc n) (h ∷ held)) w ≡ Some h.tick = rw y refl in
          let b : tick_of (h ∷ held) w ≡ Some h.tick = rw y refl in
          b ∙ sym a ∙ is
      | inr m ↦
          let a : tick_of (take (suc n) (h ∷ held)) w ≡ tick_of (take n held) w = rw m refl in
          let b : tick_of (h ∷ held) w ≡ tick_of held w = rw m refl in
          b ∙ tick-take n held w t (sym a ∙ is)
    ]

    asked-held : (held : List AskedWord) (us : List Use) (role : Role) (b : Bus) (v want : ℕ)
        → ((w t : ℕ) → 32 ≤ w → tick_of held w ≡ Some t → list_any (brings w t) us ≡ true)
        → (w t : ℕ) → 32 ≤ w → tick_of (asked_for held v (answer_at ds b v want)) w ≡ Some t
        → list_any (brings w t) (record { role = role; word = v; supply = Read (read_ticks ds b v want) } ∷ us) ≡ true
    unfolding is_read read_of
    asked-held held us role b v want old w t above is = elim (cases_Bool (nat_eq v w)) [
      | inl y ↦
          let a : tick_of (asked_for held v (answer_at ds b v want)) w ≡ Some (answer_at ds b v want) = rw y refl in
          let s : Some (answer_at ds b v want) ≡ Some t = sym a ∙ is in
          let e : answer_at ds b v want ≡ t = cc in
          or_left _ _ (and_from _ _ refl (and_from _ _ y (eq-eqb _ _ e)))
      | inr m ↦
          let a : tick_of (asked_for held v (answer_at ds b v want)) w ≡ tick_of (take 3 held) w = rw m refl in
          or_right _ _ (old w t above (tick-take 3 held w t (sym a ∙ is)))
    ]

    held-one : (b : Bus) (us : List Use) (w t s : ℕ) → Some t ≡ tick_of b.held.words w
        → ((w t : ℕ) → 32 ≤ w → tick_of b.held.words w ≡ Some t → list_any (brings w t) us ≡ true)
        → 32 ≤ w → is_held_until s (Held t) ≡ true → list_any (brings w s) us ≡ true
    unfolding is_held_until
    held-one b us w t s same held above y = let e : t ≡ s = eqb-true _ _ y in held w s above (sym same ∙ ap (λ x. Some x) e)

    not-held : (us : List Use) (w s : ℕ) (p : Supply) → ((t : ℕ) → is_held_until t p ≡ false)
        → 32 ≤ w → is_held_until s p ≡ true → list_any (brings w s) us ≡ true
    not-held us w s p none above y = let f = none s in absurd (cc)

    pub request-one : (o : Option ℕ) (b : Bus) (v : ℕ) (us : List Use) (role : Role) (w want : ℕ) → o ≡ tick_of b.held.words w → v ≤ want → AreBehind base b v us
        → AreBehind base (requested_if ds b w want o) (max v (answer_if ds b w want o)) (record { role = role; word = w; supply = fetch_supply o ds b w want } ∷ us)
    unfolding bus_after_read is_read
    request-one (Some t) b v us role w want same late are = later b v (max v t) _ (omega arith) (passed b v _ us refl (λ s. held-one b us w t s same are.held) are)
    request-one None b v us role w want same late are =
        let one = read-one b v us role w want late are in
        record {
          linked = one.linked;
          turn = one.turn;
          want = omega (arith, one.want);
          brought = one.brought;
          held = asked-held b.held.words us role b w want are.held;
        }

    -- ---- instruction words

    words-behind : (past : List Past) (from v : ℕ) (s : Fetching) (w n : ℕ) (us : List Use) → v ≤ from → AreBehind base s.bus (max v s.answered) us
        → AreBehind base (fetch_words ds past s from w n).bus (max v (fetch_words ds past s from w n).answered)
        (reverse (instruction_uses ds past s from w n) ++ us)
    unfolding instruction_uses fetch_words fetch_word bus_after_request answer_tick_on behind uses wishes behind_use
    words-behind past from v s w zero us low are = are
    words-behind past from v s w (suc n) us low are =
        let want = max (max from s.answered) s.awaited in
        let o = tick_of s.bus.held.words w in
        let next = fetch_word ds past s w from in
        let u : Use = record { role = Instruction; word = w; supply = fetch_supply o ds s.bus w want } in
        let one = request-one o s.bus (max v s.answered) us Instruction w want refl (omega (arith, low)) are in
        let here : AreBehind base next.bus (max v next.answered) (u ∷ us) =
        later next.bus (max (max v s.answered) (answer_if ds s.bus w want o)) (max v next.answered) (u ∷ us) (omega arith) one in
        subst (AreBehind base (fetch_words ds past next from (w + 1) n).bus (max v (fetch_words ds past next from (w + 1) n).answered))
        (sym (pour-cons u (instruction_uses ds past next from (w + 1) n) us))
        (words-behind past from v next (w + 1) n (u ∷ us) low here)

    -- ---- operand words

    registers-behind : (b : Bus) (v w n : ℕ) (us : List Use) → AreBehind base b v us → AreBehind base b v (reverse (register_uses w n) ++ us)
    unfolding register_uses is_read is_held_until
    registers-behind b v w zero us are = are
    registers-behind b v w (suc n) us are =
        let u : Use = record { role = Operand; word = w; supply = Register } in
        subst (AreBehind base b v) (sym (pour-cons u (register_uses (w + 1) n) us)) (registers-behind b v (w + 1) n (u ∷ us) (passed b v u us refl (λ t. not-held us w t Register (λ s. refl)) are))

    data-if : (late : Bool) (past : List Past) (role : Role) (b : Bus) (v w p : ℕ) (us : List Use) → v ≤ p → AreBehind base b v us
        → AreBehind base (side_if ds b w p (if late then Some (latest_done past w) else None)) p (record {
          role = role;
          word = w;
          supply = if late then Forwarded (record { back = writer_back past w; done = latest_done past w }) else Read (read_ticks ds b w p);
        } ∷ us)
    unfolding is_read is_held_until
    data-if true past role b v w p us low are =
        later b v p _ low (passed b v _ us refl (λ t. not-held us w t (Forwarded (record { back = writer_back past w; done = latest_done past w })) (λ s. refl)) are)
    data-if false past role b v w p us low are = read-one b v us role w p low are

    word-bus : (past : List Past) (s : Fetching) (w p : ℕ) → (read_word ds past s w p).bus ≡ side_if ds s.bus w p (forwarded_at past w p)
    unfolding read_word behind_use
    word-bus past s w p = refl

    operands-behind : (past : List Past) (p v : ℕ) (s : Fetching) (w n : ℕ) (us : List Use) → v ≤ p → AreBehind base s.bus v us
        → AreBehind base (read_words ds past s p w n).bus p (reverse (operand_uses ds past s p w n) ++ us)
    unfolding operand_uses read_words behind uses wishes read_word
    operands-behind past p v s w zero us low are = later s.bus v p us low are
    operands-behind past p v s w (suc n) us low are =
        let u : Use = record { role = Operand; word = w; supply = storage_supply ds past s.bus w p } in
        let next = read_word ds past s w p in
        subst (AreBehind base (read_words ds past next p (w + 1) n).bus p)
        (sym (pour-cons u (operand_uses ds past next p (w + 1) n) us))
        (operands-behind past p p next (w + 1) n (u ∷ us) (omega arith)
        (subst (λ b. AreBehind base b p (u ∷ us)) (sym (word-bus past s w p)) (data-if (is_forwarded past w p) past Operand s.bus v w p us low are)))

    -- ---- the index-side word

    side-behind : (past : List Past) (b : Bus) (v a : ℕ) (side : Option ℕ) (us : List Use) → v ≤ a → AreBehind base b v us
        → AreBehind base (bus_after_index_read ds past b (side_to_read side) a) a (reverse (side_uses ds past b side a) ++ us)
    unfolding side_uses side_to_read bus_after_index_read is_read is_held_until behind uses behind_use
    side-behind past b v a None us low are = later b v a us low are
    side-behind past b v a (Some w) us low are = elim (cases_Bool (nat_lt w 32)) [
      | inl y ↦
          let above : nat_le 32 w ≡ false = lt-leb 32 w (ltb-true w 32 y) in
          rw (y, above) (later b v a _ low (passed b v _ us refl (λ t. not-held us w t Register (λ s. refl)) are))
      | inr n ↦
          let above : nat_le 32 w ≡ true = le-leb 32 w (ltb-false w 32 n) in
          rw (n, above) (data-if (is_forwarded past w a) past Index b v w a us low are)
    ]

    -- ---- following words

    request-at : (o : Option ℕ) (b : Bus) (us : List Use) (role : Role) (w want : ℕ) → o ≡ tick_of b.held.words w → AreBehind base b want us
        → AreBehind base (requested_if ds b w want o) want (record { role = role; word = w; supply = fetch_supply o ds b w want } ∷ us)
    unfolding bus_after_read is_read
    request-at (Some t) b us role w want same are = passed b want _ us refl (λ s. held-one b us w t s same are.held) are
    request-at None b us role w want same are =
        let one = read-one b want us role w want (omega arith) are in
        record { linked = one.linked; turn = one.turn; want = one.want; brought = one.brought; held = asked-held b.held.words us role b w want are.held }

    inside-behind : (b : Bus) (w p : ℕ) (us : List Use) → AreBehind base b p us
        → AreBehind base (request_inside ds b w p) p (reverse (inside_uses ds b w p) ++ us)
    unfolding bus_after_request
    inside-behind b w p us are = elim (cases_Bool (nat_lt w words_of_storage)) [
      | inl y ↦ rw (inside-told ds b w p, y) (request-at (tick_of b.held.words w) b us Following w p refl are)
      | inr m ↦ rw (inside-told ds b w p, m) are
    ]

    following-if : (follows : Bool) (b : Bus) (w p : ℕ) (us : List Use) → AreBehind base b p us
        → AreBehind base (if follows then request_inside ds (request_inside ds b w p) (w + 1) p else b) p
        (reverse (if follows then inside_uses ds b w p ++ inside_uses ds (request_inside ds b w p) (w + 1) p else []) ++ us)
    following-if false b w p us are = are
    following-if true b w p us are =
        let d = request_inside ds b w p in
        subst (AreBehind base (request_inside ds d (w + 1) p) p) (sym (pour-append (inside_uses ds b w p) (inside_uses ds d (w + 1) p) us))
        (inside-behind d (w + 1) p (reverse (inside_uses ds b w p) ++ us) (inside-behind b w p us are))

    following-behind : (b : Bus) (e : Entry) (p : ℕ) (us : List Use) → AreBehind base b p us
        → AreBehind base (bus_after_prefetch ds b e p) p (reverse (following_uses ds b e p) ++ us)
    following-behind b e p us are =
        rw (followed-is ds b e p, following-told ds b e p) (following-if e.follows b (e.own.first + e.own.len) p us are)

    -- ---- all words of an entry

    answered-early : (f : IssueState) (e : Entry) → max f.p (words_tick ds f e).answered ≤ tick_a ds f e
    unfolding tick_a address_tick
    answered-early f e = omega arith

    module _ (n : ℕ) (f : IssueState) (e : Entry) where
      -- the invariant after the instruction words
      pub fetch-behind : (us : List Use) → AreBehind base f.bus f.p us
          → AreBehind base (words_tick ds f e).bus (max f.p (words_tick ds f e).answered) (reverse (fetch_uses ds f e) ++ us)
      unfolding fetch_uses words_tick fetch_words instruction_uses
      fetch-behind us are =
          let start : Fetching = record { bus = f.bus; answered = 0; awaited = 0 } in
          let late = max (wanted_from f) f.c in
          let own = fetch_words ds f.past start (wanted_from f) e.own.first e.own.len in
          let one = instruction_uses ds f.past start (wanted_from f) e.own.first e.own.len in
          let two = instruction_uses ds f.past own late e.target.first e.target.len in
          let first = words-behind f.past (wanted_from f) f.p start e.own.first e.own.len us (wanted-late f) (later f.bus f.p (max f.p 0) us (omega arith) are) in
          let words = fetch_words ds f.past own late e.target.first e.target.len in
          subst (AreBehind base words.bus (max f.p words.answered)) (sym (pour-append one two us))
          (words-behind f.past late f.p own e.target.first e.target.len (reverse one ++ us) (omega (arith, wanted-late f)) first)

      formed-behind : (side : Option ℕ) (us : List Use) → e.side ≡ side_to_read side → AreBehind base f.bus f.p us
          → AreBehind base (bus_a ds f e) (tick_a ds f e) (reverse (formed_uses ds f e side) ++ us)
      unfolding fetch_uses words_tick bus_a fetch_words bus_after_index_read instruction_uses
      formed-behind side us is are =
          let start : Fetching = record { bus = f.bus; answered = 0; awaited = 0 } in
          let late = max (wanted_from f) f.c in
          let own = fetch_words ds f.past start (wanted_from f) e.own.first e.own.len in
          let words = fetch_words ds f.past own late e.target.first e.target.len in
          let one = instruction_uses ds f.past start (wanted_from f) e.own.first e.own.len in
          let two = instruction_uses ds f.past own late e.target.first e.target.len in
          let three = side_uses ds f.past words.bus side (tick_a ds f e) in
          let first = words-behind f.past (wanted_from f) f.p start e.own.first e.own.len us (wanted-late f) (later f.bus f.p (max f.p 0) us (omega arith) are) in
          let second = words-behind f.past late f.p own e.target.first e.target.len (reverse one ++ us) (omega (arith, wanted-late f)) first in
          let third = side-behind f.past words.bus (max f.p words.answered) (tick_a ds f e) side (reverse two ++ (reverse one ++ us)) (answered-early f e) second in
          let same : bus_after_index_read ds f.past words.bus (side_to_read side) (tick_a ds f e) ≡ bus_after_index_read ds f.past words.bus e.side (tick_a ds f e) = ap (λ s. bus_after_index_read ds f.past words.bus s (tick_a ds f e)) (sym is) in
          let poured : reverse ((one ++ two) ++ three) ++ us ≡ reverse three ++ (reverse two ++ (reverse one ++ us)) =
          pour-append (one ++ two) three us ∙ ap (λ xs. reverse three ++ xs) (pour-append one two us) in
          subst (AreBehind base (bus_after_index_read ds f.past words.bus e.side (tick_a ds f e)) (tick_a ds f e)) (sym poured)
          (subst (λ b. AreBehind base b (tick_a ds f e) (reverse three ++ (reverse two ++ (reverse one ++ us)))) same third)

      prepared-behind : (reads : Words) (us : List Use) → AreBehind base (bus_a ds f e) (tick_a ds f e) us
          → AreBehind base (bus_after_prefetch ds (operands ds n f e).bus e (tick_p ds n f e)) (tick_p ds n f e) (reverse (prepared_uses ds n f e reads) ++ us)
      unfolding data_uses operands operands_read read_words
      prepared-behind reads us are =
          let p = tick_p ds n f e in
          let past = f.past in
          let begun : Fetching = record { bus = bus_a ds f e; answered = p; awaited = 0 } in
          let one = read_words ds past begun p e.reads.one.first e.reads.one.len in
          let two = read_words ds past one p e.reads.two.first e.reads.two.len in
          let xs = register_uses reads.first (reads.len - e.reads.one.len) in
          let ys = operand_uses ds past begun p e.reads.one.first e.reads.one.len in
          let zs = register_uses reads.first2 (reads.len2 - e.reads.two.len) in
          let ws = operand_uses ds past one p e.reads.two.first e.reads.two.len in
          let vs = following_uses ds two.bus e p in
          let a1 = registers-behind (bus_a ds f e) (tick_a ds f e) reads.first (reads.len - e.reads.one.len) us are in
          let a2 = operands-behind past p (tick_a ds f e) begun e.reads.one.first e.reads.one.len (reverse xs ++ us) (a-p ds n f e) a1 in
          let a3 = registers-behind one.bus p reads.first2 (reads.len2 - e.reads.two.len) (reverse ys ++ (reverse xs ++ us)) a2 in
          let a4 = operands-behind past p p one e.reads.two.first e.reads.two.len (reverse zs ++ (reverse ys ++ (reverse xs ++ us))) (omega arith) a3 in
          let a5 = following-behind two.bus e p (reverse ws ++ (reverse zs ++ (reverse ys ++ (reverse xs ++ us)))) a4 in
          let poured : reverse (((xs ++ ys) ++ (zs ++ ws)) ++ vs) ++ us ≡ reverse vs ++ (reverse ws ++ (reverse zs ++ (reverse ys ++ (reverse xs ++ us)))) =
          pour-append ((xs ++ ys) ++ (zs ++ ws)) vs us ∙ ap (λ q. reverse vs ++ q) (pour-append (xs ++ ys) (zs ++ ws) us
          ∙ pour-append zs ws (reverse (xs ++ ys) ++ us) ∙ ap (λ q. reverse ws ++ (reverse zs ++ q)) (pour-append xs ys us)) in
          subst (AreBehind base (bus_after_prefetch ds two.bus e p) p) (sym poured) a5

      pub entry-behind : (side : Option ℕ) (reads : Words) (us : List Use) → e.side ≡ side_to_read side → AreBehind base f.bus f.p us
          → AreBehind base (issue_after_entry ds n f e).bus (issue_after_entry ds n f e).p (reverse (uses_of_entry ds n f e side reads) ++ us)
      unfolding uses_of_entry issue_after_entry bus_after_prefetch
      entry-behind side reads us is are =
          subst (AreBehind base (bus_after_prefetch ds (operands ds n f e).bus e (tick_p ds n f e)) (tick_p ds n f e))
          (sym (pour-append (formed_uses ds f e side) (prepared_uses ds n f e reads) us))
          (prepared-behind reads (reverse (formed_uses ds f e side) ++ us) (formed-behind side us is are))
