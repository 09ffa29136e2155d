-- The reads among an entry's words are those that the bus serves.
use Rattle.st_ledger.proofs.Common.{zero, suc, nat_lt, nat_le, Option, None, Some, ◌≡◌, ℕ, ◌+◌, ◌-◌, max, true, false, List, [], ◌∷◌, ◌++◌, inl, inr, refl, sym, ◌∙◌, ap, subst, cases_Bool, ltb-true, ltb-false, le-leb, lt-leb, words_of_storage, tick_of, Words, word_asked, words_asked, data_asked, side_asked, operands_asked, runs_asked, inside_asked, following_asked, fetches_asked, formed_asked, prepared_asked, bus_after_reads, bus_after_request, after_one, answer_tick_on, wanted_from, words_tick, operands, tick_a, tick_p, bus_a, reads_of_entry, fetch_word, fetch_words, read_word, read_words, request_inside, is_forwarded, behind_use, reads_of, uses, wishes, Bus, Entry, Fetching, IssueState, Past, side_to_read, instruction_uses, fetch_uses, side_uses, register_uses, operand_uses, data_uses, inside_uses, following_uses, formed_uses, prepared_uses, uses_of_entry, read_ticks, fetch_supply, storage_supply, Role, Instruction, Index, Operand, Following, Register, Use, is_read, read_of, served, reads_told, reads-are}
use Rattle.st_rows.specs.BusTimes.{Read}
use Rattle.st_rows.proofs.Served.{served-word, served-words, served-data, served-operands, served-inside, served-fetches, served-runs, served-formed}
use Rattle.st_rows.proofs.UseLemmas.{following-is as asked-is}
use Rattle.st_plain.proofs.UseLemmas.{inside-told as inside-is, following-told as following-is}

told-append : (xs ys : List Use) → reads_told (xs ++ ys) ≡ reads_told xs ++ reads_told ys
unfolding reads_told
told-append [] ys = refl
told-append (x ∷ xs) ys = elim (cases_Bool (is_read x.supply)) [
  | inl y ↦ rw y (ap (λ zs. record { w = x.word; ticks = read_of x.supply } ∷ zs) (told-append xs ys))
  | inr m ↦ rw m (told-append xs ys)
]

module _ (ds : List ℕ) where
  made-append : (xs ys : List Read) (b : Bus) → served ds (xs ++ ys) b ≡ served ds xs b ++ served ds ys (bus_after_reads ds xs b)
  unfolding served bus_after_reads
  made-append [] ys b = refl
  made-append (x ∷ xs) ys b = ap (λ zs. record { w = x.w; ticks = read_ticks ds b x.w x.want } ∷ zs) (made-append xs ys (after_one ds b x))

  -- two consecutive parts, where d is the bus after the first
  two : (us vs : List Use) (xs ys : List Read) (b d : Bus) → reads_told us ≡ served ds xs b → bus_after_reads ds xs b ≡ d → reads_told vs ≡ served ds ys d
      → reads_told (us ++ vs) ≡ served ds (xs ++ ys) b
  two us vs xs ys b d one is other =
      told-append us vs ∙ ap (λ zs. zs ++ reads_told vs) one ∙ ap (λ zs. served ds xs b ++ zs) (other ∙ ap (served ds ys) (sym is)) ∙ sym (made-append xs ys b)

  none-told : (b : Bus) → reads_told [] ≡ served ds [] b
  unfolding reads_told served
  none-told b = refl

  register-told : (b : Bus) (w : ℕ) → reads_told (record { role = Index; word = w; supply = Register } ∷ []) ≡ served ds [] b
  unfolding reads_told served is_read
  register-told b w = refl

  word-told : (o : Option ℕ) (b : Bus) (role : Role) (w want : ℕ)
      → reads_told (record { role = role; word = w; supply = fetch_supply o ds b w want } ∷ []) ≡ served ds (word_asked o w want) b
  unfolding reads_told served is_read read_of
  word-told (Some t) b role w want = refl
  word-told None b role w want = refl

  words-told : (past : List Past) (from : ℕ) (s : Fetching) (w n : ℕ) → reads_told (instruction_uses ds past s from w n) ≡ served ds (words_asked ds past s from w n) s.bus
  unfolding instruction_uses words_asked fetch_word bus_after_request reads_of uses wishes behind_use answer_tick_on
  words-told past from s w zero = none-told s.bus
  words-told past from s w (suc n) =
      let want = max (max from s.answered) s.awaited in
      let o = tick_of s.bus.held.words w in
      let next = fetch_word ds past s w from in
      two (record { role = Instruction; word = w; supply = fetch_supply o ds s.bus w want } ∷ []) (instruction_uses ds past next from (w + 1) n)
      (word_asked o w want) (words_asked ds past next from (w + 1) n) s.bus next.bus
      (word-told o s.bus Instruction w want) (served-word ds o w want s.bus) (words-told past from next (w + 1) n)

  data-told : (past : List Past) (b : Bus) (role : Role) (w p : ℕ)
      → reads_told (record { role = role; word = w; supply = storage_supply ds past b w p } ∷ []) ≡ served ds (data_asked past w p) b
  unfolding reads_told served is_read read_of
  data-told past b role w p = elim (cases_Bool (is_forwarded past w p)) [ inl y ↦ rw y refl | inr m ↦ rw m refl ]

  operands-told : (past : List Past) (p : ℕ) (s : Fetching) (w n : ℕ) → reads_told (operand_uses ds past s p w n) ≡ served ds (operands_asked past p w n) s.bus
  unfolding operand_uses operands_asked uses wishes read_word
  operands-told past p s w zero = none-told s.bus
  operands-told past p s w (suc n) =
      let next = read_word ds past s w p in
      two (record { role = Operand; word = w; supply = storage_supply ds past s.bus w p } ∷ []) (operand_uses ds past next p (w + 1) n)
      (data_asked past w p) (operands_asked past p (w + 1) n) s.bus next.bus
      (data-told past s.bus Operand w p) (served-data ds past w p s) (operands-told past p next (w + 1) n)

  registers-told : (w n : ℕ) → reads_told (register_uses w n) ≡ []
  unfolding register_uses reads_told is_read
  registers-told w zero = refl
  registers-told w (suc n) = registers-told (w + 1) n

  side-told : (past : List Past) (b : Bus) (side : Option ℕ) (a : ℕ) → reads_told (side_uses ds past b side a) ≡ served ds (side_asked past (side_to_read side) a) b
  unfolding side_uses side_to_read side_asked uses
  side-told past b None a = none-told b
  side-told past b (Some w) a = elim (cases_Bool (nat_lt w 32)) [
    | inl y ↦
        let above : nat_le 32 w ≡ false = lt-leb 32 w (ltb-true w 32 y) in
        rw (y, above) (register-told b w)
    | inr n ↦
        let above : nat_le 32 w ≡ true = le-leb 32 w (ltb-false w 32 n) in
        rw (n, above) (data-told past b Index w a)
  ]

  inside-told : (b : Bus) (w p : ℕ) → reads_told (inside_uses ds b w p) ≡ served ds (inside_asked b w p) b
  inside-told b w p = elim (cases_Bool (nat_lt w words_of_storage)) [
    | inl y ↦ rw (inside-is ds b w p, y) (word-told (tick_of b.held.words w) b Following w p)
    | inr m ↦ rw (inside-is ds b w p, m) (none-told b)
  ]

  following-told : (b : Bus) (e : Entry) (p : ℕ) → reads_told (following_uses ds b e p) ≡ served ds (following_asked ds b e p) b
  following-told b e p =
      let w = e.own.first + e.own.len in
      elim (cases_Bool e.follows) [
        | inl y ↦
            rw (following-is ds b e p, asked-is ds b e p, y) (two (inside_uses ds b w p) (inside_uses ds (request_inside ds b w p) (w + 1) p) (inside_asked b w p) (inside_asked (request_inside ds b w p) (w + 1) p)
            b (request_inside ds b w p) (inside-told b w p) (served-inside ds b w p) (inside-told (request_inside ds b w p) (w + 1) p))
        | inr m ↦ rw (following-is ds b e p, asked-is ds b e p, m) (none-told b)
      ]

  fetches-told : (f : IssueState) (e : Entry) → reads_told (fetch_uses ds f e) ≡ served ds (fetches_asked ds f e) f.bus
  unfolding fetch_uses fetches_asked words_asked fetch_words instruction_uses
  fetches-told f e =
      let start : Fetching = record { bus = f.bus; answered = 0; awaited = 0 } in
      let own = fetch_words ds f.past start (wanted_from f) e.own.first e.own.len in
      let late = max (wanted_from f) f.c in
      two (instruction_uses ds f.past start (wanted_from f) e.own.first e.own.len) (instruction_uses ds f.past own late e.target.first e.target.len)
      (words_asked ds f.past start (wanted_from f) e.own.first e.own.len) (words_asked ds f.past own late e.target.first e.target.len) f.bus own.bus
      (words-told f.past (wanted_from f) start e.own.first e.own.len) (served-words ds f.past (wanted_from f) start e.own.first e.own.len)
      (words-told f.past late own e.target.first e.target.len)

  behind-registers : (w n : ℕ) (us : List Use) → reads_told (register_uses w n ++ us) ≡ reads_told us
  behind-registers w n us = told-append (register_uses w n) us ∙ ap (λ zs. zs ++ reads_told us) (registers-told w n)

  runs-told : (n : ℕ) (f : IssueState) (e : Entry) (reads : Words)
      → reads_told (data_uses ds f.past (bus_a ds f e) (tick_p ds n f e) reads e.reads) ≡ served ds (runs_asked f.past e.reads (tick_p ds n f e)) (bus_a ds f e)
  unfolding data_uses
  runs-told n f e reads =
      let p = tick_p ds n f e in
      let begun : Fetching = record { bus = bus_a ds f e; answered = p; awaited = 0 } in
      let one = read_words ds f.past begun p e.reads.one.first e.reads.one.len in
      two (register_uses reads.first (reads.len - e.reads.one.len) ++ operand_uses ds f.past begun p e.reads.one.first e.reads.one.len)
      (register_uses reads.first2 (reads.len2 - e.reads.two.len) ++ operand_uses ds f.past one p e.reads.two.first e.reads.two.len)
      (operands_asked f.past p e.reads.one.first e.reads.one.len) (operands_asked f.past p e.reads.two.first e.reads.two.len) (bus_a ds f e) one.bus
      (behind-registers _ _ (operand_uses ds f.past begun p e.reads.one.first e.reads.one.len) ∙ operands-told f.past p begun e.reads.one.first e.reads.one.len)
      (served-operands ds f.past p begun e.reads.one.first e.reads.one.len)
      (behind-registers _ _ (operand_uses ds f.past one p e.reads.two.first e.reads.two.len) ∙ operands-told f.past p one e.reads.two.first e.reads.two.len)

pub told-of-entry : (ds : List ℕ) (n : ℕ) (f : IssueState) (e : Entry) (side : Option ℕ) (reads : Words) → e.side ≡ side_to_read side
    → reads_told (uses_of_entry ds n f e side reads) ≡ served ds (reads_of_entry ds n f e) f.bus
unfolding uses_of_entry
told-of-entry ds n f e side reads is =
    let a = tick_a ds f e in
    let p = tick_p ds n f e in
    subst (λ rs. reads_told (formed_uses ds f e side ++ prepared_uses ds n f e reads) ≡ served ds rs f.bus) (sym (reads-are ds n f e))
    (two ds (formed_uses ds f e side) (prepared_uses ds n f e reads) (formed_asked ds f e) (prepared_asked ds n f e) f.bus (bus_a ds f e)
    (two ds (fetch_uses ds f e) (side_uses ds f.past (words_tick ds f e).bus side a) (fetches_asked ds f e) (side_asked f.past e.side a) f.bus (words_tick ds f e).bus
    (fetches-told ds f e) (served-fetches ds f e)
    (side-told ds f.past (words_tick ds f e).bus side a ∙ ap (λ s. served ds (side_asked f.past s a) (words_tick ds f e).bus) (sym is)))
    (served-formed ds f e)
    (two ds (data_uses ds f.past (bus_a ds f e) p reads e.reads) (following_uses ds (operands ds n f e).bus e p) (runs_asked f.past e.reads p)
    (following_asked ds (operands ds n f e).bus e p) (bus_a ds f e) (operands ds n f e).bus
    (runs-told ds n f e reads) (served-runs ds n f e) (following-told ds (operands ds n f e).bus e p)))
