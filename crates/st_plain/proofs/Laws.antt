-- The reads of an entry are in order.
use Rattle.std.specs.Prelude.{Bool, if◌then◌else◌, nat_lt, nat_le}
use Rattle.std.proofs.Common.{◌≡◌, ℕ, zero, suc, ◌+◌, ◌-◌, ◌≤◌, max, true, false, List, [], ◌∷◌, ◌++◌, Option, None, Some, inl, inr, refl, sym, subst, append_assoc, arith}
use Rattle.std.proofs.lemmas.Bool.{cases_Bool}
use Rattle.std.proofs.lemmas.List.{append-nil}
use Rattle.std.proofs.lemmas.Bool.{ltb-true, ltb-false, le-leb, lt-leb}
use Rattle.st_bits.specs.Storage.{words_of_storage}
use Rattle.st_fetch.specs.Planned.{tick_of}
use Rattle.st_rows.specs.BusTimes.{accept_at, answer_at, bus_after_read, bus_after_request, requested_if, answer_if, answer_tick_on}
use Rattle.st_rows.specs.Entries.{latest_done}
use Rattle.st_rows.specs.Rows.{wanted_from, words_tick, address_tick, operands, tick_a, bus_a, tick_p}
use Rattle.st_rows.specs.Words.{fetch_word, fetch_words, bus_after_index_read, read_word, read_words, operands_read, request_inside, is_forwarded}
use Rattle.st_rows.specs.Uses.{behind, behind_use, uses, wishes}
use Rattle.st_rows.specs.declared.bus.Bus.{Bus}
use Rattle.st_rows.specs.declared.entry.Entry.{Entry}
use Rattle.st_rows.specs.declared.fetching.Fetching.{Fetching}
use Rattle.st_rows.specs.declared.issue.IssueState.{IssueState}
use Rattle.st_rows.specs.declared.past.Past.{Past}
use Rattle.st_rows.proofs.Parts.{a-p}
use Rattle.st_segment.specs.Entries.{side_to_read}
use Rattle.st_plain.specs.Laws.{IsReadFrom, IsInTurn, want_behind, turn_behind, AreInTurn, ReadsOfAnEntryComeInTurn}
use Rattle.st_plain.specs.Uses.{instruction_uses, fetch_uses, side_uses, operand_uses, data_uses, inside_uses, following_uses, uses_of_entry}
use Rattle.st_rows.specs.Supplies.{read_ticks, fetch_supply, writer_back, register_uses}
use Rattle.st_rows.specs.declared.uses.Role.TheVariants.{Following}
use Rattle.st_rows.specs.declared.uses.Supply.{Supply}
use Rattle.st_rows.specs.declared.uses.Supply.TheVariants.{Read, Held, Forwarded, Register}
use Rattle.st_rows.specs.declared.uses.Use.{Use}
use Rattle.st_rows.proofs.UseLemmas.{side_if}
use Rattle.st_plain.proofs.UseLemmas.{inside-told, following-told}

-- no word remains
none-left : (v t : ℕ) → AreInTurn v t []
unfolding AreInTurn
none-left v t = tt

-- smaller bounds hold too
sooner-one : (w v t s : ℕ) (p : Supply) (us : List Use) → v ≤ w → s ≤ t → (AreInTurn w t us → AreInTurn v s us)
    → IsInTurn w t p × AreInTurn (want_behind w p) (turn_behind t p) us → IsInTurn v s p × AreInTurn (want_behind v p) (turn_behind s p) us
sooner-one w v t s (Read r) us low less rest are =
    (record { wanted = omega (arith, are.0.wanted); turned = omega (arith, are.0.turned); accepted = are.0.accepted }, are.1)
sooner-one w v t s (Held x) us low less rest are = (tt, rest are.1)
sooner-one w v t s (Forwarded x) us low less rest are = (tt, rest are.1)
sooner-one w v t s Register us low less rest are = (tt, rest are.1)

sooner : (w v t s : ℕ) (us : List Use) → v ≤ w → s ≤ t → AreInTurn w t us → AreInTurn v s us
unfolding AreInTurn
sooner w v t s [] low less are = tt
sooner w v t s (u ∷ us) low less are = sooner-one w v t s u.supply us low less (sooner w v t s us low less) are

module _ (ds : List ℕ) where
  -- one read
  one-read : (b : Bus) (w want v s : ℕ) → v ≤ want → s ≤ b.free → IsReadFrom v s (read_ticks ds b w want)
  one-read b w want v s low less = record { wanted = low; turned = less; accepted = omega arith }

  answered-late : (b : Bus) (w want : ℕ) → want ≤ answer_at ds b w want
  answered-late b w want = omega arith

  -- an instruction word or a following word, and the words after it
  fetched : (o : Option ℕ) (b : Bus) (w want v s : ℕ) (us : List Use) → v ≤ want → s ≤ b.free
      → ((x y : ℕ) → x ≤ want → x ≤ max v (answer_if ds b w want o) → y ≤ (requested_if ds b w want o).free → AreInTurn x y us)
      → IsInTurn v s (fetch_supply o ds b w want)
      × AreInTurn (want_behind v (fetch_supply o ds b w want)) (turn_behind s (fetch_supply o ds b w want)) us
  unfolding bus_after_read
  fetched (Some tick) b w want v s us low less rest = (tt, rest v s low (omega arith) less)
  fetched None b w want v s us low less rest =
      (one-read b w want v s low less, rest want (accept_at b w want + 1) (omega arith) (omega (arith, answered-late b w want)) (omega arith))

  module _ (past : List Past) where
    answered-rises : (from : ℕ) (s : Fetching) (w n : ℕ) → s.answered ≤ (fetch_words ds past s from w n).answered
    unfolding fetch_words fetch_word behind uses wishes behind_use bus_after_request answer_tick_on
    answered-rises from s w zero = omega arith
    answered-rises from s w (suc n) = omega (arith, answered-rises from (fetch_word ds past s w from) (w + 1) n)

    -- instruction words
    instructions-in-turn : (from : ℕ) (s : Fetching) (w n v t : ℕ) (rest : List Use) → v ≤ max (max from s.answered) s.awaited → t ≤ s.bus.free
        → AreInTurn (max v (fetch_words ds past s from w n).answered) (fetch_words ds past s from w n).bus.free rest
        → AreInTurn v t (instruction_uses ds past s from w n ++ rest)
    unfolding instruction_uses fetch_words fetch_word bus_after_request answer_tick_on AreInTurn behind uses wishes behind_use
    instructions-in-turn from s w zero v t rest low less are = sooner (max v s.answered) v s.bus.free t rest (omega arith) less are
    instructions-in-turn from s w (suc n) v t rest low less are =
        fetched (tick_of s.bus.held.words w) s.bus w (max (max from s.answered) s.awaited) v t
        (instruction_uses ds past (fetch_word ds past s w from) from (w + 1) n ++ rest) low less
        (λ x y x_low x_less y_less.
        let rises = answered-rises from (fetch_word ds past s w from) (w + 1) n in
        instructions-in-turn from (fetch_word ds past s w from) (w + 1) n x y rest (omega (arith, x_low)) y_less
        (sooner _ (max x (fetch_words ds past (fetch_word ds past s w from) from (w + 1) n).answered) _ _ rest (omega (arith, x_less, rises)) (omega arith) are))

    -- the index-side word
    side-if : (late : Bool) (b : Bus) (w a v t : ℕ) (us : List Use) → v ≤ a → t ≤ b.free
        → AreInTurn a (side_if ds b w a (if late then Some (latest_done past w) else None)).free us
        → IsInTurn v t (if late then Forwarded (record { back = writer_back past w; done = latest_done past w }) else Read (read_ticks ds b w a))
        × AreInTurn (want_behind v (if late then Forwarded (record { back = writer_back past w; done = latest_done past w }) else Read (read_ticks ds b w a)))
        (turn_behind t (if late then Forwarded (record { back = writer_back past w; done = latest_done past w }) else Read (read_ticks ds b w a))) us
    unfolding bus_after_read
    side-if true b w a v t us low less are = (tt, sooner a v b.free t us low less are)
    side-if false b w a v t us low less are = (one-read b w a v t low less, are)

    side-in-turn : (b : Bus) (side : Option ℕ) (a v t : ℕ) (rest : List Use) → v ≤ a → t ≤ b.free
        → AreInTurn a (bus_after_index_read ds past b (side_to_read side) a).free rest → AreInTurn v t (side_uses ds past b side a ++ rest)
    unfolding side_uses side_to_read bus_after_index_read AreInTurn behind uses behind_use
    side-in-turn b None a v t rest low less are = sooner a v b.free t rest low less are
    side-in-turn b (Some w) a v t rest low less are = elim (cases_Bool (nat_lt w 32)) [
      | inl y ↦
          let above : nat_le 32 w ≡ false = lt-leb 32 w (ltb-true w 32 y) in
          rw y (tt, sooner a v b.free t rest low less (rw above at are))
      | inr n ↦
          let above : nat_le 32 w ≡ true = le-leb 32 w (ltb-false w 32 n) in
          rw n (side-if (is_forwarded past w a) b w a v t rest low less (rw above at are))
    ]

    -- operand words
    registers-in-turn : (w n v t : ℕ) (rest : List Use) → AreInTurn v t rest → AreInTurn v t (register_uses w n ++ rest)
    unfolding register_uses AreInTurn
    registers-in-turn w zero v t rest are = are
    registers-in-turn w (suc n) v t rest are = (tt, registers-in-turn (w + 1) n v t rest are)

    operand-if : (late : Bool) (s : Fetching) (w p v t : ℕ) (us : List Use) → v ≤ p → t ≤ s.bus.free
        → ((x y : ℕ) → x ≤ p
        → y ≤ (side_if ds s.bus w p (if late then Some (latest_done past w) else None)).free
        → AreInTurn x y us)
        → IsInTurn v t (if late then Forwarded (record { back = writer_back past w; done = latest_done past w }) else Read (read_ticks ds s.bus w p))
        × AreInTurn (want_behind v (if late then Forwarded (record { back = writer_back past w; done = latest_done past w }) else Read (read_ticks ds s.bus w p)))
        (turn_behind t (if late then Forwarded (record { back = writer_back past w; done = latest_done past w }) else Read (read_ticks ds s.bus w p))) us
    unfolding bus_after_read
    operand-if true s w p v t us low less rest = (tt, rest v t low less)
    operand-if false s w p v t us low less rest = (one-read s.bus w p v t low less, rest p (accept_at s.bus w p + 1) (omega arith) (omega arith))

    operands-in-turn : (s : Fetching) (p w n v t : ℕ) (rest : List Use) → v ≤ p → t ≤ s.bus.free
        → AreInTurn p (read_words ds past s p w n).bus.free rest → AreInTurn v t (operand_uses ds past s p w n ++ rest)
    unfolding operand_uses read_words read_word AreInTurn behind uses wishes behind_use
    operands-in-turn s p w zero v t rest low less are = sooner p v s.bus.free t rest low less are
    operands-in-turn s p w (suc n) v t rest low less are =
        operand-if (is_forwarded past w p) s w p v t (operand_uses ds past (read_word ds past s w p) p (w + 1) n ++ rest) low less
        (λ x y x_low y_less. operands-in-turn (read_word ds past s w p) p (w + 1) n x y rest x_low y_less are)

  -- following words
  inside-if : (inside : Bool) (b : Bus) (w p v t : ℕ) (rest : List Use) → v ≤ p → t ≤ b.free
      → AreInTurn p (if inside then bus_after_request ds b w p else b).free rest
      → AreInTurn v t
      ((if inside then record { role = Following; word = w; supply = fetch_supply (tick_of b.held.words w) ds b w p } ∷ [] else []) ++ rest)
  unfolding AreInTurn bus_after_request
  inside-if true b w p v t rest low less are =
      fetched (tick_of b.held.words w) b w p v t rest low less (λ x y x_low x_less y_less. sooner p x _ y rest x_low y_less are)
  inside-if false b w p v t rest low less are = sooner p v b.free t rest low less are

  inside-in-turn : (b : Bus) (w p v t : ℕ) (rest : List Use) → v ≤ p → t ≤ b.free → AreInTurn p (request_inside ds b w p).free rest
      → AreInTurn v t (inside_uses ds b w p ++ rest)
  inside-in-turn b w p v t rest low less are = rw (inside-told ds b w p) (inside-if (nat_lt w words_of_storage) b w p v t rest low less are)

  following-if : (follows : Bool) (b : Bus) (w p v t : ℕ) → v ≤ p → t ≤ b.free
      → AreInTurn v t (if follows then inside_uses ds b w p ++ inside_uses ds (request_inside ds b w p) (w + 1) p else [])
  following-if true b w p v t low less =
      let d = request_inside ds b w p in
      let last : AreInTurn p d.free (inside_uses ds d (w + 1) p ++ []) =
      inside-in-turn d (w + 1) p p d.free [] (omega arith) (omega arith) (none-left _ _) in
      inside-in-turn b w p v t (inside_uses ds d (w + 1) p) low less
      (subst (λ us. AreInTurn p d.free us) (append-nil (inside_uses ds d (w + 1) p)) last)
  following-if false b w p v t low less = none-left v t

  following-in-turn : (b : Bus) (e : Entry) (p v t : ℕ) → v ≤ p → t ≤ b.free → AreInTurn v t (following_uses ds b e p)
  following-in-turn b e p v t low less =
      rw (following-told ds b e p) (following-if e.follows b (e.own.first + e.own.len) p v t low less)

-- ---- all words

parts : (a b c d e f g h : List Use)
    → ((a ++ b) ++ c) ++ (((d ++ e) ++ (f ++ g)) ++ h) ≡ a ++ (b ++ (c ++ (d ++ (e ++ (f ++ (g ++ h))))))
parts a b c d e f g h = simp append_assoc refl

answered-a : (ds : List ℕ) (f : IssueState) (e : Entry) → (words_tick ds f e).answered ≤ tick_a ds f e
unfolding tick_a address_tick
answered-a ds f e = omega arith

pub reads_of_an_entry_come_in_turn : ReadsOfAnEntryComeInTurn
unfolding uses_of_entry fetch_uses data_uses words_tick bus_a operands operands_read fetch_words bus_after_index_read read_words instruction_uses
reads_of_an_entry_come_in_turn ds n f e side reads side_is =
    let p = tick_p ds n f e in
    let a = tick_a ds f e in
    let past = f.past in
    let start : Fetching = record { bus = f.bus; answered = 0; awaited = 0 } in
    let late = max (wanted_from f) f.c in
    let own = fetch_words ds past start (wanted_from f) e.own.first e.own.len in
    let words = fetch_words ds past own late e.target.first e.target.len in
    let sided = bus_a ds f e in
    let begun : Fetching = record { bus = sided; answered = p; awaited = 0 } in
    let one = read_words ds past begun p e.reads.one.first e.reads.one.len in
    let two = read_words ds past one p e.reads.two.first e.reads.two.len in
    let follow = following_uses ds two.bus e p in
    let follow_is : AreInTurn p two.bus.free follow = following-in-turn ds two.bus e p p two.bus.free (omega arith) (omega arith) in
    let ops_two = operand_uses ds past one p e.reads.two.first e.reads.two.len ++ follow in
    let ops_two_is : AreInTurn p one.bus.free ops_two =
    operands-in-turn ds past one p e.reads.two.first e.reads.two.len p one.bus.free follow (omega arith) (omega arith) follow_is in
    let regs_two = register_uses reads.first2 (reads.len2 - e.reads.two.len) ++ ops_two in
    let regs_two_is : AreInTurn p one.bus.free regs_two = registers-in-turn ds past reads.first2 (reads.len2 - e.reads.two.len) p one.bus.free ops_two ops_two_is in
    let ops_one = operand_uses ds past begun p e.reads.one.first e.reads.one.len ++ regs_two in
    let ops_one_is : AreInTurn a sided.free ops_one =
    operands-in-turn ds past begun p e.reads.one.first e.reads.one.len a sided.free regs_two (a-p ds n f e) (omega arith) regs_two_is in
    let regs_one = register_uses reads.first (reads.len - e.reads.one.len) ++ ops_one in
    let regs_one_is : AreInTurn a sided.free regs_one = registers-in-turn ds past reads.first (reads.len - e.reads.one.len) a sided.free ops_one ops_one_is in
    let behind_side : AreInTurn a (bus_after_index_read ds past words.bus (side_to_read side) a).free regs_one =
    subst (λ x. AreInTurn a (bus_after_index_read ds past words.bus x a).free regs_one) side_is regs_one_is in
    let rises = answered-rises ds past late own e.target.first e.target.len in
    let sides = side_uses ds past words.bus side a ++ regs_one in
    let sides_are : AreInTurn (max (max 0 own.answered) words.answered) words.bus.free sides =
    side-in-turn ds past words.bus side a (max (max 0 own.answered) words.answered) words.bus.free regs_one (omega (arith, rises, answered-a ds f e)) (omega arith) behind_side in
    let targets = instruction_uses ds past own late e.target.first e.target.len ++ sides in
    let targets_are : AreInTurn (max 0 own.answered) own.bus.free targets =
    instructions-in-turn ds past late own e.target.first e.target.len (max 0 own.answered) own.bus.free sides (omega arith) (omega arith) sides_are in
    subst (λ us. AreInTurn 0 f.bus.free us)
    (sym (parts (instruction_uses ds past start (wanted_from f) e.own.first e.own.len) (instruction_uses ds past own late e.target.first e.target.len)
    (side_uses ds past words.bus side a) (register_uses reads.first (reads.len - e.reads.one.len))
    (operand_uses ds past begun p e.reads.one.first e.reads.one.len) (register_uses reads.first2 (reads.len2 - e.reads.two.len))
    (operand_uses ds past one p e.reads.two.first e.reads.two.len) follow))
    (instructions-in-turn ds past (wanted_from f) start e.own.first e.own.len 0 f.bus.free targets (omega arith) (omega arith) targets_are)
