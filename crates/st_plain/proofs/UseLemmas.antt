-- Words are noted in sequence.
use Rattle.st_plain.proofs.Common.{Bool, map, if◌then◌else◌, nat_lt, nat_le, ◌≡◌, ℕ, zero, suc, true, ◌+◌, ◌<◌, ◌≤◌, max, List, [], ◌∷◌, ◌++◌, Option, inl, inr, refl, sym, ◌∙◌, ap, append_assoc, length-append, arith, cases_Bool, lt-ltb, nat_tests, append-nil, take_all, IsEntryInTime, wanted_from, own_uses, own_fetched, target_uses, words_tick, tick_a, bus_a, tick_p, index_uses, first_uses, first_read, second_uses, operands, followings, read_words, request_inside, Bus, Entry, IssueState, Past, registers_among, fetch_uses, side_uses, operand_uses, data_uses, inside_uses, following_uses, formed_uses, prepared_uses, side_register, uses_of_entry, Use, uses, words_of, wish_of, use_of, unused, behind_use, bus_after_request, wishes-length, followings-length, side_to_read}
use Rattle.arrayvec.specs.ArrayVec.{ArrayVec}
use Rattle.st_rows.specs.declared.entry.WordRuns.{WordRuns}
use Rattle.std.specs.Prelude.{None, Some, false, length}
use Rattle.st_bits.specs.declared.register.TheConstants.{FIRST_STORAGE_WORD}
use Rattle.st_bits.specs.Storage.{words_of_storage}
use Rattle.st_fetch.specs.Planned.{tick_of}
use Rattle.st_rows.specs.KeptUses.{uses_with}
use Rattle.st_rows.specs.Rows.{following_uses as following_wishes}
use Rattle.st_next.specs.Told.{formed_told}
use Rattle.st_prep.specs.Ranges.{IsRuns}
use Rattle.st_prep.specs.declared.entries.Words.{Words}
use Rattle.st_rows.specs.declared.fetching.Fetching.{Fetching}
use Rattle.st_rows.specs.Supplies.{fetch_supply, use_told, told, register_uses}
use Rattle.st_rows.specs.declared.uses.Role.TheVariants.{Instruction, Index, Operand, Following}
use Rattle.st_rows.specs.declared.uses.Supply.TheVariants.{Register}
use Rattle.st_rows.specs.declared.uses.Wish.{Wish}

-- ---- words that are noted in two parts

pub two-noted : (us vs ws a b : List Use) → vs ≡ us ++ a → ws ≡ vs ++ b → ws ≡ us ++ (a ++ b)
two-noted us vs ws a b one two = two ∙ ap (λ xs. xs ++ b) one ∙ append_assoc us a b

-- ---- words that are added to a list with room for them

abbrev Items : Type 0
Items = ArrayVec Use

put-all : (us : List Use) (kept : Items) → length kept.items + length us ≤ 48 → (uses_with us kept).items ≡ kept.items ++ us
unfolding uses_with
put-all [] kept few = sym (append-nil kept.items)
put-all (u ∷ us) kept few =
    let counted = length-append kept.items (u ∷ []) in
    ap (λ (xs : List Use). (uses_with us (record { items = xs })).items) (take_all 48 (kept.items ++ u ∷ []) (omega (arith, counted, few)))
    ∙ put-all us (record { items = kept.items ++ u ∷ [] }) (omega (arith, counted, few))
    ∙ append_assoc kept.items (u ∷ []) us

pub put-one : (u : Use) (kept new : Items) → new ≡ uses_with (u ∷ []) kept → length kept.items + 1 ≤ 48
    → (new.items ≡ kept.items ++ u ∷ []) × (length new.items ≡ length kept.items + 1)
put-one u kept new is few =
    let one : new.items ≡ kept.items ++ u ∷ [] = ap (λ (k : Items). k.items) is ∙ put-all (u ∷ []) kept few in
    (one, ap length one ∙ length-append kept.items (u ∷ []))

uses-count : (ds : List ℕ) (past : List Past) (s : Fetching) (xs : List Wish) → length (told ds past (uses ds past s xs)) ≡ length xs
unfolding uses
uses-count ds past s [] = refl
uses-count ds past s (x ∷ xs) = ap suc (uses-count ds past (behind_use ds past s (use_of ds past s x)) xs)

module _ (ds : List ℕ) (past : List Past) (s : Fetching) where
  pub put-uses : (xs : List Wish) (n : ℕ) (kept new : Items) → length xs ≤ n → new ≡ uses_with (told ds past (uses ds past s xs)) kept → length kept.items + n ≤ 48
      → (new.items ≡ kept.items ++ told ds past (uses ds past s xs)) × (length new.items ≤ length kept.items + n)
  put-uses xs n kept new most is few =
      let counted = uses-count ds past s xs in
      let us = told ds past (uses ds past s xs) in
      let all : new.items ≡ kept.items ++ us = ap (λ (k : Items). k.items) is ∙ put-all us kept (omega (arith, counted, most, few)) in
      (all, omega (arith, ap length all, length-append kept.items us, counted, most))

-- its instruction words and its index-side word
pub put-formed : (ds : List ℕ) (f : IssueState) (e d : Entry) (kept new : Items) → e ≡ d → IsEntryInTime e → new ≡ uses_with (formed_told ds f d) kept → length kept.items + 5 ≤ 48
    → (new.items ≡ kept.items ++ formed_told ds f e) × (length new.items ≤ length kept.items + 5)
put-formed ds f e d kept new same range is few =
    let own = uses-count ds f.past (unused f.bus 0) (words_of Instruction (wanted_from f) e.own) in
    let target = uses-count ds f.past (own_fetched ds f e) (words_of Instruction (max (wanted_from f) f.c) e.target) in
    let side = uses-count ds f.past (unused (words_tick ds f e).bus 0) (wish_of e.side (tick_a ds f e)) in
    let a = told ds f.past (own_uses ds f e) in
    let b = told ds f.past (target_uses ds f e) in
    let i = told ds f.past (index_uses ds f e) in
    let counted : length (formed_told ds f e) ≤ 5 =
    omega (
      arith,
      length-append (a ++ b) i,
      length-append a b,
      own,
      target,
      side,
      wishes-length Instruction (wanted_from f) e.own.first e.own.len,
      wishes-length Instruction (max (wanted_from f) f.c) e.target.first e.target.len,
      one-side e.side,
      range.own_few,
      range.target_few,
    ) in
    let all : new.items ≡ kept.items ++ formed_told ds f e =
    ap (λ (k : Items). k.items) (is ∙ ap (λ (x : Entry). uses_with (formed_told ds f x) kept) (sym same)) ∙ put-all (formed_told ds f e) kept (omega (arith, counted, few)) in
    (all, omega (arith, ap length all, length-append kept.items (formed_told ds f e), counted))
  where
    one-side : (o : Option ℕ) → length (wish_of o (tick_a ds f e)) ≤ 1
    one-side None = omega arith
    one-side (Some w) = omega arith

register-count : (w n : ℕ) → length (register_uses w n) ≡ n
unfolding register_uses
register-count w zero = refl
register-count w (suc n) = ap suc (register-count (w + 1) n)

-- its operand words, registers included, and its following words
pub put-prepared : (ds : List ℕ) (f : IssueState) (e : Entry) (n : ℕ) (reads : Words) (x : WordRuns) (kept new : Items) → x ≡ registers_among reads e.reads → IsEntryInTime e → IsRuns reads
    → new ≡ uses_with (((register_uses x.one.first x.one.len ++ told ds f.past (first_uses ds n f e)) ++ (register_uses x.two.first x.two.len ++ told ds f.past (second_uses ds n f e)))
    ++ told ds [] (following_wishes ds n f e)) kept
    → length kept.items + 34 ≤ 48 → new.items ≡ kept.items ++ prepared_uses ds n f e reads
unfolding data_uses operand_uses following_uses read_words
put-prepared ds f e n reads x kept new among range runs is few =
    let p = tick_p ds n f e in
    let r = registers_among reads e.reads in
    let a = register_uses r.one.first r.one.len in
    let b = told ds f.past (first_uses ds n f e) in
    let c = register_uses r.two.first r.two.len in
    let d = told ds f.past (second_uses ds n f e) in
    let behind = told ds [] (following_wishes ds n f e) in
    let counted : length (((a ++ b) ++ (c ++ d)) ++ behind) ≤ 34 =
    omega (
      arith,
      length-append ((a ++ b) ++ (c ++ d)) behind,
      length-append (a ++ b) (c ++ d),
      length-append a b,
      length-append c d,
      register-count r.one.first r.one.len,
      register-count r.two.first r.two.len,
      uses-count ds f.past (unused (bus_a ds f e) p) (words_of Operand p e.reads.one),
      uses-count ds f.past (first_read ds n f e) (words_of Operand p e.reads.two),
      uses-count ds [] (unused (operands ds n f e).bus p) (followings e p),
      wishes-length Operand p e.reads.one.first e.reads.one.len,
      wishes-length Operand p e.reads.two.first e.reads.two.len,
      followings-length e p,
      range.one_few,
      range.two_few,
      runs.few,
      runs.few2,
    ) in
    ap (λ (k : Items). k.items) (is ∙ rw among refl) ∙ put-all (((a ++ b) ++ (c ++ d)) ++ behind) kept (omega (arith, counted, few))

-- ---- an index-side word that is a register

pub side-low : (side : Option ℕ) (w : ℕ) → side ≡ Some w → w < FIRST_STORAGE_WORD → side_register side ≡ record { role = Index; word = w; supply = Register } ∷ []
side-low side w is low = rw (is, lt-ltb w FIRST_STORAGE_WORD low) refl

pub side-parts : (ds : List ℕ) (past : List Past) (b : Bus) (side : Option ℕ) (a : ℕ)
    → side_uses ds past b side a ≡ told ds past (uses ds past (unused b 0) (wish_of (side_to_read side) a)) ++ side_register side
unfolding side_uses side_to_read uses
side-parts ds past b None a = refl
side-parts ds past b (Some w) a = elim (cases_Bool (nat_lt w FIRST_STORAGE_WORD)) [
  | inl low ↦ rw (low, lt-le w FIRST_STORAGE_WORD low) refl
  | inr high ↦ rw (high, le-of w FIRST_STORAGE_WORD high) refl
]
  where
    lt-le : (v first : ℕ) → nat_lt v first ≡ true → nat_le first v ≡ false
    lt-le v first low = grind (arith, nat_tests)

    le-of : (v first : ℕ) → nat_lt v first ≡ false → nat_le first v ≡ true
    le-of v first high = grind (arith, nat_tests)

-- one following word, and both of them
inside_if : (inside : Bool) (ds : List ℕ) (b : Bus) (w p : ℕ)
    → map (use_told ds []) (uses ds [] (unused b p) (if inside then record { role = Following; w = w; from = p } ∷ [] else []))
    ≡ (if inside then record { role = Following; word = w; supply = fetch_supply (tick_of b.held.words w) ds b w p } ∷ [] else [])
unfolding uses
inside_if true ds b w p = refl
inside_if false ds b w p = refl

pub inside-told : (ds : List ℕ) (b : Bus) (w p : ℕ)
    → inside_uses ds b w p ≡ (if nat_lt w words_of_storage then record { role = Following; word = w; supply = fetch_supply (tick_of b.held.words w) ds b w p } ∷ [] else [])
unfolding inside_uses
inside-told ds b w p = inside_if (nat_lt w words_of_storage) ds b w p

module _ (ds : List ℕ) (b : Bus) where
  both_if : (follows one two : Bool) (w p : ℕ)
      → map (use_told ds []) (uses ds [] (unused b p)
      (if follows then (if one then record { role = Following; w = w; from = p } ∷ [] else []) ++ (if two then record { role = Following; w = w + 1; from = p } ∷ [] else []) else []))
      ≡ (if follows
      then map (use_told ds []) (uses ds [] (unused b p) (if one then record { role = Following; w = w; from = p } ∷ [] else []))
      ++ map (use_told ds []) (uses ds [] (unused (if one then bus_after_request ds b w p else b) p) (if two then record { role = Following; w = w + 1; from = p } ∷ [] else []))
      else [])
  unfolding uses behind_use bus_after_request
  both_if false one two w p = refl
  both_if true true true w p = refl
  both_if true true false w p = refl
  both_if true false true w p = refl
  both_if true false false w p = refl

  pub following-told : (e : Entry) (p : ℕ)
      → following_uses ds b e p
      ≡ (if e.follows
      then inside_uses ds b (e.own.first + e.own.len) p ++ inside_uses ds (request_inside ds b (e.own.first + e.own.len) p) (e.own.first + e.own.len + 1) p
      else [])
  unfolding following_uses inside_uses
  following-told e p =
      let w = e.own.first + e.own.len in
      both_if e.follows (nat_lt w words_of_storage) (nat_lt (w + 1) words_of_storage) w p

module _ (ds : List ℕ) (f : IssueState) (e : Entry) where
  -- the index-side word is noted: first if it is read, and then if it is a register
  pub formed-used : (side : Option ℕ) (us vs xs : List Use) → e.side ≡ side_to_read side → vs ≡ us ++ formed_told ds f e
      → xs ≡ vs ++ side_register side → xs ≡ us ++ formed_uses ds f e side
  unfolding fetch_uses
  formed-used side us vs xs is one two =
      two-noted us vs xs (formed_told ds f e) (side_register side) one two
      ∙ ap (λ (zs : List Use). us ++ zs)
      (append_assoc (fetch_uses ds f e) (told ds f.past (index_uses ds f e)) (side_register side)
      ∙ ap (λ (zs : List Use). fetch_uses ds f e ++ zs)
      (ap (λ (o : Option ℕ). told ds f.past (uses ds f.past (unused (words_tick ds f e).bus 0) (wish_of o (tick_a ds f e))) ++ side_register side) is
      ∙ sym (side-parts ds f.past (words_tick ds f e).bus side (tick_a ds f e))))

-- all words of an entry, noted in an empty list
pub all-used : (ds : List ℕ) (n : ℕ) (f : IssueState) (e d : Entry) (side index : Option ℕ) (reads words : Words) (us vs ws : List Use)
    → e ≡ d → side ≡ index → reads ≡ words → us ≡ [] → vs ≡ us ++ formed_uses ds f e side → ws ≡ vs ++ prepared_uses ds n f e reads
    → ws ≡ uses_of_entry ds n f d index words
unfolding uses_of_entry
all-used ds n f e d side index reads words us vs ws e_is side_is reads_are none one two =
    two ∙ rw (one, none, e_is, side_is, reads_are) refl
