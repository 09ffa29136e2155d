-- Entries of states.
use Rattle.st_prep.proofs.Common.{◌≡◌, ℕ, ◌+◌, ◌-◌, ◌/◌, ◌^◌, ◌<◌, ◌≤◌, Bool, true, false, ◌||◌, ◌==◌, if◌then◌else◌, List, length, get_or, take, drop, Option, None, Some, is_some, refl, sym, ◌∙◌, ap, arith, bit_and, inl, inr, IfSome, get_or-take, get_or-drop, get_or_past, length-take, leb_tells, words_of_storage_is, Machine, IsMachine, word, indicator, indicator_word, Place, Decoded, decoded_entry, Fetched, FoundInstruction, effective, Reading, Finds, outcome, half_of, Continuation, with_second, with_first, read_after, instruction_at, is_execute, with_target, fetched_alone, own_use, reading_at_place, index_words, address_by, place_of, words_fetched, DecodeContext, needs, prepared_entry, decode_context, state_at_entry, side_word, side_of, plan, IsSeen, IsPlace, IsPrepared}
use Rattle.std.specs.Int.Bits.{or_zero_r}
use Rattle.st_bits.specs.Registers.{register_word}
use Rattle.st_state.proofs.Kept.{is_machine-with_word}
use Rattle.st_state.proofs.TurnedLemmas.{turned_below, turned-masks}
use Rattle.st_prep.proofs.Choices.{of_choice}
use Rattle.st_prep.proofs.FetchLemmas.{fetched-fits}
use Rattle.st_prep.proofs.PreparedLemmas.{IsDecodeContext, is_prepared, alone-serial}

-- ---- indicators

-- the indicator of an interrupt that is taken turns off
pub without-turned : (x off : ℕ) → x < 2 ^ 64 → off < 2 ^ 64 → bit_and x (2 ^ 64 - 1 - off) ≡ indicator_word 64 0 off x
without-turned x off word fits =
    sym (or_zero_r (bit_and x (2 ^ 64 - 1 - off))) ∙ turned-masks 0 off x (omega arith) fits word

-- ---- states

pub fixed-indicators : (x : ℕ) → register_word 11 x ≡ x
unfolding register_word
fixed-indicators x = refl

-- the state after an interrupt is taken is valid
pub is_machine-opened : (t : Option ℕ) (s : Machine) → IsMachine s → IsMachine (state_at_entry t s)
is_machine-opened None s m = m
is_machine-opened (Some i) s m =
    let x : ℕ = indicator_word 64 0 (indicator i) (word s 11) in
    let n = is_machine-with_word s 11 x m (omega (arith, words_of_storage_is)) (turned_below 64 0 (indicator i) (word s 11)) (fixed-indicators x) in
    record {
      size = n.size;
      counter = n.counter;
      below = n.below;
      registers = n.registers;
      reader_area = n.reader_area;
      printer_area = n.printer_area;
    }

side_word-below : (t : Option ℕ) (s : Machine) (w : Option ℕ) → IsMachine s → IfSome (side_word t s w) (λ x. x < 2 ^ 64)
side_word-below t s None m = tt
side_word-below t s (Some w) m = (is_machine-opened t s m).below w

index_words-below : (s : Machine) (j : ℕ) → IsMachine s → get_or (index_words s) j 0 < 2 ^ 64
unfolding index_words
index_words-below s j m =
    elim (leb_tells 16 j) [
      | inl past ↦
          let past_end : length (take 16 (drop 16 s.words)) ≤ j =
          let far : 16 ≤ j = past.1 in omega (arith, length-take 16 (drop 16 s.words)) in
          let zero : get_or (take 16 (drop 16 s.words)) j 0 ≡ 0 = get_or_past (take 16 (drop 16 s.words)) j 0 past_end in
          rw zero (omega arith)
      | inr near ↦
          let word_of : get_or (take 16 (drop 16 s.words)) j 0 ≡ word s (16 + j) =
          get_or-take 16 (drop 16 s.words) j 0 near.1 ∙ get_or-drop 16 s.words j 0 in
          rw word_of (m.below (16 + j))
    ]

address-below : (t : Option ℕ) (s : Machine) → IsMachine s → address_by t s < 2 ^ 19
address-below None s m = m.counter
address-below (Some i) s m = omega arith

place-fits : (s : Machine) (t : Option ℕ) → IsMachine s → IfSome t (λ i. i < 64) → IsPlace (place_of s t)
unfolding place_of
place-fits s t m some = record { counter = m.counter; address = address-below t s m; table = some }

pub decode_context-fits : (s : Machine) (t : Option ℕ) → IsMachine s → IfSome t (λ i. i < 64) → IsDecodeContext (decode_context s (place_of s t))
unfolding decode_context
decode_context-fits s t m some = record {
  place = place-fits s t m some;
  fetched = fetched-fits s (place_of s t);
  words = λ j. index_words-below s j m;
}

-- each entry of a state is in its ranges
pub plan-prepared : (s : Machine) (t : Option ℕ) → IsMachine s → IfSome t (λ i. i < 64) → IsPrepared (plan s t)
unfolding plan
plan-prepared s t m some =
    is_prepared _ _ (decode_context-fits s t m some) (side_word-below t s (needs (decode_context s (place_of s t))).index_read m)

-- ---- states with a given decode context

pub same_seen : (p q : Place) (f g : Fetched) (x y : List ℕ) (b c : ℕ) (m n : Bool) → p ≡ q → f ≡ g → x ≡ y → b ≡ c → m ≡ n
    → ◌≡◌ {A = DecodeContext} (record { place = p; fetched = f; x = x; bounds = b; enabled = m })
    (record { place = q; fetched = g; x = y; bounds = c; enabled = n })
same_seen p q f g x y b c m n e1 e2 e3 e4 e5 = cc

pub decode_context-seen : (s : Machine) (v : DecodeContext) → IsSeen s v → decode_context s (place_of s v.place.table) ≡ v
unfolding decode_context
decode_context-seen s v h =
    same_seen _ v.place _ v.fetched _ v.x _ v.bounds _ v.enabled h.place
    (ap (words_fetched s) h.place ∙ h.fetched) h.words h.bounds h.enabled

-- an entry that is prepared from the decode context of a state is the next entry of this state
pub prepared-plan : (s : Machine) (v : DecodeContext) (r : Option ℕ) → IsSeen s v → r ≡ side_of s v
    → prepared_entry v r ≡ plan s v.place.table
unfolding plan
prepared-plan s v r h e =
    ap (prepared_entry v) e
    ∙ ap (λ u. prepared_entry u (side_word v.place.table s (needs u).index_read)) (sym (decode_context-seen s v h))

-- ---- EX

-- in each result of the reading that has a target, the instruction is EX
abbrev pub TargetsExecute : Reading → (ℕ → ℕ) → Type 0
TargetsExecute r c = is_some (outcome r c).target ≡ true → is_execute (outcome r c).instr.instr ≡ true

with_second-executes : (f : Option ℕ) (t : Bool) (first h v content : ℕ) (k : Continuation) (c : ℕ → ℕ)
    → ((f : FoundInstruction) → TargetsExecute (k f) c) → TargetsExecute (with_second f t first h v content k) c
unfolding outcome
with_second-executes (Some i) t first h v content k c each = each _
with_second-executes None t first h v content k c each =
    of_choice (λ r. TargetsExecute r c) (h / 2 == v) _ _ (each _) (each _)

read_after-executes : (f : Option ℕ) (t : Bool) (b : ℕ) (en : Bool) (h : ℕ) (k : Continuation) (c : ℕ → ℕ)
    → ((f : FoundInstruction) → TargetsExecute (k f) c) → TargetsExecute (read_after f t b en h k) c
unfolding outcome with_first
read_after-executes (Some i) t b en h k c each = each _
read_after-executes None t b en h k c each =
    of_choice (λ r. TargetsExecute r c) ((decoded_entry (half_of (c (h / 2)) h) 0).halves == 2) _ _
    (with_second-executes _ t _ (h + 1) (h / 2) _ k c each) (each _)

at-executes : (t : Bool) (b : ℕ) (en : Bool) (h : ℕ) (k : Continuation) (c : ℕ → ℕ) → ((f : FoundInstruction) → TargetsExecute (k f) c)
    → TargetsExecute (instruction_at t b en h k) c
unfolding instruction_at
at-executes t b en h k c each = read_after-executes _ t b en h k c each

-- EX with any target
with_target-executes : (ex : Decoded) (c : ℕ → ℕ) (target : FoundInstruction) → is_execute ex.instr ≡ true
    → TargetsExecute (Finds (with_target ex target)) c
unfolding outcome
with_target-executes ex c target e h = e

alone-executes : (own : FoundInstruction) (c : ℕ → ℕ) → TargetsExecute (Finds (fetched_alone own)) c
unfolding outcome
alone-executes own c h = cc

own-executes : (e : Bool) (own : FoundInstruction) (x : List ℕ) (b : ℕ) (en : Bool) (c : ℕ → ℕ) → is_execute own.decoded.instr ≡ e
    → TargetsExecute
    (if e then instruction_at true b en (effective x own.decoded.instr / 32) (λ target. Finds (with_target own.decoded target))
    else Finds (fetched_alone own)) c
own-executes true own x b en c e =
    at-executes true b en (effective x own.decoded.instr / 32) _ c (λ target. with_target-executes own.decoded c target e)
own-executes false own x b en c e = alone-executes own c

own_use-executes : (x : List ℕ) (b : ℕ) (en : Bool) (c : ℕ → ℕ) (own : FoundInstruction) → TargetsExecute (own_use x b en own) c
unfolding own_use
own_use-executes x b en c own = own-executes (is_execute own.decoded.instr) own x b en c refl

-- a fetched entry with a target is EX
fetched-target : (s : Machine) (p : Place) → is_some (words_fetched s p).target ≡ true → is_execute (words_fetched s p).instr.instr ≡ true
unfolding words_fetched reading_at_place
fetched-target s p h =
    at-executes false (word s 3) s.enabled p.address _ (word s) (own_use-executes (index_words s) (word s 3) s.enabled (word s)) h

pub or-second : (a b : Bool) → b ≡ true → (a || b) ≡ true
or-second true b h = refl
or-second false b h = h

-- a fetched entry with a target is serializing
pub target-serial : (s : Machine) (i : Option ℕ) → is_some (words_fetched s (place_of s i)).target ≡ true → (plan s i).serial ≡ true
unfolding plan decode_context
target-serial s i h =
    let p = place_of s i in
    alone-serial _ _ (or-second (is_some p.table) (is_execute (words_fetched s p).instr.instr) (fetched-target s p h))
