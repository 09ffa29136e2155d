-- The effect of a statement on the location counter, the image and the start, if its names are
-- defined and it has no fault.
use Rattle.st_dis.proofs.Common.{◌≡◌, ℕ, ℤ, ◌≤◌, ◌<◌, ◌+◌, ◌*◌, ◌%◌, ◌^◌, ◌==◌, ◌&&◌, ◌||◌, Bool, true, false, nat_le, nat_lt, not, List, [], ◌∷◌, Option, Some, None, is_none, unwrap_or, Ok, if◌then◌else◌, refl, ap, sym, ◌∙◌, arith, nat_tests, first_fault, Fault, AddressOutOfRange, ValueDoesNotFit, NotOnABoundary, LocationOutOfStorage, number_expr, statement_of, Statement, Half, Sum, Refill, Branch, Floating, Vfl, Connect, Move, BitBranch, IndBranch, StoreCounter, Transfer, Data, IndexWord, Synonym, SetLocation, Reserve, End, is_end, accepts_all, is_defined, values_of, value_modulo, placing_of, length_in, next_multiple, place_in, behind_in, naming_at_start, place_of_card, location_behind, in_range, fits, on_boundary, extent, in_storage, value_fault, half_word_bits, bits_of, image_with, emitted_if_read, emitted_by, emitted_alone, EmittedBits}
use Rattle.std.proofs.lemmas.Bool.{and_from as both_true}
use Rattle.st_dis.proofs.Said.{type_of}

-- the values of the expressions of a statement
abbrev Values : Type 0
Values = type_of (values_of [] (Refill 0))

-- the state between two cards: the location counter, the image and the start
pub record Stand : Type 0 where
  pub location : ℕ
  pub image : List ℕ
  pub start : ℕ

abbrev pub stand : ℕ → List ℕ → ℕ → Stand
stand location image start = record { location = location; image = image; start = start }

-- the location of a statement at a state if no names are defined
abbrev pub place_at : Stand → Statement → Option ℕ
place_at here s = place_of_card [] here.location (Some s)

-- a statement without names and without a fault leads from one state to another
pub record Steps (s : Statement) (here there : Stand) : Type 0 where
  pub known : accepts_all (is_defined []) s ≡ true
  pub faultless : value_fault s (values_of [] s) (unwrap_or (place_at here s) 0) ≡ None
  pub location : location_behind [] here.location (Some s) ≡ there.location
  pub image : image_with here.image (unwrap_or (place_at here s) 0) (length_in (placing_of s)) (bits_of s (values_of [] s)) ≡ there.image
  pub start : (if is_end s then half_word_bits (values_of [] s).first else here.start) ≡ there.start

-- the properties of a statement that assembles to bits by itself
record EmitsAlone (s : Statement) (wanted : EmittedBits) : Type 0 where
  known : accepts_all (is_defined []) s ≡ true
  faultless : value_fault s (values_of [] s) naming_at_start.location ≡ None
  emitted : record { length = length_in (placing_of s); bits = bits_of s (values_of [] s) } ≡ wanted

both_hold : (b c : Bool) (x y : EmittedBits) → (if b then (if c then Some x else None) else None) ≡ Some y →
    (b ≡ true) × (c ≡ true) × (x ≡ y)
both_hold true true x y same = (refl, refl, cc)
both_hold true false x y same = let no : ⊥ = cc in absurd no
both_hold false c x y same = let no : ⊥ = cc in absurd no

is-none : (o : Option Fault) → is_none o ≡ true → o ≡ None
is-none None h = refl
is-none (Some f) h = let no : ⊥ = cc in absurd no

emits-alone : (t : List ℕ) (s : Statement) (wanted : EmittedBits) → statement_of [] t ≡ Ok s → emitted_alone [] t ≡ Some wanted →
    EmitsAlone s wanted
unfolding emitted_alone emitted_by
emits-alone t s wanted read emits =
    let here : emitted_by [] s ≡ Some wanted = sym (ap (λ r. emitted_if_read [] r) read) ∙ emits in
    let fault = value_fault s (values_of [] s) naming_at_start.location in
    let parts = both_hold (accepts_all (is_defined []) s) (is_none fault)
    (record { length = length_in (placing_of s); bits = bits_of s (values_of [] s) }) wanted here in
    record { known = parts.0; faultless = is-none fault parts.1; emitted = parts.2 }

-- a location at which n bits can be assembled
pub record IsPlace (n a : ℕ) : Type 0 where
  pub some : n ≡ 0 → ⊥
  pub one : next_multiple 1 a ≡ a
  pub half : next_multiple 32 a ≡ a
  pub whole : n ≡ 64 → next_multiple 64 a ≡ a
  pub behind : 2048 ≤ a
  pub room : a + n ≤ 6291456

pub word-place : (w : ℕ) → 32 ≤ w → w < 98304 → IsPlace 64 (64 * w)
word-place w above small = record {
  some = λ h. omega arith;
  one = omega arith;
  half = omega arith;
  whole = λ h. omega arith;
  behind = omega arith;
  room = omega arith;
}

pub first-place : (w : ℕ) → 32 ≤ w → w < 98304 → IsPlace 32 (64 * w)
first-place w above small = record {
  some = λ h. omega arith;
  one = omega arith;
  half = omega arith;
  whole = λ h. omega arith;
  behind = omega arith;
  room = omega arith;
}

pub second-place : (w : ℕ) → 32 ≤ w → w < 98304 → IsPlace 32 (64 * w + 32)
second-place w above small = record {
  some = λ h. omega arith;
  one = omega arith;
  half = omega arith;
  whole = λ h. let no : ⊥ = omega arith in absurd no;
  behind = omega arith;
  room = omega arith;
}

-- the effect of n bits at such a location on the location counter
record GoesOn (s : Statement) (n a : ℕ) (v : ℤ) : Type 0 where
  place : place_in (placing_of s) a v ≡ Some a
  behind : behind_in (placing_of s) a v ≡ a + n
  long : extent (placing_of s) v ≡ n
  no_end : is_end s ≡ false

emits-on : (s : Statement) (u m n a : ℕ) (v : ℤ) → place_in (placing_of s) a v ≡ Some (next_multiple u a) →
    behind_in (placing_of s) a v ≡ (next_multiple u a + m) % 2 ^ 24 → extent (placing_of s) v ≡ m → is_end s ≡ false → m ≡ n → next_multiple u a ≡ a →
    IsPlace n a → GoesOn s n a v
emits-on s u m n a v place behind long no_end same on is =
    let room = is.room in
    let next : (next_multiple u a + m) % 2 ^ 24 ≡ a + n = ap (λ k. (k + m) % 2 ^ 24) on ∙ omega (arith, same, room) in
    record {
      place = place ∙ ap (λ k. Some k) on;
      behind = behind ∙ next;
      long = long ∙ same;
      no_end = no_end;
    }

goes-on : (s : Statement) (n a : ℕ) (v : ℤ) → length_in (placing_of s) ≡ n → IsPlace n a → GoesOn s n a v
goes-on (Half op j at) n a v long is = emits-on (Half op j at) 32 32 n a v refl refl refl refl long is.half is
goes-on (Sum j listed) n a v long is = emits-on (Sum j listed) 32 32 n a v refl refl refl refl long is.half is
goes-on (Refill j) n a v long is = emits-on (Refill j) 32 32 n a v refl refl refl refl long is.half is
goes-on (Branch op at) n a v long is = emits-on (Branch op at) 32 32 n a v refl refl refl refl long is.half is
goes-on (Floating number at) n a v long is = emits-on (Floating number at) 32 32 n a v refl refl refl refl long is.half is
goes-on (Vfl op negated form at offset) n a v long is =
    emits-on (Vfl op negated form at offset) 32 64 n a v refl refl refl refl long is.half is
goes-on (Connect kind truth form at offset) n a v long is =
    emits-on (Connect kind truth form at offset) 32 64 n a v refl refl refl refl long is.half is
goes-on (Move swap at second count) n a v long is = emits-on (Move swap at second count) 32 64 n a v refl refl refl refl long is.half is
goes-on (BitBranch sense change at second) n a v long is =
    emits-on (BitBranch sense change at second) 32 64 n a v refl refl refl refl long is.half is
goes-on (IndBranch sense off at second) n a v long is = emits-on (IndBranch sense off at second) 32 64 n a v refl refl refl refl long is.half is
goes-on (StoreCounter at second) n a v long is = emits-on (StoreCounter at second) 32 64 n a v refl refl refl refl long is.half is
goes-on (Transfer write at count) n a v long is = emits-on (Transfer write at count) 32 64 n a v refl refl refl refl long is.half is
goes-on (Data form minus number) n a v long is =
    emits-on (Data form minus number) 1 form.length n a v refl refl refl refl long is.one is
goes-on (IndexWord value count refill flags) n a v long is =
    emits-on (IndexWord value count refill flags) 64 64 n a v refl refl refl refl long (is.whole (sym long)) is
goes-on (Synonym at) n a v long is = absurd (is.some (sym long))
goes-on (SetLocation at) n a v long is = absurd (is.some (sym long))
goes-on (Reserve at) n a v long is = absurd (is.some (sym long))
goes-on (End at) n a v long is = absurd (is.some (sym long))

-- only the last of four tests depends on the location
fourth_test : (x y z p q : Bool) (f g h i : Fault) → first_fault ((x, f) ∷ (y, g) ∷ (z, h) ∷ (p, i) ∷ []) ≡ None → q ≡ false →
    first_fault ((x, f) ∷ (y, g) ∷ (z, h) ∷ (q, i) ∷ []) ≡ None
fourth_test true y z p q f g h i none is = let no : ⊥ = cc in absurd no
fourth_test false true z p q f g h i none is = let no : ⊥ = cc in absurd no
fourth_test false false true p q f g h i none is = let no : ⊥ = cc in absurd no
fourth_test false false false p q f g h i none is = ap (λ b. if b then Some i else None) is

pub faultless-elsewhere : (s : Statement) (v : Values) (a b : ℕ) → value_fault s v a ≡ None →
    in_storage b (extent (placing_of s) v.first) ≡ true → value_fault s v b ≡ None
unfolding value_fault
faultless-elsewhere s v a b none there =
    fourth_test (not (in_range s v)) (not (fits s v)) (not (on_boundary s v)) (not (in_storage a (extent (placing_of s) v.first)))
    (not (in_storage b (extent (placing_of s) v.first))) AddressOutOfRange ValueDoesNotFit NotOnABoundary LocationOutOfStorage
    none (ap not there)

or_true : (a b : Bool) → b ≡ true → (a || b) ≡ true
or_true true b h = refl
or_true false b h = h

pub in-storage : (a n : ℕ) → 2048 ≤ a → a + n ≤ 6291456 → in_storage a n ≡ true
unfolding in_storage
in-storage a n behind room =
    let first : nat_le 2048 a ≡ true = grind (arith, nat_tests) in
    let last : nat_le (a + n) 6291456 ≡ true = grind (arith, nat_tests) in
    or_true (n == 0) (nat_le 2048 a && nat_le (a + n) 6291456) (both_true (nat_le 2048 a) (nat_le (a + n) 6291456) first last)

-- a statement that assembles to bits by itself assembles to them at each such location
pub emits-steps : (t : List ℕ) (s : Statement) (n bits a start : ℕ) (old new : List ℕ) → statement_of [] t ≡ Ok s →
    emitted_alone [] t ≡ Some (record { length = n; bits = bits }) → IsPlace n a → image_with old a n bits ≡ new →
    Steps s (stand a old start) (stand (a + n) new start)
emits-steps t s n bits a start old new read emits is image =
    let alone = emits-alone t s (record { length = n; bits = bits }) read emits in
    let long : length_in (placing_of s) ≡ n = ap (λ (l : EmittedBits). l.length) alone.emitted in
    let number : bits_of s (values_of [] s) ≡ bits = ap (λ (l : EmittedBits). l.bits) alone.emitted in
    let v = (values_of [] s).first in
    let on = goes-on s n a v long is in
    let place : unwrap_or (place_in (placing_of s) a v) 0 ≡ a = ap (λ o. unwrap_or o 0) on.place in
    let inside : in_storage (unwrap_or (place_in (placing_of s) a v) 0) (extent (placing_of s) v) ≡ true =
    ap (λ k. in_storage k (extent (placing_of s) v)) place ∙ (ap (λ k. in_storage a k) on.long ∙ in-storage a n is.behind is.room) in
    record {
      known = alone.known;
      faultless = faultless-elsewhere s (values_of [] s) naming_at_start.location (unwrap_or (place_in (placing_of s) a v) 0) alone.faultless inside;
      location = on.behind;
      image = ap (λ k. image_with old k (length_in (placing_of s)) (bits_of s (values_of [] s))) place
          ∙ (ap (λ k. image_with old a k (bits_of s (values_of [] s))) long ∙ (ap (λ k. image_with old a n k) number ∙ image));
      start = ap (λ b. if b then half_word_bits v else start) on.no_end;
    }

-- a statement that sets the location counter has no fault
set-faultless : (n place : ℕ) → n < 2 ^ 24 →
    value_fault (SetLocation (number_expr n)) (values_of [] (SetLocation (number_expr n))) place ≡ None
unfolding value_fault in_range fits on_boundary in_storage values_of
set-faultless n place small =
    let below : nat_lt (n + 0) (2 ^ 24) ≡ true = grind (arith, nat_tests) in rw below

set-known : (n : ℕ) → accepts_all (is_defined []) (SetLocation (number_expr n)) ≡ true
unfolding accepts_all
set-known n = refl

set-location : (n : ℕ) → n < 2 ^ 24 → value_modulo (values_of [] (SetLocation (number_expr n))).first ≡ n
unfolding values_of value_modulo
set-location n small = omega arith

pub no-bits : (image : List ℕ) (place number : ℕ) → image_with image place 0 number ≡ image
unfolding image_with
no-bits image place number = refl

pub set-steps : (n location start : ℕ) (image : List ℕ) → n < 2 ^ 24 →
    Steps (SetLocation (number_expr n)) (stand location image start) (stand n image start)
set-steps n location start image small =
    let s = SetLocation (number_expr n) in
    let place = value_modulo (values_of [] s).first in
    record {
      known = set-known n;
      faultless = set-faultless n place small;
      location = set-location n small;
      image = no-bits image place (bits_of s (values_of [] s));
      start = refl;
    }

-- a statement that ends the program has no fault
end-faultless : (start place : ℕ) → start < 2 ^ 19 →
    value_fault (End (number_expr (32 * start))) (values_of [] (End (number_expr (32 * start)))) place ≡ None
unfolding value_fault in_range fits on_boundary in_storage values_of
end-faultless start place small =
    let below : nat_lt (32 * start + 0) (2 ^ 24) ≡ true = grind (arith, nat_tests) in
    let rest : (32 * start + 0) % 32 ≡ 0 = omega arith in
    let even : ((32 * start + 0) % 32 == 0) ≡ true = grind (arith, nat_tests, rest) in
    rw (below, even)

end-known : (n : ℕ) → accepts_all (is_defined []) (End (number_expr n)) ≡ true
unfolding accepts_all
end-known n = refl

end-start : (start : ℕ) → half_word_bits (values_of [] (End (number_expr (32 * start)))).first ≡ start
unfolding values_of
end-start start = omega arith

pub end-steps : (start location before : ℕ) (image : List ℕ) → start < 2 ^ 19 →
    Steps (End (number_expr (32 * start))) (stand location image before) (stand location image start)
end-steps start location before image small =
    let s = End (number_expr (32 * start)) in record {
      known = end-known (32 * start);
      faultless = end-faultless start 0 small;
      location = refl;
      image = no-bits image 0 (bits_of s (values_of [] s));
      start = end-start start;
    }
