-- Each statement of a generated deck is read, and assembles to one or two half-words at any
-- location in storage.
use Rattle.st_laws.proofs.Common.{◌≡◌, ◌≤◌, ◌<◌, ◌+◌, ◌*◌, ◌%◌, ◌^◌, ◌==◌, ℕ, ℤ, true, false, nat_le, nat_lt, List, [], ◌∷◌, ◌++◌, Some, None, unwrap_or, length, codes, Ok, refl, sym, ap, subst, ◌∙◌, if◌then◌else◌, arith, nat_tests, All-nil, All-cons, All-head, All-tail, All, statement_of, Statement, Half, Branch, Vfl, Connect, is_end, in_range, fits, on_boundary, extent, in_storage, value_fault, AreRead, IsOpen, Stand, stand, Steps, faultless-elsewhere, in-storage, draw, index, word_text, bit_text, small_value, field_length, byte_field_length, field_operands, form_after, drawn-cases}
use Rattle.st_bits.specs.declared.operations.HalfOp.{HalfOp}
use Rattle.st_bits.specs.declared.operations.HalfOp.TheVariants.{Lvi, VPlusI}
use Rattle.st_bits.specs.declared.operations.BranchOp.TheVariants.{Bew}
use Rattle.st_bits.specs.declared.operations.VflOp.{VflOp}
use Rattle.st_bits.specs.declared.operations.VflOp.TheVariants.{L, Add, St, MAdd1, Mul}
use Rattle.st_bits.specs.declared.operations.ConnKind.TheVariants.{C}
use Rattle.st_mnemonic.specs.Describing.{plain_form}
use Rattle.st_strap.specs.Spots.{number_spot, AreOperandNumbers, progressive_form}
use Rattle.st_mnemonic.specs.declared.form.Form.{Form as FieldForm}
use Rattle.st_strap.proofs.OperandCards.{load_value-read, add_value-read, load_word-read, add-read, store-read, add_one-read, connect-read, multiply-read, wait-read}
use Rattle.st_asm.specs.Symbols.{accepts_all, is_defined}
use Rattle.st_asm.specs.Values.{values_of}
use Rattle.st_asm.specs.Places.{placing_of, length_in, next_multiple, place_in, behind_in}
use Rattle.st_asm.specs.Emitting.{half_word_bits, bits_of}
use Rattle.st_asm.specs.Valuing.{image_with}
use Rattle.st_dis.proofs.WordsLead.{Leads}
use Rattle.st_gen.specs.Deck.{statement as made_statement}

-- a statement without names that assembles to one or two half-words, and is not END
pub record EmitsHalves (s : Statement) (count : ℕ) : Type 0 where
  pub few : count ≤ 64
  pub halves : count % 32 ≡ 0
  pub going : is_end s ≡ false
  pub known : accepts_all (is_defined []) s ≡ true
  pub faultless : value_fault s (values_of [] s) 2048 ≡ None
  pub place : (a : ℕ) (v : ℤ) → place_in (placing_of s) a v ≡ Some (next_multiple 32 a)
  pub behind : (a : ℕ) (v : ℤ) → behind_in (placing_of s) a v ≡ (next_multiple 32 a + count) % 2 ^ 24
  pub long : (v : ℤ) → extent (placing_of s) v ≡ count
  pub emitted : length_in (placing_of s) ≡ count

-- a text that is read as a statement of one or two half-words
pub record IsGood (text : List ℕ) : Type 0 where
  pub statement : Statement
  pub count : ℕ
  pub read : statement_of [] text ≡ Ok statement
  pub emits : EmitsHalves statement count

-- ---- operations on an index word

half-faultless : (op : HalfOp) (j a : ℕ) → a < 2 ^ 24 → a % 32 ≡ 0 →
    value_fault (Half op j (number_spot a 0)) (values_of [] (Half op j (number_spot a 0))) 2048 ≡ None
unfolding value_fault in_range fits on_boundary in_storage values_of
half-faultless op j a small even =
    let below : nat_lt (a + 0) (2 ^ 24) ≡ true = grind (arith, nat_tests) in
    let rest : (a + 0) % 32 ≡ 0 = omega (arith, even) in
    let halves : ((a + 0) % 32 == 0) ≡ true = grind (arith, nat_tests, rest) in
    rw (below, halves)

half-known : (op : HalfOp) (j a : ℕ) → accepts_all (is_defined []) (Half op j (number_spot a 0)) ≡ true
unfolding accepts_all
half-known op j a = refl

half-emits : (op : HalfOp) (j a : ℕ) → a < 2 ^ 24 → a % 32 ≡ 0 → EmitsHalves (Half op j (number_spot a 0)) 32
half-emits op j a small even = record {
  few = omega arith;
  halves = omega arith;
  going = refl;
  known = half-known op j a;
  faultless = half-faultless op j a small even;
  place = λ b v. refl;
  behind = λ b v. refl;
  long = λ v. refl;
  emitted = refl;
}

half-good : (text : List ℕ) (op : HalfOp) (j a : ℕ) → statement_of [] text ≡ Ok (Half op j (number_spot a 0)) → a < 2 ^ 24 → a % 32 ≡ 0 → IsGood text
half-good text op j a read small even = record {
  statement = Half op j (number_spot a 0);
  count = 32;
  read = read;
  emits = half-emits op j a small even;
}

-- ---- operations on a field

field-faultless : (op : VflOp) (f : FieldForm) (a i o : ℕ) → a < 2 ^ 24 → o ≤ 127 →
    value_fault (Vfl op false f (number_spot a i) o) (values_of [] (Vfl op false f (number_spot a i) o)) 2048 ≡ None
unfolding value_fault in_range fits on_boundary in_storage values_of
field-faultless op f a i o small short =
    let below : nat_lt (a + 0) (2 ^ 24) ≡ true = grind (arith, nat_tests) in
    let room : nat_le o 127 ≡ true = grind (arith, nat_tests) in
    rw (below, room)

field-known : (op : VflOp) (f : FieldForm) (a i o : ℕ) → accepts_all (is_defined []) (Vfl op false f (number_spot a i) o) ≡ true
unfolding accepts_all
field-known op f a i o = refl

field-emits : (op : VflOp) (f : FieldForm) (a i o : ℕ) → a < 2 ^ 24 → o ≤ 127 → EmitsHalves (Vfl op false f (number_spot a i) o) 64
field-emits op f a i o small short = record {
  few = omega arith;
  halves = omega arith;
  going = refl;
  known = field-known op f a i o;
  faultless = field-faultless op f a i o small short;
  place = λ b v. refl;
  behind = λ b v. refl;
  long = λ v. refl;
  emitted = refl;
}

field-good : (text : List ℕ) (op : VflOp) (f : FieldForm) (a i o : ℕ) → statement_of [] text ≡ Ok (Vfl op false f (number_spot a i) o) →
    a < 2 ^ 24 → o ≤ 127 →
    IsGood text
field-good text op f a i o read small short = record {
  statement = Vfl op false f (number_spot a i) o;
  count = 64;
  read = read;
  emits = field-emits op f a i o small short;
}

connect-faultless : (f : FieldForm) (a o : ℕ) → a < 2 ^ 24 → o ≤ 127 →
    value_fault (Connect C 6 f (number_spot a 0) o) (values_of [] (Connect C 6 f (number_spot a 0) o)) 2048 ≡ None
unfolding value_fault in_range fits on_boundary in_storage values_of
connect-faultless f a o small short =
    let below : nat_lt (a + 0) (2 ^ 24) ≡ true = grind (arith, nat_tests) in
    let room : nat_le o 127 ≡ true = grind (arith, nat_tests) in
    rw (below, room)

connect-known : (f : FieldForm) (a o : ℕ) → accepts_all (is_defined []) (Connect C 6 f (number_spot a 0) o) ≡ true
unfolding accepts_all
connect-known f a o = refl

connect-emits : (f : FieldForm) (a o : ℕ) → a < 2 ^ 24 → o ≤ 127 → EmitsHalves (Connect C 6 f (number_spot a 0) o) 64
connect-emits f a o small short = record {
  few = omega arith;
  halves = omega arith;
  going = refl;
  known = connect-known f a o;
  faultless = connect-faultless f a o small short;
  place = λ b v. refl;
  behind = λ b v. refl;
  long = λ v. refl;
  emitted = refl;
}

connect-good : (text : List ℕ) (f : FieldForm) (a o : ℕ) → statement_of [] text ≡ Ok (Connect C 6 f (number_spot a 0) o) → a < 2 ^ 24 → o ≤ 127 →
    IsGood text
connect-good text f a o read small short = record {
  statement = Connect C 6 f (number_spot a 0) o;
  count = 64;
  read = read;
  emits = connect-emits f a o small short;
}

-- ---- the branch that waits

wait-faultless : value_fault (Branch Bew None) (values_of [] (Branch Bew None)) 2048 ≡ None
unfolding value_fault in_range fits on_boundary in_storage values_of
wait-faultless = refl

wait-known : accepts_all (is_defined []) (Branch Bew None) ≡ true
unfolding accepts_all
wait-known = refl

pub wait-good : IsGood (codes "BEW")
wait-good = record {
  statement = Branch Bew None;
  count = 32;
  read = wait-read;
  emits = record {
    few = omega arith;
    halves = omega arith;
    going = refl;
    known = wait-known;
    faultless = wait-faultless;
    place = λ b v. refl;
    behind = λ b v. refl;
    long = λ v. refl;
    emitted = refl;
  };
}

-- ---- the drawn statements

drawn-operands : (x : ℕ) → AreOperandNumbers (1 + draw 1 64 x) (4096 + draw 2 256 x) (draw 3 64 x) (draw 4 64 x)
drawn-operands x = record {
  some_bits = omega arith;
  few_bits = omega arith;
  word = omega arith;
  bit = omega arith;
  offset = omega arith;
}

load_value-good : (x : ℕ) → IsGood (codes "LVI,$X" ++ index 1 x ++ codes "," ++ word_text 2 x ++ codes ".0")
load_value-good x =
    half-good (codes "LVI,$X" ++ index 1 x ++ codes "," ++ word_text 2 x ++ codes ".0") Lvi (1 + draw 1 7 x) (64 * (4096 + draw 2 256 x))
    (load_value-read (1 + draw 1 7 x) (4096 + draw 2 256 x) (omega arith) (omega arith) (omega arith)) (omega arith) (omega arith)

add_value-good : (x : ℕ) → IsGood (codes "V+I,$X" ++ index 1 x ++ codes "," ++ small_value 2 x ++ codes ".0")
add_value-good x =
    half-good (codes "V+I,$X" ++ index 1 x ++ codes "," ++ small_value 2 x ++ codes ".0") VPlusI (1 + draw 1 7 x) (64 * draw 2 4 x)
    (add_value-read (1 + draw 1 7 x) (draw 2 4 x) (omega arith) (omega arith) (omega arith)) (omega arith) (omega arith)

load_word-good : (x : ℕ) → IsGood (codes "L(BU,64)," ++ word_text 1 x ++ codes ".0")
load_word-good x =
    field-good (codes "L(BU,64)," ++ word_text 1 x ++ codes ".0") L (plain_form false true 64 8) (64 * (4096 + draw 1 256 x)) 0 0
    (load_word-read (4096 + draw 1 256 x) (omega arith)) (omega arith) (omega arith)

add-good : (x : ℕ) → IsGood (codes "+" ++ field_operands x)
add-good x =
    field-good (codes "+" ++ field_operands x) Add (plain_form false true (1 + draw 1 64 x) 8)
    (64 * (4096 + draw 2 256 x) + draw 3 64 x) 0 (draw 4 64 x)
    (add-read (1 + draw 1 64 x) (4096 + draw 2 256 x) (draw 3 64 x) (draw 4 64 x) (drawn-operands x)) (omega arith) (omega arith)

store-good : (x : ℕ) → IsGood (codes "ST" ++ field_operands x)
store-good x =
    field-good (codes "ST" ++ field_operands x) St (plain_form false true (1 + draw 1 64 x) 8)
    (64 * (4096 + draw 2 256 x) + draw 3 64 x) 0 (draw 4 64 x)
    (store-read (1 + draw 1 64 x) (4096 + draw 2 256 x) (draw 3 64 x) (draw 4 64 x) (drawn-operands x)) (omega arith) (omega arith)

add_one-good : (x : ℕ) → IsGood (codes "M+1(B," ++ byte_field_length 1 x ++ codes ",8)," ++ word_text 2 x ++ codes "." ++ bit_text 3 x)
add_one-good x =
    field-good (codes "M+1(B," ++ byte_field_length 1 x ++ codes ",8)," ++ word_text 2 x ++ codes "." ++ bit_text 3 x) MAdd1
    (plain_form false false (8 + draw 1 57 x) 8) (64 * (4096 + draw 2 256 x) + draw 3 64 x) 0 0
    (add_one-read (8 + draw 1 57 x) (4096 + draw 2 256 x) (draw 3 64 x) (omega arith) (omega arith) (omega arith) (omega arith)) (omega arith)
    (omega arith)

connect-drawn : (x : ℕ) → IsGood (codes "C0110" ++ field_operands x)
connect-drawn x =
    connect-good (codes "C0110" ++ field_operands x) (plain_form false true (1 + draw 1 64 x) 8) (64 * (4096 + draw 2 256 x) + draw 3 64 x)
    (draw 4 64 x)
    (connect-read (1 + draw 1 64 x) (4096 + draw 2 256 x) (draw 3 64 x) (draw 4 64 x) (drawn-operands x)) (omega arith) (omega arith)

multiply-good : (x : ℕ) → IsGood (codes "*(BU," ++ field_length 1 x ++ codes ")(V+I),0.32($X" ++ index 2 x ++ codes ")")
multiply-good x =
    field-good (codes "*(BU," ++ field_length 1 x ++ codes ")(V+I),0.32($X" ++ index 2 x ++ codes ")") Mul (progressive_form (1 + draw 1 64 x)) 32
    (1 + draw 2 7 x) 0
    (multiply-read (1 + draw 1 64 x) (1 + draw 2 7 x) (omega arith) (omega arith) (omega arith) (omega arith)) (omega arith) (omega arith)

pub made-good : (y x : ℕ) → IsGood (made_statement (form_after y) x)
made-good y x = drawn-cases IsGood (record {
  load_value = load_value-good;
  add_value = add_value-good;
  load_word = load_word-good;
  add = add-good;
  store = store-good;
  add_one = add_one-good;
  connect = connect-drawn;
  multiply = multiply-good;
}) y x

-- ---- sequences of statements

-- a location that is a multiple of 32, with room for the bits
halves-steps : (s : Statement) (count a start : ℕ) (image : List ℕ) → EmitsHalves s count → a % 32 ≡ 0 → 2048 ≤ a → a + count ≤ 6291456 →
    Steps s (stand a image start) (stand (a + count) (image_with image a count (bits_of s (values_of [] s))) start)
halves-steps s count a start image emits even above room =
    let v = (values_of [] s).first in
    let number = bits_of s (values_of [] s) in
    let same : next_multiple 32 a ≡ a = omega (arith, even, room) in
    let place : unwrap_or (place_in (placing_of s) a v) 0 ≡ a = ap (λ o. unwrap_or o 0) (emits.place a v) ∙ same in
    let inside : in_storage (unwrap_or (place_in (placing_of s) a v) 0) (extent (placing_of s) v) ≡ true =
    ap (λ k. in_storage k (extent (placing_of s) v)) place ∙ (ap (λ k. in_storage a k) (emits.long v) ∙ in-storage a count above room) in
    let next : (a + count) % 2 ^ 24 ≡ a + count = omega (arith, room) in
    record {
      known = emits.known;
      faultless = faultless-elsewhere s (values_of [] s) 2048 (unwrap_or (place_in (placing_of s) a v) 0) emits.faultless inside;
      location = emits.behind a v ∙ (ap (λ k. (k + count) % 2 ^ 24) same ∙ next);
      image = ap (λ k. image_with image k (length_in (placing_of s)) number) place ∙ ap (λ k. image_with image a k number) emits.emitted;
      start = ap (λ b. if b then half_word_bits v else start) emits.going;
    }

-- texts that are read as statements which lead from a state
pub record LeadOn (texts : List (List ℕ)) (here : Stand) : Type 0 where
  pub statements : List Statement
  pub read : AreRead texts statements
  pub going : All IsOpen statements
  pub location : ℕ
  pub image : List ℕ
  pub leads : Leads statements here (stand location image here.start)

pub good-leads : (texts : List (List ℕ)) (a start : ℕ) (image : List ℕ) → All IsGood texts → a % 32 ≡ 0 → 2048 ≤ a → a + 64 * length texts ≤ 6291456 →
    LeadOn texts (stand a image start)
good-leads [] a start image good even above room = record {
  statements = [];
  read = refl;
  going = All-nil IsOpen;
  location = a;
  image = image;
  leads = refl;
}
good-leads (t ∷ ts) a start image good even above room =
    let first = All-head IsGood t ts good in
    let s = first.statement in
    let count = first.count in
    let halves = first.emits.halves in
    let few = first.emits.few in
    let next = image_with image a count (bits_of s (values_of [] s)) in
    let rest = good-leads ts (a + count) start next (All-tail IsGood t ts good) (omega (arith, even, halves)) (omega arith)
    (omega (arith, few, room)) in
    record {
      statements = s ∷ rest.statements;
      read = (first.read, rest.read);
      going = All-cons IsOpen s rest.statements first.emits.going rest.going;
      location = rest.location;
      image = rest.image;
      leads = (stand (a + count) next start, halves-steps s count a start image first.emits even above (omega (arith, few, room)), rest.leads);
    }

-- the statements with one more statement after them
pub leads-behind : (ss : List Statement) (s : Statement) (here next there : Stand) → Leads ss here next → Steps s next there →
    Leads (ss ++ s ∷ []) here there
leads-behind [] s here next there same step = (there, subst (λ (k : Stand). Steps s k there) (sym same) step, refl)
leads-behind (x ∷ xs) s here next there lead step = (lead.0, lead.1, leads-behind xs s lead.0 next there lead.2 step)
