-- Consequences of a statement without a fault in the value pass.
use Rattle.st_asm.proofs.Common.{◌≡◌, ◌≤◌, ◌<◌, ◌+◌, ◌*◌, ◌==◌, ◌^◌, ◌&&◌, ℕ, ℤ, pos, negsuc, Bool, true, false, not, List, [], ◌∷◌, None, nat_lt, nat_le, length, is_some, unsigned_abs, refl, arith, first_fault, Fault, NameTwice, UndefinedSymbol, SymbolNotEarlier, TooManyNames, Statement, Named, is_name_taken, is_known, is_earlier, name_fault, table, ReadCard, is_address, in_range, fits, on_boundary, in_storage, extent, value_fault, placing_of, length_in, Placing, Emits, Passes, Sets, Names, Ends}
use Rattle.std.proofs.lemmas.Bool.{and_parts as both}
use Rattle.st_strap.proofs.StatementLemmas.{either as either-true}
use Rattle.st_strap.specs.declared.statement.Statement.TheVariants.{IndexWord}
use Rattle.st_asm.specs.declared.values.Values.{Values}

none_of : (a b c d : Bool) (e f g h : Fault) →
    first_fault ((not a, e) ∷ (not b, f) ∷ (not c, g) ∷ (not d, h) ∷ []) ≡ None →
    (a ≡ true) × (b ≡ true) × (c ≡ true) × (d ≡ true)
none_of true true true true e f g h none = (refl, refl, refl, refl)
none_of true true true false e f g h none = let no : ⊥ = cc in absurd no
none_of true true false d e f g h none = let no : ⊥ = cc in absurd no
none_of true false c d e f g h none = let no : ⊥ = cc in absurd no
none_of false b c d e f g h none = let no : ⊥ = cc in absurd no

-- a statement without a fault passes every test
pub faultless : (s : Statement) (v : Values) (place : ℕ) → value_fault s v place ≡ None →
    (in_range s v ≡ true) × (fits s v ≡ true) × (on_boundary s v ≡ true)
    × (in_storage place (extent (placing_of s) v.first) ≡ true)
unfolding value_fault
faultless s v place none =
    none_of (in_range s v) (fits s v) (on_boundary s v) (in_storage place (extent (placing_of s) v.first)) _ _ _ _ none

-- an address is below 2^24
pub address-below : (a : ℤ) → is_address a ≡ true → unsigned_abs a < 2 ^ 24
address-below (pos n) is = grind arith
address-below (negsuc n) is = let no : ⊥ = cc in absurd no

-- the second value is an address
pub second-below : (s : Statement) (v : Values) → in_range s v ≡ true → unsigned_abs v.second < 2 ^ 24
unfolding in_range
second-below (IndexWord value count refill flags) v is = address-below v.second is
second-below _ v is = address-below v.second (both (is_address v.first) (is_address v.second) is).1

-- the first value is an address, or the value of an index word
pub first-below : (s : Statement) (v : Values) → in_range s v ≡ true → fits s v ≡ true → unsigned_abs v.first < 2 ^ 24
unfolding in_range fits
first-below (IndexWord value count refill flags) v is good =
    let front = (both (nat_lt (unsigned_abs v.first) (2 ^ 24) && nat_le count 262143) (nat_le flags 7) good).0 in
    let value_fits = (both (nat_lt (unsigned_abs v.first) (2 ^ 24)) (nat_le count 262143) front).0 in
    grind arith
first-below _ v is good = address-below v.first (both (is_address v.first) (is_address v.second) is).0

-- the assembled bits are in storage if the assembled or skipped bits are
pub emitted-in_storage : (placing : Placing) (value : ℤ) (place : ℕ) → in_storage place (extent placing value) ≡ true →
    in_storage place (length_in placing) ≡ true
unfolding in_storage
emitted-in_storage (Emits unit bits) value place is = is
emitted-in_storage Passes value place is = refl
emitted-in_storage Sets value place is = refl
emitted-in_storage Names value place is = refl
emitted-in_storage Ends value place is = refl

-- if there is no fault, the first test is false
pub first-passes : (b : Bool) (fault : Fault) (rows : List (Bool × Fault)) → first_fault ((b, fault) ∷ rows) ≡ None → b ≡ false
first-passes true fault rows none = let no : ⊥ = cc in absurd no
first-passes false fault rows none = refl

-- a card without a fault has a new name
pub fresh-name : (on_cards : List ℕ → Bool) (named : Named) (line : ReadCard) → name_fault on_cards named line ≡ None →
    is_name_taken (table named.symbols) line.name ≡ false
unfolding name_fault
fresh-name on_cards named line none =
    let symbols = table named.symbols in
    first-passes (is_name_taken symbols line.name) NameTwice
    ((not (is_known on_cards line.statement), UndefinedSymbol)
    ∷ (not (is_earlier symbols line.statement), SymbolNotEarlier)
    ∷ (is_some line.name && nat_le 4000 (length named.symbols), TooManyNames) ∷ []) none

-- a nonempty range of bits in storage is after the registers and before the end
pub storage-means : (place count : ℕ) → in_storage place count ≡ true → (count ≡ 0 → ⊥) →
    (2048 ≤ place) × (place + count ≤ 64 * 98304)
unfolding in_storage
storage-means place count is some =
    let not_none : (count == 0) ≡ false = grind arith in
    let parts = both (nat_le 2048 place) (nat_le (place + count) (64 * 98304))
    (either-true (count == 0) (nat_le 2048 place && nat_le (place + count) (64 * 98304)) is not_none) in
    (grind (arith, parts.0), grind (arith, parts.1))
