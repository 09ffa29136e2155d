-- Lemmas on numbers that are combined into fields.
use Rattle.st_asm.proofs.Common.{mod-eq_of_lt, ◌≡◌, ◌≤◌, ◌<◌, ◌+◌, ◌-◌, ◌*◌, ◌/◌, ◌%◌, ◌^◌, ◌&&◌, ◌||◌, ◌==◌, ℕ, zero, suc, Bool, true, false, not, nat_lt, subst, refl, ap, sym, ◌∙◌, arith, if◌then◌else◌, IsTrue, IsFalse, holds, packed_digits, capacity, magnitude_bits_of, IsNumberForm}
use Rattle.std.proofs.lemmas.Bool.{not-false as not_true, or_parts as either_false}
use Rattle.std.proofs.Math.Pow.{pow_mono, pow-lt}
use Rattle.std.proofs.Math.Nat.{mod-le, add-mod_left}
use Rattle.st_bits.proofs.WordFields.{below-joined}
use Rattle.st_format.specs.Validity.{misfits}
use Rattle.st_mnemonic.specs.declared.form.Form.{Form}

-- a high part of m bits before n low bits: no bit is lost, and the combination has k bits
pub joined-parts : (h l m n k : ℕ) → h < 2 ^ m → l < 2 ^ n → k ≡ m + n → k ≤ 64 →
    (h * 2 ^ n % 2 ^ 64 + l ≡ h * 2 ^ n + l) × (h * 2 ^ n + l < 2 ^ k) × (h * 2 ^ n + l < 2 ^ 64)
joined-parts h l m n k high low size few =
    let below : h * 2 ^ n + l < 2 ^ k = below-joined h l m n k high low size in
    let most : 2 ^ k ≤ 2 ^ 64 = pow_mono few in
    let alone : h * 2 ^ n < 2 ^ 64 = omega arith in
    (ap (λ x. x + l) (mod-eq_of_lt alone), below, omega arith)

times-suc : (b k : ℕ) → b * suc k ≡ b * k + b
times-suc b k = omega arith

-- the width of one more digit
pub more-digits : (b count : ℕ) → (count ≡ 0 → ⊥) → b * count ≡ b * (count - 1) + b
more-digits b zero some = absurd (some refl)
more-digits b (suc k) some =
    let one_less : suc k - 1 ≡ k = omega arith in
    times-suc b k ∙ ap (λ c. b * c + b) (sym one_less)

-- the digits of a number by its last one
pub packed-more : (byte count number : ℕ) → (count ≡ 0 → ⊥) →
    packed_digits byte count number ≡ packed_digits byte (count - 1) (number / 10) * 2 ^ byte + number % 10
unfolding packed_digits
packed-more byte zero number some = absurd (some refl)
packed-more byte (suc k) number some =
    let one_less : suc k - 1 ≡ k = omega arith in
    ap (λ c. packed_digits byte c (number / 10) * 2 ^ byte + number % 10) (sym one_less)

pub packed-none : (byte count number : ℕ) → count ≡ 0 → packed_digits byte count number ≡ 0
unfolding packed_digits
packed-none byte zero number none = refl
packed-none byte (suc k) number none = let no : ⊥ = omega arith in absurd no

-- a digit fits a byte of at least four bits
pub digit-below : (byte number : ℕ) → 4 ≤ byte → number % 10 < 2 ^ byte
digit-below byte number some =
    let most : 2 ^ 4 ≤ 2 ^ byte = pow_mono some in
    let digit : number % 10 < 10 = omega arith in
    omega arith

-- a sign fits its byte
pub sign-below : (byte place : ℕ) → place < byte → 1 * 2 ^ place % 2 ^ 64 < 2 ^ byte
sign-below byte place within =
    let below : 2 ^ place < 2 ^ byte = pow-lt within in
    let whole : 1 * 2 ^ place ≡ 2 ^ place = omega arith in
    let kept : 1 * 2 ^ place % 2 ^ 64 ≤ 1 * 2 ^ place = mod-le (1 * 2 ^ place) (2 ^ 64) in
    omega arith

-- a decimal field consists of whole bytes
pub whole_bytes : (unsigned : Bool) (bits byte : ℕ) → IsFalse (misfits true unsigned bits byte) → bits % byte ≡ 0
whole_bytes unsigned bits byte fits =
    let first = (either_false (nat_lt byte 4 || not (bits % byte == 0)) (not unsigned && nat_lt bits byte) fits).0 in
    let second = (either_false (nat_lt byte 4) (not (bits % byte == 0)) first).1 in
    let is = not_true (bits % byte == 0) second in
    grind arith

-- a signed field has room for its sign byte
pub sign_room : (decimal : Bool) (bits byte : ℕ) → IsFalse (misfits decimal false bits byte) → byte ≤ bits
sign_room decimal bits byte fits =
    let second = (either_false (decimal && (nat_lt byte 4 || not (bits % byte == 0))) (nat_lt bits byte) fits).1 in
    grind arith

-- whole bytes without one byte are whole bytes
pub less-whole : (bits byte : ℕ) → 1 ≤ byte → byte ≤ bits → bits % byte ≡ 0 → byte * ((bits - byte) / byte) ≡ bits - byte
less-whole bits byte some room whole =
    let x = bits - byte in
    let joined : byte + (bits - byte) ≡ bits = omega arith in
    let rest : x % byte ≡ 0 = sym (add-mod_left byte x) ∙ (ap (λ n. n % byte) joined ∙ whole) in
    omega arith

pub all-whole : (bits byte : ℕ) → 1 ≤ byte → bits % byte ≡ 0 → byte * (bits / byte) ≡ bits
all-whole bits byte some whole = omega arith

-- a number that fits in a field is below its capacity
pub holds-below : (form : Form) (minus : Bool) (number : ℕ) → IsTrue (holds form minus number) → number < capacity form
unfolding holds
holds-below form minus number held =
    let most = both_parts (not (form.unsigned && minus)) (nat_lt number (capacity form)) held in
    grind arith
  where
    both_parts : (a b : Bool) → (a && b) ≡ true → b ≡ true
    both_parts true b e = e
    both_parts false b e = let no : ⊥ = cc in absurd no

-- the digits of a decimal field fill it
pub digits-whole : (form : Form) → IsNumberForm form → form.decimal ≡ true →
    form.byte * (magnitude_bits_of form / form.byte) ≡ magnitude_bits_of form
digits-whole form is decimal = sized form.unsigned refl
  where
    fits : (unsigned : Bool) → form.unsigned ≡ unsigned → IsFalse (misfits true unsigned form.length form.byte)
    fits unsigned e =
        subst (λ u. IsFalse (misfits true u form.length form.byte)) e
        (subst (λ d. IsFalse (misfits d form.unsigned form.length form.byte)) decimal is.fits)

    sized : (unsigned : Bool) → form.unsigned ≡ unsigned →
        form.byte * ((if unsigned then form.length else form.length - form.byte) / form.byte)
        ≡ (if unsigned then form.length else form.length - form.byte)
    sized true e = all-whole form.length form.byte is.sizes.some_byte (whole_bytes true form.length form.byte (fits true e))
    sized false e =
        less-whole form.length form.byte is.sizes.some_byte (sign_room true form.length form.byte (fits false e))
        (whole_bytes false form.length form.byte (fits false e))

-- a magnitude and a sign byte fill a signed field
pub signed-parts : (form : Form) (m s : ℕ) → IsNumberForm form → form.unsigned ≡ false → m < 2 ^ magnitude_bits_of form →
    s < 2 ^ form.byte →
    (m * 2 ^ form.byte % 2 ^ 64 + s ≡ m * 2 ^ form.byte + s) × (m * 2 ^ form.byte + s < 2 ^ form.length)
    × (m * 2 ^ form.byte + s < 2 ^ 64)
signed-parts form m s is signed high low =
    let fits = subst (λ u. IsFalse (misfits form.decimal u form.length form.byte)) signed is.fits in
    let room : form.byte ≤ form.length = sign_room form.decimal form.length form.byte fits in
    let bits = ap (λ u. if u then form.length else form.length - form.byte) signed in
    let below : m < 2 ^ (form.length - form.byte) = subst (λ k. m < 2 ^ k) bits high in
    joined-parts m s (form.length - form.byte) form.byte form.length below low (omega arith) is.sizes.few_bits
