-- Lemmas on reading the parts of an assembled field.
use Rattle.st_laws.proofs.Common.{◌≡◌, ℕ, ◌+◌, ◌-◌, ◌*◌, ◌^◌, ◌<◌, ◌≤◌, ◌&&◌, Bool, true, false, refl, ap, ◌∙◌, arith, if◌then◌else◌, mod-mul-add, div-mul-add, sign_byte_of, IsRead}
use Rattle.std.proofs.Math.Pow.{pow_pos}
use Rattle.st_field.proofs.FieldLemmas.{each_byte}
use Rattle.st_field.specs.declared.fields.Shape.{Shape}
use Rattle.st_field.specs.Fields.{field_of, last_byte, sign_of, flags_of, zone_of}

-- a minus fits in its byte
minus-below : (b : ℕ) → 1 ≤ b → b ≤ 8 → sign_byte_of b true < 2 ^ b
minus-below b some small =
    each_byte (λ b. sign_byte_of b true < 2 ^ b)
    (omega arith) (omega arith) (omega arith) (omega arith) (omega arith) (omega arith) (omega arith) (omega arith)
    b some small

-- the sign byte, extended to four bits on the right, is the bit of value 8
minus-moved : (b : ℕ) → 1 ≤ b → b ≤ 8 → sign_byte_of b true * 2 ^ (4 - b) ≡ 8
minus-moved b some small =
    each_byte (λ b. sign_byte_of b true * 2 ^ (4 - b) ≡ 8)
    (omega arith) (omega arith) (omega arith) (omega arith) (omega arith) (omega arith) (omega arith) (omega arith)
    b some small

-- the last byte is the sign byte
last_byte-joined : (m s b : ℕ) → s < 2 ^ b → last_byte (m * 2 ^ b + s) b ≡ s * 2 ^ (4 - b)
last_byte-joined m s b room = ap (λ r. r * 2 ^ (4 - b)) (mod-mul-add m (2 ^ b) s room)

last_byte-minus : (m b : ℕ) → 1 ≤ b → b ≤ 8 → last_byte (m * 2 ^ b + sign_byte_of b true) b ≡ 8
last_byte-minus m b some small =
    last_byte-joined m (sign_byte_of b true) b (minus-below b some small) ∙ minus-moved b some small

last_byte-plus : (m b : ℕ) → last_byte (m * 2 ^ b + 0) b ≡ 0
last_byte-plus m b = last_byte-joined m 0 b (pow_pos b) ∙ omega arith

-- a magnitude, followed by a sign byte if the field is signed, is read with that magnitude and that
-- sign
pub parts-read : (unsigned minus negated : Bool) (m length b offset : ℕ) → (unsigned && minus) ≡ false → 1 ≤ b → b ≤ 8 →
    let h : Shape = record { length = length; byte = b; unsigned = unsigned; negated = negated; offset = offset } in
    let f = field_of (if unsigned then m else m * 2 ^ b + sign_byte_of b minus) h in
    IsRead f f.mag minus m
parts-read true true negated m length b offset plus some small = let no : ⊥ = cc in absurd no
parts-read true false negated m length b offset plus some small = record { same_number = refl; same_sign = refl; no_flags = refl; no_zone = refl }
parts-read false true negated m length b offset plus some small =
    let last = last_byte-minus m b some small in
    record {
      same_number = div-mul-add m (2 ^ b) (sign_byte_of b true) (minus-below b some small);
      same_sign = ap sign_of last;
      no_flags = ap flags_of last;
      no_zone = ap zone_of last;
    }
parts-read false false negated m length b offset plus some small =
    let last = last_byte-plus m b in
    record {
      same_number = div-mul-add m (2 ^ b) 0 (pow_pos b);
      same_sign = ap sign_of last;
      no_flags = ap flags_of last;
      no_zone = ap zone_of last;
    }
