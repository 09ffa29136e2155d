use Rattle.st_dec.proofs.Common.{◌≡◌, ◌∙◌, sym, refl, last_digit_place, digit_bytes, codes_at_place, any_code, number_of_bytes, codes_value}
use Rattle.std.specs.Prelude.{take, drop}
use Rattle.st_dec.proofs.PartLemmas.{value_small, joined-at_place, value-at_place, any_code-lost}
use Rattle.st_dec.proofs.base.TenBase.at_place.Goals as goal

bits : (c : goal.After-digits_value) → c.shift-codes.result.bits ≡ number_of_bytes 4 (take 32 (codes_at_place c.args.taken.now.field c.args.taken.now.shape))
bits c =
    rw (c.shift-codes.ensures, c.from.ensures, c.codes-codes.ensures.value, c.digit_place.ensures.value)
    (sym (joined-at_place (last_digit_place c.args.taken.now.shape) (digit_bytes c.args.taken.now.field c.args.taken.now.shape)))

number : (c : goal.After-digits_value) → c.digits_value.result ≡ codes_value (take 32 (codes_at_place c.args.taken.now.field c.args.taken.now.shape))
number c =
    c.digits_value.ensures.value ∙
    value-at_place (last_digit_place c.args.taken.now.shape) c.shift-codes.result.bits (digit_bytes c.args.taken.now.field c.args.taken.now.shape) (bits c)

lost : (c : goal.After-digits_value) → c.shift-codes.result.is_lost ≡ any_code (drop 32 (codes_at_place c.args.taken.now.field c.args.taken.now.shape))
lost c =
    rw (c.shift-codes.ensures, c.from.ensures, c.codes-codes.ensures.value, c.digit_place.ensures.value, any_code-lost (last_digit_place c.args.taken.now.shape) (digit_bytes c.args.taken.now.field c.args.taken.now.shape))
    refl

pub returns-clause-value : goal.returns-clause-value
returns-clause-value c = rw (bits c, number c, lost c) refl

pub returns-clause-bound : goal.returns-clause-bound
returns-clause-bound c = rw c.digits_value.ensures.value (value_small c.shift-codes.result.bits)
