use Rattle.st_dec.proofs.Common.{◌≡◌, ap, refl, ◌∙◌, number_of_bytes, decimal, digit_count, digit_bytes, bytes_with_codes}
use Rattle.st_dec.proofs.RecodeLemmas.{bytes-decimal}
use Rattle.st_dec.proofs.operand.with_digits.Goals as goal

magnitude : (c : goal.After-in_field) → c.recoded.result ≡ number_of_bytes c.args.shape.now.byte (bytes_with_codes (digit_bytes c.args.f.now c.args.shape.now) (decimal (digit_count c.args.shape.now) c.args.number))
magnitude c =
    let digits : c.to_decimal-digits.result.0 ≡ number_of_bytes 4 (decimal (digit_count c.args.shape.now) c.args.number) =
    c.to_decimal-digits.ensures.digits ∙ ap (λ n. number_of_bytes 4 (decimal n c.args.number)) c.digit_count.ensures.value in
    c.recoded.ensures.value ∙
    ap (λ cs. number_of_bytes c.args.shape.now.byte (bytes_with_codes (digit_bytes c.args.f.now c.args.shape.now) cs))
    (bytes-decimal (digit_count c.args.shape.now) c.args.number c.to_decimal-digits.result.0 digits)

pub returns-clause-value : goal.returns-clause-value
returns-clause-value c = rw (c.in_field.ensures.value, magnitude c, c.to_decimal-digits.ensures.lost, c.digit_count.ensures.value) refl
