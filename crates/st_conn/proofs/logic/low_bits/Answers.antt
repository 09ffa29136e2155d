use Rattle.st_conn.proofs.Common.{◌≡◌, ◌-◌, ◌^◌, ◌∙◌, ap, arith, bit_and, and_mask, mod_below, pow_pos, ones_shr}
use Rattle.st_conn.proofs.logic.low_bits.Goals as goal

pub returns-clause-value : goal.returns-clause-value
returns-clause-value c =
    let back : 64 - (64 - c.args.n) ≡ c.args.n = omega arith in
    ap (λ m. bit_and c.args.bits m) (ones_shr 64 (64 - c.args.n) (omega arith) ∙ ap (λ k. 2 ^ k - 1) back)
    ∙ and_mask c.args.bits c.args.n

pub returns-clause-bound : goal.returns-clause-bound
returns-clause-bound c = rw (returns-clause-value c) (mod_below _ _ (pow_pos c.args.n))
