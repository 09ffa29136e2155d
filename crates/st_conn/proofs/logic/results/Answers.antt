use Rattle.st_conn.proofs.Common.{sym, ◌∙◌, ap, arith, bit_at, connective_bits, truth_bit, result_at}
use Rattle.st_conn.proofs.TableRows.{bit_at-mod}
use Rattle.st_conn.proofs.Weights.{by_weight-bits}
use Rattle.st_conn.proofs.logic.results.Goals as goal

pub returns-clause-each : goal.returns-clause-each
unfolding connective_bits
returns-clause-each c =
    sym
    (by_weight-bits
    (result_at c.args.table c.args.acc c.args.offset c.args.field)
    c.low_bits.result
    c.args.n
    (λ j h.
    ap (λ a. truth_bit c.args.table (bit_at c.args.field j) a) (sym (c.bits_from.ensures j (omega arith)))
    ∙ sym (c.combined.ensures j (omega arith))
    ∙ sym (bit_at-mod c.combined.result c.args.n j h)
    ∙ ap (λ y. bit_at y j) (sym c.low_bits.ensures.value)))
