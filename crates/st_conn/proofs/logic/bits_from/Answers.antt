use Rattle.st_conn.proofs.Common.{◌/◌, ◌%◌, ◌^◌, ◌∙◌, ap, bit_and, bit_at, and_mask, shr-shr}
use Rattle.st_conn.proofs.TableRows.{bit_at-mod}
use Rattle.st_conn.proofs.logic.bits_from.Goals as goal

pub returns : goal.returns
returns c = λ j h.
    let above = c.args.acc / 2 ^ c.args.offset in
    ap (λ m. bit_at (bit_and above m) j) c.from.ensures
    ∙ ap (λ y. bit_at y j) (and_mask above 64)
    ∙ bit_at-mod above 64 j h
    ∙ ap (λ y. y % 2) (shr-shr c.args.acc c.args.offset j)
