-- The appended digit is the last one, after those of the quotient.
use Rattle.st_text.proofs.Common.{append_assoc, arith, append-nil}
use Rattle.st_text.proofs.Hexadecimal.{hex_text-zero, hex_text-last}
use Rattle.st_text.proofs.lines.+push_hex.Goals as goal

pub returns-then-digits-eq0-clause-bytes : goal.returns-then-digits-eq0-clause-bytes
returns-then-digits-eq0-clause-bytes t c =
    let none = hex_text-zero c.args.digits c.args.n c.if-digits-eq0.true in rw (none, append-nil)

pub returns-clause-bytes : goal.returns-clause-bytes
returns-clause-bytes t c =
    let last = hex_text-last c.args.digits c.args.n (omega arith) in
    let pushed = c.push.ensures.ascii c.hex_char.ensures.ascii in
    rw (last, pushed, c.push_hex.ensures.bytes, c.hex_char.ensures.value, append_assoc)
