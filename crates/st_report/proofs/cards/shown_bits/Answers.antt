-- The shift loses no bit, since there are at most sixteen digits.
use Rattle.st_report.proofs.Common.{ℕ, ◌≤◌, ◌+◌, ◌*◌, ◌-◌, arith}
use Rattle.std.specs.Int.{div_ceil}
use Rattle.st_report.proofs.Shifts.{shifted_whole}
use Rattle.st_report.proofs.cards.shown_bits.Goals as goal

pub returns-clause-bytes : goal.returns-clause-bytes
returns-clause-bytes c =
    let n : ℕ = c.args.length in
    let room : n + (4 * div_ceil n 4 - n) ≤ 64 = omega arith in
    let whole = shifted_whole c.args.bits n (4 * div_ceil n 4 - n) c.requires.fits room in
    rw (c.push_hex.ensures.bytes, c.new-shown.ensures, c.div_ceil-digits.ensures, whole)
