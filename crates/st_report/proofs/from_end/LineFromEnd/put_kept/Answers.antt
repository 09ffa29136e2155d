use Rattle.st_report.proofs.Common.{◌≡◌, ◌++◌, ◌≤◌, length, decimal, ap, ◌∙◌, arith, length-append, length-decimal-le}
use Rattle.st_report.proofs.KeptLemmas.{near-pieces}
use Rattle.st_report.proofs.from_end.LineFromEnd.put_kept.Goals as goal

pub returns-clause-bytes : goal.returns-clause-bytes
returns-clause-bytes c =
    let near = c.requires.near in
    near-pieces c.args.n c.args.kept.now c.args.past _ _ _ _ _ near.0 c.requires.few near.1 c.ranges.n.fits c.two_digits.ensures
    c.digits-start.ensures.digits c.put.ensures c.put_end.ensures

pub returns-clause-room : goal.returns-clause-room
returns-clause-room c =
    let short : length (decimal c.args.n) ≤ 20 = length-decimal-le 20 c.args.n (omega arith) (omega arith) (omega arith) in
    let near = c.requires.near in
    let bytes : c.put_end.new.self ≡ decimal c.args.n ++ c.args.self.now = near-pieces c.args.n c.args.kept.now c.args.past _ _ _ _ _ near.0
    c.requires.few near.1 c.ranges.n.fits c.two_digits.ensures c.digits-start.ensures.digits c.put.ensures c.put_end.ensures in
    let long = ap length bytes ∙ length-append (decimal c.args.n) c.args.self.now in
    omega (arith, short, long)
