use Rattle.st_report.proofs.Common.{◌≤◌, length, decimal, ap, ◌∙◌, arith, length-append, length-decimal-le}
use Rattle.st_report.proofs.from_end.LineFromEnd.put_word_number.Goals as goal

pub returns-then-n-lt100-clause-room : goal.returns-then-n-lt100-clause-room
returns-then-n-lt100-clause-room c =
    let short : length (decimal c.args.n) ≤ 20 = length-decimal-le 20 c.args.n (omega arith) (omega arith) (omega arith) in
    let long = ap length c.put_few.ensures ∙ length-append (decimal c.args.n) c.args.self.now in
    omega (arith, short, long)
