use Rattle.st_report.proofs.Common.{◌≡◌, ◌-◌, ◌≤◌, length, decimal, arith, ap, sym, ◌∙◌, length-drop, length-decimal-le}
use Rattle.st_report.proofs.from_end.LineFromEnd.put_decimal.Goals as goal

pub write_digits-self-inside-requires : goal.write_digits-self-inside-requires
write_digits-self-inside-requires c =
    let short : length (decimal c.args.n) ≤ 20 = length-decimal-le 20 c.args.n (omega arith) (omega arith) (omega arith) in
    let here = c.self.inside in
    let line : length here.bytes - here.start ≡ length c.args.self.now =
    sym (length-drop here.start here.bytes) ∙ ap length c.self.view_is in
    (omega (arith, short, line, c.self.told, c.self.invariant, c.requires), omega (arith, c.self.told, c.self.invariant))

pub returns-clause-room : goal.returns-clause-room
returns-clause-room c =
    let short : length (decimal c.args.n) ≤ 20 = length-decimal-le 20 c.args.n (omega arith) (omega arith) (omega arith) in
    let here = c.self.inside in
    let line : length here.bytes - here.start ≡ length c.args.self.now =
    sym (length-drop here.start here.bytes) ∙ ap length c.self.view_is in
    let now = length-drop c.write_digits-self-inside.result c.write_digits-self-inside.new.buf in
    let digits = c.write_digits-self-inside in
    omega (arith, short, line, now, digits.auto.buf, digits.ensures.start, c.self.told, c.self.invariant)
