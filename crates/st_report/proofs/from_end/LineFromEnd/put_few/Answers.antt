use Rattle.st_report.proofs.Common.{◌-◌, ◌++◌, ◌≡◌, length, drop, ap, sym, ◌∙◌, arith, length-drop, length-append, drop-append-le, drop-drop}
use Rattle.st_report.proofs.KeptLemmas.{two-long}
use Rattle.st_report.proofs.from_end.LineFromEnd.put_few.Goals as goal

pub invariant_of-self : goal.invariant_of-self
invariant_of-self c =
    let here = c.self.inside in
    let two : length c.two_digits.result ≡ 2 = ap length c.two_digits.ensures ∙ two-long c.args.n c.requires.few in
    let line : length here.bytes - here.start ≡ length c.put.new.self = sym (length-drop here.start here.bytes) ∙ ap length c.self.view_is in
    let long = ap length c.put.ensures ∙ length-append c.two_digits.result c.args.self.now in
    omega (arith, two, line, long, c.self.told, c.self.invariant, c.zeros_before-before.ensures.few)

pub returns : goal.returns
returns c =
    let before = c.zeros_before-before.result in
    let two : length c.two_digits.result ≡ 2 = ap length c.two_digits.ensures ∙ two-long c.args.n c.requires.few in
    sym (drop-drop before c.self.inside.start c.self.inside.bytes)
    ∙ ap (λ xs. drop before xs) (c.self.view_is ∙ c.put.ensures)
    ∙ drop-append-le before c.two_digits.result c.args.self.now (omega (arith, two, c.zeros_before-before.ensures.few))
    ∙ ap (λ xs. xs ++ c.args.self.now) (ap (λ xs. drop before xs) c.two_digits.ensures ∙ c.zeros_before-before.ensures.rest)
