use Rattle.st_report.proofs.Common.{◌-◌, ◌≡◌, length, drop, ap, sym, ◌∙◌, arith, length-drop, length-append, drop-append-le, drop-drop}
use Rattle.st_report.proofs.from_end.LineFromEnd.put_end.Goals as goal

pub invariant_of-self : goal.invariant_of-self
invariant_of-self c =
    let here = c.self.inside in
    let line : length here.bytes - here.start ≡ length c.put.new.self = sym (length-drop here.start here.bytes) ∙ ap length c.self.view_is in
    let long = ap length c.put.ensures ∙ length-append c.args.piece c.args.self.now in
    omega (arith, line, long, c.self.told, c.self.invariant, c.requires.few)

pub returns : goal.returns
returns c =
    let before = c.args.before in
    sym (drop-drop before c.self.inside.start c.self.inside.bytes)
    ∙ ap (λ xs. drop before xs) (c.self.view_is ∙ c.put.ensures)
    ∙ drop-append-le before c.args.piece c.args.self.now (omega (arith, c.requires.few))
