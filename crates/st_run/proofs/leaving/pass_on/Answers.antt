use Rattle.st_run.proofs.Common.{sym, subst, ◌∙◌, ap, Together, Overlap, may_settle, MaySettle, IsLed, IsLedOn}
use Rattle.st_run.proofs.LedLemmas.{settle-led}
use Rattle.st_run.proofs.QuietLemmas.{passed-decided, passed-parts, passed-settles}
use Rattle.st_run.proofs.leaving.pass_on.Goals as goal

pub returns-clause-decided : goal.returns-clause-decided
returns-clause-decided g c passed =
    passed-decided c.args.left c.args.driven.now c.driven.inside.machine c.go_on.new.self _ _ c.driven.view_is c.requires.behind c.if-left-eq0.false
    c.args.halt.now.row.number c.requires.number (sym c.is_due.ensures ∙ c.if-is_due.false) (sym c.requires.quiet ∙ c.if-not-halt.false) c.go_on.ensures

pub returns-clause-delays : goal.returns-clause-delays
returns-clause-delays g c =
    (passed-parts c.args.left c.args.driven.now c.driven.inside.machine c.go_on.new.self _ _ c.driven.view_is c.requires.behind c.if-left-eq0.false
    c.args.halt.now.row.number c.requires.number (sym c.is_due.ensures ∙ c.if-is_due.false) (sym c.requires.quiet ∙ c.if-not-halt.false) c.go_on.ensures).delays

pub returns-clause-levels : goal.returns-clause-levels
returns-clause-levels g c =
    (passed-parts c.args.left c.args.driven.now c.driven.inside.machine c.go_on.new.self _ _ c.driven.view_is c.requires.behind c.if-left-eq0.false
    c.args.halt.now.row.number c.requires.number (sym c.is_due.ensures ∙ c.if-is_due.false) (sym c.requires.quiet ∙ c.if-not-halt.false) c.go_on.ensures).levels

pub returns-clause-led : goal.returns-clause-led
returns-clause-led g c =
    let m = c.driven.inside.machine in
    let settles = passed-settles c.args.left c.args.driven.now m c.go_on.new.self _ _ c.driven.view_is c.requires.behind c.if-left-eq0.false
    c.args.halt.now.row.number c.requires.number (sym c.is_due.ensures ∙ c.if-is_due.false) (sym c.requires.quiet ∙ c.if-not-halt.false) c.go_on.ensures in
    subst {A = Together} (λ t. IsLedOn t.machine c.go_on.new.self) c.driven.view_is (λ start led.
    subst {A = Overlap} (IsLed start) (sym settles)
    (settle-led m (subst (λ (t : Together). MaySettle t.machine) (sym c.driven.view_is) (ap may_settle c.requires.behind.phase)) led))
