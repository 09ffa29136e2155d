use Rattle.st_ahead.proofs.Common.{◌≡◌, false, None, sym, subst, rests, Overlap, Ended, interrupt_due}
use Rattle.st_ahead.proofs.Settling.{in-field, pass-inside}
use Rattle.st_ahead.proofs.Standing.{same-field}
use Rattle.st_ahead.specs.declared.phase.Phase.TheVariants as fields
use Rattle.st_ahead.proofs.machine.Machine.pass.Goals as goal

pub invariant_of-self : goal.invariant_of-self
invariant_of-self g c =
    let n = g.row.N in
    let i = c.self.inside in
    let is = in-field n i.delays.list i.committed.state i.committed.taken i.mispredicted i.now i.phase fields.Ended i.lookahead c.args.self.now c.self.invariant c.self.view_is
    (same-field _ i.phase fields.Ended (subst (λ (m : Overlap). m.phase ≡ Ended) (sym c.self.view_is) c.requires.ended)) in
    (pass-inside n i.delays.list i.committed.state i.committed.taken i.mispredicted i.now i.lookahead is.0
    (subst (λ (m : Overlap). interrupt_due m ≡ None) (sym is.1) c.requires.due)
    (subst (λ (m : Overlap). rests m.state ≡ false) (sym is.1) c.requires.goes)).0
