use Rattle.st_ahead.proofs.Common.{◌≡◌, ℕ, Option, None, Some, ap, sym, subst, ◌∙◌, arith, interrupt, Overlap, Ended, overlap_of, IsInside}
use Rattle.st_ahead.proofs.Settling.{serve-settles, ended-rest, in-field, due-taken, interrupt-taken, answer-interrupt, settled-interrupt}
use Rattle.st_ahead.proofs.Standing.{same-field}
use Rattle.st_ahead.specs.declared.phase.Phase.TheVariants as fields
use Rattle.st_ahead.proofs.machine.Machine.interrupt.Goals as goal

pub overflow_add-self : goal.overflow_add-self
overflow_add-self g c =
    let i = c.self.inside in
    let rest = ended-rest c.args.self.now c.end-dropped.new.self c.end-dropped.ensures.after in
    let over = same-field _ i.phase fields.Ended (subst (λ (m : Overlap). m.phase ≡ Ended) (sym c.self.view_is) (rest.phase (serve-settles c.args.self.now.phase c.requires.turn))) in
    let is = in-field g.row.N i.delays.list i.committed.state i.committed.taken i.mispredicted i.now i.phase fields.Ended i.lookahead c.end-dropped.new.self c.self.invariant c.self.view_is over in
    omega (arith, is.0.in_time)

pub invariant_of-self : goal.invariant_of-self
invariant_of-self g c =
    let n = g.row.N in
    let i = c.self.inside in
    let e = c.end-dropped.new.self in
    let rest = ended-rest c.args.self.now e c.end-dropped.ensures.after in
    let due = due-taken c.args.self.now c.args.indicator c.requires.due in
    let none : i.committed.taken ≡ None = ap (λ (m : Overlap). m.taken) c.self.view_is ∙ rest.taken ∙ due.0 in
    let now : interrupt i.committed.state ≡ Some c.args.indicator = ap (λ (m : Overlap). interrupt m.state) c.self.view_is ∙ ap interrupt rest.state ∙ due.1 in
    let over = same-field _ i.phase fields.Ended (subst (λ (m : Overlap). m.phase ≡ Ended) (sym c.self.view_is) (rest.phase (serve-settles c.args.self.now.phase c.requires.turn))) in
    let is = in-field n i.delays.list i.committed.state i.committed.taken i.mispredicted i.now i.phase fields.Ended i.lookahead e c.self.invariant c.self.view_is over in
    let at = subst (λ (k : Option ℕ). IsInside (overlap_of n i.delays.list i.committed.state k i.mispredicted i.now fields.Ended i.lookahead) i.lookahead
    × (overlap_of n i.delays.list i.committed.state k i.mispredicted i.now fields.Ended i.lookahead ≡ e)) none is in
    let all = interrupt-taken n i.delays.list i.committed.state i.mispredicted i.now i.lookahead c.stand.new.self c.args.indicator at.0 c.requires.known now c.place_of-place.ensures.value c.stand.ensures in
    all.0

pub returns-clause-answer : goal.returns-clause-answer
returns-clause-answer g c =
    let rest = ended-rest c.args.self.now c.end-dropped.new.self c.end-dropped.ensures.after in
    let state = ap (λ (m : Overlap). m.state) c.self.view_is ∙ rest.state in
    let all = answer-interrupt c.args.self.now c.self.inside.committed.state c.args.indicator c.end-dropped.result state c.end-dropped.ensures.dropped c.requires.due in
    rw (c.done_in-done.ensures, c.counter_in-ic.ensures.value) all

pub returns-clause-after : goal.returns-clause-after
returns-clause-after g c =
    let n = g.row.N in
    let i = c.self.inside in
    let e = c.end-dropped.new.self in
    let rest = ended-rest c.args.self.now e c.end-dropped.ensures.after in
    let due = due-taken c.args.self.now c.args.indicator c.requires.due in
    let none : i.committed.taken ≡ None = ap (λ (m : Overlap). m.taken) c.self.view_is ∙ rest.taken ∙ due.0 in
    let now : interrupt i.committed.state ≡ Some c.args.indicator = ap (λ (m : Overlap). interrupt m.state) c.self.view_is ∙ ap interrupt rest.state ∙ due.1 in
    let over = same-field _ i.phase fields.Ended (subst (λ (m : Overlap). m.phase ≡ Ended) (sym c.self.view_is) (rest.phase (serve-settles c.args.self.now.phase c.requires.turn))) in
    let is = in-field n i.delays.list i.committed.state i.committed.taken i.mispredicted i.now i.phase fields.Ended i.lookahead e c.self.invariant c.self.view_is over in
    let at = subst (λ (k : Option ℕ). IsInside (overlap_of n i.delays.list i.committed.state k i.mispredicted i.now fields.Ended i.lookahead) i.lookahead
    × (overlap_of n i.delays.list i.committed.state k i.mispredicted i.now fields.Ended i.lookahead ≡ e)) none is in
    let all = interrupt-taken n i.delays.list i.committed.state i.mispredicted i.now i.lookahead c.stand.new.self c.args.indicator at.0 c.requires.known now c.place_of-place.ensures.value c.stand.ensures in
    settled-interrupt c.args.self.now (overlap_of n i.delays.list i.committed.state None i.mispredicted i.now fields.Ended i.lookahead) _ c.args.indicator
    (at.1 ∙ c.end-dropped.ensures.after) c.requires.due all.1
