use Rattle.st_ahead.proofs.Common.{◌≡◌, ◌+◌, false, None, sym, subst, ◌∙◌, arith, rests, oldest_issue, Overlap, interrupt_due, machine_after_pass, overlap_of, levels_are_the_entries_ahead}
use Rattle.st_ahead.proofs.Settling.{ended-settles, going, go-inside, lookahead-goes}
use Rattle.st_ahead.specs.declared.phase.Phase.TheVariants as fields
use Rattle.st_ahead.proofs.machine.Machine.go_on.Goals as goal

pub pass-requires : goal.pass-requires
pass-requires g c =
    (omega arith, (ended-settles c.args.self.now.phase (sym c.has_ended.ensures ∙ c.if-has_ended.true) c.requires.turn, (c.requires.due, c.requires.goes)))

pub go_on-requires : goal.go_on-requires
go_on-requires g c =
    let n = g.row.N in
    let i = c.self.inside in
    let is = going n i.delays.list i.committed.state i.committed.taken i.mispredicted i.now i.phase i.lookahead c.args.self.now c.self.invariant c.self.view_is c.requires.turn (sym c.has_ended.ensures ∙ c.if-has_ended.false) c.requires.right in
    let f = oldest_issue i.lookahead.levels.plans i.lookahead.issue in (
      omega arith,
      (
        c.self.invariant.some,
        (
          c.self.invariant.few,
          (
            is.early,
            record {
              tick = i.now;
              goes = record { table = i.committed.taken; issue = f; going = lookahead-goes i.delays.list n i.now i.committed.taken i.committed.state f i.lookahead is.lookahead };
              soon = omega arith;
            },
          ),
        ),
      ),
    )

pub invariant_of-self : goal.invariant_of-self
invariant_of-self g c =
    let n = g.row.N in
    let i = c.self.inside in
    let is = going n i.delays.list i.committed.state i.committed.taken i.mispredicted i.now i.phase i.lookahead c.args.self.now c.self.invariant c.self.view_is c.requires.turn (sym c.has_ended.ensures ∙ c.if-has_ended.false) c.requires.right in
    let f = oldest_issue i.lookahead.levels.plans i.lookahead.issue in
    let w = c.go_on.new.self in
    let lookahead = c.go_on.ensures i.committed.taken f is.lookahead in
    let all = go-inside n i.delays.list i.committed.state i.committed.taken i.now i.phase i.lookahead w is.inside is.early
    (subst (λ (m : Overlap). interrupt_due m ≡ None) (sym is.view) c.requires.due)
    (subst (λ (m : Overlap). rests m.state ≡ false) (sym is.view) c.requires.goes)
    lookahead (levels_are_the_entries_ahead.oldest i.delays.list n i.now i.committed.taken i.committed.state f w.issue w.levels lookahead.outlook.ahead) in
    rw is.right all.0

pub returns : goal.returns
returns g c =
    let n = g.row.N in
    let i = c.self.inside in
    let is = going n i.delays.list i.committed.state i.committed.taken i.mispredicted i.now i.phase i.lookahead c.args.self.now c.self.invariant c.self.view_is c.requires.turn (sym c.has_ended.ensures ∙ c.if-has_ended.false) c.requires.right in
    let f = oldest_issue i.lookahead.levels.plans i.lookahead.issue in
    let w = c.go_on.new.self in
    let lookahead = c.go_on.ensures i.committed.taken f is.lookahead in
    let all = go-inside n i.delays.list i.committed.state i.committed.taken i.now i.phase i.lookahead w is.inside is.early
    (subst (λ (m : Overlap). interrupt_due m ≡ None) (sym is.view) c.requires.due)
    (subst (λ (m : Overlap). rests m.state ≡ false) (sym is.view) c.requires.goes)
    lookahead (levels_are_the_entries_ahead.oldest i.delays.list n i.now i.committed.taken i.committed.state f w.issue w.levels lookahead.outlook.ahead) in
    rw is.right (subst (λ (m : Overlap). overlap_of n i.delays.list i.committed.state i.committed.taken None (i.now + 1) fields.Ready w ≡ machine_after_pass m) is.view all.1)
