use Rattle.st_ahead.proofs.Common.{IsSome, IfSome, ◌≡◌, Some, refl, sym, subst, Machine, read_in, Ended, Overlap, overlap_of}
use Rattle.st_ahead.proofs.Cards.{card-inside, with-read}
use Rattle.st_ahead.proofs.Standing.{same-field}
use Rattle.st_ahead.specs.declared.phase.Phase.TheVariants as fields
use Rattle.st_ahead.proofs.machine.Machine.store_card.Goals as goal

pub invariant_of-self : goal.invariant_of-self
invariant_of-self g c =
    let n = g.row.N in
    let i = c.self.inside in
    let some = subst (λ (m : Overlap). IsSome m.state.reader) (sym c.self.view_is) c.requires.order in
    let over = same-field _ i.phase fields.Ended (subst (λ (m : Overlap). m.phase ≡ Ended) (sym c.self.view_is) c.requires.ended) in
    card-inside n i.delays.list i.committed.state c.read_in.new.state i.committed.taken i.mispredicted i.now i.phase i.lookahead i.committed.state.reader c.args.card c.self.invariant over
    refl some c.read_in.ensures.state c.read_in.ensures.after

pub returns : goal.returns
returns g c =
    let n = g.row.N in
    let i = c.self.inside in
    subst (λ (m : Overlap). IfSome m.state.reader (λ order. overlap_of n i.delays.list c.read_in.new.state i.committed.taken i.mispredicted i.now i.phase i.lookahead
    ≡ record m { state = read_in m.state order.word (Some c.args.card) }))
    c.self.view_is
    (with-read i.committed.state.reader (Some c.args.card) i.committed.state c.read_in.new.state (λ (u : Machine). overlap_of n i.delays.list u i.committed.taken i.mispredicted i.now i.phase i.lookahead) c.read_in.ensures.state)
