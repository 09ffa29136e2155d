use Rattle.st_ahead.proofs.Common.{IsSome, ap, sym, subst, arith, Machine, may_serve}
use Rattle.st_ahead.proofs.Settling.{serve-settles, ended-rest}
use Rattle.st_ahead.proofs.Cards.{read-ended}
use Rattle.st_ahead.proofs.machine.Machine.read_in.Goals as goal

pub store_card-requires : goal.store_card-requires
store_card-requires g c =
    let rest = ended-rest c.args.self.now c.end-dropped.new.self c.end-dropped.ensures.after in
    let over = rest.phase (serve-settles c.args.self.now.phase c.requires.turn) in
    (omega arith, (subst (λ (s : Machine). IsSome s.reader) (sym rest.state) c.requires.order, (ap may_serve over, over)))

pub returns-clause-after : goal.returns-clause-after
returns-clause-after g c =
    let m = c.args.self.now in
    let rest = ended-rest m c.end-dropped.new.self c.end-dropped.ensures.after in
    read-ended m c.end-dropped.new.self c.store_card.new.self c.in-Some.words c.args.card c.in-Some.is c.end-dropped.ensures.after rest.state c.store_card.ensures
