use Rattle.st_ahead.proofs.Common.{◌+◌, refl, arith, delays-are}
use Rattle.st_ahead.proofs.Gone.{gone-on, lookahead-rests, oldest-late}
use Rattle.st_ahead.proofs.Settling.{lookahead-goes}
use Rattle.st_ahead.proofs.Laws.{lookaheads_are_levels}
use Rattle.st_ahead.proofs.lookahead.Lookahead.go_on.Goals as goal

pub returns-then-is_prepared_behind : goal.returns-then-is_prepared_behind
returns-then-is_prepared_behind g c = λ t f h.
    let yes = c.is_prepared_behind.ensures c.if-is_prepared_behind.true in
    lookahead-rests c.args.delays.now.list g.row.N c.args.now t c.args.state.now f c.args.self.now yes.0 yes.1 h

pub returns : goal.returns
returns g c = λ t f h.
    let ds = c.args.delays.now.list in
    let n = g.row.N in
    let s = c.args.state.now in
    let now = c.args.now in
    let are = delays-are c.args.delays.now in
    let v = c.args.self.now in
    let late = oldest-late ds n now now t s f v c.requires.some are (omega arith) h
    (lookaheads_are_levels ds n now now t s f v c.requires.some c.requires.few are (omega arith) c.go_to.ensures.before h) in
    let gone = c.go_to.ensures.goes t f now (record { tick = now; going = lookahead-goes ds n now t s f v h; behind = omega arith; soon = omega arith }) in
    let out = gone-on c.go_to.result ds n now now t s f c.go_to.new.self late gone in
    (c.fill.ensures.filled ds now (now + 1) t s f are out (omega arith) (omega arith) out.not_done (λ w. refl)).0
