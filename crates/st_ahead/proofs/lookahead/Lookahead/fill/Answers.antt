use Rattle.st_ahead.proofs.Common.{◌<◌, ◌≤◌, sym, subst, arith, All-weaker, Level, AreNotDone, LookaheadView}
use Rattle.std.proofs.Common.{All}
use Rattle.st_ahead.proofs.DoneLookahead.{all-filled, ahead-through}
use Rattle.st_ahead.proofs.lookahead.Lookahead.fill.Goals as goal

pub returns-clause-filled : goal.returns-clause-filled
returns-clause-filled g c = λ ds tick next t s f are h behind soon late words.
    let n = g.row.N in
    let now = c.args.now in
    let old = c.args.self.now in
    let inside : LookaheadView = record { levels = c.self.inside.levels; issue = c.self.inside.issue; log = c.self.inside.log; next = c.self.inside.next } in
    let ahead = ahead-through ds n tick next t s f inside old c.self.view_is h in
    let early = subst (λ (w : LookaheadView). All (λ (level : Level). level.p ≤ now) w.levels.ring) (sym c.self.view_is)
    (All-weaker (λ (level : Level). level.p < next) (λ level. level.p ≤ now) (λ level p. omega (arith, p, soon)) old.levels.ring h.prepared) in
    let filled = c.fill.ensures.ahead ds n tick 255 t s f inside.issue are h.machine h.indicator ahead behind early
    (subst (λ (w : LookaheadView). AreNotDone now w.levels) (sym c.self.view_is) late) words in
    all-filled ds n tick now next t s f inside old c.fill.new.self c.self.view_is h filled.0 filled.1 c.fill.ensures.plans late
