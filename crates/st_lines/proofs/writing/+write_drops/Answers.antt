use Rattle.st_lines.proofs.Common.{refl, nil_from_length, origin_at}
use Rattle.st_lines.proofs.LineLemmas.{drops_cut, drops_then, drops_none, put_then, put_cut}
use Rattle.st_lines.proofs.writing.+write_drops.Goals as goal

pub returns-in_err-put : goal.returns-in_err-put
returns-in_err-put g t c =
    let d = c.args.dropped.now in
    drops_cut (origin_at d.origins.now c.args.state.now) _ _ d.n d.tick d.found.now _ _ _ _ _ c.from_residual.ensures.0 c.in-Some.ensures.cases.0 refl
    (put_cut _ _ _ _ _ _ _ refl c.line_drop.ensures c.in_err-put.ensures)

pub returns-in_err-write_ahead_facts : goal.returns-in_err-write_ahead_facts
returns-in_err-write_ahead_facts g t c =
    let d = c.args.dropped.now in
    drops_cut (origin_at d.origins.now c.args.state.now) _ _ d.n d.tick d.found.now _ _ _ _ _ c.from_residual-in_err-write_ahead_facts.ensures.0 c.in-Some.ensures.cases.0
    c.at.ensures (put_then _ _ _ _ _ _ _ _ _ c.line_drop.ensures refl c.in_ok-put.ensures c.in_err-write_ahead_facts.ensures)

pub returns : goal.returns
returns g t c =
    let d = c.args.dropped.now in
    drops_then (origin_at d.origins.now c.args.state.now) _ _ _ d.n d.tick d.found.now _ _ _ _ _ c.in-Some.ensures.cases.0 c.at.ensures
    (put_then _ _ _ _ _ _ _ _ _ c.line_drop.ensures refl c.in_ok-put.ensures c.in_ok-write_ahead_facts.ensures) c.write_drops.ensures

pub returns-in_default : goal.returns-in_default
returns-in_default g t c =
    let d = c.args.dropped.now in
    drops_none (origin_at d.origins.now c.args.state.now) _ d.n d.tick d.found.now _ (nil_from_length _ c.in_default.ensures.cases)
