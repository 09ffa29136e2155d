use Rattle.st_top.proofs.Common.{◌∷◌, refl, sym, ◌∙◌, subst, Machine, WritesLines, back_line, block, levels_cut, levels_then, StandsAtEnd}
use Rattle.st_top.proofs.LinesBefore.{lines_before}
use Rattle.st_top.proofs.Listings.{lines_are}
use Rattle.st_top.proofs.reporting.write_back.Goals as goal

pub returns-in_err-put : goal.returns-in_err-put
returns-in_err-put g c = λ start h.
    let asked = c.args.controls.now in
    let count = c.rewind-steps.result in
    let back = c.rewind-steps.ensures in
    let state = block asked.dumps c.rewind-steps.new.second.0.machine in
    let lines = lines_before asked count start c.in-Some.second.now c.rewind-steps.new.second.0.machine
    (subst (StandsAtEnd asked.back asked.budget start) (sym c.in-Some.ensures.value) h) back.count back.state in
    lines_are _ _ _ _ _ lines
    (levels_cut _ _ (back_line count ∷ state) (back_line count) _ state _ c.from_residual.result c.from_residual.ensures.0 refl c.line_back.ensures c.in_err-put.ensures)

pub returns : goal.returns
returns g c = λ start h.
    let asked = c.args.controls.now in
    let count = c.rewind-steps.result in
    let back = c.rewind-steps.ensures in
    let state = block asked.dumps c.rewind-steps.new.second.0.machine in
    let lines = lines_before asked count start c.in-Some.second.now c.rewind-steps.new.second.0.machine
    (subst (StandsAtEnd asked.back asked.budget start) (sym c.in-Some.ensures.value) h) back.count back.state in
    lines_are _ _ _ _ _ lines
    (levels_then _ _ _ (back_line count ∷ state) (back_line count) _ state _ _ refl c.line_back.ensures c.in_ok-put.ensures
    (subst (λ (m : Machine). WritesLines (g.K.Sink.output c.put.new.out) (g.K.Sink.output c.write_state.new.out) (block asked.dumps m) c.write_state.result)
    (c.new.ensures ∙ c.state.ensures) c.write_state.ensures))
