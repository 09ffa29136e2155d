use Rattle.st_lines.proofs.Common.{◌+◌, sym, ap, Some, begun_line, facts_lines, [], ◌∷◌, ◌++◌, length, refl, lines_then, lines_cut, segment_end_line, origin_at, drop_lines, begun_entry_lines}
use Rattle.st_lines.proofs.LineLemmas.{no_lines, same_lines, begun-one, end-none, end-some, put_then, put_cut}
use Rattle.st_lines.proofs.writing.write_end.Goals as goal

pub returns-then-k-eq0 : goal.returns-then-k-eq0
returns-then-k-eq0 g c =
    let d = c.args.dropped.now in
    let by = origin_at d.origins.now c.args.state.now in
    same_lines _ _ [] _ _ (sym (end-none by c.args.k d.tick d.n d.found.now (d.begun.now ∷ []) c.if-k-eq0.true)) (no_lines _ _)

pub returns-in_err-put : goal.returns-in_err-put
returns-in_err-put g c =
    let d = c.args.dropped.now in
    let by = origin_at d.origins.now c.args.state.now in
    same_lines _ _ _ _ _ (sym (end-some by c.args.k d.tick d.n d.found.now (d.begun.now ∷ []) c.if-k-eq0.false))
    (put_cut _ _ _ (segment_end_line c.args.k d.tick) (drop_lines by d.n d.tick d.found.now ++ begun_entry_lines by (d.n + length d.found.now) d.tick (d.begun.now ∷ [])) _
    c.from_residual.result c.from_residual.ensures.0 c.line_end.ensures c.in_err-put.ensures)

pub returns-in_err-write_drops : goal.returns-in_err-write_drops
returns-in_err-write_drops g c =
    let d = c.args.dropped.now in
    let by = origin_at d.origins.now c.args.state.now in
    same_lines _ _ _ _ _ (sym (end-some by c.args.k d.tick d.n d.found.now (d.begun.now ∷ []) c.if-k-eq0.false))
    (put_then _ _ _ _ (segment_end_line c.args.k d.tick) _ _ _ _ c.line_end.ensures refl c.in_ok-put.ensures
    (lines_cut _ _ (drop_lines by d.n d.tick d.found.now) (begun_entry_lines by (d.n + length d.found.now) d.tick (d.begun.now ∷ [])) _
    c.from_residual-in_err-write_drops.result c.from_residual-in_err-write_drops.ensures.0 c.in_err-write_drops.ensures))

pub returns-in_err-put-2 : goal.returns-in_err-put-2
returns-in_err-put-2 g c =
    let d = c.args.dropped.now in
    let x = d.begun.now in
    let n = d.n + length d.found.now in
    let by = origin_at d.origins.now c.args.state.now in
    same_lines _ _ _ _ _ (sym (end-some by c.args.k d.tick d.n d.found.now (d.begun.now ∷ []) c.if-k-eq0.false))
    (put_then _ _ _ _ (segment_end_line c.args.k d.tick) _ _ _ _ c.line_end.ensures refl c.in_ok-put.ensures
    (lines_then _ _ _ (drop_lines by d.n d.tick d.found.now) (begun_entry_lines by n d.tick (d.begun.now ∷ [])) _ _
    c.in_ok-write_drops.ensures (same_lines _ _ _ _ _ (sym (begun-one by n d.tick x))
    (put_cut _ _ _ (begun_line n x.plan.place.address x.row) (facts_lines n (Some d.tick) x.plan x.known (by x.plan.place.address) x.uses.items) _
    c.from_residual-in_err-put-2.result c.from_residual-in_err-put-2.ensures.0 c.line_begun.ensures c.in_err-put-2.ensures))))

pub returns : goal.returns
returns g c =
    let d = c.args.dropped.now in
    let x = d.begun.now in
    let n = d.n + length d.found.now in
    let by = origin_at d.origins.now c.args.state.now in
    same_lines _ _ _ _ _ (sym (end-some by c.args.k d.tick d.n d.found.now (d.begun.now ∷ []) c.if-k-eq0.false))
    (put_then _ _ _ _ (segment_end_line c.args.k d.tick) _ _ _ _ c.line_end.ensures refl c.in_ok-put.ensures
    (lines_then _ _ _ (drop_lines by d.n d.tick d.found.now) (begun_entry_lines by n d.tick (d.begun.now ∷ [])) _ _
    c.in_ok-write_drops.ensures (same_lines _ _ _ _ _ (sym (begun-one by n d.tick x))
    (put_then _ _ _ _ (begun_line n x.plan.place.address x.row) _ _ _ _ c.line_begun.ensures
    (ap (λ o. facts_lines n (Some d.tick) x.plan x.known o x.uses.items) c.at.ensures) c.in_ok-put-2.ensures c.write_ahead_facts.ensures))))
