use Rattle.st_lines.proofs.Common.{◌++◌, lines_more, lines_failed, lines_last, run_lines, index_lines}
use Rattle.st_lines.proofs.FactLemmas.{alone_cut, suppressed_cut, suppressed_then, uses_then}
use Rattle.st_lines.proofs.facts.write_facts.Goals as goal

pub returns-in_err-write_alone : goal.returns-in_err-write_alone
returns-in_err-write_alone g c =
    let x = c.args.facts.now in
    alone_cut _ x.n x.end x.plan.now x.known.now x.origin x.uses.now _ _ _ _ c.from_residual.ensures.0 c.alone_by.ensures c.in_err-write_alone.ensures

pub returns-in_err-write_suppressed : goal.returns-in_err-write_suppressed
returns-in_err-write_suppressed g c =
    let x = c.args.facts.now in
    suppressed_cut _ x.n x.end x.plan.now x.known.now x.origin x.uses.now _ _ _ c.alone_by.ensures c.in_ok-write_alone.ensures _ _ _ _
    c.from_residual-in_err-write_suppressed.ensures.0 c.suppressed_by.ensures c.in_err-write_suppressed.ensures

pub returns-in_err-write_emitted : goal.returns-in_err-write_emitted
returns-in_err-write_emitted g c =
    let x = c.args.facts.now in
    lines_failed _ _ _ _ _ _ _ c.from_residual-in_err-write_emitted.ensures.0
    (suppressed_then _ x.n x.end x.plan.now x.known.now x.origin x.uses.now _ _ _ c.alone_by.ensures c.in_ok-write_alone.ensures _ _ _
    c.suppressed_by.ensures c.in_ok-write_suppressed.ensures)
    c.in_err-write_emitted.ensures.err

pub returns-in_err-write_code : goal.returns-in_err-write_code
returns-in_err-write_code g c =
    let x = c.args.facts.now in
    lines_failed _ _ _ _ _ _ _ c.from_residual-in_err-write_code.ensures.0
    (lines_more _ _ _ _ _ _ (suppressed_then _ x.n x.end x.plan.now x.known.now x.origin x.uses.now _ _ _ c.alone_by.ensures c.in_ok-write_alone.ensures _ _ _
    c.suppressed_by.ensures c.in_ok-write_suppressed.ensures) c.in_ok-write_emitted.ensures.ok)
    c.in_err-write_code.ensures.err

pub returns-in_err-write_uses : goal.returns-in_err-write_uses
returns-in_err-write_uses g c =
    let x = c.args.facts.now in
    lines_failed _ _ _ _ _ _ _ c.from_residual-in_err-write_uses.ensures.0
    (lines_more _ _ _ _ _ _ (lines_more _ _ _ _ _ _
    (suppressed_then _ x.n x.end x.plan.now x.known.now x.origin x.uses.now _ _ _ c.alone_by.ensures c.in_ok-write_alone.ensures _ _ _
    c.suppressed_by.ensures c.in_ok-write_suppressed.ensures) c.in_ok-write_emitted.ensures.ok) c.in_ok-write_code.ensures.ok)
    c.in_err-write_uses.ensures.err

pub returns-in_err-write_run : goal.returns-in_err-write_run
returns-in_err-write_run g c =
    let x = c.args.facts.now in
    lines_failed _ _ _ _ _ _ _ c.from_residual-in_err-write_run.ensures.0
    (uses_then _ x.n x.end x.plan.now x.known.now x.origin x.uses.now _ _ _ _ _ _ _
    (suppressed_then _ x.n x.end x.plan.now x.known.now x.origin x.uses.now _ _ _ c.alone_by.ensures c.in_ok-write_alone.ensures _ _ _
    c.suppressed_by.ensures c.in_ok-write_suppressed.ensures)
    c.in_ok-write_emitted.ensures c.in_ok-write_code.ensures c.in_ok-write_uses.ensures)
    c.in_err-write_run.ensures.err

pub returns-in_err-write_run-2 : goal.returns-in_err-write_run-2
returns-in_err-write_run-2 g c =
    let x = c.args.facts.now in
    let w = x.plan.now.writes in
    lines_failed _ _ _ _ _ _ _ c.from_residual-in_err-write_run-2.ensures.0
    (lines_more _ _ _ _ (run_lines w.first w.len) (run_lines w.first2 w.len2 ++ index_lines x.plan.now.index)
    (uses_then _ x.n x.end x.plan.now x.known.now x.origin x.uses.now _ _ _ _ _ _ _
    (suppressed_then _ x.n x.end x.plan.now x.known.now x.origin x.uses.now _ _ _ c.alone_by.ensures c.in_ok-write_alone.ensures _ _ _
    c.suppressed_by.ensures c.in_ok-write_suppressed.ensures)
    c.in_ok-write_emitted.ensures c.in_ok-write_code.ensures c.in_ok-write_uses.ensures)
    c.in_ok-write_run.ensures.ok)
    c.in_err-write_run-2.ensures.err

pub returns : goal.returns
returns g c =
    let x = c.args.facts.now in
    let w = x.plan.now.writes in
    lines_last _ _ _ _ _ _
    (lines_more _ _ _ _ (run_lines w.first2 w.len2) (index_lines x.plan.now.index)
    (lines_more _ _ _ _ (run_lines w.first w.len) (run_lines w.first2 w.len2 ++ index_lines x.plan.now.index)
    (uses_then _ x.n x.end x.plan.now x.known.now x.origin x.uses.now _ _ _ _ _ _ _
    (suppressed_then _ x.n x.end x.plan.now x.known.now x.origin x.uses.now _ _ _ c.alone_by.ensures c.in_ok-write_alone.ensures _ _ _
    c.suppressed_by.ensures c.in_ok-write_suppressed.ensures)
    c.in_ok-write_emitted.ensures c.in_ok-write_code.ensures c.in_ok-write_uses.ensures)
    c.in_ok-write_run.ensures.ok) c.in_ok-write_run-2.ensures.ok)
    c.write_index.ensures
