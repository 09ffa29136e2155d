use Rattle.st_top.proofs.Listings.{rows_more, rows_failed}
use Rattle.st_top.proofs.listing.write_rows.Goals as goal

pub returns-in_err-write_row : goal.returns-in_err-write_row
returns-in_err-write_row g c =
    rows_failed _ _ _ _ c.args.job.now c.args.rows.now c.args.cards.now c.loop-k.k _ _ _ c.from_residual.result c.from_residual.ensures.0
    c.loop-k-test.true c.requires.same c.loop-k.invariant c.in_err-write_row.ensures

pub loop-k-preserved : goal.loop-k-preserved
loop-k-preserved g c =
    rows_more _ _ _ _ c.args.job.now c.args.rows.now c.args.cards.now c.loop-k.k _ _ _
    c.loop-k-test.true c.requires.same c.loop-k.invariant c.in_ok-write_row.ensures
