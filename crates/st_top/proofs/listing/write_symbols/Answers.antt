use Rattle.st_top.proofs.Listings.{symbols_more, symbols_failed}
use Rattle.st_top.proofs.listing.write_symbols.Goals as goal

pub returns-in_err-put : goal.returns-in_err-put
returns-in_err-put g c =
    symbols_failed _ _ _ _ c.args.symbols.now c.loop-k.k _ _ _ c.from_residual.result c.from_residual.ensures.0
    c.loop-k-test.true c.loop-k.invariant c.line_symbol.ensures c.in_err-put.ensures

pub loop-k-preserved : goal.loop-k-preserved
loop-k-preserved g c =
    symbols_more _ _ _ _ c.args.symbols.now c.loop-k.k _ _ _ c.loop-k-test.true c.loop-k.invariant c.line_symbol.ensures c.in_ok-put.ensures
