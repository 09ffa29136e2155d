use Rattle.st_top.proofs.Common.{drop, LinesSoFar, symbols_lines}
use Rattle.st_top.proofs.listing.write_symbols.Given as goal

abbrev pub invariant-loop-k : goal.invariant-loop-k
invariant-loop-k g l =
    LinesSoFar (g.K.Sink.output l.fn.out) (g.K.Sink.output l.out) (symbols_lines l.symbols) (symbols_lines (drop l.k l.symbols))
