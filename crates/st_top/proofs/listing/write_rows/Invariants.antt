use Rattle.st_top.proofs.Common.{drop, LinesSoFar, rows_lines}
use Rattle.st_top.proofs.listing.write_rows.Given as goal

abbrev pub invariant-loop-k : goal.invariant-loop-k
invariant-loop-k g l =
    LinesSoFar (g.K.Sink.output l.fn.out) (g.K.Sink.output l.out) (rows_lines l.job l.rows l.cards) (rows_lines l.job (drop l.k l.rows) (drop l.k l.cards))
