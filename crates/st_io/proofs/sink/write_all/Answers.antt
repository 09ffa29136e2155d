use Rattle.st_io.proofs.Common.{length, ap, arith}
use Rattle.st_io.proofs.Joins.{writes_more, nothing_left}
use Rattle.st_io.proofs.sink.write_all.Goals as goal

pub loop-rest-preserved : goal.loop-rest-preserved
loop-rest-preserved g c = record {
  so_far = rw c.split_at.ensures.back (writes_more _ _ _ _ _ c.in_ok-n.n c.loop-rest.invariant.so_far c.in_ok-n.ensures.outcome);
  no_call = λ e. absurd (grind (arith, ap length (nothing_left _ _ _ _ c.loop-rest.invariant.so_far e)));
}
