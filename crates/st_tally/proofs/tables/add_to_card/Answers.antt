use Rattle.st_tally.proofs.Common.{refl, arith}
use Rattle.st_tally.proofs.Executing.{executing-added, executing-stalled}
use Rattle.st_tally.proofs.TableLemmas.{waits-later}
use Rattle.st_tally.proofs.tables.add_to_card.Goals as goal

pub returns-then-executes : goal.returns-then-executes
returns-then-executes c = record {
  rows = refl;
  stages = λ s. executing-added s c.args.done.now c.args.sum.now.sums (c.requires.executes c.if-executes.true) c.requires.order.later;
  waits = λ r s parted.
      omega (arith, executing-stalled r s c.args.uses.now c.args.before.now c.args.done.now (c.requires.executes c.if-executes.true) c.requires.order.later parted);
  within = record {
    rows = omega (arith, c.requires.within.rows, c.requires.order.later);
    sums = record {
      restart = omega (arith, c.requires.within.sums.restart, c.requires.order.later);
      instruction = omega (arith, c.requires.within.sums.instruction, c.requires.order.later);
      address = omega (arith, c.requires.within.sums.address, c.requires.order.later);
      index = omega (arith, c.requires.within.sums.index, c.requires.order.later);
      preparing = omega (arith, c.requires.within.sums.preparing, c.requires.order.later);
      operand = omega (arith, c.requires.within.sums.operand, c.requires.order.later);
      executing = omega (arith, c.requires.within.sums.executing, c.requires.order.later);
    };
    waits = waits-later c.args.done.now.before c.args.done.now.row.ticks.c _ (omega (arith, c.requires.order.later)) c.requires.within.waits;
  };
}
