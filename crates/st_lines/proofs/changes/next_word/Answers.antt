use Rattle.st_lines.proofs.Common.{sym, subst, arith, IsOutsideArea}
use Rattle.st_lines.proofs.changes.next_word.Goals as goal

pub returns-in-Some-clause-between : goal.returns-in-Some-clause-between
returns-in-Some-clause-between c v low below = record {
  above = omega (arith, low, c.requires.above);
  unwritten = record {
    first = c.next_in-one.ensures.between v low (omega (arith, below, c.min-least.ensures, c.min.ensures));
    second = c.next_in-two.ensures.between v low (omega (arith, below, c.min-least.ensures, c.min.ensures));
  };
  beside = subst (IsOutsideArea v) (sym c.in-Some.is) (c.next_in.ensures.between v low (omega (arith, below, c.min.ensures)));
}

pub returns-in-None-clause-between : goal.returns-in-None-clause-between
returns-in-None-clause-between c v low below = record {
  above = omega (arith, low, c.requires.above);
  unwritten = record {
    first = c.next_in-one.ensures.between v low (omega (arith, below, c.min-least.ensures));
    second = c.next_in-two.ensures.between v low (omega (arith, below, c.min-least.ensures));
  };
  beside = subst (IsOutsideArea v) (sym c.in-None.is) tt;
}
