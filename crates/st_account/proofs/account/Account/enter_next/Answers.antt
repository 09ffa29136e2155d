use Rattle.st_account.proofs.Common.{refl, rules, arith}
use Rattle.st_account.proofs.account.Account.enter_next.Goals as goal

pub returns : goal.returns
returns c = record {
  border = record {
    value = rw (c.why_of.ensures, c.done_in.ensures, c.interrupt-taken.ensures.value) refl;
    ends = search rules;
    begins = search rules;
  };
  issue = search rules;
  segment = search rules;
  last = search rules;
  rest = search rules;
  opened = search rules;
}

pub open_if-requires-clause-dropped : goal.open_if-requires-clause-dropped
open_if-requires-clause-dropped c = omega (arith, c.requires.1.dropped, c.len.ensures.value)

pub open_if-requires-clause-early : goal.open_if-requires-clause-early
open_if-requires-clause-early c = c.requires.1.run.early

pub open_if-requires-clause-soon : goal.open_if-requires-clause-soon
open_if-requires-clause-soon c = c.requires.1.soon

pub open_if-requires-clause-opened : goal.open_if-requires-clause-opened
open_if-requires-clause-opened c = c.requires.1.run.opened

pub next_number-self-requires : goal.next_number-self-requires
next_number-self-requires c = omega (arith, c.requires.1.run.number, c.requires.1.run.few)
