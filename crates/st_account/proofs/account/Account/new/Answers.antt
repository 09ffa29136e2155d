use Rattle.st_account.proofs.Common.{arith, rules, refl}
use Rattle.st_account.proofs.StallLemmas.{waiting-none}
use Rattle.st_account.proofs.account.Account.new.Goals as goal

pub returns-clause-start : goal.returns-clause-start
returns-clause-start c =
    let last = c.at_start-last.ensures in
    record {
      state = refl;
      machine = c.counter_in.ensures.machine;
      number = refl;
      tick = last.tick;
      issue = last.issue;
      opened = last.opened;
      mispredicted = last.mispredicted;
      counter = search rules;
      below = search rules;
      enabled = search rules;
      unused = last.uses;
      before = last.done;
      log = search rules;
      none = search rules;
      waiting = waiting-none _ _ (record {
        instruction = record { turn = omega arith; bank = omega arith; storage = omega arith };
        index = record { turn = omega arith; bank = omega arith; storage = omega arith };
        operand = record { turn = omega arith; bank = omega arith; storage = omega arith };
      }) last.tick last.uses last.before last.done last.start last.ticks;
      unwaited = search rules;
    }
