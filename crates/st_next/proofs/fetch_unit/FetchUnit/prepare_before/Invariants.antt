use Rattle.st_next.proofs.Common.{◌≡◌, ◌+◌, ◌-◌, false, GoesOnTo, IsReadFurther, IsToldFurther}
use Rattle.st_next.proofs.fetch_unit.FetchUnit.prepare_before.Given as goal

-- the known facts of the entry stay true, and the reads so far are noted
abbrev pub invariant-words : goal.invariant-words
invariant-words g l = record {
  goes : GoesOnTo l.context.timing.delays.now.list l.context.timing.levels (l.due - 1) l.context.issue.now l.context.index.now l.context.state.now l.fn.self l.self 0;
  further : IsReadFurther l.context.timing.delays.now.list l.context.issue.now l.fn.self l.self l.fn.log l.log;
  told : IsToldFurther g.W.Watch.noted l.context.timing.delays.now.list l.context.issue.now l.fn.self l.self l.fn.watch l.watch;
  unplanned : l.self.planned ≡ false;
}

abbrev pub decreases-words : goal.decreases-words
decreases-words g l = 5 - (l.self.entry.own.len + l.self.entry.target.len)
