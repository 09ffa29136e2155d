use Rattle.st_plain.proofs.Common.{ap, arith, issue_after_entry, delays-are, tight-after}
use Rattle.st_rows.proofs.Stages.{c-within}
use Rattle.st_next.specs.declared.fetch_unit.FetchUnit.{FetchUnit}
use Rattle.st_plain.proofs.RowLemmas.{after-passed}
use Rattle.st_plain.proofs.rows.finish.Goals as goal

pub returns-clause-after : goal.returns-clause-after
returns-clause-after c =
    after-passed c.args.timing.now.delays.now.list c.args.timing.now.levels c.args.issue.now c.args.unit.now.entry c.fill-row.new.unit.entry c.fill-row.result
    c.fill-row.new.unit.words.bus _ (ap (λ (u : FetchUnit). u.entry) c.fill-row.ensures.kept) c.fill-row.ensures.value c.fill-row.ensures.after
    (c.pass.ensures c.args.timing.now.delays.now.list c.args.timing.now.levels)

pub returns-clause-tight : goal.returns-clause-tight
returns-clause-tight c =
    let are = delays-are c.args.timing.now.delays.now in
    rw (returns-clause-after c)
    (tight-after 255 c.args.timing.now.delays.now.list are c.args.timing.now.levels c.args.issue.now c.args.unit.now.entry c.requires.entry c.requires.tight)

pub returns-clause-bound : goal.returns-clause-bound
unfolding issue_after_entry
returns-clause-bound c =
    let are = delays-are c.args.timing.now.delays.now in
    rw (returns-clause-after c)
    (omega (arith, c-within 255 c.args.timing.now.delays.now.list are c.args.issue.now c.args.unit.now.entry c.requires.entry c.requires.tight c.args.timing.now.levels))
