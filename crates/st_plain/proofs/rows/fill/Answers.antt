use Rattle.st_plain.proofs.RowLemmas.{noted-asked}
use Rattle.st_plain.proofs.UseLemmas.{put-prepared}
use Rattle.st_plain.proofs.rows.fill.Goals as goal

pub returns-clause-log : goal.returns-clause-log
returns-clause-log c before made =
    noted-asked c.args.timing.now.delays.now.list c.args.issue.now c.args.unit.now.entry c.args.timing.now.levels c.args.unit.now.words.bus before c.args.log.now c.fill.new.log
    c.requires.bus made c.fill.ensures.log

pub returns-clause-uses : goal.returns-clause-uses
returns-clause-uses c =
    put-prepared c.args.timing.now.delays.now.list c.args.issue.now c.args.unit.now.entry c.args.timing.now.levels c.args.unit.now.prepared.reads _ c.args.uses.now c.fill.new.watch
    c.registers_among-registers.ensures c.requires.entry c.requires.runs c.fill.ensures.told c.requires.space
