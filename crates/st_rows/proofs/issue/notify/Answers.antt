use Rattle.st_rows.proofs.Common.{◌∙◌, arith}
use Rattle.st_rows.proofs.Telling.{registers-turn, registers-end}
use Rattle.st_rows.proofs.issue.notify.Goals as goal

pub words-preserved : goal.words-preserved
words-preserved g c = record {
  told = registers-turn g.W.Watch.noted g.met.W.Watch.noted_more c.words.w c.words.left c.words.watch c.register.new.self c.register.ensures (omega arith) ∙ c.words.invariant.told;
  low = omega (arith, c.words.invariant.low);
}

pub returns : goal.returns
returns g c = registers-end g.W.Watch.noted g.met.W.Watch.noted_none c.words.w c.words.left c.words.watch (omega (arith, c.words-test.false)) ∙ c.words.invariant.told
