use Rattle.st_lines.proofs.ChangeLemmas.{first_of, second_of}
use Rattle.st_lines.proofs.writing.write_words.Goals as goal

pub write_changed-requires-clause-left : goal.write_changed-requires-clause-left
write_changed-requires-clause-left g c = c.requires.left c.if-not-starts.true

pub returns-then-not-starts-clause-lines : goal.returns-then-not-starts-clause-lines
returns-then-not-starts-clause-lines g c = second_of _ _ c.args.starts _ _ _ c.if-not-starts.true c.write_changed.ensures.lines

pub returns-clause-lines : goal.returns-clause-lines
returns-clause-lines g c = first_of _ _ c.args.starts _ _ _ c.if-not-starts.false c.write_each_word.ensures
