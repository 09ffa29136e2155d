use Rattle.st_object.proofs.Common.{◌≡◌, ◌++◌, take}
use Rattle.st_object.specs.Lines as lines
use Rattle.st_object.proofs.writing.push_words.Given as goal

abbrev pub invariant-words : goal.invariant-words
invariant-words l = l.text.items ≡ l.fn.text.items ++ lines.object_text_of (lines.word_lines 0 (take l.address l.words))
