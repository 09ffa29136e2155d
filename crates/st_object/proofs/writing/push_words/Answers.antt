use Rattle.st_object.proofs.Common.{get_or, refl}
use Rattle.st_object.proofs.WrittenLines.{words_more}
use Rattle.st_object.proofs.writing.push_words.Goals as goal

pub words-preserved : goal.words-preserved
words-preserved c =
    words_more c.args.text.now.items c.words.text.items c.push_filled.new.text.items c.args.words.now c.words.address
    (get_or c.args.words.now c.words.address 0) c.words-test.true refl c.words.invariant c.in_ok-push_filled.ensures
