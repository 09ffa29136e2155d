use Rattle.st_ledger.proofs.Common.{length}
use Rattle.st_ledger.proofs.because.+of_words.Given as goal

abbrev pub decreases-of_words : goal.decreases-of_words
decreases-of_words l = length l.words.now
