use Rattle.st_card.proofs.Common.{◌≡◌, length, keyword_in, keyword_order}
use Rattle.st_card.proofs.keywords.keyword_in.Given as goal

abbrev pub invariant-keywords : goal.invariant-keywords
invariant-keywords l = keyword_in l.form l.word l.rest ≡ keyword_in l.form l.word keyword_order

abbrev pub decreases-keywords : goal.decreases-keywords
decreases-keywords l = length l.rest
