use Rattle.st_prep.proofs.PreparedLemmas.{side-inside}
use Rattle.st_prep.proofs.preparation.fill_fetched.Goals as goal

pub side_word-read-requires-clause-inside : goal.side_word-read-requires-clause-inside
side_word-read-requires-clause-inside c = side-inside _ _ _ c.needs-needs.ensures c.resolved-resolved.ensures.value
