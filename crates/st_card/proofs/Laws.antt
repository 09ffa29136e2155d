-- Proofs of the laws of the cards of any job.
use Rattle.st_card.proofs.StandingLemmas.{cards_stand}
use Rattle.st_card.specs.Laws.{CardsStandInTheirJob}

pub cards_stand_in_their_job : CardsStandInTheirJob
cards_stand_in_their_job = λ job. cards_stand job
