use Rattle.st_run.proofs.Common.{◌<◌, arith, All-from_get_or}
use Rattle.st_run.proofs.ReaderLemmas.{read_cards}
use Rattle.st_run.proofs.beginning.reader_of_job.Goals as goal

pub returns-clause-shape : goal.returns-clause-shape
returns-clause-shape c =
    let job = c.args.job.now in
    read_cards job c.of_cards.result (All-from_get_or (λ x. x < 256) job 0 (λ i few. omega (arith, c.type_inv.job i))) c.of_cards.ensures
