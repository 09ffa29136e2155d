use Rattle.st_rows.proofs.fetching.Fetching.word.Goals as goal

pub latest_done-requires : goal.latest_done-requires
latest_done-requires g c = record { storage = c.requires.storage }
