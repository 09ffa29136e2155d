use Rattle.st_rows.proofs.fetching.Fetching.read.Goals as goal

pub latest_done-done-requires : goal.latest_done-done-requires
latest_done-done-requires g c = record { storage = c.requires.storage }
