use Rattle.st_plain.proofs.KnownLemmas.{fetched-anew}
use Rattle.st_plain.proofs.known.known_anew.Goals as goal

pub returns : goal.returns
returns c =
    fetched-anew c.args.state.now c.args.table c.place_of-place.result c.args.x.now c.args.side c.fetch_all-fetched.result _ _ c.requires.words c.place_of-place.ensures.value
    c.fetch_all-fetched.ensures.value c.is_execute.ensures c.code_found.ensures
