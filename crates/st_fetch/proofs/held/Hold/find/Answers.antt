use Rattle.st_fetch.proofs.Common.{length, refl, ap, arith, oldest_first}
use Rattle.st_fetch.proofs.OldestFirst.{length-oldest_first, found-next}
use Rattle.st_fetch.proofs.held.Hold.find.Goals as goal

pub loop-place-init : goal.loop-place-init
unfolding oldest_first
loop-place-init c = refl

pub loop-place-preserved : goal.loop-place-preserved
loop-place-preserved c =
    let q = c.self.inside in
    found-next c.args.w c.loop-place.place q.words.words q.contents.of c.loop-place.here _ c.found_next-here.ensures c.loop-place.invariant

-- the bound of the number of held words is stored with them
pub returns-clause-few : goal.returns-clause-few
returns-clause-few c =
    let q = c.self.inside in
    let same = ap length c.self.view_is in
    omega (arith, length-oldest_first q.len q.words.words q.contents.of)
