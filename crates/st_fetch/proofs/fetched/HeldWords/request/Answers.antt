use Rattle.st_fetch.proofs.Common.{rules}
use Rattle.st_fetch.proofs.Shifted.{shifted}
use Rattle.st_fetch.proofs.fetched.HeldWords.request.Goals as goal

pub returns : goal.returns
returns c = shifted c.args.self.now.words (record { w = c.args.w; tick = c.args.tick }) (search rules)
