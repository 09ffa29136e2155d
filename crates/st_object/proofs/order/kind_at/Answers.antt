use Rattle.st_object.proofs.Common.{rules, sym, arith, keyword_order}
use Rattle.st_object.proofs.Places.{request-at}
use Rattle.st_object.proofs.order.kind_at.Goals as goal

pub returns-in-Some : goal.returns-in-Some
returns-in-Some c = sym (request-at c.args.place keyword_order c.in-Some.keyword.now (omega arith) (search (rules, c.in-Some.ensures.lookup, c.get.ensures.lookup)))
