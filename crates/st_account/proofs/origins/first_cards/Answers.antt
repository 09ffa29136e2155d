use Rattle.st_account.proofs.FirstLemmas.{filling-ends}
use Rattle.st_account.proofs.origins.first_cards.Goals as goal

pub returns : goal.returns
returns c = filling-ends c.args.rows.now c.loop-row.cards.items c.loop-row.row-index c.loop-row.invariant c.loop-row-test.false
