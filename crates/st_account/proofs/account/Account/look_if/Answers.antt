use Rattle.st_account.proofs.Common.{arith}
use Rattle.st_account.proofs.account.Account.look_if.Goals as goal

pub look_behind-requires-clause-few : goal.look_behind-requires-clause-few
look_behind-requires-clause-few c = omega (arith, c.requires.1.few)

pub look_behind-requires-clause-opened : goal.look_behind-requires-clause-opened
look_behind-requires-clause-opened c = c.requires.1.opened

pub look_behind-requires-clause-early : goal.look_behind-requires-clause-early
look_behind-requires-clause-early c = c.requires.1.early

pub look_behind-requires-clause-counter : goal.look_behind-requires-clause-counter
look_behind-requires-clause-counter c = c.requires.1.counter
