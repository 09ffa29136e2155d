use Rattle.st_ledger.proofs.Common.{◌^◌, arith, Turn, Bank, Storage}
use Rattle.st_ledger.proofs.AddedWaits.{one-more}
use Rattle.st_ledger.proofs.sums.Shares.+add.Goals as goal

pub add-requires : goal.add-requires
add-requires t c = (
  omega (arith, c.in-Some.ensures.cases.1),
  (
    one-more Turn c.args.self.now.turn _ c.in-Some.wait.now c.in-Some.more.now c.args.waits.now (2 ^ 64) c.in-Some.ensures.cases.0 (c.add_one.ensures.sums Turn) c.requires.turn,
    (
      one-more Bank c.args.self.now.bank _ c.in-Some.wait.now c.in-Some.more.now c.args.waits.now (2 ^ 64) c.in-Some.ensures.cases.0 (c.add_one.ensures.sums Bank) c.requires.bank,
      one-more Storage c.args.self.now.storage _ c.in-Some.wait.now c.in-Some.more.now c.args.waits.now (2 ^ 64) c.in-Some.ensures.cases.0 (c.add_one.ensures.sums Storage) c.requires.storage,
    ),
  ),
)
